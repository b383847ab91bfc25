-- The notations' grammars and spellings under their numbers.
use Rattle.std.specs.Prelude.{ℕ, List}
use Rattle.label.specs.Notations.{fits as fits_number, ogip as ogip_number, cds as cds_number, vounits as vounits_number, starlink as starlink_number}
use Rattle.label.specs.Lexical.{Letters, Factor, Part}
use Rattle.label.specs.Fits as Fits
use Rattle.label.specs.Ogip as Ogip
use Rattle.label.specs.Cds as Cds
use Rattle.label.specs.Vounits as Vounits
use Rattle.label.specs.Starlink as Starlink

-- Derives n s f ps: the text s is in the grammar of notation n, limits not counted, with the factor f and the units ps.
pub data Derives : ℕ → List ℕ → Factor → List Part → Type 0 where
  fits : {s : List ℕ} {f : Factor} {ps : List Part} → Fits.Label s f ps → Derives fits_number s f ps
  ogip : {s : List ℕ} {f : Factor} {ps : List Part} → Ogip.Label s f ps → Derives ogip_number s f ps
  cds : {s : List ℕ} {f : Factor} {ps : List Part} → Cds.Label s f ps → Derives cds_number s f ps
  vounits : {s : List ℕ} {f : Factor} {ps : List Part} → Vounits.Label s f ps → Derives vounits_number s f ps
  starlink : {s : List ℕ} {f : Factor} {ps : List Part} → Starlink.Label s f ps → Derives starlink_number s f ps

-- Spelling n l: l is a spelling of notation n.
pub data Spelling : ℕ → List ℕ → Type 0 where
  fits : {l : List ℕ} → Letters l → Spelling fits_number l
  ogip : {l : List ℕ} → Letters l → Spelling ogip_number l
  cds : {l : List ℕ} → Cds.Spelling l → Spelling cds_number l
  vounits : {l : List ℕ} → Vounits.Spelling l → Spelling vounits_number l
  starlink : {l : List ℕ} → Letters l → Spelling starlink_number l
