-- Where spellings are: in a derivation, each unit's spelling is found where its count of bytes left says.
use Prim.Native.Nat.{ℕ, ◌-◌}
use native.Mathlib.Omega.{arith}
use mathlib.Core.Path.{◌≡◌, refl, ap, sym, ◌∙◌}
use mathlib.Core.List.{List, [], ◌∷◌, ◌++◌, append_assoc}
use lib.ListN.{length, take, drop, length-append}
use lib.Seq.{take_at, drop_at}
use Rattle.label.specs.Bytes.{close_bracket, open_bracket, slash}
use Rattle.label.specs.declared.Rules.{Rules}
use Rattle.label.specs.Lexical.{Factor, Part, turned_all, Kind}
use Rattle.label.proofs.General.{G, LabelBy}

-- the spelling is in s, and so many bytes are left from its first on
pub record Located (s : List ℕ) (p : Part) : Type 0 where
  pub before : List ℕ
  pub after : List ℕ
  pub is : s ≡ before ++ (p.spelling ++ after)
  pub counted : p.left ≡ length (p.spelling ++ after)

-- each of them is in s
pub data AllLocated (s : List ℕ) : List Part → Type 0 where
  none : AllLocated s []
  some : {p : Part} {ps : List Part} → Located s p → AllLocated s ps → AllLocated s (p ∷ ps)

-- with more in front
further : (a : List ℕ) {s : List ℕ} {ps : List Part} → AllLocated s ps → AllLocated (a ++ s) ps
further a AllLocated.none = AllLocated.none
further a (AllLocated.some {p = p} d ds) = AllLocated.some (record {
  before = a ++ d.before;
  after = d.after;
  counted = d.counted;
  is = ap (λ (u : List ℕ). a ++ u) d.is ∙ sym (append_assoc a d.before (p.spelling ++ d.after));
}) (further a ds)

joined : {s : List ℕ} {ps qs : List Part} → AllLocated s ps → AllLocated s qs → AllLocated s (ps ++ qs)
joined AllLocated.none es = es
joined (AllLocated.some d ds) es = AllLocated.some d (joined ds es)

turned : {s : List ℕ} {ps : List Part} → AllLocated s ps → AllLocated s (turned_all ps)
turned AllLocated.none = AllLocated.none
turned (AllLocated.some d ds) = AllLocated.some (record { before = d.before; after = d.after; is = d.is; counted = d.counted }) (turned ds)

-- t ends s
record Suffix (s t : List ℕ) : Type 0 where
  front : List ℕ
  is : s ≡ front ++ t

with_front : (a : List ℕ) {s t : List ℕ} → Suffix s t → Suffix (a ++ s) t
with_front a {t = t} w = record { front = a ++ w.front; is = ap (λ (u : List ℕ). a ++ u) w.is ∙ sym (append_assoc a w.front t) }

chain : {s t u : List ℕ} → Suffix s t → Suffix t u → Suffix s u
chain v w = rw v.is (with_front v.front w)

-- what follows in a derivation ends the text
suffix : {r : Rules} {x : Kind} {s t : List ℕ} {ps : List Part} → G r x s t ps → Suffix s t
suffix (G.unit {l = l} {e = e} {t = t} d x) = record { front = l ++ e; is = sym (append_assoc l e t) }
suffix (G.group d) = with_front (open_bracket ∷ []) (chain (suffix d) (with_front (close_bracket ∷ []) whole))
  where
    whole : {t : List ℕ} → Suffix t t
    whole = record { front = []; is = refl }
suffix (G.first d m) = chain (suffix d) (suffix m)
suffix (G.under {j = j} o d m) = with_front j (chain (suffix d) (suffix m))
suffix G.done = record { front = []; is = refl }
suffix (G.times {j = j} o d m) = with_front j (chain (suffix d) (suffix m))
suffix (G.over {j = j} o d m) = with_front j (chain (suffix d) (suffix m))
suffix (G.plain d) = suffix d
suffix (G.divided f d i) = chain (suffix d) (with_front (slash ∷ []) (suffix i))

later : {s t : List ℕ} {ps : List Part} → Suffix s t → AllLocated t ps → AllLocated s ps
later w ds = rw w.is (further w.front ds)

locate : {r : Rules} {x : Kind} {s t : List ℕ} {ps : List Part} → G r x s t ps → AllLocated s ps
locate (G.unit {l = l} {e = e} {t = t} d x) = AllLocated.some (record { before = []; after = e ++ t; is = refl; counted = refl }) AllLocated.none
locate (G.group d) = further (open_bracket ∷ []) (locate d)
locate (G.first d m) = joined (locate d) (later (suffix d) (locate m))
locate (G.under {j = j} o d m) = further j (joined (turned (locate d)) (later (suffix d) (locate m)))
locate G.done = AllLocated.none
locate (G.times {j = j} o d m) = further j (joined (locate d) (later (suffix d) (locate m)))
locate (G.over {j = j} o d m) = further j (joined (turned (locate d)) (later (suffix d) (locate m)))
locate (G.plain d) = locate d
locate (G.divided f d i) = joined (locate d) (later (suffix d) (further (slash ∷ []) (turned (locate i))))

pub label_located : {r : Rules} {s : List ℕ} {f : Factor} {ps : List Part} → LabelBy r s f ps → AllLocated s ps
label_located LabelBy.empty = AllLocated.none
label_located (LabelBy.plain u d) = locate d
label_located (LabelBy.under f d) = further (slash ∷ []) (turned (locate d))
label_located (LabelBy.factored {x = x} {g = g} l f w d) = further x (further g (locate d))

-- the bytes at that place are the spelling
pub located_there : {s : List ℕ} {p : Part} → Located s p → take (length p.spelling) (drop (length s - p.left) s) ≡ p.spelling
located_there {s} {p} d =
    let n : length s - p.left ≡ length d.before = omega (arith, ap length d.is, length-append d.before (p.spelling ++ d.after), d.counted) in
    rw (n, d.is, drop_at d.before (p.spelling ++ d.after) (length d.before) refl) (take_at p.spelling d.after (length p.spelling) refl)
