-- Letters as one number, and a spelling compared with a symbol of a table, each given by its length and key.
use Rattle.std.specs.Prelude.{ℕ, zero, suc, ◌+◌, ◌*◌, ◌/◌, ◌%◌, ◌^◌, Bool, List, [], ◌∷◌, eqb, length}
use Rattle.label.specs.Bytes.{same}
use Rattle.label.specs.Choice.{pick}

-- how many letters a key can hold
abbrev pub most_letters : ℕ
most_letters = 8

-- the bytes s after the number k, in base 256
unfoldable pub key_from : ℕ → List ℕ → ℕ
key_from k [] = k
key_from k (c ∷ s) = key_from (k * 256 + c) s

-- the bytes of s as a number in base 256, the first byte highest
abbrev pub key_of : List ℕ → ℕ
key_of s = key_from 0 s

-- the letter of a key that has n letters after it
abbrev pub letter_at : ℕ → ℕ → ℕ
letter_at n k = k / 256 ^ n % 256

-- the letters of a spelling of n letters with the key k
unfoldable pub spelling : ℕ → ℕ → List ℕ
spelling zero k = []
spelling (suc n) k = letter_at n k ∷ spelling n k

-- COMPARING

-- a spelling and a symbol of a table have the same letters
abbrev pub agrees : ℕ → ℕ → ℕ → ℕ → Bool
agrees length key symbol_length symbol_key = same (spelling length key) (spelling symbol_length symbol_key)

-- of two spellings of one length: the pairs of letters "up to and with the first difference, or all if there is none"
unfoldable pub upto_difference : List ℕ → List ℕ → ℕ
upto_difference [] t = 0
upto_difference (c ∷ s) [] = 0
upto_difference (c ∷ s) (d ∷ t) = suc (pick (eqb c d) (upto_difference s t) 0)

-- how many pairs of letters are looked at: "none where the lengths differ", else those
unfoldable pub pairs_looked_at : List ℕ → List ℕ → ℕ
pairs_looked_at s t = pick (eqb (length s) (length t)) (upto_difference s t) 0
