-- A mirror: a piece read a byte at a time. Assumes nothing.
use Rattle.std.specs.Prelude.{Result, Ok, Err, ◌≡◌, true, false, cond, List, [], ◌∷◌, ℕ, ◌+◌, ◌<◌, eqb, length, get_or, drop}
use Rattle.text.specs.Bytes.{in_range}
use Rattle.xml.specs.mirror.Auto.{Part, one, two, Read, bad, all, more, go_on}
use Rattle.xml_pieces.specs.declared.Stopped.{Stopped}
use Rattle.xml_pieces.specs.Over.{stop}

-- what a byte at place i does: none goes on with it, it is the last one, or a part is still to come
abbrev pub told : Read → ℕ → (Part → Result ℕ Stopped) → Result ℕ Stopped
told bad i f = stop i
told all i f = Ok (i + 1)
told (more p) i f = f p

-- over the bytes t, which stand at place i; f says what the first does
unfoldable pub reading : (ℕ → Read) → List ℕ → ℕ → Result ℕ Stopped
reading f [] i = stop i
reading f (x ∷ t) i = told (f x) i (λ p. reading (go_on p) t (i + 1))

-- one byte from low to high
abbrev pub ReadsOne : List ℕ → ℕ → ℕ → ℕ → Result ℕ Stopped → Type 0
ReadsOne s i low high (Ok e) = (e ≡ i + 1) × (i < length s) × (in_range low high (get_or s i 0) ≡ true)
ReadsOne s i low high (Err n) = (n.at ≡ i) × (i < length s → in_range low high (get_or s i 0) ≡ false)

-- the byte at i is to be from low to high, and then comes u
abbrev pub Ranged : List ℕ → ℕ → ℕ → ℕ → (ℕ → Read) → Read → Type 0
Ranged s i low high f u = i < length s → f (get_or s i 0) ≡ cond (in_range low high (get_or s i 0)) u bad

-- and one continuation byte, or two
abbrev pub ReadsTwo : List ℕ → ℕ → ℕ → ℕ → Result ℕ Stopped → Type 0
ReadsTwo s i low high r = (f : ℕ → Read) → Ranged s i low high f (more one) → r ≡ reading f (drop i s) i

abbrev pub ReadsThree : List ℕ → ℕ → ℕ → ℕ → Result ℕ Stopped → Type 0
ReadsThree s i low high r = (f : ℕ → Read) → Ranged s i low high f (more two) → r ≡ reading f (drop i s) i

-- the bytes that may follow the first of three or four: Unicode, table 3-7
abbrev pub least_behind : ℕ → ℕ
least_behind x = cond (eqb x 0xE0) 0xA0 (cond (eqb x 0xF0) 0x90 0x80)

abbrev pub greatest_behind : ℕ → ℕ
greatest_behind x = cond (eqb x 0xED) 0x9F (cond (eqb x 0xF4) 0x8F 0xBF)
