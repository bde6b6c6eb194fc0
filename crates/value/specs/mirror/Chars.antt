-- A mirror: bytes as the characters that they encode. Assumes nothing.
use Rattle.std.specs.Prelude.{List, [], ◌∷◌, ℕ, zero, suc, ◌-◌}
use Rattle.text_characters.specs.mirror.Decoding.{decoded}

-- the characters after the first k bytes; where none begins, there is a 0, which no class has
unfoldable pub chars_from : ℕ → List ℕ → List ℕ
chars_from k [] = []
chars_from zero (x ∷ t) = (decoded (x ∷ t)).code ∷ chars_from ((decoded (x ∷ t)).len - 1) t
chars_from (suc k) (x ∷ t) = chars_from k t

abbrev pub chars : List ℕ → List ℕ
chars t = chars_from zero t
