-- UTF-8: the encodings of scalar values, one after the other (RFC 3629). Assumes nothing.
use Rattle.std.specs.Prelude.{◌≡◌, cond, List, [], ◌∷◌, ◌++◌, ℕ, ◌+◌, ◌/◌, ◌%◌, ◌≤◌, ◌<◌, ltb}
use Rattle.text.specs.Lists.{Each}

-- a scalar value: a code point that is no surrogate
pub record Scalar (c : ℕ) : Type 0 where
  pub below : c < 0x110000
  pub outside : 0xD800 ≤ c → c ≤ 0xDFFF → ⊥

-- its bytes, in the shortest form
unfoldable pub encode : ℕ → List ℕ
encode c =
    cond (ltb c 0x80) (c ∷ [])
    (cond (ltb c 0x800) ((0xC0 + c / 0x40) ∷ (0x80 + c % 0x40) ∷ [])
    (cond (ltb c 0x10000) ((0xE0 + c / 0x1000) ∷ (0x80 + c / 0x40 % 0x40) ∷ (0x80 + c % 0x40) ∷ [])
    ((0xF0 + c / 0x40000) ∷ (0x80 + c / 0x1000 % 0x40) ∷ (0x80 + c / 0x40 % 0x40) ∷ (0x80 + c % 0x40) ∷ [])))

abbrev pub encode_all : List ℕ → List ℕ
encode_all [] = []
encode_all (c ∷ cs) = encode c ++ encode_all cs

pub record Utf8 (s : List ℕ) : Type 0 where
  pub chars : List ℕ
  pub scalars : Each Scalar chars
  pub is : s ≡ encode_all chars
