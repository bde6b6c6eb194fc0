-- A mirror: the text of a leaf that is known to be good, and what is put of it. Assumes nothing.
use Rattle.std.specs.Prelude.{◌≡◌, List, ◌∷◌, ◌++◌, ℕ, ◌+◌, ◌≤◌, length, drop}
use Rattle.text.specs.Puts.{Puts}
use Rattle.text_characters.specs.Utf8.{encode_all}
use Rattle.text_characters.specs.Pieces.{less, Spells}
use Rattle.value.specs.Value.{text, bytes}

-- from place i of s on stands a raw text that spells cs, up to the `<` at e
pub record RawAt (s : List ℕ) (i : ℕ) (cs : List ℕ) (e : ℕ) : Type 0 where
  pub raw : List ℕ
  pub rest : List ℕ
  pub is : drop i s ≡ raw ++ (less ∷ rest)
  pub spells : Spells raw cs
  pub end : e ≡ i + length raw

-- there is one, and room for its value
pub record TextAsked (s : List ℕ) (at : ℕ) (d : List ℕ) (to : ℕ) : Type 0 where
  pub chars : List ℕ
  pub end : ℕ
  pub text : RawAt s at chars end
  pub room : to + (2 + length (encode_all chars)) ≤ length d

-- its value's bytes are put, up to r; and it ends at e
abbrev pub TextLaid : List ℕ → ℕ → List ℕ → ℕ → ℕ → ℕ → List ℕ → Type 0
TextLaid s at d to r e d' = (cs : List ℕ) (f : ℕ) → RawAt s at cs f → (e ≡ f) × Puts d to (bytes (text cs)) r d'
