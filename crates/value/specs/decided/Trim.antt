-- What is left of a text without the blanks at both ends. Assumes nothing.
use Rattle.std.specs.Prelude.{◌≡◌, true, false, List, [], ◌∷◌, ◌++◌, ℕ, ◌<◌, length, Option, MatchOption, EachIndex, slice_index}
use Rattle.text.specs.Bytes.{is_blank}
use Rattle.value.specs.types.Plain.{Trimmed}

-- what is left neither begins nor ends with a blank
pub record Trim (s t : List ℕ) : Type 0 where
  pub is : Trimmed s t
  pub first : (x : ℕ) (u : List ℕ) → t ≡ x ∷ u → is_blank x ≡ false
  pub last : (u : List ℕ) (x : ℕ) → t ≡ u ++ (x ∷ []) → is_blank x ≡ false

-- a mirror: where the last character stands that is no blank; none where each is one
abbrev pub LastInk : List ℕ → Option ℕ → Type 0
LastInk s r =
    MatchOption r (EachIndex s (λ i. is_blank (slice_index s i) ≡ true))
    (λ n. (n < length s) × (is_blank (slice_index s n) ≡ false) × EachIndex s (λ i. n < i → is_blank (slice_index s i) ≡ true))
