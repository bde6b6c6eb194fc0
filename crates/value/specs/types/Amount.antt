-- AMT: which texts, without blanks around them, write which number. Assumes nothing.
use Rattle.std.specs.Prelude.{◌≡◌, ◌⊎◌, List, [], ◌∷◌, ◌++◌, ℕ, ◌*◌, ◌^◌, ◌≤◌, ◌<◌, length}
use Prim.Native.Char.{code}
use Rattle.text.specs.Bytes.{ascii, is_digit}
use Rattle.text.specs.Lists.{All}
use Rattle.value.specs.types.Plain.{decimal_from}

-- "optional sign, digits with an optional point, at least one digit"
pub record Written (t : List ℕ) : Type 0 where
  pub sign : List ℕ
  pub whole : List ℕ
  pub places : List ℕ
  pub signed : (sign ≡ []) ⊎ ((sign ≡ ascii "+") ⊎ (sign ≡ ascii "-"))
  pub digits : All is_digit (whole ++ places)
  pub some : 1 ≤ length (whole ++ places)
  pub is : (t ≡ sign ++ (whole ++ (code "." ∷ places))) ⊎ ((t ≡ sign ++ whole) × (places ≡ []))

-- "The value is coefficient / 10^scale": what is written, over 10 to the number of its places, is c / 10^k; "value not below 0"
pub record Amount (t : List ℕ) (c k : ℕ) : Type 0 where
  pub text : Written t
  pub same : decimal_from 0 (text.whole ++ text.places) * 10 ^ k ≡ c * 10 ^ length text.places
  pub sign : text.sign ≡ ascii "-" → c ≡ 0

-- "scale is at most 5, coefficient below 10^18"; "the smallest scale from 0 up": whatever is the same number as c / 10^k has at least its scale
pub record Bounded (c k : ℕ) : Type 0 where
  pub scale : k ≤ 5
  pub coefficient : c < 10 ^ 18
  pub least : (m j : ℕ) → m * 10 ^ k ≡ c * 10 ^ j → k ≤ j
