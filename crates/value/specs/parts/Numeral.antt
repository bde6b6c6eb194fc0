-- AMT by parts: its sign one of three, its places with their point or none. `Amount` says the same (proofs/types/Shaped). Assumes nothing.
use Rattle.std.specs.Prelude.{◌≡◌, List, [], ◌∷◌, ◌++◌, ℕ, ◌*◌, ◌^◌, ◌≤◌, length}
use Prim.Native.Char.{code}
use Rattle.text.specs.Bytes.{ascii, is_digit}
use Rattle.text.specs.Lists.{All}
use Rattle.value.specs.types.Plain.{decimal_from}
use Rattle.value.specs.types.Amount.{Bounded}

-- the number that digits write
abbrev pub decimal : List ℕ → ℕ
decimal s = decimal_from 0 s

pub data Sign : Type 0 where
  unsigned plus minus : Sign

abbrev pub sign_text : Sign → List ℕ
sign_text unsigned = []
sign_text plus = ascii "+"
sign_text minus = ascii "-"

-- a point or none, and the digits after it
pub data Places : Type 0 where
  no_point : Places
  point : List ℕ → Places

abbrev pub places_of : Places → List ℕ
places_of no_point = []
places_of (point ds) = ds

abbrev pub places_text : Places → List ℕ
places_text no_point = []
places_text (point ds) = code "." ∷ ds

-- "optional sign, digits with an optional point, at least one digit"
pub record Numeral (t : List ℕ) : Type 0 where
  pub sign : Sign
  pub whole : List ℕ
  pub places : Places
  pub is : t ≡ sign_text sign ++ (whole ++ places_text places)
  pub digits : All is_digit whole × All is_digit (places_of places)
  pub some : 1 ≤ length (whole ++ places_of places)

-- "the smallest scale from 0 up", as `Bounded` has it
abbrev pub Smallest : ℕ → ℕ → Type 0
Smallest c k = (m j : ℕ) → m * 10 ^ k ≡ c * 10 ^ j → k ≤ j

-- "The value is coefficient / 10^scale with the smallest scale from 0 up": what is written, over 10 to the number of its places, is c / 10^k
pub record Decimal (t : List ℕ) (c k : ℕ) : Type 0 where
  pub text : Numeral t
  pub same : decimal (text.whole ++ places_of text.places) * 10 ^ k ≡ c * 10 ^ length (places_of text.places)
  pub least : Smallest c k

-- "value not below 0"
pub record Price (t : List ℕ) (c k : ℕ) : Type 0 where
  pub spells : Decimal t c k
  pub bounds : Bounded c k
  pub sign : spells.text.sign ≡ minus → c ≡ 0
