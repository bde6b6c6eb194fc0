-- The bytes of the value that a raw text spells, and what is written of them where. Assumes nothing.
use Rattle.std.specs.Prelude.{◌≡◌, ◌≢◌, List, [], ℕ, ◌≤◌, length}
use Rattle.text.specs.Pasting.{pasted}
use Rattle.text_characters.specs.Utf8.{encode_all}
use Rattle.text_characters.specs.Pieces.{Spells}
use Rattle.list.specs.Listing.{Leaf}
use Rattle.value.specs.types.Code.{Ccy}
use Rattle.value.specs.Kind.{code, Given}
use Rattle.value.specs.Value.{Value, text, place, truth, natural, amount, day, moment, Spelt, bytes}
use Rattle.list.specs.tables.Columns.{ENUM}
use Rattle.value.specs.Places.{longest_text}

-- "16-bit byte length": a text of more bytes has none
abbrev pub Counted : Value → Type 0
Counted (text cs) = length (encode_all cs) ≤ longest_text
Counted (place n) = Unit {0}
Counted (truth b) = Unit {0}
Counted (natural n) = Unit {0}
Counted (amount w k c) = Unit {0}
Counted (day y m d) = Unit {0}
Counted (moment y mo d h mi s u z) = Unit {0}

-- a leaf of the kind with this number has the raw text s, which spells v; k is TXTk's, cur the currency, which is AMT's alone. An ENUM has
-- words that its list knows, so none is told here.
pub record Told (kind k : ℕ) (cur s : List ℕ) (v : Value) : Type 0 where
  pub leaf : Leaf
  pub number : code leaf ≡ kind
  pub other : kind ≢ ENUM
  pub given : Given leaf k 0
  pub chars : List ℕ
  pub spells : Spells s chars
  pub spelt : Spelt leaf cur chars v

-- bs are the bytes of the value; none where there is no value, or none that has bytes
pub data Gives (kind k : ℕ) (cur s bs : List ℕ) : Type 0 where
  some : (v : Value) → Told kind k cur s v → Counted v → bs ≡ bytes v → Gives kind k cur s bs
  none : ((v : Value) → Told kind k cur s v → Counted v → ⊥) → bs ≡ [] → Gives kind k cur s bs

-- r is how many there are
pub record Long (kind k : ℕ) (cur s : List ℕ) (r : ℕ) : Type 0 where
  pub found : List ℕ
  pub gives : Gives kind k cur s found
  pub count : r ≡ length found

-- whatever the currency
abbrev pub Sized : ℕ → ℕ → List ℕ → ℕ → Type 0
Sized kind k s r = (w : List ℕ) → Ccy w → Long kind k w s r

-- r is how many there are, and d' is d with them from `at` on where they fit in; as it was where they do not
pub record Written (kind k : ℕ) (cur s d : List ℕ) (at r : ℕ) (d' : List ℕ) : Type 0 where
  pub found : List ℕ
  pub gives : Gives kind k cur s found
  pub count : r ≡ length found
  pub is : d' ≡ pasted d at found
