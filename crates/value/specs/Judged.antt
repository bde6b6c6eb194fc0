-- What a judgement of a raw text says: a value that it spells, or that it spells none. Assumes nothing.
use Rattle.std.specs.Prelude.{◌≡◌, Bool, true, false, ◌≢◌, List, ℕ, ◌+◌, length, Option, Some, None}
use Rattle.text_characters.specs.Utf8.{encode_all}
use Rattle.text_characters.specs.Pieces.{Spells}
use Rattle.list.specs.Listing.{Leaf}
use Rattle.value.specs.types.Code.{Ccy}
use Rattle.value.specs.Kind.{code, Given}
use Rattle.value.specs.Value.{Value, text, truth, natural, amount, day, moment, Spelt}
use Rattle.value.specs.parts.Form.{Form}
use Rattle.value.specs.declared.judged.Judged.{Judged}
use Rattle.value.specs.declared.judged.Day as D
use Rattle.value.specs.declared.judged.Moment as M
use Rattle.value.specs.declared.judged.Judged.TheVariants.{Text, Truth, Natural, Amount, Day, Moment}
use Rattle.list.specs.tables.Columns.{ENUM}
use Rattle.value.specs.Places.{number_size, amount_size, date_size, moment_size}

-- a test that is passed exactly when P holds
abbrev pub Exactly : Bool → Type 0 → Type 0
Exactly r P = (r ≡ true → P) × (P → r ≡ true)

-- the values of these parts
abbrev pub day_value : D.Day → Value
day_value d = day d.year d.month d.day

abbrev pub moment_value : M.Moment → Value
moment_value m = moment m.year m.month m.day m.hour m.minute m.second m.micros m.offset

-- r is the value v; w are the characters of the attribute Ccy, cs those of the text
abbrev pub Means : List ℕ → List ℕ → Option Judged → Value → Type 0
Means w cs None v = ⊥
Means w cs (Some (Text n)) v = (v ≡ text cs) × (n ≡ length (encode_all cs))
Means w cs (Some (Truth b)) v = v ≡ truth b
Means w cs (Some (Natural n)) v = v ≡ natural n
Means w cs (Some (Amount c k)) v = v ≡ amount w k c
Means w cs (Some (Day d)) v = v ≡ day_value d
Means w cs (Some (Moment m)) v = v ≡ moment_value m

-- the raw text s of a leaf k is judged r: accepted exactly when it spells a value, and then r is that value
pub data Right (k : Leaf) (w s : List ℕ) (r : Option Judged) : Type 0 where
  accepted : (cs : List ℕ) (v : Value) → Spells s cs → Spelt k w cs v → Means w cs r v → Right k w s r
  refused : r ≡ None → ((cs : List ℕ) (v : Value) → Spells s cs → Spelt k w cs v → ⊥) → Right k w s r

-- the same of characters that are left
pub data Formed (k : Leaf) (w t : List ℕ) (r : Option Judged) : Type 0 where
  formed : (v : Value) → Form k w t v → Means w t r v → Formed k w t r
  formless : r ≡ None → ((v : Value) → Form k w t v → ⊥) → Formed k w t r

-- whatever the currency
abbrev pub FormedAny : Leaf → List ℕ → Option Judged → Type 0
FormedAny k t r = (w : List ℕ) → Ccy w → Formed k w t r

-- how many bytes the value has
abbrev pub size_of : Option Judged → ℕ
size_of None = 0
size_of (Some (Text n)) = 2 + n
size_of (Some (Truth b)) = 1
size_of (Some (Natural n)) = number_size
size_of (Some (Amount c k)) = amount_size
size_of (Some (Day d)) = date_size
size_of (Some (Moment m)) = moment_size

-- a mirror: a code is its own text
abbrev pub coded_of : Bool → ℕ → Option Judged
coded_of true n = Some (Text n)
coded_of false n = None

-- of the kind with this number, but for ENUM, whatever the currency; refused where no kind has it
pub record Checked (kind k : ℕ) (s : List ℕ) (r : Option Judged) : Type 0 where
  pub known : (l : Leaf) → code l ≡ kind → kind ≢ ENUM → Given l k 0 → (w : List ℕ) → Ccy w → Right l w s r
  pub unknown : ((l : Leaf) → code l ≡ kind → kind ≢ ENUM → ⊥) → r ≡ None
