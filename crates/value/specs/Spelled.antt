-- The values that some text spells by a date-time rule. Assumes nothing.
use Rattle.std.specs.Prelude.{◌⊎◌, List, ℕ}
use Rattle.list.specs.Listing.{Leaf}
use Rattle.value.specs.parts.Former.{DateRule, former, present}
use Rattle.value.specs.Value.{Value}
use Rattle.value.specs.Rules.{SpeltBy}

-- some characters of a leaf, beside those of a currency, which AMT alone has, spell v by the rule
pub record Spelled (rule : DateRule) (f : Leaf) (v : Value) : Type 0 where
  pub coin : List ℕ
  pub chars : List ℕ
  pub spelt : SpeltBy rule f coin chars v

-- "over the former and the new date-time rule together"
abbrev pub SpelledByEither : Leaf → Value → Type 0
SpelledByEither f v = Spelled former f v ⊎ Spelled present f v
