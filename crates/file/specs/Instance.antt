-- The types of leaves with the bytes of their values, as files spell them and images hold them; document 01's. Assumes nothing.
use Rattle.std.specs.Prelude.{List, ℕ}
use Rattle.list.specs.Listing.{Leaf}
use Rattle.value.specs.Value.{Value, IsValue, Spelt, bytes}
use Rattle.file_walk.specs.Types.{Types}
use Rattle.image.specs.Image.{Values}
use Rattle.image.specs.Kinds.{length_bytes}

-- types, the bytes of each value, and how many of these stand before the value's own (a text's length)
pub record Kinds : Type 1 where
  pub types : Types
  pub bytes : Leaf → types.A → List ℕ
  pub head : Leaf → ℕ

-- the same values, as images have them
abbrev pub values_of : Kinds → Values
values_of k = record { Value = k.types.A; Is = k.types.Is; bytes = k.bytes; head = k.head }

-- document 01's types: REF, TXTk, IBAN, CCY, ENUM, BOOL, NUM, AMT, DATE and DTM
abbrev pub house_types : Types
house_types = record { A = Value; Is = IsValue; Spelt = Spelt }

abbrev pub house_kinds : Kinds
house_kinds = record { types = house_types; bytes = λ k v. bytes v; head = length_bytes }
