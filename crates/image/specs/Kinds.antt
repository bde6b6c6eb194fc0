-- The values of document 01's types, as images have them. Assumes nothing.
use Rattle.std.specs.Prelude.{ℕ}
use Rattle.list.specs.Listing.{Leaf}
use Rattle.value.specs.types.Code.{traits}
use Rattle.value.specs.Value.{Value, IsValue, bytes}
use Rattle.image.specs.Image.{Values}

abbrev pub length_bytes : Leaf → ℕ
length_bytes k = (traits k).0

abbrev pub values : Values
values = record { Value = Value; Is = IsValue; bytes = λ k v. bytes v; head = length_bytes }
