-- Kinds by their numbers. Assumes nothing.
use Rattle.std.specs.Prelude.{Bool, [], ℕ}
use Rattle.list.specs.Listing.{is_group}
use Rattle.list.specs.tables.Table.{kind_of}

-- a number that is a group's or a choice's, as every number is that no leaf has; k and the words make no difference
unfoldable pub is_group_in : ℕ → Bool
is_group_in c = is_group (kind_of c 0 [])
