-- What writing answers, by what it found. Assumes nothing.
use Rattle.std.specs.Prelude.{Bool, cond, List, ℕ, ltb, eqb, length}
use Rattle.answer.specs.declared.Answer.{Answer}
use Rattle.answer.specs.Table.{limit, accepted, no_room, too_large, too_fine, retired}
use Rattle.list.specs.tables.Table.{name_in}

-- a row whose name has no byte
unfoldable pub gone_by : List ℕ → List ℕ → ℕ → Bool
gone_by t pool r = eqb (length (name_in t pool r)) 0

-- what is answered for the item of row r at p
unfoldable pub refused_by : List ℕ → List ℕ → ℕ → ℕ → Answer
refused_by t pool r p = cond (gone_by t pool r) (retired r p) (too_fine r p)

-- "then 19 .., then 14": what is answered for a file of n bytes and a buffer of so much room
unfoldable pub sized_by : ℕ → ℕ → Answer
sized_by n room = cond (ltb limit n) (too_large n) (cond (ltb room n) (no_room n) (accepted n))
