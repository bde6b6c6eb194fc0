-- A table laid over another of 256 rows. Assumes nothing.
use Rattle.std.specs.Prelude.{List, ℕ, take, replicate}
use Rattle.std.proofs.lemmas.List.Edits.{sets}
use Rattle.list.specs.tables.Columns.{CELLS}

-- the cells of t, one by one from the first on, in place of those of d; of more than fit the first
unfoldable pub onto : List ℕ → List ℕ → List ℕ
onto t d = sets d 0 (take CELLS t)

abbrev pub zeros : ℕ → List ℕ
zeros k = replicate k 0

-- 256 rows, of which the first are those of t and the others zeros
unfoldable pub laid : List ℕ → List ℕ
laid t = onto t (zeros CELLS)
