-- A mirror: the kind byte by what the root's tag is as a statement's, and what is told of a file. Assumes nothing.
use Rattle.std.specs.Prelude.{◌≡◌, cond, List, ℕ, Result, Ok, Err}
use Rattle.answer.specs.declared.Answer.{Answer}
use Rattle.list_house.specs.mirror.HouseTable.{house_rows, house_pool}
use Rattle.list_house.specs.mirror.Rows.{asked_rows}
use Rattle.file_walk.specs.mirror.Begin.{Rooted, begin_in, unrooted}
use Rattle.file.specs.File.{Whole}
use Rattle.file_measure.specs.declared.Good.{Good}

-- a report's where it is no statement's root
abbrev pub kind_by : Rooted → ℕ
kind_by tried = cond (unrooted tried) 2 1

-- a refused file has no kind
abbrev pub told_of : ℕ → Result ℕ Answer → Result Good Answer
told_of kind (Ok n) = Ok (record { kind = kind; size = n })
told_of kind (Err a) = Err a

-- the tables are those of the kind that the root's tag chooses, tried as a statement's
pub record Chooses (t pool s : List ℕ) (n : ℕ) (tried : Rooted) : Type 0 where
  pub whole : Whole s
  pub rows : t ≡ asked_rows n
  pub names : pool ≡ house_pool
  pub first : tried ≡ begin_in house_rows pool s
  pub kind : n ≡ kind_by tried
