-- A mirror: the walk's numbers and tests over the cells of two tables, and its stack as a list of levels. Assumes nothing.
use Rattle.std.specs.Prelude.{Bool, false, cond, ◌&&◌, ◌||◌, not, List, [], ◌∷◌, ℕ, zero, suc, eqb, ltb, get_or, set}
use Rattle.answer.specs.Table as table
use Rattle.list.specs.tables.Columns.{COUNT, KIND, MATE, PAIR, SOME, CHOICE}
use Rattle.list.specs.tables.Table.{cell}
use Rattle.list.specs.mirror.Lookup.{due_after}
use Rattle.file_walk.specs.declared.level.Level.{Level}
use Rattle.file_walk.specs.First.{Found, refuse, first_of}
use Rattle.file_walk.specs.mirror.Machine.{misses}

module _ (t : List ℕ) where
  abbrev pub fresh_in : ℕ → ℕ → Level
  fresh_in r o = record { row = r; place = o; last = 0; due = due_after t r 0; odd = false }

  abbrev pub next_in : ℕ → ℕ → ℕ → ℕ
  next_in row due r = cond (eqb r due) (due_after t row r) due

  abbrev pub odd_in : Bool → ℕ → ℕ → Bool
  odd_in odd last r = odd || (not (eqb r last) && (misses (cell t r MATE) last || misses (cell t last PAIR) r))

  abbrev pub advance_in : Level → ℕ → Level
  advance_in lv r = record { row = lv.row; place = lv.place; last = r; due = next_in lv.row lv.due r; odd = odd_in lv.odd lv.last r }

  -- ---- the tests of a tag

  unfoldable pub passed_in : Level → ℕ → Bool
  passed_in lv r = not (eqb (cell t lv.row KIND) CHOICE) && ltb r lv.last

  unfoldable pub again_in : Level → ℕ → Bool
  again_in lv r = cond (eqb (cell t lv.row KIND) CHOICE) (not (eqb lv.last 0)) (ltb (cell t r COUNT) SOME && eqb lv.last r)

  unfoldable pub opening_in : Level → ℕ → Bool → ℕ → Found
  opening_in lv r own o = first_of (
      refuse (eqb r 0) (table.not_a_child lv.row o) ∷
      refuse (passed_in lv r) (table.out_of_order r o) ∷
      refuse (again_in lv r) (table.too_many r o) ∷
      refuse (not own) (table.wrong_attributes r o) ∷ [])

  unfoldable pub broken_in : Level → Bool
  broken_in lv = lv.odd || not (eqb (cell t lv.last PAIR) 0)

  unfoldable pub group_end_in : Level → Found
  group_end_in lv = first_of (
      refuse (eqb lv.last 0) (table.empty lv.row lv.place) ∷
      refuse (ltb 0 lv.due) (table.absent lv.due lv.place) ∷
      refuse (broken_in lv) (table.rule_broken lv.row lv.place) ∷ [])

-- ---- the stack

-- what stands past its end
abbrev pub no_level : Level
no_level = record { row = 0; place = 0; last = 0; due = 0; odd = false }

abbrev pub level_at : List Level → ℕ → Level
level_at a n = get_or a n no_level

abbrev pub pushed : List Level → ℕ → Level → List Level
pushed a n lv = set a n lv

-- the n first levels, the last first
unfoldable pub levels : List Level → ℕ → List Level
levels a zero = []
levels a (suc n) = level_at a n ∷ levels a n
