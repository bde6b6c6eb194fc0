-- Tables that say a well-formed list, with what follows from it written beside each row. Assumes nothing.
use Rattle.std.specs.Prelude.{◌≡◌, cond, List, [], ◌∷◌, ℕ, zero, suc, ◌-◌, ◌≤◌, eqb, length}
use Rattle.list.specs.Words.{first_from}
use Rattle.list.specs.Listing.{ref, iban, ccy, bool, num, amt, date, dtm, txt, enum, Kind, group, choice, leaf, Rule, both, Listing, size, row_at, next_due}
use Rattle.list.specs.WellFormed.{WellFormed}
use Rattle.list.specs.tables.Columns.{MATE, CHILD, SIBLING, DUE-CHILD, DUE-SIBLING, PAIR, LEVEL, WORD-COUNT}
use Rattle.list.specs.tables.Table.{cell, list_of}

-- the lowest child of p above q; 0 where there is none
unfoldable pub next_child : Listing → ℕ → ℕ → ℕ
next_child l p q = first_from (λ r. eqb (row_at l r).parent p) (suc q) (size l - q)

-- the second row of the rule whose first row is a, the first row of the rule whose second row is b; 0 where there is none
unfoldable pub second_of : List Rule → ℕ → ℕ
second_of [] a = 0
second_of (both g x y ∷ qs) a = cond (eqb x a) y (second_of qs a)

unfoldable pub first_of : List Rule → ℕ → ℕ
first_of [] b = 0
first_of (both g x y ∷ qs) b = cond (eqb y b) x (first_of qs b)

-- how many rows from r up to the root, counting at most k
unfoldable pub level_in : Listing → ℕ → ℕ → ℕ
level_in l zero r = 0
level_in l (suc k) r = cond (eqb r 0) 0 (suc (level_in l k (row_at l r).parent))

-- "Nesting is at most 16, the root being 1"
abbrev pub level : Listing → ℕ → ℕ
level l r = level_in l 16 r

-- how many words a kind lists
abbrev pub word_count : Kind → ℕ
word_count group = 0
word_count choice = 0
word_count (leaf ref) = 0
word_count (leaf iban) = 0
word_count (leaf ccy) = 0
word_count (leaf bool) = 0
word_count (leaf num) = 0
word_count (leaf amt) = 0
word_count (leaf date) = 0
word_count (leaf dtm) = 0
word_count (leaf (txt k)) = 0
word_count (leaf (enum ws)) = length ws

-- the columns that follow from the list, at row r
pub record Derived (t : List ℕ) (l : Listing) (r : ℕ) : Type 0 where
  pub child : cell t r CHILD ≡ next_child l r 0
  pub sibling : cell t r SIBLING ≡ next_child l (row_at l r).parent r
  pub due_child : cell t r DUE-CHILD ≡ next_due l r 0
  pub due_sibling : cell t r DUE-SIBLING ≡ next_due l (row_at l r).parent r
  pub mate : cell t r MATE ≡ first_of l.rules r
  pub pair : cell t r PAIR ≡ second_of l.rules r
  pub level : cell t r LEVEL ≡ level_in l 16 r
  pub words : cell t r WORD-COUNT ≡ word_count (row_at l r).kind

pub record Sound (t pool : List ℕ) : Type 0 where
  pub well : WellFormed (list_of t pool)
  pub derived : (r : ℕ) → r ≤ size (list_of t pool) → Derived t (list_of t pool) r
