-- A list: rows by number from 1 with name, parent, count and kind; its rules; its namespace; its kind of message. Assumes nothing.
use Rattle.std.specs.Prelude.{◌≡◌, Bool, true, false, ◌&&◌, List, [], ℕ, zero, suc, ◌≤◌, ◌<◌, eqb, length, get_or}
use Rattle.text.specs.Lists.{same}
use Rattle.list.specs.Words.{first_from}

-- the types of leaves: REF, IBAN, CCY, BOOL, NUM, AMT, DATE, DTM, TXTk, and ENUM with its words
pub data Leaf : Type 0 where
  ref iban ccy bool num amt date dtm : Leaf
  txt : ℕ → Leaf
  enum : List (List ℕ) → Leaf

-- "G is a group in sequence, C a group that is a choice of exactly one child"
pub data Kind : Type 0 where
  group choice : Kind
  leaf : Leaf → Kind

-- 1..1, 0..1, 1..n, 0..n ("n is no limit"), and no count, as within a choice
pub data Count : Type 0 where
  one optional several any alternative : Count

-- "Row, name, parent row, count, kind"; the root's parent is 0
pub record Row : Type 0 where
  pub name : List ℕ
  pub parent : ℕ
  pub count : Count
  pub kind : Kind

-- of a group: two of its rows are "both present or both absent"
pub data Rule : Type 0 where
  both : ℕ → ℕ → ℕ → Rule

pub record Listing : Type 0 where
  pub rows : List Row
  pub rules : List Rule
  pub space : List ℕ
  -- the kind byte of its images
  pub byte : ℕ

abbrev pub size : Listing → ℕ
size l = length l.rows

abbrev pub no_row : Row
no_row = record { name = []; parent = 0; count = any; kind = group }

unfoldable pub row_at : Listing → ℕ → Row
row_at l zero = no_row
row_at l (suc i) = get_or l.rows i no_row

-- r is a row of the list whose parent is p
pub record Child (l : Listing) (p r : ℕ) : Type 0 where
  pub first : 0 < r
  pub last : r ≤ size l
  pub parent : (row_at l r).parent ≡ p

-- p's child of this name; 0 where there is none
unfoldable pub child : Listing → ℕ → List ℕ → ℕ
child l p n = first_from (λ r. eqb (row_at l r).parent p && same (row_at l r).name n) 1 (size l)

abbrev pub is_group : Kind → Bool
is_group group = true
is_group choice = true
is_group (leaf k) = false

abbrev pub is_choice : Kind → Bool
is_choice group = false
is_choice choice = true
is_choice (leaf k) = false

-- at most once
abbrev pub at_most_once : Count → Bool
at_most_once one = true
at_most_once optional = true
at_most_once several = false
at_most_once any = false
at_most_once alternative = false

-- at least once
abbrev pub required : Count → Bool
required one = true
required optional = false
required several = true
required any = false
required alternative = false

-- the lowest required child of p above q; 0 where there is none
unfoldable pub next_due : Listing → ℕ → ℕ → ℕ
next_due l p q = first_from (λ r. eqb (row_at l r).parent p && required (row_at l r).count) (suc q) (size l)

-- the k-th row above r; above the root is 0, and so on from there
abbrev pub up : Listing → ℕ → ℕ → ℕ
up l zero r = r
up l (suc k) r = up l k (row_at l r).parent
