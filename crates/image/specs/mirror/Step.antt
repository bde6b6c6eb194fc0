-- A mirror: which row may come directly after which, as the code finds it in the first table. Assumes nothing.
use Rattle.std.specs.Prelude.{Bool, true, false, cond, not, List, ℕ, zero, suc, leb, ltb, eqb}
use Rattle.list.specs.tables.Columns.{PARENT, COUNT, KIND, MATE, DUE-CHILD, DUE-SIBLING, PAIR, SIZE, SOME, ANY, CHOICE}
use Rattle.list.specs.tables.Table.{cell}
use Rattle.list.specs.tables.Numbers.{is_group_in}

-- a leaf's row, by the number of its kind
unfoldable pub is_leaf : List ℕ → ℕ → Bool
is_leaf t r = not (is_group_in (cell t r KIND))

-- it may come again: its count is 1..n or 0..n
unfoldable pub again : List ℕ → ℕ → Bool
again t r = cond (ltb (cell t r COUNT) SOME) false (leb (cell t r COUNT) ANY)

-- the lowest sibling due after q: its rule's second row, or the next required one; 0 where there is none
unfoldable pub owed : List ℕ → ℕ → ℕ
owed t q = cond (eqb (cell t q PAIR) 0) (cell t q DUE-SIBLING) (cell t q PAIR)

-- the row that is due is not passed over
unfoldable pub before : ℕ → ℕ → Bool
before due x = cond (eqb due 0) true (leb x due)

-- x's rule has its first row q
unfoldable pub mated : List ℕ → ℕ → ℕ → Bool
mated t q x = cond (eqb (cell t x MATE) 0) true (eqb (cell t x MATE) q)

-- x comes after its sibling q
unfoldable pub in_order : List ℕ → ℕ → ℕ → Bool
in_order t q x = cond (eqb q x) (again t x) (ltb q x)

-- x may stand after q, the last child so far of their parent p
unfoldable pub beside : List ℕ → ℕ → ℕ → ℕ → Bool
beside t p q x = cond (eqb (cell t p KIND) CHOICE) false (cond (in_order t q x) (cond (before (owed t q) x) (mated t q x) false) false)

-- x may stand first in q
unfoldable pub inside : List ℕ → ℕ → ℕ → Bool
inside t q x = cond (eqb (cell t x PARENT) q) (cond (before (cell t q DUE-CHILD) x) (eqb (cell t x MATE) 0) false) false

-- x may come when q is over, at most k levels up
unfoldable pub climbs : List ℕ → ℕ → ℕ → ℕ → Bool
climbs t zero q x = false
climbs t (suc k) q x =
    cond (leb q 1) false
    (cond (eqb (cell t q PARENT) (cell t x PARENT)) (beside t (cell t x PARENT) q x)
    (cond (eqb (owed t q) 0) (climbs t k (cell t q PARENT) x) false))

-- x may come directly after q
unfoldable pub follows : List ℕ → ℕ → ℕ → Bool
follows t q x = cond (eqb x 0) false (cond (ltb (cell t 0 SIZE) x) false (cond (is_leaf t q) (climbs t 16 q x) (inside t q x)))

-- nothing is due when q is over, at most k levels up
unfoldable pub rests : List ℕ → ℕ → ℕ → Bool
rests t zero q = false
rests t (suc k) q = cond (leb q 1) true (cond (eqb (owed t q) 0) (rests t k (cell t q PARENT)) false)

-- an image may end after q
unfoldable pub ended : List ℕ → ℕ → Bool
ended t q = cond (is_leaf t q) (rests t 16 q) false
