-- Soundness of two tables as one computed test. Assumes nothing.
use Rattle.std.specs.Prelude.{Bool, true, false, ◌&&◌, ◌||◌, not, List, [], ◌∷◌, ℕ, eqb, ltb, leb, length}
use Rattle.text.specs.Bytes.{in_range, is_capital, is_name_start, is_name_part, is_unmarked}
use Rattle.text.specs.Lists.{same}
use Rattle.list.specs.Words.{first_from}
use Rattle.list.specs.Listing.{Leaf, ref, iban, ccy, bool, num, amt, date, dtm, txt, enum, Kind, group, choice, leaf, Count, one, optional, several, any, alternative, Rule, both, Listing, size, row_at, is_group, next_due, up}
use Rattle.list.specs.tables.Columns.{MATE, CHILD, SIBLING, DUE-CHILD, DUE-SIBLING, PAIR, LEVEL, WORD-COUNT}
use Rattle.list.specs.tables.Table.{cell, list_of}
use Rattle.list.specs.tables.Sound.{next_child, first_of, second_of, level_in, word_count}

abbrev pub all_of : List Bool → Bool
all_of [] = true
all_of (b ∷ bs) = b && all_of bs

-- the test passes at every row
abbrev pub each : Listing → (ℕ → Bool) → Bool
each l f = eqb (first_from (λ r. not (f r)) 1 (size l)) 0

-- texts
unfoldable pub every : (ℕ → Bool) → List ℕ → Bool
every p [] = true
every p (x ∷ xs) = p x && every p xs

unfoldable pub begins : (ℕ → Bool) → (ℕ → Bool) → List ℕ → Bool
begins p q [] = false
begins p q (x ∷ xs) = p x && every q xs

unfoldable pub among : List ℕ → List (List ℕ) → Bool
among w [] = false
among w (v ∷ vs) = same w v || among w vs

unfoldable pub words_ok : List (List ℕ) → Bool
words_ok [] = true
words_ok (w ∷ ws) = begins is_capital is_capital w && (not (among w ws) && words_ok ws)

-- kinds and counts
abbrev pub leaf_ok : Leaf → Bool
leaf_ok ref = true
leaf_ok iban = true
leaf_ok ccy = true
leaf_ok bool = true
leaf_ok num = true
leaf_ok amt = true
leaf_ok date = true
leaf_ok dtm = true
leaf_ok (txt k) = in_range 1 140 k
leaf_ok (enum ws) = in_range 1 255 (length ws) && words_ok ws

abbrev pub kind_ok : Kind → Bool
kind_ok group = true
kind_ok choice = true
kind_ok (leaf k) = leaf_ok k

abbrev pub is_sequence : Kind → Bool
is_sequence group = true
is_sequence choice = false
is_sequence (leaf k) = false

abbrev pub is_alternative : Count → Bool
is_alternative one = false
is_alternative optional = false
is_alternative several = false
is_alternative any = false
is_alternative alternative = true

abbrev pub is_one : Count → Bool
is_one one = true
is_one optional = false
is_one several = false
is_one any = false
is_one alternative = false

abbrev pub is_optional : Count → Bool
is_optional one = false
is_optional optional = true
is_optional several = false
is_optional any = false
is_optional alternative = false

-- the count of a child of such a parent
abbrev pub count_fits : Kind → Count → Bool
count_fits group c = not (is_alternative c)
count_fits choice c = is_alternative c
count_fits (leaf k) c = false

-- rows and rules
module _ (l : Listing) where
  abbrev pub is_child : ℕ → ℕ → Bool
  is_child p r = ltb 0 r && (leb r (size l) && eqb (row_at l r).parent p)

  -- the tests of row r, whose parent is p
  unfoldable pub row_tests : ℕ → ℕ → List Bool
  row_tests p r =
      eqb (up l 16 r) 0 ∷
      (ltb 0 p || eqb r 1) ∷
      ltb p r ∷
      count_fits (row_at l p).kind (row_at l r).count ∷
      (not (is_group (row_at l r).kind) || ltb 0 (next_child l r 0)) ∷
      (same (row_at l r).name [] || begins is_name_start is_name_part (row_at l r).name) ∷
      each l (λ q. eqb r q || not (eqb (row_at l q).parent p && same (row_at l r).name (row_at l q).name)) ∷
      kind_ok (row_at l r).kind ∷ []

  unfoldable pub rule_tests : ℕ → ℕ → ℕ → List Bool
  rule_tests g a b =
      is_child g a ∷
      is_child g b ∷
      ltb a b ∷
      is_sequence (row_at l g).kind ∷
      is_optional (row_at l a).count ∷
      is_optional (row_at l b).count ∷
      each l (λ s. not (eqb (row_at l s).parent g) || (leb s a || leb b s)) ∷ []

  abbrev pub rules_ok : List Rule → Bool
  rules_ok [] = true
  rules_ok (both g a b ∷ qs) = all_of (rule_tests g a b) && rules_ok qs

  abbrev pub list_tests : List Bool
  list_tests =
      leb (size l) 255 ∷
      ltb 0 (size l) ∷
      is_sequence (row_at l 1).kind ∷
      eqb (row_at l 1).parent 0 ∷
      is_one (row_at l 1).count ∷
      each l (λ r. all_of (row_tests (row_at l r).parent r)) ∷
      rules_ok l.rules ∷
      every is_unmarked l.space ∷
      in_range 1 255 l.byte ∷
      begins is_name_start is_name_part (row_at l 1).name ∷ []

  -- the columns that follow, at row r
  unfoldable pub derived_tests : List ℕ → ℕ → List Bool
  derived_tests t r =
      eqb (cell t r CHILD) (next_child l r 0) ∷
      eqb (cell t r SIBLING) (next_child l (row_at l r).parent r) ∷
      eqb (cell t r DUE-CHILD) (next_due l r 0) ∷
      eqb (cell t r DUE-SIBLING) (next_due l (row_at l r).parent r) ∷
      eqb (cell t r MATE) (first_of l.rules r) ∷
      eqb (cell t r PAIR) (second_of l.rules r) ∷
      eqb (cell t r LEVEL) (level_in l 16 r) ∷
      eqb (cell t r WORD-COUNT) (word_count (row_at l r).kind) ∷ []

unfoldable pub well : Listing → Bool
well l = all_of (list_tests l)

unfoldable pub derived : Listing → List ℕ → Bool
derived l t = all_of (derived_tests l t 0) && each l (λ r. all_of (derived_tests l t r))

unfoldable pub sound : List ℕ → List ℕ → Bool
sound t pool = well (list_of t pool) && derived (list_of t pool) t
