-- A list that is another but for some rows lies within it where these are no wider. Assumes nothing.
use mathlib.Core.Path.{◌≡◌, refl, ◌∙◌}
use mathlib.Core.List.{List, [], ◌∷◌}
use Prim.Native.Nat.{ℕ, zero, suc, ◌-◌}
use lib.ListN.{length, get_or, set, length-set}
use Rattle.list.specs.Listing.{Row, Listing, no_row, row_at}
use Rattle.list.specs.Content.{CountOk}
use Rattle.list.specs.Within.{Within}
use Rattle.list.specs.Changed.{changed, altered}

-- x in place of y: the same parent and kind, and a count that is no wider
pub record Narrows (x y : Row) : Type 0 where
  pub parent : x.parent ≡ y.parent
  pub kind : x.kind ≡ y.kind
  pub count : (n : ℕ) → CountOk x.count n → CountOk y.count n

-- so is each of the rows that are changed
abbrev pub Narrower : List Row → List (ℕ × Row) → Type 0
Narrower rs [] = Unit {0}
Narrower rs (c ∷ cs) = Narrows c.1 (get_or rs (c.0 - 1) no_row) × Narrower (set rs (c.0 - 1) c.1) cs

narrows_itself : (x : Row) → Narrows x x
narrows_itself x = record { parent = refl; kind = refl; count = λ n h. h }

narrows_on : {x y z : Row} → Narrows x y → Narrows y z → Narrows x z
narrows_on f g = record { parent = f.parent ∙ g.parent; kind = f.kind ∙ g.kind; count = λ n h. g.count n (f.count n h) }

narrows_set : (rs : List Row) (i : ℕ) (x : Row) → Narrows x (get_or rs i no_row) → (j : ℕ) → Narrows (get_or (set rs i x) j no_row) (get_or rs j no_row)
narrows_set [] i x h j = narrows_itself _
narrows_set (y ∷ rs) zero x h zero = h
narrows_set (y ∷ rs) zero x h (suc j) = narrows_itself _
narrows_set (y ∷ rs) (suc i) x h zero = narrows_itself _
narrows_set (y ∷ rs) (suc i) x h (suc j) = narrows_set rs i x h j

narrows_changed : (rs : List Row) (cs : List (ℕ × Row)) → Narrower rs cs → (j : ℕ) → Narrows (get_or (changed rs cs) j no_row) (get_or rs j no_row)
narrows_changed rs [] h j = narrows_itself _
narrows_changed rs (c ∷ cs) h j = narrows_on (narrows_changed (set rs (c.0 - 1) c.1) cs h.1 j) (narrows_set rs (c.0 - 1) c.1 h.0 j)

many_changed : (rs : List Row) (cs : List (ℕ × Row)) → length (changed rs cs) ≡ length rs
many_changed rs [] = refl
many_changed rs (c ∷ cs) = many_changed (set rs (c.0 - 1) c.1) cs ∙ length-set rs (c.0 - 1) c.1

module _ (l : Listing) (cs : List (ℕ × Row)) (h : Narrower l.rows cs) where
  row_narrows : (r : ℕ) → Narrows (row_at (altered l cs) r) (row_at l r)
  unfolding row_at
  row_narrows zero = narrows_itself no_row
  row_narrows (suc i) = narrows_changed l.rows cs h i

  pub altered_within : Within (altered l cs) l
  altered_within = record {
    many = many_changed l.rows cs;
    parents = λ r. (row_narrows r).parent;
    kinds = λ r. (row_narrows r).kind;
    counts = λ r. (row_narrows r).count;
    rules = refl;
    byte = refl;
  }
