-- What the reader's theory uses of a well-formed list. Assumes nothing.
use mathlib.Core.Path.{◌≡◌, refl, sym, ◌∙◌, subst}
use mathlib.Core.Logic.{⊎_elim}
use mathlib.Core.Bool.{Bool, true, false, ◌&&◌, ◌||◌, true≢false, false≢true}
use mathlib.Core.List.{List, [], ◌∷◌}
use Prim.Native.Nat.{ℕ, ◌≤◌, ◌<◌}
use native.Mathlib.Omega.{arith}
use native.Mathlib.Decide.{dec_lt}
use lib.Dec.{eqb}
use borrow.Author.Tests.{eqb-true}
use Rattle.text.proofs.Classes.{and_is, or_is}
use Rattle.text.specs.Lists.{Each}
use Rattle.list.specs.Listing.{Leaf, Kind, group, choice, leaf, alternative, Row, Rule, both, Listing, size, row_at, Child, is_group, up}
use Rattle.list.specs.WellFormed.{KindOk, BothOk, RuleOk, WellFormed}
use Rattle.list.specs.Content.{ValueOf}
use Rattle.list.proofs.rows.Next.{row_past}
use Rattle.image.specs.mirror.Follow.{parent_of, count_of, kind_of, Compound, paired, ruled, Climb, beside, out, Next, down, on}

pub data Cmp (a b : ℕ) : Type 0 where
  less : a < b → Cmp a b
  same : a ≡ b → Cmp a b
  more : b < a → Cmp a b

pub cmp : (a b : ℕ) → Cmp a b
cmp a b = go (dec_lt a b) (dec_lt b a)
  where
    go : Dec (a < b) → Dec (b < a) → Cmp a b
    go (yes h) d = less h
    go (no h) (yes g) = more g
    go (no h) (no g) = same (omega arith)

pub or_left : (a b : Bool) → a ≡ true → (a || b) ≡ true
or_left a b e = rw e

pub or_right : (a b : Bool) → b ≡ true → (a || b) ≡ true
or_right true b e = refl
or_right false b e = e

-- a leaf is no group
pub clash : {b : Bool} → b ≡ true → b ≡ false → ⊥
clash a b = true≢false (sym a ∙ b)

module _ {A : Type 0} (Is : Leaf → A → Type 0) (l : Listing) where
  pub value_is : (k : Kind) (v : A) → ValueOf Is l k v → is_group k ≡ false
  value_is group v h = absurd h
  value_is choice v h = absurd h
  value_is (leaf k) v h = refl

-- a row that comes next is a row of the list
module _ (l : Listing) where
  climb_in : {x q : ℕ} → Climb l x q → (0 < x) × (x ≤ size l)
  climb_in (beside h f) = (f.child.first, f.child.last)
  climb_in (out h s c) = climb_in c

  pub next_in_lem : {x q : ℕ} → Next l x q → (0 < x) × (x ≤ size l)
  next_in_lem (down n f) = (f.child.first, f.child.last)
  next_in_lem (on k c) = climb_in c

-- a rule's two rows
pub in_rules : (l : Listing) (rs : List Rule) → Each (RuleOk l) rs → (a b : ℕ) → paired rs a b ≡ true → BothOk l (parent_of l a) a b
in_rules l [] o a b e = absurd (false≢true e)
in_rules l (both g x y ∷ rs) o a b e = ⊎_elim
    (λ h. let p = and_is (eqb a x) (eqb b y) h in here (eqb-true a x p.0) (eqb-true b y p.1))
    (λ h. in_rules l rs o.1 a b h)
    (or_is (eqb a x && eqb b y) (paired rs a b) e)
  where
    here : a ≡ x → b ≡ y → BothOk l (parent_of l a) a b
    here ea eb =
        let k : BothOk l (parent_of l x) x y = subst (λ (z : ℕ). BothOk l z x y) (sym o.0.left.parent) o.0 in
        subst (λ (z : ℕ). BothOk l (parent_of l a) a z) (sym eb) (subst (λ (z : ℕ). BothOk l (parent_of l z) z y) (sym ea) k)

pub record Well (l : Listing) : Type 0 where
  pub rows : 0 < size l
  pub root : parent_of l 1 ≡ 0
  pub top : kind_of l 1 ≡ group
  pub before : (r : ℕ) → 1 < r → r ≤ size l → (0 < parent_of l r) × (parent_of l r < r)
  pub filled : (p : ℕ) → 0 < p → p ≤ size l → Compound l p → (s : ℕ) × Child l p s
  pub freed : (p s : ℕ) → Child l p s → kind_of l p ≡ choice → count_of l s ≡ alternative
  pub kinds : (r : ℕ) → KindOk (kind_of l r)
  pub depth : (r : ℕ) → r ≤ size l → up l 16 r ≡ 0
  pub rules : (a b : ℕ) → ruled l a b ≡ true → BothOk l (parent_of l a) a b

self : (l : Listing) (r : ℕ) → 0 < r → r ≤ size l → Child l (parent_of l r) r
self l r a b = record { first = a; last = b; parent = refl }

no_row : (l : Listing) → KindOk (kind_of l 0)
unfolding row_at
no_row l = tt

pub well : (l : Listing) → WellFormed l → Well l
unfolding ruled
well l w = record {
  rows = w.root.0;
  root = w.root.2;
  top = w.root.1;
  before = λ r h b. (positive r h b (cmp 0 (parent_of l r)), w.before (parent_of l r) r (self l r (omega arith) b));
  filled = λ p a b g. w.filled (parent_of l p) p (self l p a b) g;
  freed = λ p s c k. w.uncounted p s c k;
  kinds = λ r. kind r (cmp 0 r) (cmp r (size l));
  depth = w.levels;
  rules = λ a b e. in_rules l l.rules w.rules a b e;
}
  where
    positive : (r : ℕ) → 1 < r → r ≤ size l → Cmp 0 (parent_of l r) → 0 < parent_of l r
    positive r h b (less g) = g
    positive r h b (same g) = absurd (omega (arith, w.one_root r (record { first = omega arith; last = b; parent = sym g })))
    positive r h b (more g) = absurd (omega arith)

    -- a number that is no row is taken for a group
    kind : (r : ℕ) → Cmp 0 r → Cmp r (size l) → KindOk (kind_of l r)
    kind r (less a) (less b) = w.kinds (parent_of l r) r (self l r a (omega arith))
    kind r (less a) (same b) = w.kinds (parent_of l r) r (self l r a (omega arith))
    kind r (less a) (more b) = subst (λ (z : Row). KindOk z.kind) (sym (row_past l r b)) tt
    kind r (same a) c = subst (λ (z : ℕ). KindOk (kind_of l z)) a (no_row l)
    kind r (more a) c = absurd (omega arith)
