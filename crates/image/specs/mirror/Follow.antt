-- A mirror: which row may come directly after which, from the row of the last item alone. Assumes nothing.
use Rattle.std.specs.Prelude.{◌≡◌, ◌⊎◌, Bool, true, false, ◌&&◌, ◌||◌, List, [], ◌∷◌, ℕ, suc, ◌<◌, eqb}
use Rattle.std.proofs.Math.Option.{Option, none, some}
use Rattle.list.specs.Listing.{Kind, choice, Count, Rule, both, Listing, size, row_at, Child, is_group, required}
use Rattle.list.specs.Content.{ValueOf}
use Rattle.image.specs.Image.{Values, Item}

-- more than once
abbrev pub repeats : Count → Bool
repeats Count.one = false
repeats Count.optional = false
repeats Count.several = true
repeats Count.any = true
repeats Count.alternative = false

abbrev pub parent_of : Listing → ℕ → ℕ
parent_of l r = (row_at l r).parent

abbrev pub count_of : Listing → ℕ → Count
count_of l r = (row_at l r).count

abbrev pub kind_of : Listing → ℕ → Kind
kind_of l r = (row_at l r).kind

-- a row of a leaf; of a group or a choice
abbrev pub Simple : Listing → ℕ → Type 0
Simple l r = is_group (row_at l r).kind ≡ false

abbrev pub Compound : Listing → ℕ → Type 0
Compound l r = is_group (row_at l r).kind ≡ true

abbrev pub paired : List Rule → ℕ → ℕ → Bool
paired [] a b = false
paired (both g x y ∷ rs) a b = (eqb a x && eqb b y) || paired rs a b

-- a and b are the two rows of a rule
unfoldable pub ruled : Listing → ℕ → ℕ → Bool
ruled l a b = paired l.rules a b

module _ (l : Listing) where
  -- s may not be passed over when q is the last child so far
  abbrev pub due : ℕ → ℕ → Bool
  due q s = required (count_of l s) || ruled l q s

  abbrev pub Clear : ℕ → ℕ → ℕ → Type 0
  Clear p q x = (s : ℕ) → Child l p s → q < s → s < x → due q s ≡ false

  -- x may be the next child of p when q is the last so far (0: none)
  pub record Fits (p q x : ℕ) : Type 0 where
    pub child : Child l p x
    pub first : kind_of l p ≡ choice → q ≡ 0
    pub order : (q < x) ⊎ ((q ≡ x) × (repeats (count_of l x) ≡ true))
    pub clear : Clear p q x
    pub mate : (a : ℕ) → ruled l a x ≡ true → q ≡ a

  -- p may end when q is its last child
  pub record Shut (p q : ℕ) : Type 0 where
    pub some : 0 < q
    pub clear : Clear p q (suc (size l))

  -- x may come when q, a child of its parent, is over
  pub data Climb (x : ℕ) : ℕ → Type 0 where
    beside : {q : ℕ} → 1 < q → Fits (parent_of l q) q x → Climb x q
    out : {q : ℕ} → 1 < q → Shut (parent_of l q) q → Climb x (parent_of l q) → Climb x q

  pub data Next (x q : ℕ) : Type 0 where
    down : Compound l q → Fits q 0 x → Next x q
    on : Simple l q → Climb x q → Next x q

  pub data Over : ℕ → Type 0 where
    top : {q : ℕ} → q ≡ 1 → Over q
    out : {q : ℕ} → 1 < q → Shut (parent_of l q) q → Over (parent_of l q) → Over q

module _ (vs : Values) (l : Listing) where
  -- a leaf's row with a value of its type, or a group's row
  abbrev pub OfKind : Kind → Option vs.Value → Type 0
  OfKind k none = is_group k ≡ true
  OfKind k (some v) = ValueOf vs.Is l k v

  abbrev pub ItemOk : ℕ → Option vs.Value → Type 0
  ItemOk r v = OfKind (row_at l r).kind v

  -- the items go one after the other from row q on
  abbrev pub Trail : ℕ → List (Item vs) → Type 0
  Trail q [] = Unit {0}
  Trail q (i ∷ is) = Next l i.0 q × ItemOk i.0 i.1 × Trail i.0 is

  -- from the start: the root's row first
  abbrev pub Trace : List (Item vs) → Type 0
  Trace [] = Unit {0}
  Trace (i ∷ is) = (i ≡ (1, none)) × Trail 1 is

  abbrev pub last_row : ℕ → List (Item vs) → ℕ
  last_row q [] = q
  last_row q (i ∷ is) = last_row i.0 is

  -- and they are a whole content's
  pub record Whole (t : List (Item vs)) : Type 0 where
    pub inside : List (Item vs)
    pub is : t ≡ (1, none) ∷ inside
    pub trail : Trail 1 inside
    pub leaf : Simple l (last_row 1 inside)
    pub over : Over l (last_row 1 inside)
