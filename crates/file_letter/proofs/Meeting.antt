-- Contents that meet a list with values of one sort meet it with those of another: what a file may say, and what an image may hold. Assumes nothing.
use mathlib.Core.Path.{◌≡◌, refl, sym, subst}
use mathlib.Core.Logic.{◌↔◌}
use mathlib.Core.List.{List, [], ◌∷◌, ◌++◌}
use mathlib.Core.Option.{Option, none, some}
use Prim.Native.Nat.{ℕ, ◌%◌}
use native.Mathlib.Omega.{arith}
use native.Mathlib.Decide.{ℕ_discrete}
use Rattle.text.specs.Lists.{Each}
use Rattle.list.specs.Listing.{Leaf, Kind, group, choice, leaf, Listing, row_at}
use Rattle.list.specs.Content.{Content, end, value, node, items, Meets, ValueOf, Good}
pub use Rattle.list.proofs.Retired.{each_first, each_last}
use Rattle.value.specs.parts.Former.{present}
use Rattle.value.specs.Value.{Value, text, place, truth, natural, amount, day, moment, IsValue}
use Rattle.value.specs.Rules.{InThousandths}
use Rattle.value.proofs.Rules.{spelt_fine}
use Rattle.xml.specs.Message.{Attrs, Inside, nothing_inside, character, element}
use Rattle.file_walk.specs.First.{text_of, currency_given}
use Rattle.file_walk.specs.Denotes.{Denotes, Has}
use Rattle.file_walk.proofs.violation.Spells.{Spells, spells_of}
use Rattle.image.specs.Kinds.{values}
use Rattle.image.specs.Image.{Item}
use Rattle.file.specs.Instance.{house_types}
use Rattle.value.specs.Spelled.{Spelled}
use Rattle.value.proofs.script.Scripts.{present_spelt}
use Rattle.file_letter.specs.Stale.{NoneOf, Finer, finer_moment}

module _ (l : Listing) (P Q : Leaf → Value → Type 0) (f : (k : Leaf) (v : Value) → P k v → Q k v) where
  value_on : (k : Kind) (v : Value) → ValueOf P l k v → ValueOf Q l k v
  value_on group v h = h
  value_on choice v h = h
  value_on (leaf k) v h = f k v h

  good_on : (c : Content Value) → Good P l c → Good Q l c
  good_on end h = tt
  good_on (value r v k) h = (value_on (row_at l r).kind v h.0, good_on k h.1)
  good_on (node r c k) h = (h.0, good_on c h.1, good_on k h.2)

  pub meets_on : (c : Content Value) → Meets P l c → Meets Q l c
  meets_on c m = record { root = m.root; good = good_on c m.good }

-- what a file may say, an image may hold
pub said_is : (l : Listing) (c : Content Value) → Meets (Spelled present) l c → Meets IsValue l c
said_is l = meets_on l (Spelled present) IsValue (λ k v s. ((present_spelt k v).1 s).0)

-- ---- the items of a content, those of its parts

pub both_each : {A : Type 0} (P : A → Type 0) (a b : List A) → Each P a → Each P b → Each P (a ++ b)
both_each P [] b h k = k
both_each P (x ∷ a) b h k = (h.0, both_each P a b h.1 k)

-- ---- a finer date-time among them

pub fine_or : (v : Value) → Dec (InThousandths v)
fine_or (text cs) = yes tt
fine_or (place n) = yes tt
fine_or (truth b) = yes tt
fine_or (natural n) = yes tt
fine_or (amount w k c) = yes tt
fine_or (day y m d) = yes tt
fine_or (moment y mo d h mi s u z) = ℕ_discrete (u % 1000) 0

-- `Finer` by the value: an item without one is not, and one with a value is where the value is not in thousandths
the_value : {A : Type 0} (x y : A) → Option.some x ≡ Option.some y → x ≡ y
the_value x y e = cc

pub finer_none : (r : ℕ) → Finer (r, none) → ⊥
finer_none r (finer_moment y mo d h mi s u z e n) = let q : ◌≡◌ {A = ℕ} 0 1 = cc in omega arith

pub finer_not : (r : ℕ) (v : Value) → Finer (r, some v) → InThousandths v → ⊥
finer_not r v (finer_moment y mo d h mi s u z e n) q = n (subst InThousandths (the_value v (moment y mo d h mi s u z) e) q)

pub not_finer : (r : ℕ) (v : Value) → (InThousandths v → ⊥) → Finer (r, some v)
not_finer r (text cs) n = absurd (n tt)
not_finer r (place k) n = absurd (n tt)
not_finer r (truth b) n = absurd (n tt)
not_finer r (natural k) n = absurd (n tt)
not_finer r (amount w k c) n = absurd (n tt)
not_finer r (day y m d) n = absurd (n tt)
not_finer r (moment y mo d h mi s u z) n = finer_moment y mo d h mi s u z refl n

fine : (r : ℕ) (v : Value) → (Finer (r, some v) → ⊥) → InThousandths v
fine r v h = go (fine_or v)
  where
    go : Dec (InThousandths v) → InThousandths v
    go (yes f) = f
    go (no f) = absurd (h (not_finer r v f))

-- a finer value is spelt by no text under the present rule
pub finer_unspelt : (r : ℕ) (v : Value) → Finer (r, some v) → (k : Leaf) → Spelled present k v → ⊥
finer_unspelt r v h k s = finer_not r v h ((present_spelt k v).1 s).1

module _ (l : Listing) where
  said_value : (k : Kind) (v : Value) → InThousandths v → ValueOf IsValue l k v → ValueOf (Spelled present) l k v
  said_value group v q h = h
  said_value choice v q h = h
  said_value (leaf k) v q h = (present_spelt k v).0 (h, q)

  fine_value : (k : Kind) (v : Value) → ValueOf (Spelled present) l k v → InThousandths v
  fine_value group v h = absurd h
  fine_value choice v h = absurd h
  fine_value (leaf k) v h = ((present_spelt k v).1 h).1

  good_said : (c : Content Value) → NoneOf Finer (items c) → Good IsValue l c → Good (Spelled present) l c
  good_said end n h = tt
  good_said (value r v k) n h = (said_value (row_at l r).kind v (fine r v n.0) h.0, good_said k n.1 h.1)
  good_said (node r c k) n h = (
    h.0,
    good_said c (each_first (λ (i : Item values). Finer i → ⊥) (items c) (items k) n.1) h.1,
    good_said k (each_last (λ (i : Item values). Finer i → ⊥) (items c) (items k) n.1) h.2,
  )

  good_fine : (c : Content Value) → Good (Spelled present) l c → NoneOf Finer (items c)
  good_fine end h = tt
  good_fine (value r v k) h = ((λ f. finer_not r v f (fine_value (row_at l r).kind v h.0)), good_fine k h.1)
  good_fine (node r c k) h = (finer_none r, both_each (λ (i : Item values). Finer i → ⊥) (items c) (items k) (good_fine c h.1) (good_fine k h.2))

  -- of the contents that an image may hold a file may say those without a finer date-time
  pub none_finer : (c : Content Value) → Meets IsValue l c → NoneOf Finer (items c) ↔ Meets (Spelled present) l c
  none_finer c m = ((λ n. record { root = m.root; good = good_said c n m.good }), (λ s. good_fine c s.good))

  -- a message says no finer date-time
  spells_fine : (k : Kind) (ats : Attrs) (i : Inside) (v : Value) → Spells house_types l k ats i v → InThousandths v
  spells_fine group ats i v s = absurd s
  spells_fine choice ats i v s = absurd s
  spells_fine (leaf k) ats i v s = spelt_fine k (currency_given ats) (text_of i) v s.2

  denoted_fine : (p : ℕ) (i : Inside) (c : Content Value) → Denotes house_types l p i c → NoneOf Finer (items c)
  denoted_fine p nothing_inside end d = tt
  denoted_fine p nothing_inside (value r v c) d = absurd d
  denoted_fine p nothing_inside (node r b c) d = absurd d
  denoted_fine p (character o x k) c d = denoted_fine p k c d.1
  denoted_fine p (element o n ats i k) end d = absurd d
  denoted_fine p (element o n ats i k) (value r v c) d = ((λ f. finer_not r v f (spells_fine (row_at l r).kind ats i v (spells_of house_types l r ats i v d.1))), denoted_fine p k c d.2)
  denoted_fine p (element o n ats i k) (node r b c) d = (finer_none r, both_each (λ (j : Item values). Finer j → ⊥) (items b) (items c) (denoted_fine r i b d.2) (denoted_fine p k c d.3))

  pub has_fine : (m : Inside) (c : Content Value) → Has house_types l m c → NoneOf Finer (items c)
  has_fine nothing_inside c h = absurd h
  has_fine (character o x k) c h = absurd h
  has_fine (element o n ats i k) c h =
      subst (λ (z : Content Value). NoneOf Finer (items z)) (sym h.is)
      (finer_none 1, both_each (λ (j : Item values). Finer j → ⊥) (items h.kids) [] (denoted_fine 1 i h.kids h.parts) tt)

  -- so what a message says is said by the present rule
  pub has_said : (m : Inside) (c : Content Value) → Meets IsValue l c → Has house_types l m c → Meets (Spelled present) l c
  has_said m c n h = (none_finer c n).0 (has_fine m c h)
