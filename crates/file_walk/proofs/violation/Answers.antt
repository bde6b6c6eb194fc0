-- First answers, and the small tests that they are made of. Assumes nothing.
use Rattle.std.specs.Prelude.{Ok, Err}
use mathlib.Core.Path.{◌≡◌, refl, sym}
use mathlib.Core.Bool.{Bool, true, false, ◌&&◌, not, true≢false, false≢true}
use mathlib.Core.List.{List, [], ◌∷◌}
use mathlib.Core.Option.{Option}
use Prim.Native.Nat.{ℕ, ◌≤◌, ◌<◌}
use native.Mathlib.Omega.{arith}
use lib.Dec.{ltb}
use lib.ListN.{length}
use borrow.Author.Tests.{ltb-false, le-ltb}
use Rattle.answer.specs.declared.Answer.{Answer}
use Rattle.text.specs.Lists.{Each, same}
use Rattle.list.specs.Listing.{Leaf, Kind, group, choice, leaf, is_group}
use Rattle.xml.specs.Message.{Attrs}
use Rattle.file_walk.specs.Types.{Judge}
use Rattle.file_walk.specs.mirror.Machine.{is_none}
use Rattle.file_walk.specs.First.{Found, refuse, or_else, is_empty, passed, only, attrs_ok}
use Rattle.text.proofs.Classes.{and_is, or_not}
use Rattle.list.proofs.rows.Words.{same_eq, same_refl}

-- ---- the first of some answers

pub or_fine : (f g : Found) → or_else f g ≡ Ok tt → (f ≡ Ok tt) × (g ≡ Ok tt)
or_fine (Ok tt) g e = (refl, e)
or_fine (Err a) g e = let z : ◌≡◌ {A = ℕ} 0 1 = cc in absurd (omega arith)

pub or_right : (a : Found) → or_else a (Ok tt) ≡ a
or_right (Ok tt) = refl
or_right (Err x) = refl

pub or_when : (a x y : Found) → (a ≡ Ok tt → x ≡ y) → or_else a x ≡ or_else a y
or_when (Ok tt) x y f = f refl
or_when (Err v) x y f = refl

pub or_assoc : (a b c : Found) → or_else (or_else a b) c ≡ or_else a (or_else b c)
or_assoc (Ok tt) b c = refl
or_assoc (Err v) b c = refl

pub refuse_no : (b : Bool) (a : Answer) → refuse b a ≡ Ok tt → b ≡ false
refuse_no true a e = let z : ◌≡◌ {A = ℕ} 0 1 = cc in absurd (omega arith)
refuse_no false a e = refl

-- ---- both, and not

pub and_not : (a b : Bool) → (a && b) ≡ false → a ≡ true → b ≡ false
and_not true b e f = e
and_not false b e f = absurd (false≢true f)

pub imp_and : (a b : Bool) → (a ≡ true → b ≡ false) → (a && b) ≡ false
imp_and true b f = f refl
imp_and false b f = refl

-- two tests that imply each other are equal
pub iff_same : (a b : Bool) → (a ≡ true → b ≡ true) → (b ≡ true → a ≡ true) → a ≡ b
iff_same true b f g = sym (f refl)
iff_same false true f g = absurd (false≢true (g refl))
iff_same false false f g = refl

-- ---- lists and attributes

pub empty_no : (rs : List ℕ) → is_empty rs ≡ false → 0 < length rs
empty_no [] e = absurd (true≢false e)
empty_no (r ∷ rs) e = omega arith

pub no_empty : (rs : List ℕ) → 0 < length rs → is_empty rs ≡ false
no_empty [] h = absurd (omega arith)
no_empty (r ∷ rs) h = refl

pub empty_yes : {A : Type 0} (rs : List A) → is_empty rs ≡ true → rs ≡ []
empty_yes [] e = refl
empty_yes (r ∷ rs) e = absurd (false≢true e)

-- not passed: each is at most r
pub passed_no : (r : ℕ) (rs : List ℕ) → passed r rs ≡ false → Each (λ q. q ≤ r) rs
passed_no r [] e = tt
passed_no r (q ∷ rs) e = let w = or_not (ltb r q) (passed r rs) e in (ltb-false r q w.0, passed_no r rs w.1)

pub no_passed : (r : ℕ) (rs : List ℕ) → Each (λ q. q ≤ r) rs → passed r rs ≡ false
no_passed r [] e = refl
no_passed r (q ∷ rs) e = rw (le-ltb r q e.0) (no_passed r rs e.1)

pub only_yes : (n v : List ℕ) (ats : Attrs) → only n v ats ≡ true → ats ≡ (n, v) ∷ []
only_yes n v [] e = absurd (false≢true e)
only_yes n v (a ∷ []) e =
    let w = and_is (same n a.0) (same v a.1) e in
    rw (same_eq n a.0 w.0, same_eq v a.1 w.1)
only_yes n v (a ∷ b ∷ ats) e = absurd (false≢true e)

pub yes_only : (n v : List ℕ) (ats : Attrs) → ats ≡ (n, v) ∷ [] → only n v ats ≡ true
yes_only n v ats e = rw (e, same_refl n, same_refl v)

-- a group has no attributes
pub group_attrs : (j : Judge) (k : Kind) (ats : Attrs) → is_group k ≡ true → attrs_ok j k ats ≡ true → ats ≡ []
group_attrs j group ats g e = empty_yes ats e
group_attrs j choice ats g e = empty_yes ats e
group_attrs j (leaf f) ats g e = absurd (false≢true g)

pub attrs_group : (j : Judge) (k : Kind) (ats : Attrs) → is_group k ≡ true → ats ≡ [] → attrs_ok j k ats ≡ true
attrs_group j group ats g e = rw e
attrs_group j choice ats g e = rw e
attrs_group j (leaf f) ats g e = absurd (false≢true g)

-- ---- kinds and values

-- a kind is a group's or a leaf's
pub kinds : {P : Type 0} (k : Kind) → (is_group k ≡ true → P) → ((f : Leaf) → k ≡ leaf f → P) → P
kinds group a b = a refl
kinds choice a b = a refl
kinds (leaf f) a b = b f refl

pub not_none : {A : Type 0} (x : Option A) → not (is_none x) ≡ true → is_none x ≡ false
not_none Option.none e = absurd (false≢true e)
not_none (Option.some v) e = refl

pub some_of : {A : Type 0} (x : Option A) → is_none x ≡ false → (v : A) × (x ≡ Option.some v)
some_of Option.none e = absurd (true≢false e)
some_of (Option.some v) e = (v, refl)
