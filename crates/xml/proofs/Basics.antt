-- Blanks, names that differ, and tests. Assumes nothing.
use mathlib.Core.Path.{◌≡◌, refl, sym, ◌∙◌, ap, subst}
use mathlib.Core.Logic.{◌≢◌}
use mathlib.Core.Bool.{Bool, true, false, ◌||◌, true≢false}
use mathlib.Core.List.{List, [], ◌∷◌, ◌++◌}
use Prim.Native.Nat.{ℕ, zero, suc, ◌+◌, ◌<◌}
use native.Mathlib.Omega.{arith}
use lib.Dec.{eqb}
use lib.ListN.{length, length-append}
use borrow.Author.Tests.{eqb-true, ne_eqb}
use Rattle.text.specs.Bytes.{in_range, is_blank, is_name_start, is_name_part}
use Rattle.text.specs.Lists.{All, Begins, same, Each}
use Rattle.text.proofs.Parts.{same_eq, same_not}
use Rattle.xml.specs.House.{IsName, IsAttrName}
use Rattle.xml.specs.mirror.Auto.{member}

-- a blank is one of four bytes
pub by_blank : (P : ℕ → Type 0) (x : ℕ) → is_blank x ≡ true → P 32 → P 9 → P 10 → P 13 → P x
unfolding is_blank
by_blank P x e a b c d = go (eqb x 32) (eqb x 9) (eqb x 10) (eqb x 13) refl refl refl refl e
  where
    go : (u v w z : Bool) → eqb x 32 ≡ u → eqb x 9 ≡ v → eqb x 10 ≡ w → eqb x 13 ≡ z → (u || v || w || z) ≡ true → P x
    go true v w z p q r s h = subst P (sym (eqb-true x 32 p)) a
    go false true w z p q r s h = subst P (sym (eqb-true x 9 q)) b
    go false false true z p q r s h = subst P (sym (eqb-true x 10 r)) c
    go false false false true p q r s h = subst P (sym (eqb-true x 13 s)) d
    go false false false false p q r s h = absurd (true≢false (sym h))

pub blank_no_rest : (x : ℕ) → is_blank x ≡ true → is_name_part x ≡ false
unfolding is_name_part
blank_no_rest x e = by_blank (λ (y : ℕ). is_name_part y ≡ false) x e refl refl refl refl

pub blank_no_start : (x : ℕ) → is_blank x ≡ true → is_name_start x ≡ false
unfolding is_name_start
blank_no_start x e = by_blank (λ (y : ℕ). is_name_start y ≡ false) x e refl refl refl refl

-- ---- all that pass a test

pub all_append : (p : ℕ → Bool) (a b : List ℕ) → All p a → All p b → All p (a ++ b)
all_append p [] b h k = k
all_append p (x ∷ a) b h k = (h.0, all_append p a b h.1 k)

pub all_weaken : (p q : ℕ → Bool) → ((x : ℕ) → p x ≡ true → q x ≡ true) → (l : List ℕ) → All p l → All q l
all_weaken p q f [] h = tt
all_weaken p q f (x ∷ l) h = (f x h.0, all_weaken p q f l h.1)

-- ---- names by their bytes

start_part : (x : ℕ) → is_name_start x ≡ true → is_name_part x ≡ true
unfolding is_name_start is_name_part
start_part x = go (in_range 65 90 x) (in_range 97 122 x) (in_range 48 57 x) (eqb x 46) (eqb x 45) (eqb x 95)
  where
    go : (a b c d e f : Bool) → (a || b || f) ≡ true → (a || b || c || d || e || f) ≡ true
    go true b c d e f h = refl
    go false true c d e f h = refl
    go false false true d e f h = refl
    go false false false true e f h = refl
    go false false false false true f h = refl
    go false false false false false f h = h

pub name_all : (n : List ℕ) → IsName n → All is_name_part n
name_all [] i = absurd i
name_all (x ∷ n) i = (start_part x i.0, i.1)

-- a part of an attribute's name: of a name, or the colon
abbrev pub is_full_part : ℕ → Bool
is_full_part x = is_name_part x || eqb x 58

pub no_colon : (x : ℕ) → is_name_part x ≡ true → eqb x 58 ≡ false
unfolding is_name_part
no_colon x e = ne_eqb x 58 (λ z. true≢false (sym e ∙ ap is_name_part z))

part_full : (x : ℕ) → is_name_part x ≡ true → is_full_part x ≡ true
part_full x e = ap (λ (z : Bool). z || eqb x 58) e

pub start_full : (x : ℕ) → is_name_start x ≡ true → is_full_part x ≡ true
start_full x e = part_full x (start_part x e)

pub blank_no_full : (x : ℕ) → is_blank x ≡ true → is_full_part x ≡ false
unfolding is_name_part
blank_no_full x e = by_blank (λ (y : ℕ). is_full_part y ≡ false) x e refl refl refl refl

-- an attribute's name begins as a name does, and goes on by such parts
pub name_full : (n : List ℕ) → IsName n → Begins is_name_start is_full_part n
name_full [] i = i
name_full (x ∷ n) i = (i.0, all_weaken is_name_part is_full_part part_full n i.1)

two_full : (p q : List ℕ) → IsName p → IsName q → Begins is_name_start is_full_part (p ++ (58 ∷ q))
unfolding is_name_part
two_full [] q i j = absurd i
two_full (x ∷ p) q i j =
    (i.0, all_append is_full_part p (58 ∷ q) (all_weaken is_name_part is_full_part part_full p i.1) (refl, all_weaken is_name_part is_full_part part_full q (name_all q j)))

pub full_name : (n : List ℕ) → IsAttrName n → Begins is_name_start is_full_part n
full_name n (IsAttrName.unprefixed i) = name_full n i
full_name n (IsAttrName.prefixed p q i j e) = subst (Begins is_name_start is_full_part) (sym e) (two_full p q i j)

-- ---- names that differ

-- `member` tells names apart
-- a name that is none of those
abbrev pub Fresh : List ℕ → List (List ℕ) → Type 0
Fresh n ms = Each (λ (m : List ℕ). n ≢ m) ms

pub fresh_member : (n : List ℕ) (ss : List (List ℕ)) → Fresh n ss → member n ss ≡ false
fresh_member n [] f = refl
fresh_member n (m ∷ ss) f = go (same n m) refl (fresh_member n ss f.1)
  where
    go : (u : Bool) → same n m ≡ u → member n ss ≡ false → (u || member n ss) ≡ false
    go true p ih = absurd (f.0 (same_eq n m p))
    go false p ih = ih

pub member_fresh : (n : List ℕ) (ss : List (List ℕ)) → member n ss ≡ false → Fresh n ss
member_fresh n [] e = tt
member_fresh n (m ∷ ss) e = go (same n m) refl e (member_fresh n ss)
  where
    go : (u : Bool) → same n m ≡ u → (u || member n ss) ≡ false → (member n ss ≡ false → Fresh n ss) → (n ≢ m) × Fresh n ss
    go true p h ih = absurd (true≢false h)
    go false p h ih = (same_not n m p, ih h)

-- a name that is longer than all those together is none of them
abbrev pub size : List (List ℕ) → ℕ
size [] = 0
size (m ∷ ss) = length m + size ss

pub longer : (n : List ℕ) (ss : List (List ℕ)) → size ss < length n → Fresh n ss
longer n [] h = tt
longer n (m ∷ ss) h = ((λ e. let f : length n ≡ length m = ap length e in omega arith), longer n ss (omega arith))

-- so many letters a
abbrev pub many : ℕ → List ℕ
many zero = []
many (suc k) = 97 ∷ many k

pub many_length : (k : ℕ) → length (many k) ≡ k
many_length zero = refl
many_length (suc k) = ap suc (many_length k)

pub grown : (b : List ℕ) (ss : List (List ℕ)) → Fresh (b ++ many (suc (size ss))) ss
grown b ss = longer (b ++ many (suc (size ss))) ss (omega (arith, length-append b (many (suc (size ss))), many_length (suc (size ss))))
