-- Blanks at both ends: where what is left has no blank, they are all of them. Assumes nothing.
use mathlib.Core.Path.{◌≡◌, refl, sym, ◌∙◌, ap, subst}
use mathlib.Core.Bool.{true, false, true≢false}
use mathlib.Core.List.{List, [], ◌∷◌, ◌++◌}
use Prim.Native.Nat.{ℕ, ◌≤◌}
use native.Mathlib.Omega.{arith}
use lib.ListN.{length, length-append}
use Rattle.text.specs.Bytes.{is_blank}
use Rattle.text.specs.Lists.{Each, All}
use Rattle.value.specs.types.Plain.{Trimmed}
use Rattle.value.proofs.classes.Classes.{Solid, solid_ink, each_all, each_append, each_map}
use Rattle.value.proofs.raw.Raw.{Tame, solid_tame, blank_tame}

-- a text without a blank, with a character at least
pub record Dense (t : List ℕ) : Type 0 where
  pub solid : Each Solid t
  pub some : 1 ≤ length t

-- the blanks before it are all of them
pub clash : (x : ℕ) → is_blank x ≡ true → is_blank x ≡ false → ⊥
clash x a b = true≢false (sym a ∙ b)

pub front : (l m : List ℕ) (x y : ℕ) (t u : List ℕ) → All is_blank l → All is_blank m → is_blank x ≡ false → is_blank y ≡ false → l ++ (x ∷ t) ≡ m ++ (y ∷ u) → x ∷ t ≡ y ∷ u
front [] [] x y t u a b s r e = e
front [] (z ∷ m) x y t u a b s r e = let q : z ≡ x = cc in absurd (clash x (subst (λ (n : ℕ). is_blank n ≡ true) q b.0) s)
front (z ∷ l) [] x y t u a b s r e = let q : z ≡ y = cc in absurd (clash y (subst (λ (n : ℕ). is_blank n ≡ true) q a.0) r)
front (z ∷ l) (w ∷ m) x y t u a b s r e = front l m x y t u a.1 b.1 s r (cc)

-- ends with none
abbrev pub Last : List ℕ → Type 0
Last t = (u : List ℕ) (x : ℕ) → t ≡ u ++ (x ∷ []) → is_blank x ≡ false

last_tail : (y : ℕ) (t : List ℕ) → Last (y ∷ t) → Last t
last_tail y t f u x e = f (y ∷ u) x (ap (λ (v : List ℕ). y ∷ v) e)

-- a list of blanks that ends with none is empty
blank_end : (t r : List ℕ) → All is_blank (t ++ r) → Last t → t ≡ []
blank_end [] r h f = refl
blank_end (x ∷ []) r h f = absurd (clash x h.0 (f [] x refl))
blank_end (x ∷ y ∷ t) r h f = let e = blank_end (y ∷ t) r h.1 (last_tail x (y ∷ t) f) in absurd (let z : ◌≡◌ {A = ℕ} 0 1 = cc in omega arith)

-- and so are those after it
pub back : (u t l m : List ℕ) → Last u → Last t → All is_blank l → All is_blank m → u ++ l ≡ t ++ m → u ≡ t
back [] t l m g f a b e = sym (blank_end t m (subst (All is_blank) e a) f)
back (x ∷ u) [] l m g f a b e = blank_end (x ∷ u) l (subst (All is_blank) (sym e) b) g
back (x ∷ u) (y ∷ t) l m g f a b e =
    let q : x ≡ y = cc in
    let p = back u t l m (last_tail x u g) (last_tail y t f) a b (cc) in
    cc

solid_end : (v : List ℕ) (x : ℕ) → Each Solid (v ++ (x ∷ [])) → Solid x
solid_end [] x s = s.0
solid_end (y ∷ v) x s = solid_end v x s.1

pub solid_last : (t : List ℕ) → Each Solid t → Last t
solid_last t s u x e = solid_ink x (solid_end u x (subst (Each Solid) e s))

-- nothing is left of nothing
pub trim_none : (t : List ℕ) → Trimmed [] t → Dense t → ⊥
trim_none t w s = omega (arith, s.some, ap length w.is, length-append w.lead (t ++ w.tail), length-append t w.tail)

pub trim_long : (cs t : List ℕ) → Trimmed cs t → length t ≤ length cs
trim_long cs t w = omega (arith, ap length w.is, length-append w.lead (t ++ w.tail), length-append t w.tail)

-- no entity stands in it
pub trim_tame : (cs t : List ℕ) → Trimmed cs t → Each Solid t → Each Tame cs
trim_tame cs t w s =
    subst (λ (l : List ℕ). Each Tame l) (sym w.is)
    (each_append Tame w.lead (t ++ w.tail) (each_all is_blank Tame blank_tame w.lead w.blanks.0)
    (each_append Tame t w.tail (each_map Solid Tame solid_tame t s) (each_all is_blank Tame blank_tame w.tail w.blanks.1)))
