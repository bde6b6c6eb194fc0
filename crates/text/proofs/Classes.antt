-- A class of numbers, made of single numbers and ranges: its test, and what the test says of a number. Assumes nothing.
use Rattle.std.proofs.Common.{◌≡◌, ℕ, zero, suc, ◌+◌, ◌<◌, ◌≤◌, Bool, true, false, not, ◌&&◌, ◌||◌, eqb, leb, ◌≢◌, ◌⊎◌, List, [], ◌∷◌, sym, refl, ◌∙◌, inl, inr, true≢false, arith, le-ltb, lt-ltb, eq-eqb, ne_eqb, eqb-true, le-leb, leb-true}
use mathlib.Core.Bool.{or-false}
use native.Mathlib.Decide.{ℕ_discrete}
use types.Run.{OneOf}
use borrow.Author.Tests.{not-true, eqb-false}
use Rattle.text.specs.Bytes.{in_range, is_ascii, is_blank, is_capital, is_letter, is_digit, is_name_start, is_name_part}

-- tests in the order in which `||` groups them, so that a test of the definitions is `test` of its class as it stands
infixl 30 ◌or◌
pub data Class : Type 0 where
  only : ℕ → Class
  from : ℕ → ℕ → Class
  ◌or◌ : Class → Class → Class

abbrev pub test : Class → ℕ → Bool
test (only a) x = eqb x a
test (from a b) x = in_range a b x
test (p or q) x = test p x || test q x

-- a number of the class
abbrev pub Within : Class → ℕ → Type 0
Within (only a) x = x ≡ a
Within (from a b) x = (a ≤ x) × (x ≤ b)
Within (p or q) x = Within p x ⊎ Within q x

-- a number that is none
abbrev pub Outside : Class → ℕ → Type 0
Outside (only a) x = x ≢ a
Outside (from a b) x = a ≤ x → x ≤ b → ⊥
Outside (p or q) x = Outside p x × Outside q x

-- ---- tests

pub and_is : (a b : Bool) → (a && b) ≡ true → (a ≡ true) × (b ≡ true)
and_is true b e = (refl, e)
and_is false b e = absurd (true≢false (sym e))

pub or_is : (a b : Bool) → (a || b) ≡ true → (a ≡ true) ⊎ (b ≡ true)
or_is true b e = inl refl
or_is false b e = inr e

pub or_not : (a b : Bool) → (a || b) ≡ false → (a ≡ false) × (b ≡ false)
or_not true b e = absurd (true≢false e)
or_not false b e = (refl, e)

-- a test whose being true is refuted
pub not_so : (b : Bool) → (b ≡ true → ⊥) → b ≡ false
not_so true f = absurd (f refl)
not_so false f = refl

pub in_range_lem : (a b x : ℕ) → a ≤ x → x ≤ b → in_range a b x ≡ true
in_range_lem a b x p q = simp (le-leb a x p, le-leb x b q)

pub in_range_is : (a b x : ℕ) → in_range a b x ≡ true → (a ≤ x) × (x ≤ b)
in_range_is a b x e = let w = and_is (leb a x) (leb x b) e in (leb-true a x w.0, leb-true x b w.1)

-- ---- the class of a test

pub within : (p : Class) (x : ℕ) → Within p x → test p x ≡ true
within (only a) x h = eq-eqb x a h
within (from a b) x h = in_range_lem a b x h.0 h.1
within (p or q) x (inl h) = rw (within p x h)
within (p or q) x (inr h) = go (test p x) (within q x h)
  where
    go : (b : Bool) → test q x ≡ true → (b || test q x) ≡ true
    go true e = refl
    go false e = e

pub is_within : (p : Class) (x : ℕ) → test p x ≡ true → Within p x
is_within (only a) x e = eqb-true x a e
is_within (from a b) x e = in_range_is a b x e
is_within (p or q) x e = go (or_is (test p x) (test q x) e) (is_within p x) (is_within q x)
  where
    go : (test p x ≡ true) ⊎ (test q x ≡ true) → (test p x ≡ true → Within p x) → (test q x ≡ true → Within q x) → Within p x ⊎ Within q x
    go (inl h) f g = inl (f h)
    go (inr h) f g = inr (g h)

pub outside : (p : Class) (x : ℕ) → Outside p x → test p x ≡ false
outside (only a) x h = ne_eqb x a h
outside (from a b) x h = not_so (in_range a b x) (λ e. let w = in_range_is a b x e in h w.0 w.1)
outside (p or q) x h = rw (outside p x h.0, outside q x h.1)

pub is_outside : (p : Class) (x : ℕ) → test p x ≡ false → Outside p x
is_outside (only a) x e = eqb-false x a e
is_outside (from a b) x e = λ h k. true≢false (sym (in_range_lem a b x h k) ∙ e)
is_outside (p or q) x e = let w = or_not (test p x) (test q x) e in (is_outside p x w.0, is_outside q x w.1)

-- ---- a range that passes, computed

abbrev pub every : (ℕ → Bool) → ℕ → ℕ → Bool
every p a zero = true
every p a (suc n) = p a && every p (suc a) n

pub passes : (p : ℕ → Bool) (a n : ℕ) → every p a n ≡ true → (x : ℕ) → a ≤ x → x < a + n → p x ≡ true
passes p a zero e x h k = absurd (omega arith)
passes p a (suc n) e x h k =
    let w = and_is (p a) (every p (suc a) n) e in
    go (ℕ_discrete x a) w.0 (passes p (suc a) n w.1 x)
  where
    go : Dec (x ≡ a) → p a ≡ true → (suc a ≤ x → x < suc a + n → p x ≡ true) → p x ≡ true
    go (Prim.yes d) f g = rw d f
    go (Prim.no d) f g = g (omega arith) (omega arith)

-- ---- the keys of a `match`, and a range but for its keys, computed

abbrev pub all_of : (ℕ → Bool) → List ℕ → Bool
all_of p [] = true
all_of p (k ∷ ks) = p k && all_of p ks

abbrev pub elem : List ℕ → ℕ → Bool
elem [] x = false
elem (k ∷ ks) x = eqb x k || elem ks x

pub key_passes : (p : ℕ → Bool) (ks : List ℕ) → all_of p ks ≡ true → (x : ℕ) → OneOf ks x → p x ≡ true
key_passes p [] e x h = elim h [ ]
key_passes p (k ∷ []) e x h = rw h (and_is (p k) true e).0
key_passes p (k ∷ j ∷ ks) e x (inl h) = rw h (and_is (p k) (all_of p (j ∷ ks)) e).0
key_passes p (k ∷ j ∷ ks) e x (inr h) = key_passes p (j ∷ ks) (and_is (p k) (all_of p (j ∷ ks)) e).1 x h

elem_key : (ks : List ℕ) (x : ℕ) → elem ks x ≡ true → OneOf ks x
elem_key [] x e = absurd (true≢false (sym e))
elem_key (k ∷ []) x e = go (or_is (eqb x k) false e)
  where
    go : (eqb x k ≡ true) ⊎ (false ≡ true) → x ≡ k
    go (inl h) = eqb-true x k h
    go (inr h) = absurd (true≢false (sym h))
elem_key (k ∷ j ∷ ks) x e = go (or_is (eqb x k) (elem (j ∷ ks) x) e) (elem_key (j ∷ ks) x)
  where
    go : (eqb x k ≡ true) ⊎ (elem (j ∷ ks) x ≡ true) → (elem (j ∷ ks) x ≡ true → OneOf (j ∷ ks) x) → (x ≡ k) ⊎ OneOf (j ∷ ks) x
    go (inl h) f = inl (eqb-true x k h)
    go (inr h) f = inr (f h)

-- ---- a test of the definitions with its class

pub record Named (f : ℕ → Bool) (p : Class) : Type 0 where
  pub is : (x : ℕ) → f x ≡ test p x

module _ {f : ℕ → Bool} {p : Class} (d : Named f p) where
  pub yes : (a n : ℕ) → every (test p) a n ≡ true → {x : ℕ} → a ≤ x → x < a + n → true ≡ f x
  yes a n e {x} h k = sym (d.is x ∙ passes (test p) a n e x h k)

  pub yes_in : {x : ℕ} → Within p x → true ≡ f x
  yes_in {x} h = sym (d.is x ∙ within p x h)

  pub yes_key : (ks : List ℕ) → all_of (test p) ks ≡ true → {x : ℕ} → OneOf ks x → true ≡ f x
  yes_key ks e {x} h = sym (d.is x ∙ key_passes (test p) ks e x h)

  pub no_key : (ks : List ℕ) → all_of (λ (y : ℕ). not (test p y)) ks ≡ true → {x : ℕ} → OneOf ks x → false ≡ f x
  no_key ks e {x} h = sym (d.is x ∙ not-true (test p x) (key_passes (λ (y : ℕ). not (test p y)) ks e x h))

  -- n numbers from a on, but for the keys of two rows
  pub yes_but : (a n : ℕ) (ks ls : List ℕ) → every (λ (y : ℕ). test p y || elem ks y || elem ls y) a n ≡ true
      → {x : ℕ} → a ≤ x → x < a + n → (OneOf ks x → ⊥) → (OneOf ls x → ⊥) → true ≡ f x
  yes_but a n ks ls e {x} h k u v =
      let m : (test p x || elem ks x || elem ls x) ≡ true = passes (λ (y : ℕ). test p y || elem ks y || elem ls y) a n e x h k in
      let i : elem ks x ≡ false = not_so (elem ks x) (λ z. u (elem_key ks x z)) in
      let j : elem ls x ≡ false = not_so (elem ls x) (λ z. v (elem_key ls x z)) in
      sym (d.is x ∙ (rw (i, j, or-false (test p x || false), or-false (test p x)) at m))

  pub no : {x : ℕ} → Outside p x → false ≡ f x
  no {x} h = sym (d.is x ∙ outside p x h)

  -- what a number that passes is, and one that does not
  pub is_in : (x : ℕ) → f x ≡ true → Within p x
  is_in x e = is_within p x (sym (d.is x) ∙ e)

-- the classes of document 01
pub blank : Named is_blank (only 32 or only 9 or only 10 or only 13)
unfolding is_blank
blank = record { is = λ x. refl }

pub capital : Named is_capital (from 65 90)
unfolding is_capital
capital = record { is = λ x. refl }

pub letter : Named is_letter (from 65 90 or from 97 122)
unfolding is_letter
letter = record { is = λ x. refl }

pub digit : Named is_digit (from 48 57)
unfolding is_digit
digit = record { is = λ x. refl }

pub name_start : Named is_name_start (from 65 90 or from 97 122 or only 95)
unfolding is_name_start
name_start = record { is = λ x. refl }

pub name_part : Named is_name_part (from 65 90 or from 97 122 or from 48 57 or only 46 or only 45 or only 95)
unfolding is_name_part
name_part = record { is = λ x. refl }

-- ---- below the first byte that is no ASCII

pub is_ascii_lem : (x : ℕ) → x < 0x80 → true ≡ is_ascii x
unfolding is_ascii
is_ascii_lem x h = sym (lt-ltb x 0x80 h)

pub no_ascii : (x : ℕ) → 0x80 ≤ x → false ≡ is_ascii x
unfolding is_ascii
no_ascii x h = sym (le-ltb x 0x80 h)
