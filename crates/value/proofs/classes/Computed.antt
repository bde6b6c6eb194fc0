-- Laws over a class of bytes, each one computed test: how far a class reaches, what its bytes are besides, and the quiet bytes of a
-- reference and of a text. Assumes nothing.
use mathlib.Core.Path.{◌≡◌, refl, sym, ◌∙◌}
use mathlib.Core.Bool.{Bool, true, false, ◌&&◌, ◌||◌, not, true≢false}
use mathlib.Core.Logic.{◌≢◌, inl, inr}
use mathlib.Core.List.{List}
use Prim.Native.Nat.{ℕ, ◌≤◌, ◌<◌}
use native.Mathlib.Omega.{arith}
use lib.Dec.{leb, ltb, eqb}
use types.Run.{OneOf}
use borrow.Author.Tests.{leb-true, ltb-true, lt-ltb, eqb-false, ne_eqb, not-true}
use Rattle.text.proofs.Classes.{Class, only, from, ◌or◌, Within, Named, and_is, every, passes, all_of, key_passes, is_in, not_so, no}
use Rattle.value.specs.types.Text.{is_txt, is_ref}
use Rattle.value.specs.mirror.Texts.{is_ascii_txt, quiet_txt, quiet_ref}
use Rattle.value.proofs.classes.Named.{reference, writing}

-- ---- how far a class reaches

abbrev below : ℕ → Class → Bool
below n (only a) = ltb a n
below n (from a b) = ltb b n
below n (p or q) = below n p && below n q

within_below : (n : ℕ) (p : Class) → below n p ≡ true → (x : ℕ) → Within p x → x < n
within_below n (only a) e x h = let k = ltb-true a n e in omega arith
within_below n (from a b) e x h = let k = ltb-true b n e in omega (arith, h.1)
within_below n (p or q) e x (inl h) = within_below n p (and_is (below n p) (below n q) e).0 x h
within_below n (p or q) e x (inr h) = within_below n q (and_is (below n p) (below n q) e).1 x h

pub low : {f : ℕ → Bool} {p : Class} → Named f p → (n : ℕ) → below n p ≡ true → (x : ℕ) → f x ≡ true → x < n
low {f} {p} d n e x h = within_below n p e x (is_in d x h)

-- ---- what a byte is besides, and the keys of a `match`

pub besides : (f g : ℕ → Bool) (n : ℕ) → every (λ (y : ℕ). not (f y) || g y) 0 n ≡ true → (x : ℕ) → x < n → f x ≡ true → g x ≡ true
besides f g n e x h k = let m : (not (f x) || g x) ≡ true = passes (λ (y : ℕ). not (f y) || g y) 0 n e x (omega arith) (omega arith) in (rw k at m)

pub keys_not : (f : ℕ → Bool) (ks : List ℕ) → all_of (λ (y : ℕ). not (f y)) ks ≡ true → {x : ℕ} → OneOf ks x → false ≡ f x
keys_not f ks e {x} h = sym (not-true (f x) (key_passes (λ (y : ℕ). not (f y)) ks e x h))

-- ---- a byte that stands for itself

abbrev pub own : ℕ → Bool
own x = leb 32 x && not (eqb x 38 || eqb x 60)

pub record Own (x : ℕ) : Type 0 where
  pub low : 32 ≤ x
  pub ampersand : x ≢ 38
  pub less : x ≢ 60

or_no : (a b : Bool) → not (a || b) ≡ true → (a ≡ false) × (b ≡ false)
or_no true b e = absurd (true≢false (sym e))
or_no false b e = (refl, not-true b e)

pub own_is : (x : ℕ) → own x ≡ true → Own x
own_is x e =
    let w = and_is (leb 32 x) (not (eqb x 38 || eqb x 60)) e in
    let n = or_no (eqb x 38) (eqb x 60) w.1 in
    record { low = leb-true 32 x w.0; ampersand = eqb-false x 38 n.0; less = eqb-false x 60 n.1 }

-- ---- a reference: its quiet bytes and the slash

pub ref_low : (x : ℕ) → is_ref x ≡ true → x < 128
ref_low x e = low reference 128 refl x e

pub ref_own : (x : ℕ) → is_ref x ≡ true → Own x
unfolding is_ref
ref_own x e = own_is x (besides is_ref own 128 refl x (ref_low x e) e)

pub slash_ref : true ≡ is_ref 47
unfolding is_ref
slash_ref = refl

pub quiet_ref_lem : (x : ℕ) → x ≢ 47 → quiet_ref x ≡ is_ref x
quiet_ref_lem x n = rw (ne_eqb x 47 n) (and-true (is_ref x))
  where
    and-true : (b : Bool) → (b && true) ≡ b
    and-true true = refl
    and-true false = refl

pub quiet_is : (x : ℕ) → quiet_ref x ≡ true → (is_ref x ≡ true) × (x ≢ 47)
quiet_is x e = let w = and_is (is_ref x) (not (eqb x 47)) e in (w.0, eqb-false x 47 (not-true (eqb x 47) w.1))

pub quiet_none : (x : ℕ) → false ≡ is_ref x → false ≡ quiet_ref x
quiet_none x e = rw (sym e)

-- ---- a text: its characters of one byte

pub ascii_is : (x : ℕ) → is_ascii_txt x ≡ true → (x < 128) × (is_txt x ≡ true)
unfolding is_ascii_txt
ascii_is x e = let w = and_is (ltb x 128) (is_txt x) e in (ltb-true x 128 w.0, w.1)

pub ascii_so : (x : ℕ) → x < 128 → is_txt x ≡ is_ascii_txt x
unfolding is_ascii_txt
ascii_so x h = sym (rw (lt-ltb x 128 h))

pub ascii_far : (x : ℕ) → 126 < x → false ≡ is_ascii_txt x
ascii_far x h = sym (not_so (is_ascii_txt x) (λ e. far (ascii_is x e)))
  where
    far : (x < 128) × (is_txt x ≡ true) → ⊥
    far w = true≢false (sym w.1 ∙ sym (no writing {x = x} (omega (arith, w.0))))

pub quiet_txt_lem : (x : ℕ) → quiet_txt x ≡ true → (is_ascii_txt x ≡ true) × Own x
unfolding quiet_txt is_ascii_txt is_txt
quiet_txt_lem x e =
    let w = and_is (is_ascii_txt x) (not (eqb x 38 || eqb x 60)) e in
    (w.0, own_is x (besides quiet_txt own 128 refl x (ascii_is x w.0).0 e))

pub quiet_far : (x : ℕ) → 128 ≤ x → quiet_txt x ≡ false
unfolding quiet_txt
quiet_far x h = rw (sym (ascii_far x (omega arith)))

-- all of them are scalar values
pub txt_low : (x : ℕ) → is_txt x ≡ true → x < 0x20AD
txt_low x e = low writing 0x20AD refl x e
