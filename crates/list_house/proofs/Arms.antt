-- A `match` on a number that answers as a function of it does: each arm is one computed test. Assumes nothing.
use mathlib.Core.Path.{◌≡◌, refl, sym}
use mathlib.Core.Bool.{Bool, true, false, ◌||◌}
use mathlib.Core.List.{List, [], ◌∷◌}
use Prim.Native.Nat.{ℕ, ◌+◌, ◌≤◌, ◌<◌}
use native.Mathlib.Omega.{arith}
use native.Mathlib.Decide.{dec_lt}
use lib.Dec.{eqb}
use mir.Val.{has_key}
use types.Run.{OneOf, hit}
use borrow.Author.Tests.{eqb-true}
use Rattle.text.proofs.Classes.{all_of, key_passes, every, passes, not_so}

-- none of the keys of these arms, the last arm first: what `match` says where it takes none of them
abbrev pub NoneOf : List (List ℕ) → ℕ → Type 0
NoneOf [] x = Unit {0}
NoneOf (ks ∷ kss) x = NoneOf kss x × (OneOf ks x → ⊥)

abbrev pub has_any : List (List ℕ) → ℕ → Bool
has_any [] x = false
has_any (ks ∷ kss) x = has_key ks x || has_any kss x

none_has : (kss : List (List ℕ)) (x : ℕ) → NoneOf kss x → has_any kss x ≡ false
none_has [] x n = refl
none_has (ks ∷ kss) x n = rw (not_so (has_key ks x) (λ e. n.1 (hit ks x (rw e tt))), none_has kss x n.0)

module _ (f : ℕ → ℕ) (k : ℕ) where
  -- an arm of keys
  pub at_keys : (ks : List ℕ) → all_of (λ y. eqb (f y) k) ks ≡ true → (x : ℕ) → OneOf ks x → k ≡ f x
  at_keys ks e x h = sym (eqb-true (f x) k (key_passes (λ y. eqb (f y) k) ks e x h))

  -- n numbers from a on, but for the keys of the arms
  pub at_rest : (kss : List (List ℕ)) (a n : ℕ) → every (λ y. has_any kss y || eqb (f y) k) a n ≡ true → (x : ℕ) → a ≤ x → x < a + n → NoneOf kss x → k ≡ f x
  at_rest kss a n e x h l z =
      let p : (has_any kss x || eqb (f x) k) ≡ true = passes (λ y. has_any kss y || eqb (f y) k) a n e x h l in
      sym (eqb-true (f x) k (rw (none_has kss x z) at p))

  -- and on without an end
  pub at_last : (kss : List (List ℕ)) (a n : ℕ) → every (λ y. has_any kss y || eqb (f y) k) a n ≡ true → ((x : ℕ) → a + n ≤ x → k ≡ f x)
      → (x : ℕ) → a ≤ x → NoneOf kss x → k ≡ f x
  at_last kss a n e g x h z = elim (dec_lt x (a + n)) [ yes l ↦ at_rest kss a n e x h l z | no l ↦ g x (omega arith) ]
