-- Tests of lists, and what they say. Assumes nothing.
use mathlib.Core.Path.{◌≡◌, refl, sym, ap}
use mathlib.Core.Bool.{Bool, true, false, ◌||◌, true≢false}
use mathlib.Core.Logic.{◌⊎◌, inl, inr}
use mathlib.Core.List.{List, [], ◌∷◌}
use Prim.Native.Nat.{ℕ, zero, suc, ◌<◌}
use lib.ListN.{get_or, take, drop}
use borrow.Author.Tests.{lt-ltb, ltb-true}
use Rattle.std.specs.List.{list_any}
use Rattle.text.specs.Lists.{Each, All, Any}
use Rattle.text.proofs.Classes.{and_is, or_is}
use Rattle.text.proofs.Numbers.{Byte}
use Rattle.value.specs.mirror.Tests.{is_byte, every, some}

pub or_so : (a b : Bool) → b ≡ true → (a || b) ≡ true
or_so true b e = refl
or_so false b e = e

module _ (p : ℕ → Bool) where
  pub every_all : (s : List ℕ) → every p s ≡ true → All p s
  unfolding every
  every_all [] e = tt
  every_all (x ∷ s) e = let w = and_is (p x) (every p s) e in (w.0, every_all s w.1)

  pub all_every : (s : List ℕ) → All p s → every p s ≡ true
  unfolding every
  all_every [] a = refl
  all_every (x ∷ s) a = rw a.0 (all_every s a.1)

  pub some_any : (s : List ℕ) → some p s ≡ true → Any p s
  unfolding some
  some_any [] e = absurd (true≢false (sym e))
  some_any (x ∷ s) e = go (or_is (p x) (some p s) e) (some_any s)
    where
      go : (p x ≡ true) ⊎ (some p s ≡ true) → (some p s ≡ true → Any p s) → (p x ≡ true) ⊎ Any p s
      go (inl h) f = inl h
      go (inr h) f = inr (f h)

  pub any_some : (s : List ℕ) → Any p s → some p s ≡ true
  unfolding some
  any_some [] a = absurd a
  any_some (x ∷ s) (inl h) = rw h
  any_some (x ∷ s) (inr h) = or_so (p x) (some p s) (any_some s h)

-- ---- bytes

pub byte_each : (s : List ℕ) → every is_byte s ≡ true → Each Byte s
unfolding every is_byte
byte_each [] e = tt
byte_each (x ∷ s) e = let w = and_is (is_byte x) (every is_byte s) e in (ltb-true x 256 w.0, byte_each s w.1)

pub each_byte : (s : List ℕ) → Each Byte s → every is_byte s ≡ true
unfolding every is_byte
each_byte [] h = refl
each_byte (x ∷ s) h = rw (lt-ltb x 256 h.0) (each_byte s h.1)

pub bytes_take : (n : ℕ) (s : List ℕ) → Each Byte s → Each Byte (take n s)
bytes_take zero s h = tt
bytes_take (suc n) [] h = tt
bytes_take (suc n) (x ∷ s) h = (h.0, bytes_take n s h.1)

pub bytes_drop : (n : ℕ) (s : List ℕ) → Each Byte s → Each Byte (drop n s)
bytes_drop zero s h = h
bytes_drop (suc n) [] h = tt
bytes_drop (suc n) (x ∷ s) h = bytes_drop n s h.1

-- every element by its place
pub bytes_at : (s : List ℕ) → ((i : ℕ) → get_or s i 0 < 256) → Each Byte s
bytes_at [] f = tt
bytes_at (x ∷ s) f = (f zero, bytes_at s (λ i. f (suc i)))

-- ---- one at least passes, as a chain finds it

pub some_is : (p : ℕ → Bool) (s : List ℕ) → list_any p s ≡ some p s
unfolding some
some_is p [] = refl
some_is p (x ∷ s) = ap (λ (b : Bool). p x || b) (some_is p s)
