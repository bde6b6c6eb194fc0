-- Over the bytes of a class. Assumes nothing.
use mathlib.Core.Path.{◌≡◌, refl, sym, ◌∙◌, ap, subst}
use mathlib.Core.Bool.{Bool, true}
use mathlib.Core.List.{List}
use Prim.Native.Nat.{ℕ, ◌+◌, ◌-◌, ◌≤◌, ◌<◌}
use native.Mathlib.Omega.{arith}
use lib.ListN.{length, get_or, take, drop, length-drop}
use lib.Seq.{length-take-le}
use Rattle.std.proofs.lemmas.List.{get_or-take, get_or-drop}
use Rattle.text.specs.Lists.{span}
use Rattle.text.proofs.Spans.{span_go}
use Rattle.value_levels.specs.mirror.Runs.{Over}

pub over_none : (p : ℕ → Bool) (s : List ℕ) (i : ℕ) → Over p s i i
over_none p s i = record { from = omega arith; rest = refl }

pub over_then : (p : ℕ → Bool) (s : List ℕ) (i j k : ℕ) → Over p s i j → Over p s j k → Over p s i k
over_then p s i j k a b = record { from = omega (arith, a.from, b.from); rest = b.rest ∙ a.rest }

pub over_on : (p : ℕ → Bool) (s : List ℕ) (at i : ℕ) → Over p s at i → i < length s → p (get_or s i 0) ≡ true → Over p s at (i + 1)
over_on p s at i a h e =
    let g = span_go p s i h e in
    record { from = omega (arith, a.from); rest = omega (arith, a.rest, g) }

-- all of a run, from any place of it
pub over_whole : (p : ℕ → Bool) (s : List ℕ) (i j k : ℕ) → Over p s i j → k ≡ j + span p (drop j s) → k ≡ i + span p (drop i s)
over_whole p s i j k a e = e ∙ a.rest

-- ---- the n bytes at a place as a slice of their own

abbrev pub block_of : ℕ → ℕ → List ℕ → List ℕ
block_of at n s = take (at + n - at) (drop at s)

pub block_long : (at n : ℕ) (s : List ℕ) → at + n ≤ length s → length (block_of at n s) ≡ n
block_long at n s h =
    let e : at + n - at ≡ n = omega arith in
    length-take-le (at + n - at) (drop at s) (omega (arith, length-drop at s)) ∙ e

block_item : (at n j : ℕ) (s : List ℕ) → j < n → get_or (block_of at n s) j 0 ≡ get_or s (at + j) 0
block_item at n j s h = get_or-take (at + n - at) (drop at s) j 0 (omega arith) ∙ get_or-drop at s j 0

pub over_start : (p : ℕ → Bool) (s : List ℕ) (at : ℕ) → Over p s at (at + 0)
over_start p s at = let q : at ≡ at + 0 = omega arith in subst (Over p s at) q (over_none p s at)

-- one byte more of them
pub over_item : (p : ℕ → Bool) (s : List ℕ) (at n j : ℕ) → at + n ≤ length s → Over p s at (at + j) → j < length (block_of at n s) → p (get_or (block_of at n s) j 0) ≡ true
    → Over p s at (at + (j + 1))
over_item p s at n j h a l e =
    let k : j < n = omega (arith, l, block_long at n s h) in
    let q : at + j + 1 ≡ at + (j + 1) = omega arith in
    subst (Over p s at) q (over_on p s at (at + j) a (omega arith) (ap p (sym (block_item at n j s k)) ∙ e))

-- all of them
pub over_block : (p : ℕ → Bool) (s : List ℕ) (at n j : ℕ) → at + n ≤ length s → Over p s at (at + j) → j ≤ length (block_of at n s) → length (block_of at n s) ≤ j → Over p s at (at + n)
over_block p s at n j h a u l = let e : j ≡ n = omega (arith, u, l, block_long at n s h) in subst (λ (x : ℕ). Over p s at (at + x)) e a
