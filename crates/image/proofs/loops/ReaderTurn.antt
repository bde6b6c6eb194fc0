-- Each turn of the reader's loop, by the tests that led there. Assumes nothing.
use mathlib.Core.Path.{◌≡◌, sym, ◌∙◌, ap}
use mathlib.Core.Logic.{◌≢◌}
use mathlib.Core.Bool.{Bool, true, false}
use mathlib.Core.List.{List}
use Prim.Native.Nat.{ℕ, suc, ◌+◌, ◌≤◌, ◌<◌}
use native.Mathlib.Omega.{arith}
use lib.ListN.{length, get_or}
use borrow.Author.Tests.{eq-eqb, ne_eqb, le-leb, lt-leb}
use Rattle.answer.specs.declared.Answer.{Answer}
use Rattle.answer.specs.Table.{accepted, broken_image}
use Rattle.image.specs.mirror.Step.{follows, ended}
use Rattle.image.specs.mirror.Run.{stop, turn, Goes, halts, moves, steps, closing, Took}

module _ (t : List ℕ) (fin : ℕ → ℕ → ℕ) (s : List ℕ) (from : ℕ) where
  -- the answer from here is the answer from the start, with n items before; each has a byte, so that they can be counted
  pub record Here (q i n : ℕ) : Type 0 where
    pub on : (a : Answer) (g : Goes t fin s a q i) → (h : Goes t fin s a 1 from) × (n + steps g ≡ suc (steps h))
    pub few : n ≤ i

  pub begins : 0 < from → Here 1 from 1
  begins h = record { on = λ a g. (g, omega arith); few = h }

  module _ (q i n : ℕ) (here : Here q i n) where
    pub stops : (a : Answer) (m : ℕ) → turn t fin s q i ≡ stop a → m ≡ n + closing a → Took t fin s from a m
    stops a m e c = let o = here.on a (halts e) in record { goes = o.0; many = omega (arith, c, o.1) }

    -- broken off here, after these
    pub stops_short : (a : Answer) (m : ℕ) → turn t fin s q i ≡ stop (broken_image i) → (a ≡ broken_image i) × (m ≡ n) → Took t fin s from a m
    unfolding closing
    stops_short a m e f = stops a m (e ∙ ap stop (sym f.0)) (omega (arith, f.1, ap closing f.0))

    pub runs_out : (a : Answer) (m : ℕ) → (a ≡ broken_image i) × (m ≡ n) → length s ≤ i → Took t fin s from a m
    unfolding turn
    runs_out a m f g = stops_short a m (rw (le-leb (length s) i g)) f

-- what a turn has been told when it has read a byte
pub record AtByte : Type 0 where
  pub t : List ℕ
  pub fin : ℕ → ℕ → ℕ
  pub s : List ℕ
  pub from : ℕ
  pub q : ℕ
  pub i : ℕ
  pub n : ℕ
  pub here : Here t fin s from q i n
  pub x : ℕ
  pub inside : i < length s
  pub is : x ≡ get_or s i 0

module _ (read : AtByte) where
  open read use {t, fin, s, from, q, i, n, here, x, inside, is}

  -- so there is a number for one more
  pub counted : n + 1 ≤ length s
  counted = omega (arith, here.few, inside)

  pub closes : (a : Answer) (m : ℕ) (b : Bool) → (a ≡ accepted (i + 1)) × (m ≡ n + 1) → x ≡ 0 → b ≡ ended t q → b ≡ true → Took t fin s from a m
  unfolding turn closing
  closes a m b f z e o =
      stops t fin s from q i n here a m (rw (lt-leb (length s) i inside, sym is, eq-eqb x 0 z, sym e, o) (ap stop (sym f.0))) (omega (arith, f.1, ap closing f.0))

  pub too_soon : (a : Answer) (m : ℕ) (b : Bool) → (a ≡ broken_image i) × (m ≡ n) → x ≡ 0 → b ≡ ended t q → b ≡ false → Took t fin s from a m
  unfolding turn
  too_soon a m b f z e o = stops_short t fin s from q i n here a m (rw (lt-leb (length s) i inside, sym is, eq-eqb x 0 z, sym e, o)) f

-- and when that is a row's, and may come or not
pub record AtRow : Type 0 where
  pub read : AtByte
  pub row : read.x ≢ 0
  pub b : Bool
  pub next : b ≡ follows read.t read.q read.x

module _ (at : AtRow) where
  open at use {row, b, next}
  open at.read use {t, fin, s, from, q, i, n, here, x, inside, is}

  pub strays : (a : Answer) (m : ℕ) → (a ≡ broken_image i) × (m ≡ n) → b ≡ false → Took t fin s from a m
  unfolding turn
  strays a m f o = stops_short t fin s from q i n here a m (rw (lt-leb (length s) i inside, sym is, ne_eqb x 0 row, sym next, o)) f

  pub breaks : (a : Answer) (m j : ℕ) → (a ≡ broken_image i) × (m ≡ n) → b ≡ true → j ≡ fin x (i + 1) → j ≡ 0 → Took t fin s from a m
  unfolding turn
  breaks a m j f o ej y = stops_short t fin s from q i n here a m (rw (lt-leb (length s) i inside, sym is, ne_eqb x 0 row, sym next, o, sym ej, eq-eqb j 0 y)) f

  pub goes_on : (j : ℕ) → b ≡ true → j ≡ fin x (i + 1) → i < j → Here t fin s from x j (n + 1)
  unfolding turn
  goes_on j o ej y = record {
    on = λ a k.
        let z : j ≢ 0 = (λ e. omega (arith, e, y)) in
        let w = here.on a (moves x j (rw (lt-leb (length s) i inside, sym is, ne_eqb x 0 row, sym next, o, sym ej, ne_eqb j 0 z)) k) in
        (w.0, omega (arith, w.1));
    few = omega (arith, here.few, y);
  }
