-- `from_bytes::is_moment` meets its contract. Assumes nothing.
use mathlib.Core.Path.{sym, ◌∙◌, ap}
use Prim.Native.Nat.{ℕ}
use native.Mathlib.Omega.{arith}
use lib.Dec.{leb}
use lib.ListN.{get_or, take, drop}
use borrow.Author.Tests.{le-leb, lt-leb, le-ltb, lt-ltb, not-true, not-false}
use Rattle.text.specs.Numbers.{number}
use Rattle.value.specs.mirror.Judges.{is_moment}
use Rattle.value_dates_stored.proofs.from_bytes.is_moment.Goals as goal

pub returns-then-not-is_day : goal.returns-then-not-is_day
unfolding is_moment
returns-then-not-is_day c =
    rw (sym c.is_day.ensures ∙ not-true _ c.if-not-is_day.true-raw)

pub returns-then-byte-gt-LAST_HOUR : goal.returns-then-byte-gt-LAST_HOUR
unfolding is_moment
returns-then-byte-gt-LAST_HOUR c =
    rw (sym c.is_day.ensures ∙ not-false _ c.if-not-is_day.false-raw, lt-leb (get_or c.args.b.now 4 0) 23 (omega (arith, c.byte.ensures)))

pub returns-then-byte-gt-LAST_MINUTE : goal.returns-then-byte-gt-LAST_MINUTE
unfolding is_moment
returns-then-byte-gt-LAST_MINUTE c =
    rw (
      sym c.is_day.ensures ∙ not-false _ c.if-not-is_day.false-raw,
      le-leb (get_or c.args.b.now 4 0) 23 (omega (arith, c.byte.ensures)),
      lt-leb (get_or c.args.b.now 5 0) 59 (omega (arith, c.byte-2.ensures)),
    )

pub returns-then-byte-gt-LAST_SECOND : goal.returns-then-byte-gt-LAST_SECOND
unfolding is_moment
returns-then-byte-gt-LAST_SECOND c =
    rw (
      sym c.is_day.ensures ∙ not-false _ c.if-not-is_day.false-raw,
      le-leb (get_or c.args.b.now 4 0) 23 (omega (arith, c.byte.ensures)),
      le-leb (get_or c.args.b.now 5 0) 59 (omega (arith, c.byte-2.ensures)),
      lt-leb (get_or c.args.b.now 6 0) 59 (omega (arith, c.byte-3.ensures)),
    )

pub returns-then-get32-gt-LAST_MICRO : goal.returns-then-get32-gt-LAST_MICRO
unfolding is_moment
returns-then-get32-gt-LAST_MICRO c =
    rw (
      sym c.is_day.ensures ∙ not-false _ c.if-not-is_day.false-raw,
      le-leb (get_or c.args.b.now 4 0) 23 (omega (arith, c.byte.ensures)),
      le-leb (get_or c.args.b.now 5 0) 59 (omega (arith, c.byte-2.ensures)),
      le-leb (get_or c.args.b.now 6 0) 59 (omega (arith, c.byte-3.ensures)),
      le-ltb (number (take 4 (drop 7 c.args.b.now))) 1000000 (omega (arith, c.get32.ensures)),
    )

pub returns : goal.returns
unfolding is_moment
returns c =
    rw (
      sym c.is_day.ensures ∙ not-false _ c.if-not-is_day.false-raw,
      le-leb (get_or c.args.b.now 4 0) 23 (omega (arith, c.byte.ensures)),
      le-leb (get_or c.args.b.now 5 0) 59 (omega (arith, c.byte-2.ensures)),
      le-leb (get_or c.args.b.now 6 0) 59 (omega (arith, c.byte-3.ensures)),
      lt-ltb (number (take 4 (drop 7 c.args.b.now))) 1000000 (omega (arith, c.get32.ensures)),
    )
    (ap (λ (x : ℕ). leb x 1680) c.get16.ensures)
