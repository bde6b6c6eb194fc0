-- `from_bytes::is_amount` meets its contract. Assumes nothing.
use mathlib.Core.Path.{sym, ◌∙◌, ap}
use mathlib.Core.Bool.{not}
use Prim.Native.Nat.{ℕ, ◌%◌, ◌^◌}
use native.Mathlib.Omega.{arith}
use lib.Dec.{eqb}
use lib.ListN.{length, get_or, take, drop, length-take}
use borrow.Author.Tests.{le-leb, lt-leb, le-ltb, lt-ltb, ne_eqb, eq-eqb, not-true, not-false}
use Rattle.text.specs.Numbers.{number}
use Rattle.value.specs.mirror.Judges.{is_currency, is_amount}
use Rattle.value.proofs.types.Ones.{exactly_one}
use Rattle.value.proofs.stored.texts.Codes.{currency_exactly}
use Rattle.value_amounts.proofs.from_bytes.is_amount.Goals as goal

pub returns-then-b-lt-CURRENCY_SIZE : goal.returns-then-b-lt-CURRENCY_SIZE
unfolding is_amount is_currency
returns-then-b-lt-CURRENCY_SIZE c =
    rw (ne_eqb (length (take 3 c.args.b.now)) 3 (omega (arith, length-take 3 c.args.b.now)))

pub returns-then-not-is_ccy : goal.returns-then-not-is_ccy
unfolding is_amount
returns-then-not-is_ccy c =
    rw (sym (exactly_one _ _ c.is_ccy.ensures (currency_exactly _)) ∙ not-true _ c.if-not-is_ccy.true-raw)

pub returns-then-scale-gt-MOST_SCALE : goal.returns-then-scale-gt-MOST_SCALE
unfolding is_amount
returns-then-scale-gt-MOST_SCALE c =
    rw (sym (exactly_one _ _ c.is_ccy.ensures (currency_exactly _)) ∙ not-false _ c.if-not-is_ccy.false-raw, lt-leb (get_or c.args.b.now 3 0) 5 (omega (arith, c.byte-scale.ensures)))

pub returns-then-coefficient-ge-NUMBER_LIMIT : goal.returns-then-coefficient-ge-NUMBER_LIMIT
unfolding is_amount
returns-then-coefficient-ge-NUMBER_LIMIT c =
    rw (
      sym (exactly_one _ _ c.is_ccy.ensures (currency_exactly _)) ∙ not-false _ c.if-not-is_ccy.false-raw,
      le-leb (get_or c.args.b.now 3 0) 5 (omega (arith, c.byte-scale.ensures)),
      le-ltb (number (take 8 (drop 4 c.args.b.now))) (10 ^ 18) (omega (arith, c.get64-coefficient.ensures)),
    )

pub returns-then-scale-eq0 : goal.returns-then-scale-eq0
unfolding is_amount
returns-then-scale-eq0 c =
    rw (
      sym (exactly_one _ _ c.is_ccy.ensures (currency_exactly _)) ∙ not-false _ c.if-not-is_ccy.false-raw,
      le-leb (get_or c.args.b.now 3 0) 5 (omega (arith, c.byte-scale.ensures)),
      lt-ltb (number (take 8 (drop 4 c.args.b.now))) (10 ^ 18) (omega (arith, c.get64-coefficient.ensures)),
      eq-eqb (get_or c.args.b.now 3 0) 0 (omega (arith, c.byte-scale.ensures)),
    )

pub returns : goal.returns
unfolding is_amount
returns c =
    rw (
      sym (exactly_one _ _ c.is_ccy.ensures (currency_exactly _)) ∙ not-false _ c.if-not-is_ccy.false-raw,
      le-leb (get_or c.args.b.now 3 0) 5 (omega (arith, c.byte-scale.ensures)),
      lt-ltb (number (take 8 (drop 4 c.args.b.now))) (10 ^ 18) (omega (arith, c.get64-coefficient.ensures)),
      ne_eqb (get_or c.args.b.now 3 0) 0 (omega (arith, c.byte-scale.ensures)),
    ) (ap (λ (x : ℕ). not (eqb (x % 10) 0)) c.get64-coefficient.ensures)
