-- `to_text::plain_fours` meets its contract: what is still to come from `i` makes up the answer from `at`. Assumes nothing.
use mathlib.Core.Path.{◌≡◌, refl}
use mathlib.Core.Bool.{Bool, false, not}
use mathlib.Core.List.{List}
use Prim.Native.Nat.{ℕ, ◌+◌, ◌<◌}
use native.Mathlib.Omega.{arith}
use lib.ListN.{length, drop, get_or}
use Rattle.text.specs.Lists.{span}
use Rattle.text.proofs.Spans.{span_again}
use Rattle.value.specs.script.Raw.{is_plain}
use Rattle.value_texts_put.proofs.to_text.plain_fours.Goals as goal

-- a byte of the run, as the test tells it
record Plain (t : List ℕ) (i : ℕ) : Type 0 where
  told : Bool
  is : told ≡ is_plain (get_or t i 0)
  yes' : not told ≡ false

-- over one byte, and over more of them, in a turn that has room for four
module _ (t : List ℕ) (n last i : ℕ) (v : (last + 3 ≡ length t) × (i + span is_plain (drop i t) ≡ n)) (h : i < last) (a : Plain t i) where
  one : i + 1 + span is_plain (drop (i + 1) t) ≡ n
  one = span_again is_plain t i n v.1 (omega (arith, v.0)) a.is a.yes'

  module _ (b : Plain t (i + 1)) where
    two : i + 1 + 1 + span is_plain (drop (i + 1 + 1) t) ≡ n
    two = span_again is_plain t (i + 1) n one (omega (arith, v.0)) b.is b.yes'

    module _ (d : Plain t (i + 1 + 1)) where
      three : i + 1 + 1 + 1 + span is_plain (drop (i + 1 + 1 + 1) t) ≡ n
      three = span_again is_plain t (i + 1 + 1) n two (omega (arith, v.0)) d.is d.yes'

      four : Plain t (i + 1 + 1 + 1) → i + 1 + 1 + 1 + 1 + span is_plain (drop (i + 1 + 1 + 1 + 1) t) ≡ n
      four e = span_again is_plain t (i + 1 + 1 + 1) n three (omega (arith, v.0)) e.is e.yes'

pub returns-then-t-lt-TURN : goal.returns-then-t-lt-TURN
returns-then-t-lt-TURN c = refl

pub loop-i-init : goal.loop-i-init
loop-i-init c = (omega (arith, c.if-t-lt-TURN.false), refl)

pub returns-then-not-is_plain : goal.returns-then-not-is_plain
returns-then-not-is_plain c = c.loop-i.invariant.1

pub returns-then-not-is_plain-2 : goal.returns-then-not-is_plain-2
returns-then-not-is_plain-2 c =
    one _ _ _ _ c.loop-i.invariant c.loop-i-test.true (record { told = _; is = c.is_plain.ensures; yes' = c.if-not-is_plain.false-raw })

pub returns-then-not-is_plain-3 : goal.returns-then-not-is_plain-3
returns-then-not-is_plain-3 c =
    two _ _ _ _ c.loop-i.invariant c.loop-i-test.true (record { told = _; is = c.is_plain.ensures; yes' = c.if-not-is_plain.false-raw })
    (record { told = _; is = c.is_plain-in-loop-i.ensures; yes' = c.if-not-is_plain-2.false-raw })

pub returns-then-not-is_plain-4 : goal.returns-then-not-is_plain-4
returns-then-not-is_plain-4 c =
    three _ _ _ _ c.loop-i.invariant c.loop-i-test.true (record { told = _; is = c.is_plain.ensures; yes' = c.if-not-is_plain.false-raw })
    (record { told = _; is = c.is_plain-in-loop-i.ensures; yes' = c.if-not-is_plain-2.false-raw }) (record { told = _; is = c.is_plain-in-loop-i-2.ensures; yes' = c.if-not-is_plain-3.false-raw })

pub loop-i-preserved : goal.loop-i-preserved
loop-i-preserved c = (
  c.loop-i.invariant.0,
  four _ _ _ _ c.loop-i.invariant c.loop-i-test.true (record { told = _; is = c.is_plain.ensures; yes' = c.if-not-is_plain.false-raw })
      (record { told = _; is = c.is_plain-in-loop-i.ensures; yes' = c.if-not-is_plain-2.false-raw }) (record { told = _; is = c.is_plain-in-loop-i-2.ensures; yes' = c.if-not-is_plain-3.false-raw })
      (record { told = _; is = c.is_plain-in-loop-i-3.ensures; yes' = c.if-not-is_plain-4.false-raw }),
)

pub returns : goal.returns
returns c = c.loop-i.invariant.1
