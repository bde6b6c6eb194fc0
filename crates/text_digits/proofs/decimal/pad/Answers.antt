-- `decimal::pad` meets its contract: a digit for each tenth, from the last place on. Assumes nothing.
use native.Mathlib.Omega.{arith}
use Rattle.text.proofs.Lasts.{put_not, put_start, put_end, put_again}
use Rattle.text.proofs.Digits.{digits_made}
use Rattle.text_digits.proofs.decimal.pad.Goals as goal

pub returns-then-buf-at : goal.returns-then-buf-at
returns-then-buf-at c =
    put_not digits_made _ _ _ _ (omega arith)

pub returns-then-buf-at-2 : goal.returns-then-buf-at-2
returns-then-buf-at-2 c =
    put_not digits_made _ _ _ _ (omega arith)

pub loop-to-init : goal.loop-to-init
loop-to-init c =
    put_start digits_made _ _ _ _ (omega arith)

pub digit-requires : goal.digit-requires
digit-requires c =
    omega arith

pub loop-to-preserved : goal.loop-to-preserved
loop-to-preserved c =
    rw c.digit.ensures (put_again digits_made _ _ _ _ _ _ _ c.loop-to.invariant c.loop-to-test.true)

pub shape_of-buf : goal.shape_of-buf
shape_of-buf c =
    c.loop-to.invariant.long

pub returns : goal.returns
returns c =
    put_end digits_made _ _ _ _ _ _ _ c.loop-to.invariant c.loop-to-test.false
