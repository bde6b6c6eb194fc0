-- `decimal::put_pointed` meets its contract: what does not fit is not written. Assumes nothing.
use native.Mathlib.Omega.{arith}
use Rattle.text.proofs.Pasting.{copy_not}
use Rattle.text_digits.proofs.decimal.put_pointed.Goals as goal

pub returns-then-buf-at : goal.returns-then-buf-at
returns-then-buf-at c =
    let w = c.pointed_width-w.ensures in
    (w.0, (w.1, copy_not _ _ _ _ w.0 (omega arith)))

pub returns-then-buf-at-2 : goal.returns-then-buf-at-2
returns-then-buf-at-2 c =
    let w = c.pointed_width-w.ensures in
    (w.0, (w.1, copy_not _ _ _ _ w.0 (omega arith)))
