-- `to_bytes::write_amount` meets its contract. Assumes nothing.
use mathlib.Core.Bool.{true≢false}
use mathlib.Core.Path.{sym, ◌∙◌}
use native.Mathlib.Omega.{arith}
use lib.Seq.{take-length}
use borrow.Author.Tests.{not-true, not-false}
use Rattle.value.proofs.given.Putting.{fits, amount_no_room, amount_put, amount_none}
use Rattle.value_amounts.proofs.to_bytes.write_amount.Goals as goal

pub returns-then-not-is_ccy : goal.returns-then-not-is_ccy
returns-then-not-is_ccy c =
    amount_none _ _ _ _ _ (λ g. true≢false (sym (c.is_ccy.ensures.1 g) ∙ not-true _ c.if-not-is_ccy.true-raw))

pub returns-then-not-has_room : goal.returns-then-not-has_room
returns-then-not-has_room c =
    amount_no_room _ _ _ _ _ (c.is_ccy.ensures.0 (not-false _ c.if-not-is_ccy.false-raw)) _ c.has_room.ensures c.if-not-has_room.true-raw

pub overflow_add-at : goal.overflow_add-at
overflow_add-at c =
    omega (arith, fits _ c.has_room.ensures c.if-not-has_room.false-raw)

pub overflow_add-at-2 : goal.overflow_add-at-2
overflow_add-at-2 c =
    omega (arith, fits _ c.has_room.ensures c.if-not-has_room.false-raw)

pub returns : goal.returns
returns c =
    amount_put _ _ _ _ _ _ _ _ (c.is_ccy.ensures.0 (not-false _ c.if-not-is_ccy.false-raw))
    (fits _ c.has_room.ensures c.if-not-has_room.false-raw) (rw (take-length c.args.ccy.now) at c.copy.ensures) c.place.ensures c.put64.ensures
