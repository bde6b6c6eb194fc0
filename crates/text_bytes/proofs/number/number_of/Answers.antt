-- `number::number_of` meets its contract. Assumes nothing.
use Rattle.std.proofs.Common.{arith}
use Rattle.text.proofs.Numbers.{get_end, get_fits, get_again}
use Rattle.text_bytes.proofs.number.number_of.Goals as goal

pub overflow_mul-r : goal.overflow_mul-r
overflow_mul-r c =
    let f = get_fits _ _ _ c.loop-x.invariant (omega (arith, c.requires, c.loop-x-test.true)) in
    record { fits = omega arith }

pub loop-x-preserved : goal.loop-x-preserved
loop-x-preserved c = get_again _ _ _ c.loop-x.invariant _ c.from.ensures c.loop-x-test.true (c.type_inv.s c.loop-x.x-index).fits

pub returns-clause-is : goal.returns-clause-is
returns-clause-is c = get_end _ _ _ c.loop-x.invariant c.loop-x-test.false
