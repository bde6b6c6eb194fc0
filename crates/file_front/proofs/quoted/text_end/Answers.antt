-- `quoted::text_end` meets its contract: what was passed are pieces without the quote. Assumes nothing.
use native.Mathlib.Omega.{arith}
use Rattle.file_front.proofs.Valuing.{passed_more, piece_on}
use Rattle.file_front.proofs.quoted.text_end.Goals as goal

pub loop-i-smaller : goal.loop-i-smaller
loop-i-smaller c =
    omega (arith, piece_on _ _ _ c.in_ok-i.ensures, c.loop-i-test.true)

pub loop-i-preserved : goal.loop-i-preserved
loop-i-preserved c =
    passed_more _ _ _ _ c.requires c.loop-i.invariant c.loop-i-test.true c.if-s-i.false _ c.in_ok-i.ensures
