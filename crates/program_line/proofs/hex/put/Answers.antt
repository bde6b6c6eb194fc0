-- `hex::put` meets its contract: what does not fit is not written; each turn writes the two digits of one byte. Assumes nothing.
use native.Mathlib.Omega.{arith}
use Rattle.program_line.proofs.Hexadecimal.{hex_not, hex_end, hex_again}
use Rattle.program_line.proofs.hex.put.Goals as goal
use Rattle.program_line.proofs.hex.put.Goals.{then-out-at-via-then-out-at, then-out-at-via-else-out-at+then-out-at-2}

pub returns-then-out-at : goal.returns-then-out-at
returns-then-out-at c =
    hex_not _ _ _
    (elim c.then-out-at.branch [ then-out-at-via-then-out-at w ↦ omega arith | then-out-at-via-else-out-at+then-out-at-2 w ↦ omega arith ])

pub loop-k-preserved : goal.loop-k-preserved
loop-k-preserved c =
    hex_again _ _ _ _ _ c.loop-k.invariant c.loop-k-test.true (omega (arith, c.loop-k.auto.out, c.if-out-at.false, c.if-out-at-2.false)) c.digit.ensures c.digit-in-loop-k.ensures

pub returns : goal.returns
returns c = hex_end _ _ _ _ _ c.loop-k.invariant c.loop-k-test.false
