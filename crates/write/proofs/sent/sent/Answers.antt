-- `sent::sent` meets its contract: the outcome of the writing. Assumes nothing.
use native.Mathlib.Omega.{arith}
use Rattle.write.proofs.Sending.{sends}
use Rattle.write.proofs.sent.sent.Goals as goal

pub returns : goal.returns
returns c = let w = let p = c.outcome in
    sends _ _ _ _ c.requires (omega (arith, c.requires)) c.write-a.ensures _ _ p.ensures in record { is = w.0; within = w.1 }
