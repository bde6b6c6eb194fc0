-- `shown::shown` meets its contract: the outcome of the tidying. Assumes nothing.
use native.Mathlib.Omega.{arith}
use Rattle.tidy.proofs.Presenting.{presented}
use Rattle.tidy.proofs.shown.shown.Goals as goal

pub returns : goal.returns
returns c = let w = let p = c.outcome in
    presented _ _ _ _ _ _ c.requires.0 c.requires.1 (omega (arith, c.requires.1)) c.tidy-a.ensures _ _ p.ensures in record { is = w.0; within = w.1 }
