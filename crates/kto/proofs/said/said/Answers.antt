-- `said::said` meets its contract: the outcome of the answer. Assumes nothing.
use native.Mathlib.Omega.{arith}
use Rattle.kto.proofs.Written.{says}
use Rattle.kto.proofs.said.said.Goals as goal

pub returns : goal.returns
returns c = let w = let p = c.outcome in
    says _ _ c.requires _ _ c.answered-a.ensures (omega (arith, c.requires)) _ _ p.ensures in record { is = w.0; within = w.1 }
