-- `case::number` meets its contract: four bytes, the least significant first. Assumes nothing.
use mathlib.Core.Path.{◌∙◌}
use native.Mathlib.Omega.{arith}
use Rattle.program_feed.proofs.Heads.{four}
use Rattle.program_feed.proofs.case.number.Goals as goal

pub returns : goal.returns
returns c =
    let p = c.in_ok-bytes.ensures.cases in
    (omega (arith, p.2), c.from_le_bytes.ensures ∙ four _ _ (omega (arith, p.2)) p.0, p.1)
