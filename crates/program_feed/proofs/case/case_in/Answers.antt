-- `case::case_in` meets its contract: a head's case, with as many bytes as it has. Assumes nothing.
use mathlib.Core.Path.{◌∙◌}
use native.Mathlib.Omega.{arith}
use Rattle.program_feed.proofs.Heads.{in_none, kept_case, in_cut, in_all}
use Rattle.program_feed.proofs.case.case_in.Goals as goal

pub returns-in_err-case : goal.returns-in_err-case
returns-in_err-case c = c.from_residual.ensures ∙ in_none _ c.in_err-case.ensures

pub overflow_add-case : goal.overflow_add-case
overflow_add-case c = omega (arith, (kept_case _ _ c.in_ok-case.ensures).0)

pub returns-then-feed-case : goal.returns-then-feed-case
returns-then-feed-case c = in_cut _ _ c.in_ok-case.ensures c.if-feed-case.true

pub returns : goal.returns
returns c = in_all _ _ c.in_ok-case.ensures c.if-feed-case.false
