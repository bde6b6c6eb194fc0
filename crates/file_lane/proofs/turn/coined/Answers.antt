-- `turn::coined` meets its contract. Assumes nothing.
use mathlib.Core.Path.{sym, ◌∙◌}
use mathlib.Core.Bool.{false≢true}
use native.Mathlib.Omega.{arith}
use borrow.Author.Tests.{not-false}
use Rattle.file_lane.proofs.Turning.{coined_is}
use Rattle.file_lane.proofs.turn.coined.Goals as goal

pub returns-then-s-at : goal.returns-then-s-at
returns-then-s-at c = λ e. absurd (false≢true e)

pub returns-then-s-at-2 : goal.returns-then-s-at-2
returns-then-s-at-2 c = λ e. absurd (false≢true e)

pub returns-then-s-at-ne62 : goal.returns-then-s-at-ne62
returns-then-s-at-ne62 c = λ e. absurd (false≢true e)

pub returns-then-not-is_capital : goal.returns-then-not-is_capital
returns-then-not-is_capital c = λ e. absurd (false≢true e)

pub returns-then-not-is_capital-2 : goal.returns-then-not-is_capital-2
returns-then-not-is_capital-2 c = λ e. absurd (false≢true e)

pub returns : goal.returns
returns c = λ e.
    coined_is _ _ _ (omega (arith, c.if-s-at.false)) c.if-s-at-2.false c.if-s-at-ne62.false
    (sym c.is_capital.ensures ∙ not-false _ c.if-not-is_capital.false-raw) (sym c.is_capital-2.ensures ∙ not-false _ c.if-not-is_capital-2.false-raw) (sym c.is_capital-3.ensures ∙ e)
