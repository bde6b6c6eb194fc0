-- `codes::is_headed` meets its contract. Assumes nothing.
use mathlib.Core.Path.{sym, ◌∙◌}
use mathlib.Core.Bool.{false≢true}
use borrow.Author.Tests.{not-false}
use Rattle.value_lane.proofs.codes.is_headed.Goals as goal

pub returns-then-not-is_capital : goal.returns-then-not-is_capital
returns-then-not-is_capital c = λ z. absurd (false≢true z)

pub returns-then-not-is_capital-2 : goal.returns-then-not-is_capital-2
returns-then-not-is_capital-2 c = λ z. absurd (false≢true z)

pub returns-then-not-is_digit : goal.returns-then-not-is_digit
returns-then-not-is_digit c = λ z. absurd (false≢true z)

pub returns : goal.returns
returns c =
    λ z. record {
      c0 = sym c.is_capital.ensures ∙ not-false _ c.if-not-is_capital.false-raw;
      c1 = sym c.is_capital-2.ensures ∙ not-false _ c.if-not-is_capital-2.false-raw;
      d2 = sym c.is_digit.ensures ∙ not-false _ c.if-not-is_digit.false-raw;
      d3 = sym c.is_digit-2.ensures ∙ z;
    }
