-- `texts::is_umlaut` meets its contract. Assumes nothing.
use mathlib.Core.Bool.{false≢true}
use native.Mathlib.Omega.{arith}
use Rattle.value_lane_texts.proofs.texts.is_umlaut.Goals as goal

pub returns-then-s-at : goal.returns-then-s-at
returns-then-s-at c = λ e. absurd (false≢true e)

pub returns-then-s-at-2 : goal.returns-then-s-at-2
returns-then-s-at-2 c = λ e. absurd (false≢true e)

pub returns : goal.returns
returns c =
    λ e. record { room = omega (arith, c.if-s-at-2.false); first = c.if-s-at.false; second = c.is_second.ensures e }
