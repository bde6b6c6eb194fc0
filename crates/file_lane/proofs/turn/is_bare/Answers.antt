-- `turn::is_bare` meets its contract. Assumes nothing.
use native.Mathlib.Omega.{arith}
use borrow.Author.Tests.{not-false}
use Rattle.file_lane.proofs.turn.is_bare.Goals as goal

pub returns-then-kind-eq-AMT : goal.returns-then-kind-eq-AMT
returns-then-kind-eq-AMT c = λ e. ((λ z. c.coined.ensures (not-false _ e)), (λ z. absurd (omega (arith, z, c.if-kind-eq-AMT.true))))

pub returns-then-kind-eq-SINGLE : goal.returns-then-kind-eq-SINGLE
returns-then-kind-eq-SINGLE c = λ e. ((λ z. absurd (omega (arith, z, c.if-kind-eq-SINGLE.true))), (λ z. c.coined-then-kind-eq-SINGLE.ensures (not-false _ e)))

pub returns : goal.returns
returns c = λ e. ((λ z. absurd (c.if-kind-eq-AMT.false z)), (λ z. absurd (c.if-kind-eq-SINGLE.false z)))
