-- `from_text::run_of` meets its contract. Assumes nothing.
use native.Mathlib.Omega.{arith}
use Rattle.value_texts.proofs.from_text.run_of.Goals as goal

pub overflow_sub-result : goal.overflow_sub-result
overflow_sub-result c =
    omega (arith, c.quiet_end.ensures)

pub returns-then-ink : goal.returns-then-ink
returns-then-ink c =
    rw c.if-ink.true (omega (arith, c.quiet_end.ensures))

pub returns : goal.returns
returns c =
    rw c.if-ink.false
