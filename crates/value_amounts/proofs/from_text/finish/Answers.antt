-- `from_text::finish` meets its contract. Assumes nothing.
use mathlib.Core.Path.{sym, ◌∙◌}
use borrow.Author.Tests.{eq-eqb, ne_eqb}
use Rattle.value.proofs.numbers.Amounts.{answer_good}
use Rattle.value_amounts.proofs.from_text.finish.Goals.{else-neg-via-then-neg+else-c-ne0, else-neg-via-else-neg}
use Rattle.value_amounts.proofs.from_text.finish.Goals as goal

pub returns-then-c-ne0 : goal.returns-then-c-ne0
returns-then-c-ne0 c =
    sym (answer_good c.args.neg c.args.c c.args.k c.requires.0 c.requires.1 ∙ rw (c.if-neg.true, ne_eqb _ 0 c.if-c-ne0.true))

pub returns : goal.returns
returns c =
    sym
    (answer_good c.args.neg c.args.c c.args.k c.requires.0 c.requires.1
    ∙ elim c.else-neg.branch [
      | else-neg-via-then-neg+else-c-ne0 w ↦ rw (w.if-neg.true, eq-eqb _ 0 w.if-c-ne0.false)
      | else-neg-via-else-neg w ↦ rw w.if-neg.false
    ])
