-- `from_text::amount` meets its contract. Assumes nothing.
use Rattle.value.proofs.numbers.Amounts.{read_plus, read_minus, read_bare, answered}
use Rattle.value_amounts.proofs.from_text.amount.Goals as goal

pub returns-then-first-eq43 : goal.returns-then-first-eq43
returns-then-first-eq43 c =
    answered c.args.t.now _ (read_plus _ _ _ c.in_ok-first.ensures.cases.0 c.if-first-eq43.true) c.signed.ensures

pub returns-then-first-eq45 : goal.returns-then-first-eq45
returns-then-first-eq45 c =
    answered c.args.t.now _ (read_minus _ _ _ c.in_ok-first.ensures.cases.0 c.if-first-eq45.true) c.signed-then-first-eq45.ensures

pub returns : goal.returns
returns c =
    answered c.args.t.now _ (read_bare _ _ _ c.in_ok-first.ensures.cases.0 c.if-first-eq43.false c.if-first-eq45.false) c.signed-2.ensures
