-- `check::coded` meets its contract. Assumes nothing.
use Rattle.value_kinds.proofs.check.coded.Goals as goal

pub returns-then-good : goal.returns-then-good
returns-then-good c =
    rw c.if-good.true

pub returns : goal.returns
returns c =
    rw c.if-good.false
