-- `byte_is` meets its contract. Assumes nothing.
use Rattle.xml_tags.proofs.Passing.{head_at, head_end}
use Rattle.xml_marks.proofs.byte_is.Goals as goal

pub returns-then-s-at : goal.returns-then-s-at
returns-then-s-at c = head_end c.args.b _ _ c.if-s-at.true

pub returns : goal.returns
returns c = head_at c.args.b _ _ c.if-s-at.false
