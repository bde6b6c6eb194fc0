-- `past` meets its contract. Assumes nothing.
use Rattle.xml_tags.proofs.Passing.{past_go, past_end}
use Rattle.xml_marks.proofs.past.Goals as goal

pub returns-then-at-s : goal.returns-then-at-s
returns-then-at-s c = past_go _ _ c.if-at-s.true

pub returns-else-at-s : goal.returns-else-at-s
returns-else-at-s c = past_end _ _ c.if-at-s.false
