-- `token::opening` meets its contract. Assumes nothing.
use mathlib.Core.Path.{◌∙◌}
use Rattle.xml_tags.proofs.Steps.{open_end, open_tail}
use Rattle.xml_cursor.proofs.token.opening.Goals as goal

pub returns-then-s-less : goal.returns-then-s-less
returns-then-s-less c = c.bare.ensures ∙ open_end _ _ c.if-s-less.true

pub returns : goal.returns
returns c = c.tail.ensures ∙ open_tail _ _ _ c.if-s-less.false c.name_end.ensures
