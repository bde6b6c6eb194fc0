-- `close_end` meets its contract. Assumes nothing.
use mathlib.Core.Path.{sym, ◌∙◌}
use Rattle.xml_tags.proofs.Passing.{behind_at}
use Rattle.xml_skim.proofs.close_end.Goals as goal

pub returns : goal.returns
returns c = c.past.ensures ∙ sym (behind_at 62 _ _ _ c.until.ensures)
