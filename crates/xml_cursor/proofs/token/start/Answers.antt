-- `token::start` meets its contract. Assumes nothing.
use mathlib.Core.Path.{sym, ◌∙◌}
use Rattle.xml_tags.proofs.Steps.{start_declared, start_plain}
use Rattle.xml_tags.proofs.Story.{start_means}
use Rattle.xml_cursor.proofs.token.start.Goals as goal

pub returns-then-is_declared : goal.returns-then-is_declared
returns-then-is_declared c = let w = start_means _ _ (start_declared _ _ _ _ (sym c.is_declared.ensures ∙ c.if-is_declared.true) c.until.ensures c.past.ensures c.blanks_end.ensures) in record { is = w.0; means = w.1 }

pub returns : goal.returns
returns c = let w = start_means _ _ (start_plain _ _ (sym c.is_declared.ensures ∙ c.if-is_declared.false) c.blanks_end-2.ensures) in record { is = w.0; means = w.1 }
