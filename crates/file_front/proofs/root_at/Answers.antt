-- `root_at` meets its contract. Assumes nothing.
use mathlib.Core.Path.{sym, ◌∙◌}
use Rattle.file_front.proofs.Opening.{front_declared, front_none}
use Rattle.file_front.proofs.root_at.Goals as goal

pub returns-then-begins : goal.returns-then-begins
returns-then-begins c = front_declared _ _ (sym c.begins.ensures ∙ c.if-begins.true) c.blanks_end.ensures

pub returns : goal.returns
returns c = front_none _ _ c.blanks_end-2.ensures
