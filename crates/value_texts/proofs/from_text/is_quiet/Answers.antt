-- `from_text::is_quiet` meets its contract. Assumes nothing.
use mathlib.Core.Path.{◌∙◌}
use Rattle.value_texts.proofs.from_text.is_quiet.Goals as goal

pub returns-then-strict : goal.returns-then-strict
returns-then-strict c =
    c.is_quiet_ref.ensures ∙ rw c.if-strict.true

pub returns : goal.returns
returns c =
    c.is_quiet_txt.ensures ∙ rw c.if-strict.false
