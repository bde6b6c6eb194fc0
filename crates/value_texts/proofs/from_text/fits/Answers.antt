-- `from_text::fits` meets its contract. Assumes nothing.
use mathlib.Core.Path.{◌∙◌}
use Rattle.value_texts.proofs.from_text.fits.Goals as goal

pub returns-then-strict : goal.returns-then-strict
returns-then-strict c =
    c.is_ref.ensures ∙ rw c.if-strict.true

pub returns : goal.returns
returns c =
    c.is_txt.ensures ∙ rw c.if-strict.false
