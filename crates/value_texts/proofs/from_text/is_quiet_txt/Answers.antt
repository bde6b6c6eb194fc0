-- `from_text::is_quiet_txt` meets its contract. Assumes nothing.
use mathlib.Core.Path.{◌∙◌}
use Rattle.value.specs.mirror.Pages.{looked_in}
use Rattle.value.proofs.Pages.{lookup_quiet}
use Rattle.value_texts.proofs.from_text.is_quiet_txt.Goals as goal

pub returns : goal.returns
unfolding looked_in
returns c = c.has_bit.ensures ∙ rw c.quiet_word.ensures (lookup_quiet _)
