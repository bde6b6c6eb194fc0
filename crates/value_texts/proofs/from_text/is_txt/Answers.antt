-- `from_text::is_txt` meets its contract. Assumes nothing.
use mathlib.Core.Path.{◌∙◌}
use Rattle.value.specs.mirror.Pages.{looked}
use Rattle.value.proofs.Pages.{lookup_txt}
use Rattle.value_texts.proofs.from_text.is_txt.Goals as goal

pub returns : goal.returns
unfolding looked
returns c = c.has_bit.ensures ∙ rw c.word.ensures (lookup_txt _)
