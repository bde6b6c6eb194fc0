-- `from_text::is_quiet_ref` meets its contract. Assumes nothing.
use mathlib.Core.Path.{◌∙◌}
use Rattle.value.specs.mirror.Pages.{looked_in}
use Rattle.value.proofs.Pages.{lookup_ref}
use Rattle.value_texts.proofs.from_text.is_quiet_ref.Goals as goal

pub returns : goal.returns
unfolding looked_in
returns c = c.has_bit.ensures ∙ rw c.ref_word.ensures (lookup_ref _)
