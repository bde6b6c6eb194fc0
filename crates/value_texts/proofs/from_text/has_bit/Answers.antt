-- `from_text::has_bit` meets its contract. Assumes nothing.
use mathlib.Core.Path.{refl}
use Rattle.value.specs.mirror.Pages.{bit_of}
use Rattle.value_texts.proofs.from_text.has_bit.Goals as goal

pub returns : goal.returns
unfolding bit_of
returns c = refl
