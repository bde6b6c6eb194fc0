-- `from_text::width` meets its contract. Assumes nothing.
use mathlib.Core.Path.{sym}
use native.Mathlib.Omega.{arith}
use Rattle.value.proofs.raw.Sizes.{width_one, width_len}
use Rattle.value_texts.proofs.from_text.width.Goals as goal

pub returns-then-code-lt-BEYOND : goal.returns-then-code-lt-BEYOND
returns-then-code-lt-BEYOND c =
    sym (width_one _ _ c.if-code-lt-BEYOND.true)

pub returns : goal.returns
returns c =
    sym (width_len _ _ (omega arith))
