-- `from_text::word` meets its contract. Assumes nothing.
use mathlib.Core.Path.{◌∙◌}
use native.Mathlib.Omega.{arith}
use Rattle.value.proofs.Pages.{word_low, word_euro, word_none}
use Rattle.value_texts.proofs.from_text.word.Goals as goal

pub returns-then-c-lt256 : goal.returns-then-c-lt256
returns-then-c-lt256 c = c.low_word.ensures ∙ word_low _ c.if-c-lt256.true

pub returns-then-c-eq-EURO_PAGE : goal.returns-then-c-eq-EURO_PAGE
returns-then-c-eq-EURO_PAGE c = word_euro _ (omega arith) c.if-c-eq-EURO_PAGE.true

pub returns : goal.returns
returns c = word_none _ (omega arith) c.if-c-eq-EURO_PAGE.false
