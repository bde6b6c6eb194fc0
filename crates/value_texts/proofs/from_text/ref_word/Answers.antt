-- `from_text::ref_word` meets its contract. Assumes nothing.
use mathlib.Core.Path.{refl}
use native.Mathlib.Omega.{arith}
use Rattle.value.specs.mirror.Pages.{word_in, ref_words}
use Rattle.value.proofs.Pages.{past}
use Rattle.value_texts.proofs.from_text.ref_word.Goals as goal

pub returns-in-0 : goal.returns-in-0
unfolding word_in
returns-in-0 c = rw c.in-0.is

pub returns-in-1 : goal.returns-in-1
unfolding word_in
returns-in-1 c = rw c.in-1.is

pub returns-in-2 : goal.returns-in-2
unfolding word_in
returns-in-2 c = rw c.in-2.is

pub returns-in-3 : goal.returns-in-3
unfolding word_in
returns-in-3 c = rw c.in-3.is

pub returns-in_default : goal.returns-in_default
returns-in_default c = past ref_words refl _ (omega arith)
