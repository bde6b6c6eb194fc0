-- `from_text::truth` meets its contract. Assumes nothing.
use mathlib.Core.Bool.{true, false}
use mathlib.Core.Logic.{inl, inr}
use Rattle.value.proofs.types.Rights.{truth_is, truth_not, word_is, word_not}
use Rattle.value_numbers.proofs.from_text.truth.Goals as goal

pub returns-then-eq : goal.returns-then-eq
returns-then-eq c =
    truth_is _ true (inl (word_is _ _ _ c.as_slice.ensures c.if-eq.ensures))

pub returns-then-eq-2 : goal.returns-then-eq-2
returns-then-eq-2 c =
    truth_is _ true (inr (word_is _ _ _ c.as_slice-2.ensures c.if-eq-2.ensures))

pub returns-then-eq-3 : goal.returns-then-eq-3
returns-then-eq-3 c =
    truth_is _ false (inl (word_is _ _ _ c.as_slice-3.ensures c.if-eq-3.ensures))

pub returns-then-eq-4 : goal.returns-then-eq-4
returns-then-eq-4 c =
    truth_is _ false (inr (word_is _ _ _ c.as_slice-4.ensures c.if-eq-4.ensures))

pub returns : goal.returns
returns c =
    truth_not _ (word_not _ _ _ c.as_slice.ensures c.if-eq.ensures) (word_not _ _ _ c.as_slice-2.ensures c.if-eq-2.ensures)
    (word_not _ _ _ c.as_slice-3.ensures c.if-eq-3.ensures) (word_not _ _ _ c.as_slice-4.ensures c.if-eq-4.ensures)
