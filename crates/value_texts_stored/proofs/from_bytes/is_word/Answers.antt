-- `from_bytes::is_word` meets its contract. Assumes nothing.
use Rattle.std.proofs.Common.{sym, ◌∙◌}
use Rattle.value.proofs.stored.texts.Classes.{digit_word, letter_word}
use Rattle.value_texts_stored.proofs.from_bytes.is_word.Goals as goal
use Rattle.value_texts_stored.proofs.from_bytes.is_word.Goals.{then-is_digit, else-is_digit}

pub returns-then-is_letter : goal.returns-then-is_letter
returns-then-is_letter c =
    c.if-is_letter.true
    ∙ elim c.if-is_digit.branch [
      | then-is_digit w ↦ digit_word _ (sym c.is_digit.ensures ∙ w.if-is_digit.true)
      | else-is_digit w ↦ letter_word _ (sym w.is_letter.ensures ∙ sym w.value-is ∙ c.if-is_letter.true)
    ]
