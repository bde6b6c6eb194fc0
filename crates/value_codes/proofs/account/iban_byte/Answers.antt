-- `account::iban_byte` meets its contract. Assumes nothing.
use mathlib.Core.Path.{sym, ◌∙◌}
use native.Mathlib.Omega.{arith}
use Rattle.value.proofs.classes.Codes.{iban_country, iban_check, iban_rest}
use Rattle.value_codes.proofs.account.iban_byte.Goals as goal

pub returns-in-0-to-1 : goal.returns-in-0-to-1
returns-in-0-to-1 c =
    c.is_capital.ensures ∙ sym (iban_country _ _ (omega arith))

pub returns-in-2-to-3 : goal.returns-in-2-to-3
returns-in-2-to-3 c =
    c.is_digit.ensures ∙ sym (iban_check _ _ (omega arith) (omega arith))

pub returns-in_default : goal.returns-in_default
returns-in_default c =
    c.is_letter_or_digit.ensures ∙ sym (iban_rest _ _ (omega arith))
