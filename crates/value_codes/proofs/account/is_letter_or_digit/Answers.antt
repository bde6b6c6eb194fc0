-- `account::is_letter_or_digit` meets its contract. Assumes nothing.
use mathlib.Core.Path.{refl}
use native.Mathlib.Omega.{arith}
use Rattle.text.proofs.Classes.{yes, no}
use Rattle.value.proofs.classes.Named.{letter_or_digit}
use Rattle.value_codes.proofs.account.is_letter_or_digit.Goals as goal

pub returns-in-48-to-57 : goal.returns-in-48-to-57
returns-in-48-to-57 c =
    yes letter_or_digit 48 10 refl (omega arith) (omega arith)

pub returns-in-65-to-90 : goal.returns-in-65-to-90
returns-in-65-to-90 c =
    yes letter_or_digit 65 26 refl (omega arith) (omega arith)

pub returns-in-97-to-122 : goal.returns-in-97-to-122
returns-in-97-to-122 c =
    yes letter_or_digit 97 26 refl (omega arith) (omega arith)

pub returns-in_default : goal.returns-in_default
returns-in_default c =
    no letter_or_digit (omega arith)

pub returns-in_default-2 : goal.returns-in_default-2
returns-in_default-2 c =
    no letter_or_digit (omega arith)

pub returns-in_default-3 : goal.returns-in_default-3
returns-in_default-3 c =
    no letter_or_digit (omega arith)

pub returns-in_default-4 : goal.returns-in_default-4
returns-in_default-4 c =
    no letter_or_digit (omega arith)
