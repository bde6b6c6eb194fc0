-- `class::is_digit` meets its contract. Assumes nothing.
use Rattle.std.proofs.Common.{refl, arith}
use Rattle.text.proofs.Classes.{yes, no, digit}
use Rattle.text.proofs.class.is_digit.Goals as goal

pub returns-in-48-to-57 : goal.returns-in-48-to-57
returns-in-48-to-57 c = yes digit 48 10 refl (omega arith) (omega arith)

pub returns-in_default : goal.returns-in_default
returns-in_default c = no digit (omega arith)

pub returns-in_default-2 : goal.returns-in_default-2
returns-in_default-2 c = no digit (omega arith)
