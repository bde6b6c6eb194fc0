-- `class::is_letter` meets its contract. Assumes nothing.
use Rattle.std.proofs.Common.{refl, arith}
use Rattle.text.proofs.Classes.{yes, no, letter}
use Rattle.text.proofs.class.is_letter.Goals as goal

pub returns-in-65-to-90 : goal.returns-in-65-to-90
returns-in-65-to-90 c = yes letter 65 26 refl (omega arith) (omega arith)

pub returns-in-97-to-122 : goal.returns-in-97-to-122
returns-in-97-to-122 c = yes letter 97 26 refl (omega arith) (omega arith)

pub returns-in_default : goal.returns-in_default
returns-in_default c = no letter (omega arith)

pub returns-in_default-2 : goal.returns-in_default-2
returns-in_default-2 c = no letter (omega arith)

pub returns-in_default-3 : goal.returns-in_default-3
returns-in_default-3 c = no letter (omega arith)
