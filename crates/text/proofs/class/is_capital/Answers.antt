-- `class::is_capital` meets its contract. Assumes nothing.
use Rattle.std.proofs.Common.{refl, arith}
use Rattle.text.proofs.Classes.{yes, no, capital}
use Rattle.text.proofs.class.is_capital.Goals as goal

pub returns-in-65-to-90 : goal.returns-in-65-to-90
returns-in-65-to-90 c = yes capital 65 26 refl (omega arith) (omega arith)

pub returns-in_default : goal.returns-in_default
returns-in_default c = no capital (omega arith)

pub returns-in_default-2 : goal.returns-in_default-2
returns-in_default-2 c = no capital (omega arith)
