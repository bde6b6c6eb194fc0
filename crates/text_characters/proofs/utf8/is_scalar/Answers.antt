-- `utf8::is_scalar` meets its contract. Assumes nothing.
use mathlib.Core.Logic.{inl, inr}
use native.Mathlib.Omega.{arith}
use Rattle.text.proofs.Classes.{yes_in, no}
use Rattle.text_characters.proofs.Decoding.{scalar}
use Rattle.text_characters.proofs.utf8.is_scalar.Goals as goal

pub returns-in-0-to-55295 : goal.returns-in-0-to-55295
returns-in-0-to-55295 c = yes_in scalar (inl (omega arith))

pub returns-in-57344-to-1114111 : goal.returns-in-57344-to-1114111
returns-in-57344-to-1114111 c = yes_in scalar (inr (omega arith))

pub returns-in_default : goal.returns-in_default
returns-in_default c = no scalar (omega arith)

pub returns-in_default-2 : goal.returns-in_default-2
returns-in_default-2 c = no scalar (omega arith)
