-- `utf8::is_tail` meets its contract. Assumes nothing.
use native.Mathlib.Omega.{arith}
use Rattle.text.proofs.Classes.{yes_in, no}
use Rattle.text_characters.proofs.Decoding.{tail}
use Rattle.text_characters.proofs.utf8.is_tail.Goals as goal

pub returns-in-128-to-191 : goal.returns-in-128-to-191
returns-in-128-to-191 c = yes_in tail (omega arith)

pub returns-in_default : goal.returns-in_default
returns-in_default c = no tail (omega arith)

pub returns-in_default-2 : goal.returns-in_default-2
returns-in_default-2 c = no tail (omega arith)
