-- `piece::least` meets its contract. Assumes nothing.
use borrow.Author.Tests.{ne_eqb}
use Rattle.xml_pieces.proofs.piece.least.Goals as goal

pub returns-in-224 : goal.returns-in-224
returns-in-224 c = rw c.in-224.is

pub returns-in-240 : goal.returns-in-240
returns-in-240 c = rw c.in-240.is

pub returns-in_default : goal.returns-in_default
returns-in_default c = rw (ne_eqb _ 224 c.in_default.in_default-own.rest.0.1, ne_eqb _ 240 c.in_default.in_default-own.rest.1)
