-- `piece::greatest` meets its contract. Assumes nothing.
use borrow.Author.Tests.{ne_eqb}
use Rattle.xml_pieces.proofs.piece.greatest.Goals as goal

pub returns-in-237 : goal.returns-in-237
returns-in-237 c = rw c.in-237.is

pub returns-in-244 : goal.returns-in-244
returns-in-244 c = rw c.in-244.is

pub returns-in_default : goal.returns-in_default
returns-in_default c = rw (ne_eqb _ 237 c.in_default.in_default-own.rest.0.1, ne_eqb _ 244 c.in_default.in_default-own.rest.1)
