-- `token::bare` meets its contract. Assumes nothing.
use Rattle.xml_cursor.proofs.token.bare.Goals as goal

pub returns : goal.returns
returns c = rw c.nowhere-first.ensures
