-- `piece::entity_len` meets its contract. Assumes nothing.
use Rattle.text_characters.proofs.piece.entity_len.Goals as goal

pub returns : goal.returns
returns c = (_, c.entity_number.ensures)
