-- `quoted::piece_end` meets its contract. Assumes nothing.
use Rattle.file_front.proofs.Valuing.{plain_piece, over_ok}
use Rattle.file_front.proofs.quoted.piece_end.Goals as goal

pub returns-then-is_plain : goal.returns-then-is_plain
returns-then-is_plain c = plain_piece _ _ c.requires (c.is_plain.ensures c.if-is_plain.true)

pub returns : goal.returns
returns c = rw c.ok.ensures.value (over_ok _ _ c.piece.result c.piece.ensures)
