-- `piece::three` meets its contract. Assumes nothing.
use Rattle.std.proofs.lemmas.Result.{err_from_is_err_and}
use Rattle.xml_pieces.proofs.Pieces.{three_stop, three_on}
use Rattle.xml_pieces.proofs.piece.three.Goals as goal

pub returns-in_err-one : goal.returns-in_err-one
returns-in_err-one c =
    let p = err_from_is_err_and c.from_residual.result c.from_residual.ensures.1 in
    rw (p.1, p.2) (three_stop _ _ _ _ c.one.result c.one.ensures _ c.in_err-one.was)

pub returns : goal.returns
returns c =
    three_on _ _ _ _ c.one.result c.one.ensures _ c.in_ok-one.was c.two.result c.two.ensures
