-- `piece::one` meets its contract. Assumes nothing.
use Rattle.xml_pieces.proofs.Pieces.{one_cut, one_low, one_high, one_on}
use Rattle.xml_pieces.proofs.piece.one.Goals as goal

pub returns-then-s-at : goal.returns-then-s-at
returns-then-s-at c =
    one_cut c.args.s.now c.args.at c.args.low c.args.high c.if-s-at.true

pub returns-then-x-low : goal.returns-then-x-low
returns-then-x-low c =
    one_low c.args.s.now c.args.at c.args.low c.args.high c.if-x-low.true

pub returns-then-high-x : goal.returns-then-high-x
returns-then-high-x c =
    one_high c.args.s.now c.args.at c.args.low c.args.high c.if-x-low.false c.if-high-x.true

pub returns : goal.returns
returns c =
    one_on c.args.s.now c.args.at c.args.low c.args.high c.if-s-at.false c.if-x-low.false c.if-high-x.false
