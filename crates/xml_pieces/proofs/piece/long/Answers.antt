-- `piece::long` meets its contract. Assumes nothing.
use mathlib.Core.Path.{refl}
use native.Mathlib.Omega.{arith}
use Rattle.xml.specs.mirror.Auto.{one, ef, lead, go_on}
use Rattle.xml_pieces.proofs.Pieces.{part_dead, part_then, piece_two, piece_three, as_one, lead_is, lead_low, lead_one, lead_ef, lead_high, of_three, of_four}
use Rattle.xml_pieces.proofs.piece.long.Goals as goal

pub returns-then-x-lt194 : goal.returns-then-x-lt194
returns-then-x-lt194 c =
    part_dead _ _ lead c.requires.0 (lead_low _ c.requires.1 c.if-x-lt194.true)

pub returns-then-x-lt224 : goal.returns-then-x-lt224
returns-then-x-lt224 c =
    part_then _ _ lead c.requires.0 one c.one.result (lead_one _ c.if-x-lt194.false c.if-x-lt224.true) (as_one _ _ 128 191 (go_on one) c.one.result (λ l. refl) c.one.ensures)

pub returns-then-x : goal.returns-then-x
returns-then-x c =
    part_then _ _ lead c.requires.0 ef c.behind_ef.result (lead_is _ 239 _ c.if-x.true (lead_ef 239 (omega arith) (omega arith))) c.behind_ef.ensures

pub returns-then-x-lt240 : goal.returns-then-x-lt240
returns-then-x-lt240 c =
    piece_two _ _ c.requires.0 _ _ c.least-low.ensures c.greatest-high.ensures c.two.result (of_three _ c.if-x-lt224.false c.if-x-lt240.true c.if-x.false) c.two.ensures

pub returns-then-x-lt245 : goal.returns-then-x-lt245
returns-then-x-lt245 c =
    piece_three _ _ c.requires.0 _ _ c.least-low.ensures c.greatest-high.ensures c.three.result (of_four _ c.if-x-lt240.false c.if-x-lt245.true) c.three.ensures

pub returns : goal.returns
returns c =
    part_dead _ _ lead c.requires.0 (lead_high _ c.if-x-lt245.false)
