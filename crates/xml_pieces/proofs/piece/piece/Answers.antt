-- `piece::piece` meets its contract. Assumes nothing.
use mathlib.Core.Path.{sym, ◌∙◌}
use native.Mathlib.Omega.{arith}
use Rattle.xml.specs.mirror.Auto.{ampersand, lead}
use Rattle.xml_pieces.proofs.Pieces.{is_piece, part_cut, part_dead, part_last, part_then, lead_is, lead_ampersand, lead_less, lead_char, lead_blank, lead_control}
use Rattle.xml_pieces.proofs.piece.piece.Goals as goal

pub returns-then-s-at : goal.returns-then-s-at
returns-then-s-at c =
    is_piece c.args.s.now c.args.at _ (part_cut _ _ lead c.if-s-at.true)

pub returns-then-x-gt-LAST_ASCII : goal.returns-then-x-gt-LAST_ASCII
returns-then-x-gt-LAST_ASCII c =
    is_piece c.args.s.now c.args.at _ c.long.ensures

pub returns-then-x-eq38 : goal.returns-then-x-eq38
returns-then-x-eq38 c =
    is_piece c.args.s.now c.args.at _ (part_then _ _ lead c.if-s-at.false ampersand c.entity.result (lead_is _ 38 _ c.if-x-eq38.true lead_ampersand) c.entity.ensures)

pub returns-then-x-eq60 : goal.returns-then-x-eq60
returns-then-x-eq60 c =
    is_piece c.args.s.now c.args.at _ (part_dead _ _ lead c.if-s-at.false (lead_is _ 60 _ c.if-x-eq60.true lead_less))

pub returns-then-x-gt-LAST_CONTROL : goal.returns-then-x-gt-LAST_CONTROL
returns-then-x-gt-LAST_CONTROL c =
    is_piece c.args.s.now c.args.at _ (part_last _ _ lead c.if-s-at.false (lead_char _ c.if-x-gt-LAST_CONTROL.true (omega arith) c.if-x-eq38.false c.if-x-eq60.false))

pub returns-then-is_blank : goal.returns-then-is_blank
returns-then-is_blank c =
    is_piece c.args.s.now c.args.at _ (part_last _ _ lead c.if-s-at.false (lead_blank _ (sym c.is_blank.ensures ∙ c.if-is_blank.true)))

pub returns : goal.returns
returns c =
    is_piece c.args.s.now c.args.at _ (part_dead _ _ lead c.if-s-at.false (lead_control _ (omega arith) (sym c.is_blank.ensures ∙ c.if-is_blank.false)))
