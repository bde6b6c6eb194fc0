-- `piece::entity` meets its contract. Assumes nothing.
use mathlib.Core.Path.{ap}
use mathlib.Core.List.{[], ◌∷◌}
use Rattle.xml.specs.mirror.Auto.{ampersand, ampersand_a, go_on}
use Rattle.xml_pieces.proofs.Pieces.{part_cut, part_then, part_word, part_dead, angle, no_entity}
use Rattle.xml_pieces.proofs.piece.entity.Goals as goal

pub returns-then-s-at : goal.returns-then-s-at
returns-then-s-at c =
    part_cut _ _ (go_on ampersand) c.if-s-at.true

pub returns-in-97 : goal.returns-in-97
returns-in-97 c =
    part_then _ _ (go_on ampersand) c.if-s-at.false ampersand_a c.behind_a.result (ap (go_on ampersand) c.in-97.is) c.behind_a.ensures

pub returns-in-103 : goal.returns-in-103
returns-in-103 c =
    part_word _ _ (go_on ampersand) c.if-s-at.false (116 ∷ 59 ∷ []) c.word.result (angle _ c.in-103.is) c.word.ensures

pub returns-in-113 : goal.returns-in-113
returns-in-113 c =
    part_word _ _ (go_on ampersand) c.if-s-at.false (117 ∷ 111 ∷ 116 ∷ 59 ∷ []) c.word-in-113.result (ap (go_on ampersand) c.in-113.is) c.word-in-113.ensures

pub returns-in_default : goal.returns-in_default
returns-in_default c =
    part_dead _ _ (go_on ampersand) c.if-s-at.false (no_entity _ c.in_default.in_default-own.rest.0.0.1 c.in_default.in_default-own.rest.0.1 c.in_default.in_default-own.rest.1)
