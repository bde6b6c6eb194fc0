-- `piece::behind_a` meets its contract. Assumes nothing.
use mathlib.Core.Path.{refl, ap}
use mathlib.Core.List.{[], ◌∷◌}
use borrow.Author.Tests.{ne_eqb}
use Rattle.xml.specs.mirror.Auto.{ampersand_a, go_on}
use Rattle.xml_pieces.proofs.Pieces.{part_cut, part_word, part_dead}
use Rattle.xml_pieces.proofs.piece.behind_a.Goals as goal

pub returns-then-s-at : goal.returns-then-s-at
returns-then-s-at c =
    part_cut _ _ (go_on ampersand_a) c.if-s-at.true

pub returns-in-109 : goal.returns-in-109
returns-in-109 c =
    part_word _ _ (go_on ampersand_a) c.if-s-at.false (112 ∷ 59 ∷ []) c.word.result (ap (go_on ampersand_a) c.in-109.is) c.word.ensures

pub returns-in-112 : goal.returns-in-112
returns-in-112 c =
    part_word _ _ (go_on ampersand_a) c.if-s-at.false (111 ∷ 115 ∷ 59 ∷ []) c.word-in-112.result (ap (go_on ampersand_a) c.in-112.is) c.word-in-112.ensures

pub returns-in_default : goal.returns-in_default
returns-in_default c =
    part_dead _ _ (go_on ampersand_a) c.if-s-at.false (rw (ne_eqb _ 109 c.in_default.in_default-own.rest.0.1, ne_eqb _ 112 c.in_default.in_default-own.rest.1) refl)
