-- `piece::behind_ef` meets its contract. Assumes nothing.
use mathlib.Core.Path.{refl, ap}
use borrow.Author.Tests.{ne_eqb}
use Rattle.xml.specs.mirror.Auto.{ef, efbf, go_on}
use Rattle.xml_pieces.proofs.Pieces.{part_cut, part_then, as_one}
use Rattle.xml_pieces.proofs.piece.behind_ef.Goals as goal

pub returns-then-s-at : goal.returns-then-s-at
returns-then-s-at c =
    part_cut _ _ (go_on ef) c.if-s-at.true

pub returns-then-s-at-2 : goal.returns-then-s-at-2
returns-then-s-at-2 c =
    part_then _ _ (go_on ef) c.if-s-at.false efbf c.one.result (ap (go_on ef) c.if-s-at-2.true) (as_one _ _ 128 189 (go_on efbf) c.one.result (λ l. refl) c.one.ensures)

pub returns : goal.returns
returns c =
    c.two.ensures (go_on ef) (λ l. rw (ne_eqb _ 191 c.if-s-at-2.false) refl)
