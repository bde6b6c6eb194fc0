-- `piece::entity_number` meets its contract. Assumes nothing.
use mathlib.Core.Path.{sym, ◌∙◌}
use Rattle.text_characters.specs.Pieces.{amp, lt, gt, quot, apos}
use Rattle.text_characters.proofs.Resolving.{number_of_lem, number_none}
use Rattle.text_characters.proofs.piece.entity_number.Goals as goal

pub returns-then-spells : goal.returns-then-spells
returns-then-spells c = number_of_lem amp _ (sym c.spells.ensures ∙ c.if-spells.true)

pub returns-then-spells-2 : goal.returns-then-spells-2
returns-then-spells-2 c = number_of_lem lt _ (sym c.spells-2.ensures ∙ c.if-spells-2.true)

pub returns-then-spells-3 : goal.returns-then-spells-3
returns-then-spells-3 c = number_of_lem gt _ (sym c.spells-3.ensures ∙ c.if-spells-3.true)

pub returns-then-spells-4 : goal.returns-then-spells-4
returns-then-spells-4 c = number_of_lem quot _ (sym c.spells-4.ensures ∙ c.if-spells-4.true)

pub returns-then-spells-5 : goal.returns-then-spells-5
returns-then-spells-5 c = number_of_lem apos _ (sym c.spells-5.ensures ∙ c.if-spells-5.true)

pub returns : goal.returns
returns c =
    number_none _
    (sym c.spells.ensures ∙ c.if-spells.false)
    (sym c.spells-2.ensures ∙ c.if-spells-2.false)
    (sym c.spells-3.ensures ∙ c.if-spells-3.false)
    (sym c.spells-4.ensures ∙ c.if-spells-4.false)
    (sym c.spells-5.ensures ∙ c.if-spells-5.false)
