-- `write::size` meets its contract. Assumes nothing.
use mathlib.Core.List.{[]}
use mathlib.Core.Path.{refl, ◌∙◌, ap}
use Rattle.std.specs.Prelude.{Some}
use Rattle.value.proofs.given.Judging.{gives_none, text_sized, amount_sized, truth_gives, natural_gives, day_gives, moment_gives, sized}
use Rattle.value.proofs.given.Putting.{day_long, natural_long, parts_long}
use Rattle.value_kinds.proofs.write.size.Goals as goal

pub returns-in_default : goal.returns-in_default
returns-in_default c =
    sized _ _ _ [] _ (gives_none _ _ _ _ c.check.ensures c.in_default.is) refl

pub returns-in-Text : goal.returns-in-Text
returns-in-Text c =
    text_sized _ _ _ _ _ c.check.ensures (c.in-Some.is ∙ ap Some c.in-Text.is) _ c.text_size.ensures

pub returns-in-Truth : goal.returns-in-Truth
returns-in-Truth c =
    sized _ _ _ _ _ (truth_gives _ _ _ _ c.check.ensures _ (c.in-Some.is ∙ ap Some c.in-Truth.is)) refl

pub returns-in-Natural : goal.returns-in-Natural
returns-in-Natural c =
    sized _ _ _ _ _ (natural_gives _ _ _ _ c.check.ensures _ (c.in-Some.is ∙ ap Some c.in-Natural.is)) (natural_long _)

pub returns-in-Amount : goal.returns-in-Amount
returns-in-Amount c =
    amount_sized _ _ _ _ _ _ c.check.ensures (c.in-Some.is ∙ ap Some c.in-Amount.is)

pub returns-in-Day : goal.returns-in-Day
returns-in-Day c =
    sized _ _ _ _ _ (day_gives _ _ _ _ c.check.ensures _ (c.in-Some.is ∙ ap Some c.in-Day.is)) (day_long _ _ _)

pub returns-in-Moment : goal.returns-in-Moment
returns-in-Moment c =
    sized _ _ _ _ _ (moment_gives _ _ _ _ c.check.ensures _ (c.in-Some.is ∙ ap Some c.in-Moment.is)) (parts_long _)
