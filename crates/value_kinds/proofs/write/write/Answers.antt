-- `write::write` meets its contract. Assumes nothing.
use mathlib.Core.Path.{◌∙◌, ap}
use Rattle.std.specs.Prelude.{Some}
use Rattle.value.proofs.given.Judging.{gives_none, counts_of, text_written, amount_written, truth_gives, natural_gives, day_gives, moment_gives, written, unwritten}
use Rattle.value_kinds.proofs.write.write.Goals as goal

pub write_text-requires : goal.write_text-requires
write_text-requires c =
    counts_of _ _ _ _ _ c.check.ensures (c.in-Some.is ∙ ap Some c.in-Text.is)

pub returns-in_default : goal.returns-in_default
returns-in_default c =
    unwritten _ _ _ _ _ _ (gives_none _ _ _ _ c.check.ensures c.in_default.is _)

pub returns-in-Text : goal.returns-in-Text
returns-in-Text c =
    text_written _ _ _ _ _ c.check.ensures (c.in-Some.is ∙ ap Some c.in-Text.is) _ _ _ _ _ c.write_text.ensures

pub returns-in-Truth : goal.returns-in-Truth
returns-in-Truth c =
    written _ _ _ _ _ _ _ _ _ (truth_gives _ _ _ _ c.check.ensures _ (c.in-Some.is ∙ ap Some c.in-Truth.is) _) c.write_truth.ensures

pub returns-in-Natural : goal.returns-in-Natural
returns-in-Natural c =
    written _ _ _ _ _ _ _ _ _ (natural_gives _ _ _ _ c.check.ensures _ (c.in-Some.is ∙ ap Some c.in-Natural.is) _) c.write_natural.ensures

pub returns-in-Amount : goal.returns-in-Amount
returns-in-Amount c =
    amount_written _ _ _ _ _ _ c.check.ensures (c.in-Some.is ∙ ap Some c.in-Amount.is) _ _ _ _ _ c.write_amount.ensures

pub returns-in-Day : goal.returns-in-Day
returns-in-Day c =
    written _ _ _ _ _ _ _ _ _ (day_gives _ _ _ _ c.check.ensures _ (c.in-Some.is ∙ ap Some c.in-Day.is) _) c.write_day.ensures

pub returns-in-Moment : goal.returns-in-Moment
returns-in-Moment c =
    written _ _ _ _ _ _ _ _ _ (moment_gives _ _ _ _ c.check.ensures _ (c.in-Some.is ∙ ap Some c.in-Moment.is) _) c.write_moment.ensures
