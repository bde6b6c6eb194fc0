-- `attributes::with_space` meets its contract. Assumes nothing.
use mathlib.Core.Path.{refl, sym, ◌∙◌}
use Rattle.list_house.specs.House.{house, report}
use Rattle.list_house.proofs.Lists.{house_byte, report_byte, house_asked, report_asked}
use Rattle.file_front.proofs.Valuing.{house_space_lem, report_space_lem, none_is, space_puts}
use Rattle.file_front.proofs.attributes.with_space.Goals as goal

pub returns-in-Some : goal.returns-in-Some
returns-in-Some c =
    space_puts house house_asked _ _ (c.house_space.ensures ∙ house_space_lem) _ _ _ c.in-Some.ensures
    (none_is _ (sym c.is_some.ensures ∙ c.if-is_some.false)) _ refl (sym house_byte) refl refl

pub returns : goal.returns
returns c =
    space_puts report report_asked _ _ (c.report_space.ensures ∙ report_space_lem) _ _ _ c.in_ok-end.ensures
    (none_is _ (sym c.is_some.ensures ∙ c.if-is_some.false)) _ refl (sym report_byte) refl refl
