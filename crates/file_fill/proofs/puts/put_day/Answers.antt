-- `puts::put_day` meets its contract. Assumes nothing.
use Rattle.std.specs.Prelude.{Some}
use mathlib.Core.Path.{refl, ◌∙◌, ap}
use native.Mathlib.Omega.{arith}
use Rattle.file_fill.proofs.Laying.{wrote_four, day_laid}
use Rattle.file_fill.proofs.puts.put_day.Goals as goal

pub overflow_add-result : goal.overflow_add-result
overflow_add-result c =
    omega (arith, wrote_four _ _ _ _ _ _ _ c.write_day-n.ensures, c.requires.1)

pub returns-in-Some-Day : goal.returns-in-Some-Day
returns-in-Some-Day c =
    day_laid _ _ _ _ _ c.day.ensures (c.in-Some-Day.is ∙ ap Some c.in-Some-Day.field-0-is) _ _ _ c.if-s-end-ne60.false refl (omega arith) (omega (arith, c.if-s-at.false)) _ _ _ _ _
    c.write_day-n.ensures refl
