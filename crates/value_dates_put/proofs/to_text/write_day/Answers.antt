-- `to_text::write_day` meets its contract: what was made is taken out again. Assumes nothing.
use mathlib.Core.Path.{sym, ◌∙◌, ap}
use native.Mathlib.Omega.{arith}
use lib.Seq.{slice}
use Rattle.value.proofs.script.Escaping.{pasted_as}
use Rattle.value.proofs.script.Moments.{day_long, taken}
use Rattle.value_dates_put.proofs.to_text.write_day.Goals as goal

pub returns : goal.returns
returns c =
    let l = day_long c.args.b.now in
    (omega arith, (omega arith, pasted_as _ _ _ _ _ (sym (ap (slice 0 10) c.put_day.ensures ∙ taken _ _ 10 (omega arith) (omega arith))) c.copy.ensures))
