-- `to_text::write_moment` meets its contract: what was made is taken out again. Assumes nothing.
use native.Mathlib.Omega.{arith}
use Rattle.value.proofs.script.Escaping.{pasted_as}
use Rattle.value.proofs.script.Moments.{moment_put}
use Rattle.value_dates_put.proofs.to_text.write_moment.Goals as goal

pub returns : goal.returns
returns c =
    let d = c.put_day.ensures in
    let k = c.put_clock.ensures in
    let u = c.get32.ensures in
    let f = c.put_fraction-zone.ensures in
    let z = c.put_zone-n.ensures in
    let l = c.args.b.now in
    let w = moment_put l _ _ u c.get16.ensures _ _ _ _ _ _ _ (omega arith) (omega (arith, f.1.0, z.1.0)) d k f.0 f.1.1 z.0 z.1.1 in
    (w.0, (omega (arith, f.1.0, z.1.0), pasted_as _ _ _ _ _ w.1 c.copy.ensures))
