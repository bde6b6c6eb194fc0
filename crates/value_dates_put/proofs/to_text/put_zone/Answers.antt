-- `to_text::put_zone` meets its contract. Assumes nothing.
use mathlib.Core.Path.{refl, ap}
use Prim.Native.Nat.{◌-◌}
use native.Mathlib.Omega.{arith}
use lib.ListN.{length}
use Rattle.text.specs.Bytes.{ascii}
use Rattle.value.proofs.script.Escaping.{pasted_as}
use Rattle.value.proofs.script.Moments.{zone_zero, zone_behind, zone_ahead, offset_long}
use Rattle.value_dates_put.proofs.to_text.put_zone.Goals as goal

pub returns-then-z-eq-ZERO_OFFSET : goal.returns-then-z-eq-ZERO_OFFSET
returns-then-z-eq-ZERO_OFFSET c =
    let e = zone_zero c.args.z c.if-z-eq-ZERO_OFFSET.true in
    (omega (arith, ap length e), (omega arith, pasted_as _ _ _ _ _ e c.copy.ensures))

pub returns-then-z-lt-ZERO_OFFSET : goal.returns-then-z-lt-ZERO_OFFSET
returns-then-z-lt-ZERO_OFFSET c =
    let z = c.args.z in
    let e = zone_behind z c.if-z-lt-ZERO_OFFSET.true in
    (omega (arith, ap length e, offset_long (ascii "-") refl (840 - z)), (omega arith, pasted_as _ _ _ _ _ e c.put_offset.ensures))

pub returns : goal.returns
returns c =
    let z = c.args.z in
    let e = zone_ahead z c.if-z-eq-ZERO_OFFSET.false c.if-z-lt-ZERO_OFFSET.false in
    (omega (arith, ap length e, offset_long (ascii "+") refl (z - 840)), (omega arith, pasted_as _ _ _ _ _ e c.put_offset-2.ensures))
