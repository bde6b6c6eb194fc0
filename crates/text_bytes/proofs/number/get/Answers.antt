-- `number::get` meets its contract. Assumes nothing.
use Rattle.std.proofs.Common.{arith, ◌≤◌, ◌^◌, length}
use native.Mathlib.Nat.{pow-le-pow_right}
use Rattle.text_bytes.proofs.number.get.Goals as goal

pub returns-in-None-clause-fits : goal.returns-in-None-clause-fits
returns-in-None-clause-fits g c =
    let i : length c.rest-there.result.now ≤ g.row.W = omega (arith, c.in-None.ensures.cases) in
    let q : 256 ^ length c.rest-there.result.now ≤ 256 ^ g.row.W = pow-le-pow_right (omega arith) i in
    omega (arith, c.number_of-in-None.ensures.fits)
