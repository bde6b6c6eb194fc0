-- `from_text::shift` meets its contract. Assumes nothing.
use mathlib.Core.Path.{◌≡◌, refl}
use native.Mathlib.Omega.{arith}
use Rattle.value_amounts.proofs.from_text.shift.Goals as goal

pub returns-in-0 : goal.returns-in-0
returns-in-0 c =
    rw c.in-0.is (refl, omega arith)

pub returns-in-1 : goal.returns-in-1
returns-in-1 c =
    rw c.in-1.is (refl, omega arith)

pub returns-in-2 : goal.returns-in-2
returns-in-2 c =
    rw c.in-2.is (refl, omega arith)

pub returns-in-3 : goal.returns-in-3
returns-in-3 c =
    rw c.in-3.is (refl, omega arith)

pub returns-in_default : goal.returns-in_default
returns-in_default c =
    let e : c.args.z ≡ 4 = omega arith in rw e (refl, omega arith)
