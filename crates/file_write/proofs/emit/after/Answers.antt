-- `emit::after` meets its contract. Assumes nothing.
use mathlib.Core.Path.{sym, ap}
use Prim.Native.Nat.{ℕ, ◌+◌}
use native.Mathlib.Omega.{arith}
use lib.ListN.{drop}
use Rattle.value.specs.mirror.Ends.{width}
use Rattle.value.proofs.stored.Numbered.{width_text}
use Rattle.file_write.proofs.Widths.{width_one, width_none}
use Rattle.file_write.proofs.emit.after.Goals as goal

pub returns-in-8 : goal.returns-in-8
unfolding width
returns-in-8 c =
    let g = c.args in
    ap (λ (j : ℕ). g.i + width j (drop g.i g.run.now)) (sym c.in-8.is)

pub returns-in-9 : goal.returns-in-9
unfolding width
returns-in-9 c =
    let g = c.args in
    ap (λ (j : ℕ). g.i + width j (drop g.i g.run.now)) (sym c.in-9.is)

pub returns-in-10 : goal.returns-in-10
unfolding width
returns-in-10 c =
    let g = c.args in
    ap (λ (j : ℕ). g.i + width j (drop g.i g.run.now)) (sym c.in-10.is)

pub returns-in-11 : goal.returns-in-11
unfolding width
returns-in-11 c =
    let g = c.args in
    ap (λ (j : ℕ). g.i + width j (drop g.i g.run.now)) (sym c.in-11.is)

pub returns-in-2-to-5 : goal.returns-in-2-to-5
returns-in-2-to-5 c =
    let g = c.args in
    omega (arith, c.get16.ensures, width_text (drop g.i g.run.now) g.kind c.in-2-to-5.if-kind-lt2-own.false (omega (arith, c.in-2-to-5.if-kind-lt6-own.true)))

pub returns-in-6-to-7 : goal.returns-in-6-to-7
returns-in-6-to-7 c =
    let g = c.args in
    omega (arith, width_one (drop g.i g.run.now) g.kind c.in-6-to-7.if-kind-lt6-own.false (omega (arith, c.in-6-to-7.if-kind-lt8-own.true)))

pub returns-in_default : goal.returns-in_default
returns-in_default c =
    let g = c.args in
    omega (arith, width_none (drop g.i g.run.now) g.kind (λ h k. omega (arith, c.in_default.if-kind-lt2-own.true)))

pub returns-in_default-2 : goal.returns-in_default-2
returns-in_default-2 c =
    let g = c.args in
    let r = c.in_default.in_default-own.rest in
    omega (arith, width_none (drop g.i g.run.now) g.kind (λ h k. omega (arith, c.in_default.if-kind-lt8-own.false, r)))
