-- `hints::root_attributes` meets its contract. Assumes nothing.
use mathlib.Core.Path.{◌≡◌, sym, ◌∙◌, ap}
use Prim.Native.Nat.{◌-◌}
use native.Mathlib.Omega.{arith}
use Rattle.file_walk.specs.mirror.Begin.{nothing, carried_in, allowed}
use Rattle.file_walk.proofs.Carrying.{carry_on, carry_end}
use Rattle.file_root.proofs.hints.root_attributes.Goals as goal

pub loop-init : goal.loop-init
loop-init c =
    let a = c.args in
    let n : a.count - 0 ≡ a.count = omega arith in
    ap (λ k. carried_in a.rows.now a.pool.now a.s.now nothing k a.stop) n

pub loop-preserved : goal.loop-preserved
loop-preserved c =
    carry_on _ _ _ _ _ _ _ _ _ (omega (arith, c.loop-test.true)) c.attribute_at-a.ensures c.noted-seen.ensures ∙ c.loop.invariant

pub returns : goal.returns
returns c =
    c.allowed.ensures ∙ ap allowed (sym (carry_end _ _ _ _ _ _ (omega (arith, c.loop-test.false))) ∙ c.loop.invariant)
