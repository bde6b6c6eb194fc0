-- `turn::passed` meets its contract. Assumes nothing.
use mathlib.Core.Path.{refl}
use Prim.Native.Nat.{◌*◌}
use native.Mathlib.Omega.{arith}
use Rattle.file_lane.proofs.Turning.{turns_short, turns_over}
use Rattle.file_lane.proofs.turn.passed.Goals as goal

pub returns-then-kind-eq-SHORT : goal.returns-then-kind-eq-SHORT
returns-then-kind-eq-SHORT c =
    (turns_short c.args.nodes.now c.args.s.now (11 * c.args.n) _ _ c.args.at _ refl refl refl _ c.if-kind-eq-SHORT.true refl, omega (arith, c.if-long-eq0.false), omega arith)

pub returns-then-kind-eq-ENDING : goal.returns-then-kind-eq-ENDING
returns-then-kind-eq-ENDING c = (
  turns_over c.args.nodes.now c.args.s.now (11 * c.args.n) _ _ c.args.at _ refl refl refl _ c.if-kind-eq-ENDING.true c.blanks_end.ensures (λ q. omega (arith, c.if-blanks_end-s.false)),
  omega (arith, c.if-long-eq0.false),
  omega arith,
)

pub returns : goal.returns
returns c =
    let on = c.in_ok-text.ensures in
    let end = c.in_ok-after.ensures in
    (on.0 _ _ end.0 refl, omega (arith, on.1, end.1, c.if-long-eq0.false), on.2)
