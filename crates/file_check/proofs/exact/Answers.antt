-- `exact` meets its contract, from what measuring told and what the pass that writes left. Assumes nothing.
use mathlib.Core.Path.{subst}
use native.Mathlib.Omega.{arith}
use Rattle.file_measure.specs.Measures.{Measures}
use Rattle.file_check.proofs.Checking.{refused, no_room_lem, kind_low, may_fill, filled}
use Rattle.file_check.proofs.exact.Goals as goal

pub returns-in-Err : goal.returns-in-Err
returns-in-Err c =
    refused _ _ (subst (Measures c.args.input.now) c.in-Err.is c.measured.ensures) _

pub returns-then-out-good : goal.returns-then-out-good
returns-then-out-good c =
    no_room_lem _ _ (subst (Measures c.args.input.now) c.in-Ok.is c.measured.ensures) _ _ (omega (arith, c.if-out-good.true)) c.no_room.ensures

pub overflow_cast-good : goal.overflow_cast-good
overflow_cast-good c =
    omega (arith, kind_low _ _ (subst (Measures c.args.input.now) c.in-Ok.is c.measured.ensures))

pub fill-requires : goal.fill-requires
fill-requires c =
    may_fill _ _ (subst (Measures c.args.input.now) c.in-Ok.is c.measured.ensures) _ _ c.rows_of-rows.ensures c.pool-pool.ensures

pub returns : goal.returns
returns c =
    filled _ _ (subst (Measures c.args.input.now) c.in-Ok.is c.measured.ensures) _ _ c.rows_of-rows.ensures c.pool-pool.ensures _ _ _
    (omega (arith, c.if-out-good.false)) c.fill.ensures c.accepted.ensures
