-- `write` meets its contract. Assumes nothing.
use native.Mathlib.Omega.{arith}
use mathlib.Core.Path.{refl}
use Rattle.list.proofs.Laid.{laid_over}
use Rattle.image_reading.proofs.House.{begun_refuses}
use Rattle.file_write.proofs.Writing.{laid_asks, write_unread, write_searched, write_there, write_stale, write_held, write_long, write_unfit, write_whole}
use Rattle.file_write.proofs.write.Goals as goal

pub returns-in-Err : goal.returns-in-Err
returns-in-Err c =
    write_unread _ _ c.in-Err.ensures (begun_refuses _ _ c.in-Err.ensures refl) _

pub first_stale-requires : goal.first_stale-requires
first_stale-requires c =
    write_searched _ _ c.in-Ok.ensures refl _
    (laid_asks _ _ (laid_over _ _ _ _ c.rows_of-rows.ensures refl c.lay.ensures)) _ c.pool-pool.ensures

pub bounds-run-stale : goal.bounds-run-stale
bounds-run-stale c =
    write_there _ _ c.in-Ok.ensures refl _
    (laid_asks _ _ (laid_over _ _ _ _ c.rows_of-rows.ensures refl c.lay.ensures)) _ c.pool-pool.ensures
    _ c.in-Some.ensures.is (λ z. omega (arith, z, c.in-Some.ensures.some))

pub returns-in-Some : goal.returns-in-Some
returns-in-Some c =
    write_stale _ _ c.in-Ok.ensures refl _
    (laid_asks _ _ (laid_over _ _ _ _ c.rows_of-rows.ensures refl c.lay.ensures)) _ c.pool-pool.ensures
    _ c.in-Some.ensures.is (λ z. omega (arith, z, c.in-Some.ensures.some)) _ c.from.ensures _ _ c.refusal.ensures

pub emit-n-requires : goal.emit-n-requires
emit-n-requires c =
    write_held _ _ c.in-Ok.ensures refl _
    (laid_asks _ _ (laid_over _ _ _ _ c.rows_of-rows.ensures refl c.lay.ensures)) _ c.pool-pool.ensures
    _ c.in_default.ensures.is refl

pub returns-then-answer-ne-ACCEPTED : goal.returns-then-answer-ne-ACCEPTED
returns-then-answer-ne-ACCEPTED c =
    write_unfit _ _ c.in-Ok.ensures refl _
    (laid_asks _ _ (laid_over _ _ _ _ c.rows_of-rows.ensures refl c.lay.ensures)) _ c.pool-pool.ensures
    _ c.in_default.ensures.is refl _ _ _ c.emit-n.ensures _ _ c.sized-answer.ensures c.if-answer-ne-ACCEPTED.true

pub emit-requires : goal.emit-requires
emit-requires c =
    write_held _ _ c.in-Ok.ensures refl _
    (laid_asks _ _ (laid_over _ _ _ _ c.rows_of-rows.ensures refl c.lay.ensures)) _ c.pool-pool.ensures
    _ c.in_default.ensures.is refl

pub shape_of-out : goal.shape_of-out
shape_of-out c =
    write_long _ _ c.in-Ok.ensures refl _
    (laid_asks _ _ (laid_over _ _ _ _ c.rows_of-rows.ensures refl c.lay.ensures)) _ c.pool-pool.ensures
    _ c.in_default.ensures.is refl _ _ _
    c.emit.ensures

pub returns : goal.returns
returns c =
    write_whole _ _ c.in-Ok.ensures refl _
    (laid_asks _ _ (laid_over _ _ _ _ c.rows_of-rows.ensures refl c.lay.ensures)) _ c.pool-pool.ensures
    _ c.in_default.ensures.is refl _ _ _ c.emit-n.ensures _ _ c.sized-answer.ensures (omega (arith, c.if-answer-ne-ACCEPTED.false)) _ _ c.emit.ensures
