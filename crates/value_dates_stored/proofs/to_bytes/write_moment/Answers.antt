-- `to_bytes::write_moment` meets its contract. Assumes nothing.
use native.Mathlib.Omega.{arith}
use Rattle.value.proofs.given.Putting.{fits, kept, moment_no_room, moment_put}
use Rattle.value_dates_stored.proofs.to_bytes.write_moment.Goals as goal

pub returns-then-not-has_room : goal.returns-then-not-has_room
returns-then-not-has_room c =
    moment_no_room _ _ c.args.m _ c.has_room.ensures c.if-not-has_room.true-raw

pub overflow_add-at : goal.overflow_add-at
overflow_add-at c =
    omega (arith, fits _ c.has_room.ensures c.if-not-has_room.false-raw)

pub put_clock-requires : goal.put_clock-requires
put_clock-requires c =
    omega (arith, fits _ c.has_room.ensures c.if-not-has_room.false-raw, kept _ _ _ _ c.write_day.ensures.is)

pub overflow_add-at-2 : goal.overflow_add-at-2
overflow_add-at-2 c =
    omega (arith, fits _ c.has_room.ensures c.if-not-has_room.false-raw)

pub overflow_add-at-3 : goal.overflow_add-at-3
overflow_add-at-3 c =
    omega (arith, fits _ c.has_room.ensures c.if-not-has_room.false-raw)

pub returns : goal.returns
returns c =
    moment_put _ _ c.args.m _ _ _ _ _ (fits _ c.has_room.ensures c.if-not-has_room.false-raw) c.write_day.ensures
    c.put_clock.ensures c.put32.ensures c.put16.ensures
