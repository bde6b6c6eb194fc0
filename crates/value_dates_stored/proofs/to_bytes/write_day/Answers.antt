-- `to_bytes::write_day` meets its contract. Assumes nothing.
use native.Mathlib.Omega.{arith}
use Rattle.value.proofs.given.Putting.{fits, day_no_room, day_put}
use Rattle.value_dates_stored.proofs.to_bytes.write_day.Goals as goal

pub returns-then-not-has_room : goal.returns-then-not-has_room
returns-then-not-has_room c =
    day_no_room _ _ c.args.y c.args.m c.args.d _ c.has_room.ensures c.if-not-has_room.true-raw

pub overflow_add-at : goal.overflow_add-at
overflow_add-at c =
    omega (arith, fits _ c.has_room.ensures c.if-not-has_room.false-raw)

pub overflow_add-at-2 : goal.overflow_add-at-2
overflow_add-at-2 c =
    omega (arith, fits _ c.has_room.ensures c.if-not-has_room.false-raw)

pub returns : goal.returns
returns c =
    day_put _ _ c.args.y c.args.m c.args.d _ _ _ (fits _ c.has_room.ensures c.if-not-has_room.false-raw)
    c.put16.ensures c.place.ensures c.place-2.ensures
