-- `chars::write_text` meets its contract. Assumes nothing.
use mathlib.Core.Path.{refl}
use native.Mathlib.Omega.{arith}
use Rattle.value.proofs.given.Putting.{fits, text_none, text_fits, text_no_room, text_room, text_put}
use Rattle.value_kinds.proofs.chars.write_text.Goals as goal

pub returns-then-size-eq0 : goal.returns-then-size-eq0
returns-then-size-eq0 c =
    text_none _ _ _ _ c.requires _ c.text_size-size.ensures c.if-size-eq0.true

pub returns-then-not-has_room : goal.returns-then-not-has_room
returns-then-not-has_room c =
    text_no_room _ _ _ _ c.requires _ c.text_size-size.ensures c.if-size-eq0.false _ c.has_room.ensures c.if-not-has_room.true-raw

pub overflow_cast-n : goal.overflow_cast-n
overflow_cast-n c =
    omega (arith, text_fits _ _ c.text_size-size.ensures c.if-size-eq0.false)

pub overflow_add-at : goal.overflow_add-at
overflow_add-at c =
    omega (
      arith,
      fits _ c.has_room.ensures c.if-not-has_room.false-raw,
      ((text_room _ _ _ _ c.requires _ c.text_size-size.ensures c.if-size-eq0.false _
          (fits _ c.has_room.ensures c.if-not-has_room.false-raw) c.put16.ensures _ refl).room),
    )

pub put_chars-requires : goal.put_chars-requires
put_chars-requires c =
    text_room _ _ _ _ c.requires _ c.text_size-size.ensures c.if-size-eq0.false _
    (fits _ c.has_room.ensures c.if-not-has_room.false-raw) c.put16.ensures _ refl

pub returns : goal.returns
returns c =
    text_put _ _ _ _ c.requires _ c.text_size-size.ensures c.if-size-eq0.false _ (fits _ c.has_room.ensures c.if-not-has_room.false-raw)
    c.put16.ensures _ refl _ c.put_chars.ensures
