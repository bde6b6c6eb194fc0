-- `utf8::decode` meets its contract. Assumes nothing.
use Rattle.text_characters.proofs.Decoding.{decoded_none, decoded_one_byte, decoded_stray, decoded_over, decoded_two, decoded_three, decoded_four}
use Rattle.text_characters.proofs.utf8.decode.Goals as goal

pub returns-then-s-at : goal.returns-then-s-at
returns-then-s-at c = decoded_none _ _ _ c.if-s-at.true c.char_of.ensures

pub returns-then-x-lt-BEYOND : goal.returns-then-x-lt-BEYOND
returns-then-x-lt-BEYOND c =
    decoded_one_byte _ _ c.if-s-at.false _ _ c.if-x-lt-BEYOND.true c.wide.ensures c.char_of-then-x-lt-BEYOND.ensures

pub returns-then-x-lt192 : goal.returns-then-x-lt192
returns-then-x-lt192 c =
    decoded_stray _ _ c.if-s-at.false _ c.if-x-lt-BEYOND.false c.if-x-lt192.true c.char_of-then-x-lt192.ensures

pub returns-then-x-lt224 : goal.returns-then-x-lt224
returns-then-x-lt224 c =
    decoded_two _ _ c.if-s-at.false _ _ c.byte.ensures c.if-x-lt192.false c.if-x-lt224.true c.decode_two.ensures

pub returns-then-x-lt240 : goal.returns-then-x-lt240
returns-then-x-lt240 c =
    decoded_three _ _ c.if-s-at.false _ _ c.byte-then-x-lt240.ensures _ c.byte-then-x-lt240-2.ensures c.if-x-lt224.false c.if-x-lt240.true c.decode_three.ensures

pub returns-then-x-lt248 : goal.returns-then-x-lt248
returns-then-x-lt248 c =
    decoded_four _ _ c.if-s-at.false _ _ c.byte-then-x-lt248.ensures _ c.byte-then-x-lt248-2.ensures _ c.byte-then-x-lt248-3.ensures c.if-x-lt240.false c.if-x-lt248.true c.decode_four.ensures

pub returns : goal.returns
returns c =
    decoded_over _ _ c.if-s-at.false _ c.if-x-lt248.false c.char_of-2.ensures
