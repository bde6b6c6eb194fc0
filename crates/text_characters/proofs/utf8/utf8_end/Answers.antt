-- `utf8::utf8_end` meets its contract. Assumes nothing.
use native.Mathlib.Omega.{arith}
use Rattle.text_characters.proofs.Longest.{left_start, left_ascii, left_room, left_char, left_stop, left_end}
use Rattle.text_characters.proofs.utf8.utf8_end.Goals as goal

pub loop-i-init : goal.loop-i-init
loop-i-init c = left_ascii _ 0 (left_start _) _ c.ascii_end-i.ensures

pub returns-then-n-eq0 : goal.returns-then-n-eq0
returns-then-n-eq0 c = left_stop _ _ c.loop-i.invariant _ c.char_len-n.ensures c.if-n-eq0.true

pub overflow_add-i : goal.overflow_add-i
overflow_add-i c =
    omega (arith, left_room _ _ c.loop-i.invariant _ c.char_len-n.ensures c.if-n-eq0.false)

pub loop-i-smaller : goal.loop-i-smaller
loop-i-smaller c = omega (arith, c.ascii_end-i-in-loop-i.ensures)

pub loop-i-preserved : goal.loop-i-preserved
loop-i-preserved c =
    left_ascii _ _ (left_char _ _ c.loop-i.invariant _ c.char_len-n.ensures c.if-n-eq0.false) _ c.ascii_end-i-in-loop-i.ensures

pub returns : goal.returns
returns c = left_end _ _ c.loop-i.invariant c.loop-i-test.false
