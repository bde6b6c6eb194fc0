-- `chars::put_chars` meets its contract: what is left goes where it went when the loop began. Assumes nothing.
use native.Mathlib.Omega.{arith}
use Rattle.value.proofs.given.Putting.{kept}
use Rattle.value.proofs.given.Running.{start_room, going_start, going_end, code_low, from_within, some_len, next_room, next_within, going_again}
use Rattle.value_kinds.proofs.chars.put_chars.Goals as goal

pub overflow_add-j : goal.overflow_add-j
overflow_add-j c =
    omega (arith, start_room c.args.t.now _ _ c.requires _ c.own_end-i.ensures)

pub loop-i-init : goal.loop-i-init
loop-i-init c =
    going_start c.args.t.now _ _ c.requires _ c.own_end-i.ensures _ c.copy.ensures

pub overflow_add-from : goal.overflow_add-from
overflow_add-from c =
    omega (arith, from_within _ _ _ _ _ _ _ c.loop-i.invariant c.loop-i-test.true _ c.next_char-c.ensures)

pub overflow_cast-code : goal.overflow_cast-code
overflow_cast-code c =
    omega (arith, code_low _ _ _ _ _ _ _ c.loop-i.invariant c.loop-i-test.true _ c.next_char-c.ensures)

pub overflow_add-j-in-loop-i : goal.overflow_add-j-in-loop-i
overflow_add-j-in-loop-i c =
    omega (arith, next_room _ _ _ _ _ _ _ c.loop-i.invariant c.loop-i-test.true _ c.next_char-c.ensures _ c.own_end-end.ensures)

pub overflow_sub-j : goal.overflow_sub-j
overflow_sub-j c =
    omega (arith, c.own_end-end.ensures)

pub overflow_add-j-in-loop-i-2 : goal.overflow_add-j-in-loop-i-2
overflow_add-j-in-loop-i-2 c =
    omega (
      arith,
      (next_within _ _ _ _ _ _ _ c.loop-i.invariant c.loop-i-test.true _ c.next_char-c.ensures _
          c.own_end-end.ensures),
    )

pub overflow_add-j-in-loop-i-3 : goal.overflow_add-j-in-loop-i-3
overflow_add-j-in-loop-i-3 c =
    omega (
      arith,
      (next_room _ _ _ _ _ _ _ c.loop-i.invariant c.loop-i-test.true _ c.next_char-c.ensures _ c.own_end-end.ensures),
    )

pub loop-i-smaller : goal.loop-i-smaller
loop-i-smaller c =
    omega (
      arith,
      (next_within _ _ _ _ _ _ _ c.loop-i.invariant c.loop-i-test.true _ c.next_char-c.ensures _
          c.own_end-end.ensures),
      some_len _ _ _ _ _ _ _ c.loop-i.invariant c.loop-i-test.true _ c.next_char-c.ensures,
      c.own_end-end.ensures,
    )

pub loop-i-preserved : goal.loop-i-preserved
loop-i-preserved c =
    going_again _ _ _ _ _ _ _ c.loop-i.invariant c.loop-i-test.true _ c.next_char-c.ensures _
    c.own_end-end.ensures _ c.place.ensures _ c.copy-in-loop-i.ensures

pub shape_of-out : goal.shape_of-out
shape_of-out c =
    omega (arith, c.loop-i.invariant.ran.long, kept _ _ _ _ c.copy.ensures)

pub returns : goal.returns
returns c =
    going_end c.args.t.now _ _ c.requires _ c.own_end-i.ensures _ c.copy.ensures _ _ _ c.loop-i.invariant c.loop-i-test.false
