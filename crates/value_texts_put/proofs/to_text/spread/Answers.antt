-- `to_text::spread` meets its contract: what is left goes where it went when the loop began. Assumes nothing.
use Rattle.std.proofs.Common.{◌≡◌, ◌∙◌, true, List, ℕ, ◌+◌, ◌<◌, length, drop, get_or, arith}
use Rattle.text.specs.Lists.{span}
use Rattle.value.specs.script.Raw.{is_marked, is_plain}
use Rattle.value.proofs.script.Escaping.{spread_start, spread_within, spread_room, spread_sum, spread_end, spread_again, run_mark}
use Rattle.value_texts_put.proofs.to_text.spread.Goals as goal

-- at the end of a run stands a mark, so that what is promised of marks holds
at_mark : (t : List ℕ) (i end : ℕ) → end ≡ i + span is_plain (drop i t) → end < length t → {A : Type 0} → (is_marked (get_or t end 0) ≡ true → A) → A
at_mark t i end e h {A} f = f (run_mark t i end e h)

pub loop-at-init : goal.loop-at-init
loop-at-init c = spread_start _ _ _ c.requires

pub overflow_sub-mark : goal.overflow_sub-mark
overflow_sub-mark c = omega (arith, c.plain_end-end.ensures)

pub overflow_add-mark : goal.overflow_add-mark
overflow_add-mark c =
    omega (arith, spread_within _ _ _ _ _ _ _ c.loop-at.invariant c.plain_end-end.ensures)

pub returns-then-t-end : goal.returns-then-t-end
returns-then-t-end c =
    let inv = c.loop-at.invariant in
    let run = c.plain_end-end.ensures in
    (spread_sum _ _ _ _ _ _ _ inv run c.if-t-end.true, c.copy.ensures ∙ spread_end _ _ _ _ _ _ _ inv run c.if-t-end.true)

pub bounds-t-end : goal.bounds-t-end
bounds-t-end c = c.if-t-end.false

pub overflow_add-to : goal.overflow_add-to
overflow_add-to c =
    omega (arith, spread_room _ _ _ _ _ _ _ c.loop-at.invariant c.plain_end-end.ensures c.if-t-end.false, at_mark _ _ _ c.plain_end-end.ensures c.if-t-end.false c.put_mark.ensures)

pub overflow_add-i : goal.overflow_add-i
overflow_add-i c = omega (arith, c.if-t-end.false)

pub loop-at-smaller : goal.loop-at-smaller
loop-at-smaller c =
    omega (arith, c.if-t-end.false, c.plain_end-end.ensures)

pub loop-at-preserved : goal.loop-at-preserved
loop-at-preserved c =
    let s = c.loop-at.invariant in
    let run = c.plain_end-end.ensures in
    let word = at_mark _ _ _ run c.if-t-end.false c.put_mark.ensures in
    spread_again _ _ _ _ _ _ _ s run _ _ _ c.if-t-end.false c.copy.ensures (omega (arith, word.0), word.1)
