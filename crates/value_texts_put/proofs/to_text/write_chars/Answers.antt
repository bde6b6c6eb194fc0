-- `to_text::write_chars` meets its contract: what has no room is counted. Assumes nothing.
use mathlib.Core.Path.{sym, ◌∙◌}
use Prim.Native.Nat.{◌-◌}
use native.Mathlib.Omega.{arith}
use lib.ListN.{length}
use borrow.Author.Tests.{not-true, not-false, leb-true, leb-false}
use Rattle.text.proofs.Pasting.{copy_not}
use Rattle.value.specs.script.Raw.{escaped}
use Rattle.value.proofs.script.Escaping.{escaped_most}
use Rattle.value_texts_put.proofs.to_text.write_chars.Goals as goal

pub returns-then-out-at : goal.returns-then-out-at
returns-then-out-at c =
    let w = c.raw_len.ensures in
    (w.0, (w.1, copy_not _ _ _ _ w.0 (omega (arith, c.if-out-at.true))))

pub returns-then-not-has_room : goal.returns-then-not-has_room
returns-then-not-has_room c =
    let w = c.raw_len-then-not-has_room.ensures in
    let g = c.args in
    let over = leb-false (length (escaped g.t.now)) (length g.out.now - g.at) (sym c.has_room.ensures ∙ not-true _ c.if-not-has_room.true-raw) in
    (w.0, (w.1, copy_not _ _ _ _ w.0 (omega (arith, over, c.if-out-at.false))))

pub spread-requires : goal.spread-requires
spread-requires c =
    let g = c.args in
    omega (arith, leb-true (length (escaped g.t.now)) (length g.out.now - g.at) (sym c.has_room.ensures ∙ not-false _ c.if-not-has_room.false-raw), c.if-out-at.false)

pub returns : goal.returns
returns c =
    let s = c.spread.ensures in
    (omega (arith, s.0), (omega (arith, s.0, escaped_most c.args.t.now, c.requires), s.1))
