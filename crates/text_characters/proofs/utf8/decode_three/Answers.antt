-- `utf8::decode_three` meets its contract. Assumes nothing.
use mathlib.Core.Path.{sym, ◌∙◌}
use borrow.Author.Tests.{not-true, not-false}
use Rattle.text_characters.specs.mirror.Decoding.{three}
use Rattle.text_characters.proofs.utf8.decode_three.Goals as goal

pub returns-then-not-is_tail : goal.returns-then-not-is_tail
unfolding three
returns-then-not-is_tail c =
    c.char_of.ensures ∙ sym (rw (sym c.is_tail.ensures ∙ not-true _ c.if-not-is_tail.true-raw))

pub returns-then-not-is_tail-2 : goal.returns-then-not-is_tail-2
unfolding three
returns-then-not-is_tail-2 c =
    c.char_of-then-not-is_tail-2.ensures ∙ sym (rw (sym c.is_tail.ensures ∙ not-false _ c.if-not-is_tail.false-raw, sym c.is_tail-2.ensures ∙ not-true _ c.if-not-is_tail-2.true-raw))

pub returns : goal.returns
unfolding three
returns c =
    rw (
      c.keep.ensures,
      c.wide-3.ensures,
      c.wide-2.ensures,
      c.wide.ensures,
      sym c.is_tail.ensures ∙ not-false _ c.if-not-is_tail.false-raw,
      sym c.is_tail-2.ensures ∙ not-false _ c.if-not-is_tail-2.false-raw,
    )
