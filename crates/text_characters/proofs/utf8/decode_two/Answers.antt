-- `utf8::decode_two` meets its contract. Assumes nothing.
use mathlib.Core.Path.{sym, ◌∙◌}
use borrow.Author.Tests.{not-true, not-false}
use Rattle.text_characters.specs.mirror.Decoding.{two}
use Rattle.text_characters.proofs.utf8.decode_two.Goals as goal

pub returns-then-not-is_tail : goal.returns-then-not-is_tail
unfolding two
returns-then-not-is_tail c =
    c.char_of.ensures ∙ sym (rw (sym c.is_tail.ensures ∙ not-true _ c.if-not-is_tail.true-raw))

pub returns : goal.returns
unfolding two
returns c =
    rw (c.keep.ensures, c.wide-2.ensures, c.wide.ensures, sym c.is_tail.ensures ∙ not-false _ c.if-not-is_tail.false-raw)
