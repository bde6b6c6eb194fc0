-- `utf8::keep` meets its contract. Assumes nothing.
use mathlib.Core.Path.{sym, ◌∙◌}
use borrow.Author.Tests.{lt-leb, le-leb, not-true, not-false}
use Rattle.text_characters.specs.mirror.Decoding.{kept}
use Rattle.text_characters.proofs.utf8.keep.Goals as goal

pub returns-then-c-low : goal.returns-then-c-low
unfolding kept
returns-then-c-low c = c.char_of.ensures ∙ sym (rw (lt-leb _ _ c.if-c-low.true))

pub returns-then-not-is_scalar : goal.returns-then-not-is_scalar
unfolding kept
returns-then-not-is_scalar c =
    c.char_of-then-not-is_scalar.ensures ∙ sym (rw (le-leb _ _ c.if-c-low.false, sym c.is_scalar.ensures ∙ not-true _ c.if-not-is_scalar.true-raw))

pub returns : goal.returns
unfolding kept
returns c =
    c.char_of-2.ensures ∙ sym (rw (le-leb _ _ c.if-c-low.false, sym c.is_scalar.ensures ∙ not-false _ c.if-not-is_scalar.false-raw))
