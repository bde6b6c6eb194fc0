-- `utf8::pair` meets its contract. Assumes nothing.
use mathlib.Core.Path.{refl, sym, ◌∙◌}
use borrow.Author.Tests.{not-false}
use Rattle.text_characters.proofs.Decoding.{pair_there}
use Rattle.text_characters.proofs.utf8.pair.Goals as goal

pub returns-then-x-lt194 : goal.returns-then-x-lt194
returns-then-x-lt194 c n = absurd (n refl)

pub returns-then-x-gt223 : goal.returns-then-x-gt223
returns-then-x-gt223 c n = absurd (n refl)

pub returns-then-not-is_tail : goal.returns-then-not-is_tail
returns-then-not-is_tail c n = absurd (n refl)

pub returns : goal.returns
returns c =
    pair_there _ _ c.requires _ c.byte-y.ensures c.if-x-lt194.false c.if-x-gt223.false
    (sym c.is_tail.ensures ∙ not-false _ c.if-not-is_tail.false-raw) _ _ c.wide.ensures c.wide-2.ensures
