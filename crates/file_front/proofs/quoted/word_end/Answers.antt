-- `quoted::word_end` meets its contract. Assumes nothing.
use mathlib.Core.Path.{refl, sym, ◌∙◌, subst}
use native.Mathlib.Omega.{arith}
use borrow.Author.Tests.{not-false}
use Rattle.file_front.specs.mirror.Values.{Quotes}
use Rattle.file_front.proofs.Valuing.{worded_by}
use Rattle.file_front.proofs.quoted.word_end.Goals as goal

pub returns : goal.returns
returns c =
    let q = c.in_ok-quote.ensures in
    worded_by _ _ _ _ _ q.0 (subst Quotes q.1 q.2) refl (sym c.begins.ensures ∙ not-false _ c.if-not-begins.false-raw) refl
    (omega (arith, c.if-s-end.false)) (c.if-s-end-2.false ∙ q.1)
