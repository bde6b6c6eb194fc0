-- `prolog::prolog` meets its contract. Assumes nothing.
use mathlib.Core.Path.{sym, ◌∙◌}
use borrow.Author.Tests.{not-true, not-false}
use Rattle.std.proofs.lemmas.Result.{err_from_is_err_and}
use Rattle.xml_scan.proofs.Before.{prolog_plain, declared_stop, declared_within, declared_on}
use Rattle.xml_scan.proofs.prolog.prolog.Goals as goal

pub returns-then-not-begins : goal.returns-then-not-begins
returns-then-not-begins c =
    prolog_plain _ c.root.result (sym c.begins.ensures ∙ not-true _ c.if-not-begins.true-raw) c.root.ensures

pub root-requires-2 : goal.root-requires-2
root-requires-2 c =
    declared_within _ (sym c.begins.ensures ∙ not-false _ c.if-not-begins.false-raw) c.word.result c.word.ensures _ c.in_ok-word.was

pub returns-in_err-word : goal.returns-in_err-word
returns-in_err-word c =
    let p = err_from_is_err_and c.from_residual.result c.from_residual.ensures.1 in
    rw (p.1, p.2) (declared_stop _ (sym c.begins.ensures ∙ not-false _ c.if-not-begins.false-raw) c.word.result c.word.ensures _ c.in_err-word.was)

pub returns : goal.returns
returns c =
    declared_on _ (sym c.begins.ensures ∙ not-false _ c.if-not-begins.false-raw) c.word.result c.word.ensures _ c.in_ok-word.was c.root-2.result c.root-2.ensures
