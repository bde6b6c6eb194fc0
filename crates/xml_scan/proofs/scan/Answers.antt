-- `scan` meets its contract. Assumes nothing.
use Rattle.std.proofs.lemmas.Result.{err_from_is_err_and}
use Rattle.xml_scan.proofs.Answers.{prolog_stops, prolog_within, elements_stop, more_stops, all_whole}
use Rattle.xml_scan.proofs.scan.Goals as goal

pub returns-in_err-root : goal.returns-in_err-root
returns-in_err-root c =
    let p = err_from_is_err_and c.from_residual.result c.from_residual.ensures.1 in
    rw (p.1, p.2) (prolog_stops _ c.prolog.result c.prolog.ensures _ c.in_err-root.was)

pub elements-requires : goal.elements-requires
elements-requires c =
    prolog_within _ c.prolog.result c.prolog.ensures _ c.in_ok-root.was

pub returns-in_err-behind : goal.returns-in_err-behind
returns-in_err-behind c =
    let p = err_from_is_err_and c.from_residual-in_err-behind.result c.from_residual-in_err-behind.ensures.1 in
    rw (p.1, p.2) (elements_stop _ c.prolog.result c.prolog.ensures _ c.in_ok-root.was c.elements.result c.elements.ensures _ c.in_err-behind.was)

pub returns-then-end-s : goal.returns-then-end-s
returns-then-end-s c =
    more_stops _ c.prolog.result c.prolog.ensures _ c.in_ok-root.was c.elements.result c.elements.ensures _ c.in_ok-behind.was _
    c.blanks_end-end.ensures c.if-end-s.true

pub returns : goal.returns
returns c =
    all_whole _ c.prolog.result c.prolog.ensures _ c.in_ok-root.was c.elements.result c.elements.ensures _ c.in_ok-behind.was _
    c.blanks_end-end.ensures c.if-end-s.false
