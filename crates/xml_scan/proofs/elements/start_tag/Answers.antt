-- `elements::start_tag` meets its contract. Assumes nothing.
use mathlib.Core.Path.{sym, ◌∙◌, ap}
use native.Mathlib.Omega.{arith}
use borrow.Author.Tests.{not-true, not-false}
use Rattle.std.proofs.lemmas.Result.{err_from_is_err_and}
use Rattle.std.specs.Prelude.{Ok}
use Rattle.xml_scan.proofs.Nesting.{start_cut, start_other, start_deep, name_within, start_stop, start_empty, start_open}
use Rattle.xml_scan.proofs.elements.start_tag.Goals as goal

pub returns-then-s-at : goal.returns-then-s-at
returns-then-s-at c =
    start_cut _ _ _ c.if-s-at.true

pub returns-then-not-is_name_start : goal.returns-then-not-is_name_start
returns-then-not-is_name_start c =
    start_other _ _ _ c.if-s-at.false (sym c.is_name_start.ensures ∙ not-true _ c.if-not-is_name_start.true-raw)

pub returns-then-len-ge-MOST_LEVELS : goal.returns-then-len-ge-MOST_LEVELS
returns-then-len-ge-MOST_LEVELS c =
    start_deep _ _ _ c.if-s-at.false (sym c.is_name_start.ensures ∙ not-false _ c.if-not-is_name_start.false-raw) (omega (arith, c.len.ensures))

pub tag_rest-requires : goal.tag_rest-requires
tag_rest-requires c =
    name_within _ _ c.args.names.now c.if-s-at.false (sym c.is_name_start.ensures ∙ not-false _ c.if-not-is_name_start.false-raw) (omega (arith, c.len.ensures)) _ c.name_end-e.ensures

pub returns-in_err-i : goal.returns-in_err-i
returns-in_err-i c =
    let p = err_from_is_err_and c.from_residual.result c.from_residual.ensures.1 in
    rw (p.1, p.2)
    (start_stop _ _ _ c.if-s-at.false (sym c.is_name_start.ensures ∙ not-false _ c.if-not-is_name_start.false-raw) (omega (arith, c.len.ensures)) _
    c.name_end-e.ensures c.tag_rest.result c.tag_rest.ensures _ c.in_err-i.was)

pub returns-in-Empty : goal.returns-in-Empty
returns-in-Empty c =
    start_empty _ _ _ c.if-s-at.false (sym c.is_name_start.ensures ∙ not-false _ c.if-not-is_name_start.false-raw) (omega (arith, c.len.ensures)) _
    c.name_end-e.ensures c.tag_rest.result c.tag_rest.ensures _ (c.in_ok-i.was ∙ ap Ok c.in-Empty.is)

pub slice_bounds-push-end : goal.slice_bounds-push-end
slice_bounds-push-end c =
    name_within _ _ c.args.names.now c.if-s-at.false (sym c.is_name_start.ensures ∙ not-false _ c.if-not-is_name_start.false-raw) (omega (arith, c.len.ensures)) _ c.name_end-e.ensures

pub returns-in-Open : goal.returns-in-Open
returns-in-Open c =
    start_open _ _ _ c.if-s-at.false (sym c.is_name_start.ensures ∙ not-false _ c.if-not-is_name_start.false-raw) (omega (arith, c.len.ensures)) _
    c.name_end-e.ensures c.tag_rest.result c.tag_rest.ensures _ (c.in_ok-i.was ∙ ap Ok c.in-Open.is) _ c.push.ensures
