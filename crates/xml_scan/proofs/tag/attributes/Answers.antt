-- `tag::attributes` meets its contract. Assumes nothing.
use mathlib.Core.Path.{sym, ◌∙◌}
use borrow.Author.Tests.{not-true, not-false}
use Rattle.std.proofs.lemmas.Result.{err_from_is_err_and}
use Rattle.text.specs.Bytes.{is_blank}
use Rattle.xml_scan.proofs.Fate.{run_behind}
use Rattle.xml_scan.proofs.Tags.{attributing_none, tag_cut, tag_ends, tag_joined, tag_stop, attributing_less, attributing_on}
use Rattle.xml_scan.proofs.tag.attributes.Goals as goal

pub loop-seen-init : goal.loop-seen-init
loop-seen-init c =
    attributing_none _ _ _ c.new-seen.ensures c.requires

pub returns-then-s-b : goal.returns-then-s-b
returns-then-s-b c =
    tag_cut _ _ _ _ c.loop-seen.invariant _ c.blanks_end-b.ensures c.if-s-b.true

pub tag_end-requires : goal.tag_end-requires
tag_end-requires c =
    (c.if-s-b.false, run_behind is_blank _ _ _ c.blanks_end-b.ensures c.loop-seen.invariant.within c.if-s-b.false)

pub returns-then-not-is_name_start : goal.returns-then-not-is_name_start
returns-then-not-is_name_start c =
    tag_ends _ _ _ _ c.loop-seen.invariant _ c.blanks_end-b.ensures c.if-s-b.false (sym c.is_name_start.ensures ∙ not-true _ c.if-not-is_name_start.true-raw) c.tag_end.result c.tag_end.ensures

pub returns-then-b-i : goal.returns-then-b-i
returns-then-b-i c =
    tag_joined _ _ _ _ c.loop-seen.invariant _ c.blanks_end-b.ensures c.if-s-b.false (sym c.is_name_start.ensures ∙ not-false _ c.if-not-is_name_start.false-raw) c.if-b-i.true

pub attribute-requires : goal.attribute-requires
attribute-requires c =
    (c.if-s-b.false, sym c.is_name_start.ensures ∙ not-false _ c.if-not-is_name_start.false-raw)

pub returns-in_err-i : goal.returns-in_err-i
returns-in_err-i c =
    let p = err_from_is_err_and c.from_residual.result c.from_residual.ensures.1 in
    rw (p.1, p.2)
    (tag_stop _ _ _ _ c.loop-seen.invariant _ c.blanks_end-b.ensures c.if-b-i.false _ c.attribute.result c.attribute.ensures _ c.in_err-i.was)

pub loop-seen-smaller : goal.loop-seen-smaller
loop-seen-smaller c =
    attributing_less _ _ _ _ c.loop-seen.invariant _ c.blanks_end-b.ensures c.if-b-i.false _ c.attribute.result c.attribute.ensures _ c.in_ok-i.was

pub loop-seen-preserved : goal.loop-seen-preserved
loop-seen-preserved c =
    attributing_on _ _ _ _ c.loop-seen.invariant _ c.blanks_end-b.ensures c.if-b-i.false _ c.attribute.result c.attribute.ensures _ c.in_ok-i.was
