-- `elements::end_tag` meets its contract. Assumes nothing.
use Rattle.std.proofs.lemmas.Result.{err_from_is_err_and}
use Rattle.xml_scan.proofs.Nesting.{close_stop, close_now, close_cut, close_other, close_end}
use Rattle.xml_scan.proofs.elements.end_tag.Goals as goal

pub returns-in_err-e : goal.returns-in_err-e
returns-in_err-e c =
    let p = err_from_is_err_and c.from_residual.result c.from_residual.ensures.1 in
    rw (p.1, p.2) (close_stop c.args.s.now c.args.at c.args.w.now c.requires c.word.result c.word.ensures _ c.in_err-e.was)

pub returns-then-s-e-eq62 : goal.returns-then-s-e-eq62
returns-then-s-e-eq62 c =
    close_now c.args.s.now c.args.at c.args.w.now c.requires c.word.result c.word.ensures _
    c.in_ok-e.was c.if-e-s.true c.if-s-e-eq62.true

pub returns-then-s-b : goal.returns-then-s-b
returns-then-s-b c =
    close_cut c.args.s.now c.args.at c.args.w.now c.requires c.word.result c.word.ensures _
    c.in_ok-e.was _ c.blanks_end-b.ensures c.if-s-b.true

pub returns-then-s-b-eq62 : goal.returns-then-s-b-eq62
returns-then-s-b-eq62 c =
    close_end c.args.s.now c.args.at c.args.w.now c.requires c.word.result c.word.ensures _
    c.in_ok-e.was _ c.blanks_end-b.ensures c.if-s-b.false c.if-s-b-eq62.true

pub returns : goal.returns
returns c =
    close_other c.args.s.now c.args.at c.args.w.now c.requires c.word.result c.word.ensures _
    c.in_ok-e.was _ c.blanks_end-b.ensures c.if-s-b.false c.if-s-b-eq62.false
