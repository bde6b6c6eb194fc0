-- `elements::advance` meets its contract. Assumes nothing.
use Rattle.std.proofs.lemmas.Result.{err_from_is_err_and}
use Rattle.xml_scan.specs.mirror.Tags.{inside, marked}
use Rattle.xml_scan.proofs.Goes.{goes_stop, goes_then, goes_within}
use Rattle.xml_scan.proofs.Nesting.{text_marked}
use Rattle.xml_scan.proofs.elements.advance.Goals as goal

pub any_tag-requires : goal.any_tag-requires
any_tag-requires c =
    ((goes_within _ _ (inside c.args.names.now) (marked c.args.names.now) c.text_end.result _ (text_marked _ _ _ c.requires.1 c.text_end.result c.text_end.ensures) c.in_ok-text_end.was).1, c.requires.1)

pub returns-in_err-text_end : goal.returns-in_err-text_end
returns-in_err-text_end c =
    let p = err_from_is_err_and c.from_residual.result c.from_residual.ensures.1 in
    rw (p.1, p.2)
    (goes_stop _ _ (inside c.args.names.now) (marked c.args.names.now) c.text_end.result _ (text_marked _ _ _ c.requires.1 c.text_end.result c.text_end.ensures) c.in_err-text_end.was)

pub returns : goal.returns
returns c =
    goes_then _ _ (inside c.args.names.now) (marked c.args.names.now) _ c.text_end.result _ c.any_tag.result
    (text_marked _ _ _ c.requires.1 c.text_end.result c.text_end.ensures) c.in_ok-text_end.was c.any_tag.ensures
