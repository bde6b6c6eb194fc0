-- `elements::elements` meets its contract. Assumes nothing.
use Rattle.std.proofs.lemmas.Result.{err_from_is_err_and}
use Rattle.xml.specs.mirror.Auto.{root}
use Rattle.xml_scan.specs.mirror.Tags.{inside}
use Rattle.xml_scan.proofs.Goes.{goes_stop, goes_is}
use Rattle.xml_scan.proofs.Nesting.{root_opens}
use Rattle.xml_scan.proofs.elements.elements.Goals as goal

pub returns-in_err-i : goal.returns-in_err-i
returns-in_err-i c =
    let p = err_from_is_err_and c.from_residual.result c.from_residual.ensures.1 in
    rw (p.1, p.2)
    (goes_stop _ _ root (inside c.start_tag.new.names) c.start_tag.result _ (c.start_tag.ensures root (root_opens _ _ _ c.new-names.ensures)) c.in_err-i.was)

pub loop-names-init : goal.loop-names-init
loop-names-init c =
    goes_is _ _ root (inside c.start_tag.new.names) c.start_tag.result _ (c.start_tag.ensures root (root_opens _ _ _ c.new-names.ensures)) c.in_ok-i.was
