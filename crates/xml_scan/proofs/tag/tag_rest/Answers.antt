-- `tag::tag_rest` meets its contract. Assumes nothing.
use Rattle.xml_scan.proofs.Tags.{tag_greater}
use Rattle.xml_scan.proofs.tag.tag_rest.Goals as goal

pub returns-then-s-at-eq62 : goal.returns-then-s-at-eq62
returns-then-s-at-eq62 c =
    tag_greater _ _ c.if-at-s.true c.if-s-at-eq62.true
