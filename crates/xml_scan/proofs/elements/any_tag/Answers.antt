-- `elements::any_tag` meets its contract. Assumes nothing.
use Rattle.xml_scan.proofs.Nesting.{any_cut, any_start, any_close}
use Rattle.xml_scan.proofs.elements.any_tag.Goals as goal

pub returns-then-s-at : goal.returns-then-s-at
returns-then-s-at c =
    any_cut _ _ _ c.requires.1 c.if-s-at.true

pub returns-then-s-at-ne47 : goal.returns-then-s-at-ne47
returns-then-s-at-ne47 c =
    any_start _ _ _ c.requires.1 c.if-s-at-ne47.true _ c.start_tag.result c.start_tag.ensures

pub returns : goal.returns
returns c =
    any_close _ _ _ _ _ c.pop.ensures.top c.pop.ensures.few c.if-s-at.false c.if-s-at-ne47.false c.end_tag.result c.end_tag.ensures
