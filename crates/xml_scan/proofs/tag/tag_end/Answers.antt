-- `tag::tag_end` meets its contract. Assumes nothing.
use Rattle.xml_scan.proofs.Tags.{end_greater, end_other, slash_cut, slash_other, slash_end}
use Rattle.xml_scan.proofs.tag.tag_end.Goals as goal

pub returns-then-x-eq62 : goal.returns-then-x-eq62
returns-then-x-eq62 c =
    end_greater _ _ c.requires.0 c.if-x-eq62.true

pub returns-then-x-ne47 : goal.returns-then-x-ne47
returns-then-x-ne47 c =
    end_other _ _ c.requires.0 c.requires.1 c.if-x-eq62.false c.if-x-ne47.true

pub returns-then-s-i : goal.returns-then-s-i
returns-then-s-i c =
    slash_cut _ _ c.requires.0 c.if-x-ne47.false c.if-s-i.true

pub returns-then-s-i-eq62 : goal.returns-then-s-i-eq62
returns-then-s-i-eq62 c =
    slash_end _ _ c.requires.0 c.if-x-ne47.false c.if-s-i.false c.if-s-i-eq62.true

pub returns : goal.returns
returns c =
    slash_other _ _ c.requires.0 c.if-x-ne47.false c.if-s-i.false c.if-s-i-eq62.false
