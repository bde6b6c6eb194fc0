-- `attribute::full_name` meets its contract. Assumes nothing.
use mathlib.Core.Path.{sym, ◌∙◌}
use Rattle.xml_scan.proofs.names.FullNames.{name_cut, name_plain, colon_cut, colon_bare, name_full}
use Rattle.xml_scan.proofs.attribute.full_name.Goals as goal

pub returns-then-s-colon : goal.returns-then-s-colon
returns-then-s-colon c =
    name_cut _ _ c.requires.0 c.requires.1 _ c.name_end-colon.ensures c.if-s-colon.true

pub returns-then-s-colon-ne58 : goal.returns-then-s-colon-ne58
returns-then-s-colon-ne58 c =
    name_plain _ _ c.requires.0 c.requires.1 _ c.name_end-colon.ensures c.if-s-colon.false c.if-s-colon-ne58.true

pub returns-then-s-second : goal.returns-then-s-second
returns-then-s-second c =
    colon_cut _ _ c.requires.0 c.requires.1 _ c.name_end-colon.ensures c.if-s-colon.false c.if-s-colon-ne58.false c.if-s-second.true

pub returns-then-is_name_start : goal.returns-then-is_name_start
returns-then-is_name_start c =
    name_full _ _ c.requires.0 c.requires.1 _ c.name_end-colon.ensures c.if-s-colon.false c.if-s-colon-ne58.false c.if-s-second.false
    (sym c.is_name_start.ensures ∙ c.if-is_name_start.true) _ c.name_end.ensures

pub returns : goal.returns
returns c =
    colon_bare _ _ c.requires.0 c.requires.1 _ c.name_end-colon.ensures c.if-s-colon.false c.if-s-colon-ne58.false c.if-s-second.false
    (sym c.is_name_start.ensures ∙ c.if-is_name_start.false)
