-- `attribute::attribute` meets its contract. Assumes nothing.
use mathlib.Core.Path.{sym, ◌∙◌}
use native.Mathlib.Omega.{arith}
use Rattle.std.proofs.lemmas.Result.{err_from_is_err_and}
use Rattle.xml_scan.proofs.Tags.{attribute_full, attribute_unnamed, attribute_seen, attribute_new}
use Rattle.xml_scan.proofs.names.FullNames.{name_within}
use Rattle.xml_scan.proofs.attribute.attribute.Goals as goal

pub returns-then-len-ge-MOST_ATTRIBUTES : goal.returns-then-len-ge-MOST_ATTRIBUTES
returns-then-len-ge-MOST_ATTRIBUTES c =
    attribute_full _ _ _ c.requires.0 c.requires.1 (omega (arith, c.len.ensures))

pub returns-in_err-e : goal.returns-in_err-e
returns-in_err-e c =
    let p = err_from_is_err_and c.from_residual.result c.from_residual.ensures.1 in
    rw (p.1, p.2) (attribute_unnamed _ _ _ c.requires.0 c.requires.1 (omega (arith, c.len.ensures)) c.full_name.result c.full_name.ensures _ c.in_err-e.was)

pub returns-then-contains : goal.returns-then-contains
returns-then-contains c =
    attribute_seen _ _ _ c.requires.0 c.requires.1 (omega (arith, c.len.ensures)) c.full_name.result c.full_name.ensures _ c.in_ok-e.was
    (sym c.contains.ensures ∙ c.if-contains.true)

pub equals-requires : goal.equals-requires
equals-requires c =
    name_within _ _ c.full_name.result c.full_name.ensures _ c.in_ok-e.was

pub returns : goal.returns
returns c =
    attribute_new _ _ _ c.requires.0 c.requires.1 (omega (arith, c.len.ensures)) c.full_name.result c.full_name.ensures _ c.in_ok-e.was
    (sym c.contains.ensures ∙ c.if-contains.false) _ c.push.ensures c.equals.result c.equals.ensures
