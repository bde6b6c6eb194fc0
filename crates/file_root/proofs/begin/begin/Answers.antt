-- `begin::begin` meets its contract. Assumes nothing.
use Rattle.std.specs.Prelude.{Err}
use mathlib.Core.Path.{◌∙◌, ap}
use Rattle.file_walk.proofs.calls.Root.{begin_open, begin_empty, begin_close, begin_end}
use Rattle.file_root.proofs.begin.begin.Goals as goal

pub returns-in-Open : goal.returns-in-Open
returns-in-Open c = begin_open _ _ _ _ c.start.ensures.is _ c.opening-token.ensures _ c.fresh-level.ensures _ c.is_root-root.ensures _ c.in-Open.is c.rooted.ensures

pub returns-in-Empty : goal.returns-in-Empty
returns-in-Empty c =
    ap Err c.refused.ensures
    ∙ begin_empty _ _ _ _ c.start.ensures.is _ c.opening-token.ensures _ c.fresh-level.ensures _ c.is_root-root.ensures _ c.in-Empty.is c.hollow.ensures

pub returns-in-Close : goal.returns-in-Close
returns-in-Close c =
    ap Err c.refused-in-Close.ensures
    ∙ begin_close _ _ _ _ c.start.ensures.is _ c.opening-token.ensures _ c.fresh-level.ensures _ c.in-Close.is c.not_house_xml.ensures

pub returns-in-End : goal.returns-in-End
returns-in-End c =
    ap Err c.refused-in-End.ensures
    ∙ begin_end _ _ _ _ c.start.ensures.is _ c.opening-token.ensures _ c.fresh-level.ensures _ c.in-End.is c.not_house_xml-in-End.ensures
