-- `blanks::trimmed` meets its contract. Assumes nothing.
use Rattle.value.proofs.raw.Parts.{trim_upto, trim_empty}
use Rattle.value_shared.proofs.blanks.trimmed.Goals as goal

pub returns-in-Some : goal.returns-in-Some
returns-in-Some c =
    trim_upto _ _ c.blanks_end.ensures _ c.rest-inked.ensures _ c.in-Some.ensures

pub returns-in-None : goal.returns-in-None
returns-in-None c =
    trim_empty _ _ c.blanks_end.ensures _ c.rest-inked.ensures c.in-None.ensures
