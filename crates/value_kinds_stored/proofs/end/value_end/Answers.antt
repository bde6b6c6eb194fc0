-- `end::value_end` meets its contract. Assumes nothing.
use Rattle.value.proofs.stored.Meaning.{means}
use Rattle.value_kinds_stored.proofs.Ended.{end_is}
use Rattle.value_kinds_stored.proofs.end.value_end.Goals as goal

pub returns : goal.returns
returns c =
    let w = means _ _ _ _ _ _ (end_is _ _ _ _ _ _ _ c.found_end.ensures c.unwrap_or.ensures) in record { is = w.0; means = w.1 }
