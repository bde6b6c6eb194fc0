-- `lookup::child` meets its contract. Assumes nothing.
use Rattle.std.proofs.Common.{rules}
use Rattle.list.proofs.rows.Along.{child_by, child_means}
use Rattle.list.proofs.lookup.child.Goals as goal

pub returns : goal.returns
returns c =
    let w = child_means _ _ _ _ _ _ (child_by _ _ _ _ _ c.first_named.result c.or_else.result _ c.first_named.ensures.is c.first_named.ensures.row (search rules) c.unwrap_or.ensures) in
    record { is = w.0; means = w.1 }
