-- `kind::is_group` meets its contract. Assumes nothing.
use Rattle.std.proofs.Common.{arith}
use Rattle.list.proofs.rows.Codes.{leaf_kind, low_kind, high_kind}
use Rattle.list.proofs.kind.is_group.Goals as goal

pub returns : goal.returns
returns c = grind (arith, leaf_kind, low_kind, high_kind)
