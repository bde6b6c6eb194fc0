-- `known` meets its contract: the pass goes by the nodes of the list. Assumes nothing.
use Rattle.file_lane.proofs.Knowing.{seen_by, seen_told}
use Rattle.file_lane.proofs.known.Goals as goal

pub returns : goal.returns
returns c =
    let long = c.in_ok-size.ensures in
    seen_told _ _ _ _ (seen_by _ _ _ _ long.0 long.1 _ c.in_ok-kind.ensures c.nodes_of-nodes.ensures)
