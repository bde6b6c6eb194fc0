-- `leaf::open_leaf` meets its contract. Assumes nothing.
use mathlib.Core.Path.{ap}
use Prim.Native.Nat.{◌+◌}
use native.Mathlib.Omega.{arith}
use lib.ListN.{length}
use Rattle.text.proofs.Parts.{part_length}
use Rattle.file_write.proofs.Putting.{put_then, start_end}
use Rattle.file_write.proofs.Leafing.{coin_end, open_other, open_amount}
use Rattle.file_write.proofs.leaf.open_leaf.Goals as goal

pub returns-then-cell-ne-AMT : goal.returns-then-cell-ne-AMT
returns-then-cell-ne-AMT c =
    (open_other _ _ c.args.run.now _ c.args.i _ c.cell.ensures c.if-cell-ne-AMT.true _ _ _ _ c.open.ensures.0, c.open.ensures.1)

pub coin-requires : goal.coin-requires
coin-requires c = (
  omega (arith, part_length c.args.i (c.args.i + 3) c.args.run.now, ap length c.part_of.ensures),
  omega (arith, start_end _ _ _ _ _ _ _ c.start.ensures.0, c.requires.0, c.requires.2),
)

pub returns : goal.returns
returns c =
    let q = rw c.part_of.ensures at c.coin.ensures in
    let p = put_then c.args.w.now c.start.new.self c.put.new.self _ _ c.start.ensures (put_then c.start.new.self c.coin.new.self c.put.new.self _ _ q c.put.ensures) in
    (open_amount _ _ c.args.run.now _ c.args.i _ c.cell.ensures c.if-cell-ne-AMT.false _ _ _ _ p.0, p.1)
