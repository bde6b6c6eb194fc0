-- `put::Writer::root` meets its contract. Assumes nothing.
use Rattle.file_write.proofs.Putting.{put_then}
use Rattle.file_write.proofs.put.Writer.root.Goals as goal

pub returns : goal.returns
returns c =
    let p = rw (c.part_of.ensures, c.cell.ensures, c.cell-2.ensures) at c.put-2.ensures in
    put_then c.args.self.now c.start.new.self c.put-3.new.self _ _ c.start.ensures
    (put_then c.start.new.self c.put.new.self c.put-3.new.self _ _ c.put.ensures (put_then c.put.new.self c.put-2.new.self c.put-3.new.self _ _ p c.put-3.ensures))
