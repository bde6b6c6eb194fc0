-- `put::Writer::close` meets its contract. Assumes nothing.
use Rattle.file_write.proofs.Putting.{put_then}
use Rattle.file_write.proofs.put.Writer.close.Goals as goal

pub returns : goal.returns
returns c =
    put_then c.args.self.now c.put.new.self c.put-2.new.self _ _ c.put.ensures (put_then c.put.new.self c.name.new.self c.put-2.new.self _ _ c.name.ensures c.put-2.ensures)
