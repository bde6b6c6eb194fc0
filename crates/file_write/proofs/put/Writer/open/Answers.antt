-- `put::Writer::open` meets its contract. Assumes nothing.
use Rattle.file_write.proofs.Putting.{put_then}
use Rattle.file_write.proofs.put.Writer.open.Goals as goal

pub returns : goal.returns
returns c =
    put_then c.args.self.now c.start.new.self c.put.new.self _ _ c.start.ensures c.put.ensures
