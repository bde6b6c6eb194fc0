-- `put::Writer::start` meets its contract. Assumes nothing.
use Rattle.file_write.proofs.Putting.{put_then}
use Rattle.file_write.proofs.put.Writer.start.Goals as goal

pub returns : goal.returns
returns c =
    put_then c.args.self.now c.put.new.self c.name.new.self _ _ c.put.ensures c.name.ensures
