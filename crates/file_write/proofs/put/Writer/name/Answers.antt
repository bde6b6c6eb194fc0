-- `put::Writer::name` meets its contract. Assumes nothing.
use Rattle.file_write.proofs.put.Writer.name.Goals as goal

pub returns : goal.returns
returns c =
    rw (c.part_of.ensures, c.cell.ensures, c.cell-2.ensures) at c.put.ensures
