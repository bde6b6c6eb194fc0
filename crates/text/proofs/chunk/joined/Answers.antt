-- `chunk::joined` meets its contract. Assumes nothing.
use Rattle.std.proofs.Common.{arith}
use Rattle.text.specs.Little.{little}
use Rattle.text.proofs.chunk.joined.Goals as goal

pub returns : goal.returns
unfolding little
returns c = (omega arith, (omega arith, (omega arith, (omega arith, (omega arith, tt)))), omega arith)
