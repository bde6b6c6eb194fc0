-- `hex::digit` meets its contract. Assumes nothing.
use mathlib.Core.Path.{sym}
use Rattle.program_line.proofs.Hexadecimal.{digit_small, digit_large}
use Rattle.program_line.proofs.hex.digit.Goals as goal

pub returns-then-n-lt10 : goal.returns-then-n-lt10
returns-then-n-lt10 c = sym (digit_small c.args.n c.if-n-lt10.true)

pub returns : goal.returns
returns c = sym (digit_large c.args.n c.if-n-lt10.false)
