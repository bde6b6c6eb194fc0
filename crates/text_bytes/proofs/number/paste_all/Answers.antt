-- `number::paste_all` meets its contract. Assumes nothing.
use Rattle.std.proofs.Common.{refl, arith}
use Rattle.text.proofs.Pasting.{copy_not, copy_end, copy_again}
use Rattle.text_bytes.proofs.number.paste_all.Goals as goal

pub returns-then-dst-at : goal.returns-then-dst-at
returns-then-dst-at c = copy_not _ _ _ _ refl (omega arith)

pub returns-then-dst-at-2 : goal.returns-then-dst-at-2
returns-then-dst-at-2 c = copy_not _ _ _ _ refl (omega arith)

pub loop-k-preserved : goal.loop-k-preserved
loop-k-preserved c = copy_again _ _ _ _ _ c.loop-k.invariant c.loop-k-test.true (omega (arith, c.loop-k.auto.dst, c.if-dst-at.false, c.if-dst-at-2.false))

pub returns : goal.returns
returns c = copy_end _ _ _ _ _ c.loop-k.invariant c.loop-k-test.false
