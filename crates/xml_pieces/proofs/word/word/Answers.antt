-- `word::word` meets its contract. Assumes nothing.
use native.Mathlib.Omega.{arith}
use Rattle.xml_pieces.proofs.Words.{spelling_none, spelling_all, spelling_cut, spelling_other, spelling_more}
use Rattle.xml_pieces.proofs.word.word.Goals as goal

pub loop-k-init : goal.loop-k-init
loop-k-init c =
    spelling_none c.args.s.now c.args.at c.args.w.now

pub overflow_add-i : goal.overflow_add-i
overflow_add-i c =
    omega arith

pub returns-then-s-i : goal.returns-then-s-i
returns-then-s-i c =
    spelling_cut _ _ _ c.loop-k.k c.loop-k.invariant c.loop-k-test.true c.if-s-i.true

pub bounds-s-i : goal.bounds-s-i
bounds-s-i c =
    omega arith

pub bounds-w-k : goal.bounds-w-k
bounds-w-k c =
    omega arith

pub returns-then-s-i-2 : goal.returns-then-s-i-2
returns-then-s-i-2 c =
    spelling_other _ _ _ c.loop-k.k c.loop-k.invariant c.loop-k-test.true c.if-s-i.false c.if-s-i-2.true

pub loop-k-smaller : goal.loop-k-smaller
loop-k-smaller c =
    omega arith

pub loop-k-preserved : goal.loop-k-preserved
loop-k-preserved c =
    spelling_more _ _ _ c.loop-k.k c.loop-k.invariant c.loop-k-test.true c.if-s-i.false c.if-s-i-2.false

pub overflow_add-result : goal.overflow_add-result
overflow_add-result c =
    omega arith

pub returns : goal.returns
returns c =
    spelling_all _ _ _ c.loop-k.k c.loop-k.invariant c.loop-k-test.false
