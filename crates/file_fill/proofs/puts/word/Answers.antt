-- `puts::word` meets its contract. Assumes nothing.
use Rattle.file_fill.proofs.Laying.{word_one, word_two, word_three, word_four}
use Rattle.file_fill.proofs.puts.word.Goals as goal

pub returns-then-x-a : goal.returns-then-x-a
returns-then-x-a c = word_one _ _ _ _ _ c.four-x.ensures c.if-x-a.true

pub returns-then-x-a-2 : goal.returns-then-x-a-2
returns-then-x-a-2 c = word_two _ _ _ _ _ c.four-x.ensures c.if-x-a.false c.if-x-a-2.true

pub returns-then-x-b : goal.returns-then-x-b
returns-then-x-b c = word_three _ _ _ _ _ c.four-x.ensures c.if-x-a.false c.if-x-a-2.false c.if-x-b.true

pub returns : goal.returns
returns c = word_four _ _ _ _ _ c.four-x.ensures c.if-x-a.false c.if-x-a-2.false c.if-x-b.false
