-- `leaf::leaf` meets its contract. Assumes nothing.
use Rattle.value_leaf.proofs.Weighing.{leafed_kind}
use borrow.Author.Rules.{rules}
use Rattle.value_lane.proofs.leaf.leaf.Goals as goal

pub returns-in-2 : goal.returns-in-2
returns-in-2 c = λ l. leafed_kind _ 2 _ _ _ _ c.in-2.is (c.reference.ensures l)

pub returns-in-3 : goal.returns-in-3
returns-in-3 c = λ l. leafed_kind _ 3 _ _ _ _ c.in-3.is (c.writing.ensures l)

pub returns-in-4 : goal.returns-in-4
returns-in-4 c = λ l. leafed_kind _ 4 _ _ _ _ c.in-4.is (c.account.ensures l)

pub returns-in-9 : goal.returns-in-9
returns-in-9 c = λ l. leafed_kind _ 9 _ _ _ _ c.in-9.is (c.money.ensures l)

pub returns-in-10 : goal.returns-in-10
returns-in-10 c = λ l. leafed_kind _ 10 _ _ _ _ c.in-10.is c.dated.ensures

pub returns-in_default : goal.returns-in_default
returns-in_default c = λ l. c.plain.ensures (search rules) (search rules)
