-- `fill::put_value` meets its contract. Assumes nothing.
use Rattle.file_measure.proofs.Value.{valued_word, valued_written}
use Rattle.file_check.proofs.fill.put_value.Goals as goal

pub returns-then-kind-eq-ENUM : goal.returns-then-kind-eq-ENUM
returns-then-kind-eq-ENUM c =
    valued_word _ _ _ _ c.requires.0 _ _ _ _ _ _ c.put_word.ensures c.if-kind-eq-ENUM.true

pub returns : goal.returns
returns c =
    valued_written _ _ _ _ c.requires.0 _ _ _ _ c.if-kind-eq-ENUM.false _ _ c.cell-most.ensures _ c.then_some.ensures _ c.write-n.ensures
