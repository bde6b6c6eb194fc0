-- `puts::put_other` meets its contract. Assumes nothing.
use mathlib.Core.Path.{refl}
use native.Mathlib.Omega.{arith}
use Rattle.file_measure.proofs.Value.{gives_few}
use Rattle.file_fill.proofs.puts.put_other.Goals as goal

pub overflow_add-result : goal.overflow_add-result
overflow_add-result c =
    let w = c.write-n.ensures in
    omega (arith, w.count, gives_few _ _ _ _ _ w.gives, c.requires.1, c.well_formed.1.1.1.1.0.0)

pub returns : goal.returns
returns c =
    (c.text_end-end.ensures, (c.write-n.result, refl, rw (c.part_of-t.ensures, c.part_of-ccy.ensures) at c.write-n.ensures))
