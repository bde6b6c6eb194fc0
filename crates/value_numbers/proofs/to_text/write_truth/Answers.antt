-- `to_text::write_truth` meets its contract. Assumes nothing.
use mathlib.Core.Path.{refl}
use native.Mathlib.Omega.{arith}
use Rattle.value.proofs.script.Writing.{wrote_as, truth_no, truth_yes}
use Rattle.value_numbers.proofs.to_text.write_truth.Goals as goal

pub returns-then-byte-eq0 : goal.returns-then-byte-eq0
returns-then-byte-eq0 c =
    wrote_as _ _ _ _ 5 5 _ _ (truth_no c.args.b.now _ c.byte.ensures c.if-byte-eq0.true) (omega arith) (refl, (omega arith, c.copy.ensures))

pub returns : goal.returns
returns c =
    wrote_as _ _ _ _ 5 5 _ _ (truth_yes c.args.b.now _ c.byte.ensures c.if-byte-eq0.false) (omega arith) (refl, (omega arith, c.copy-2.ensures))
