-- `from_bytes::is_truth` meets its contract. Assumes nothing.
use mathlib.Core.Path.{ap}
use Prim.Native.Nat.{ℕ}
use lib.Dec.{leb}
use Rattle.value.specs.mirror.Judges.{is_truth}
use Rattle.value_numbers.proofs.from_bytes.is_truth.Goals as goal

pub returns : goal.returns
unfolding is_truth
returns c =
    ap (λ (x : ℕ). leb x 1) c.byte.ensures
