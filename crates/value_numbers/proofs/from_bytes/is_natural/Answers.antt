-- `from_bytes::is_natural` meets its contract. Assumes nothing.
use mathlib.Core.Path.{ap}
use Prim.Native.Nat.{ℕ, ◌^◌}
use lib.Dec.{ltb}
use Rattle.value.specs.mirror.Judges.{is_natural}
use Rattle.value_numbers.proofs.from_bytes.is_natural.Goals as goal

pub returns : goal.returns
unfolding is_natural
returns c =
    ap (λ (x : ℕ). ltb x (10 ^ 18)) c.get64.ensures
