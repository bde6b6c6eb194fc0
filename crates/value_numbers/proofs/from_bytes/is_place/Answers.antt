-- `from_bytes::is_place` meets its contract. Assumes nothing.
use mathlib.Core.Path.{◌∙◌, ap}
use Prim.Native.Nat.{ℕ}
use native.Mathlib.Omega.{arith}
use lib.Dec.{leb}
use lib.ListN.{get_or}
use borrow.Author.Tests.{le-leb, lt-leb}
use Rattle.value.specs.mirror.Judges.{is_place}
use Rattle.value_numbers.proofs.from_bytes.is_place.Goals as goal

pub returns-then-n-ge1 : goal.returns-then-n-ge1
unfolding is_place
returns-then-n-ge1 c =
    rw (le-leb 1 (get_or c.args.b.now 0 0) (omega (arith, c.from-n.ensures ∙ c.byte.ensures, c.if-n-ge1.true)))
    (ap (λ (x : ℕ). leb x c.args.words) (c.from-n.ensures ∙ c.byte.ensures))

pub returns-else-n-ge1 : goal.returns-else-n-ge1
unfolding is_place
returns-else-n-ge1 c =
    rw (lt-leb 1 (get_or c.args.b.now 0 0) (omega (arith, c.from-n.ensures ∙ c.byte.ensures, c.if-n-ge1.false)), lt-leb 1 c.from-n.result c.if-n-ge1.false)
