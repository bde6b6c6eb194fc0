-- `image_first::pick` meets its contract. Assumes nothing.
use mathlib.Core.Path.{refl}
use mathlib.Core.List.{[]}
use native.Mathlib.Omega.{arith}
use Rattle.image_reading.proofs.House.{begun_answers, begun_none, begun_group, begun_refuses, laid_says}
use Rattle.image_first.proofs.pick.Goals as goal

pub returns-in-Err : goal.returns-in-Err
returns-in-Err c =
    ([], begun_none _ _ c.in-Err.ensures.is _ _ (begun_refuses _ _ c.in-Err.ensures.is refl))

pub returns-then-kind-lt-REF : goal.returns-then-kind-lt-REF
returns-then-kind-lt-REF c =
    ([], rw c.no_such_leaf.ensures (begun_group _ _ c.in-Ok.ensures.is _ _ refl (omega (arith, c.kind.ensures, c.if-kind-lt-REF.true))))

pub returns : goal.returns
returns c =
    begun_answers _ _ _ (laid_says _ _ c.in-Ok.ensures.lays) c.in-Ok.ensures.is _ _ refl _ c.pick_from.ensures.is
