-- `image_first::picked` meets its contract. Assumes nothing.
use mathlib.Core.Path.{refl}
use native.Mathlib.Omega.{arith}
use Rattle.answer.specs.Table.{no_such_leaf}
use Rattle.image_reading.proofs.House.{begun_hands, begun_none, begun_group, begun_nowhere, begun_refuses, group_nowhere, begun_answered, laid_says}
use Rattle.image_first.proofs.picked.Goals as goal

pub returns-in_default : goal.returns-in_default
returns-in_default c =
    let n = begun_refuses _ _ c.in_default.ensures.is refl in
    record {
      hands = (c.in_default.field-0.answer, begun_none _ _ c.in_default.ensures.is _ _ n);
      lies = λ a h z. absurd (begun_nowhere _ _ c.in_default.ensures.is _ _ n a h z);
    }

pub returns-then-kind-lt-REF : goal.returns-then-kind-lt-REF
returns-then-kind-lt-REF c =
    record {
      hands = (no_such_leaf, begun_group _ _ c.in-Ok.ensures.is _ _ refl (omega (arith, c.kind.ensures, c.if-kind-lt-REF.true)));
      lies = λ a h z. absurd (group_nowhere _ _ c.in-Ok.ensures.is _ _ refl (omega (arith, c.kind.ensures, c.if-kind-lt-REF.true)) a h z);
    }

pub returns : goal.returns
returns c =
    let l = laid_says _ _ c.in-Ok.ensures.lays in
    let b = c.in-Ok.ensures.is in
    record {
      hands = begun_hands _ _ _ l b _ _ refl _ c.picked_from.ensures.is;
      lies = λ a h e. c.picked_from.ensures.lies a (begun_answered _ _ _ l b _ _ refl _ c.picked_from.ensures.is a h) e;
    }
