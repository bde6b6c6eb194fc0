-- `texts::referred` meets its contract. Assumes nothing.
use mathlib.Core.Path.{refl}
use native.Mathlib.Omega.{arith}
use Rattle.value_lane_texts.proofs.Runs.{ref_ends}
use Rattle.value_lane_texts.proofs.texts.referred.Goals as goal

pub overflow_sub-long : goal.overflow_sub-long
overflow_sub-long c = omega (arith, c.requires.0)

pub returns-then-long-gt-MOST_REF : goal.returns-then-long-gt-MOST_REF
returns-then-long-gt-MOST_REF c = λ g. c.slow.ensures

pub bounds-s-at : goal.bounds-s-at
bounds-s-at c = omega (arith, c.requires.0, c.requires.1)

pub returns-then-s-at-eq32 : goal.returns-then-s-at-eq32
returns-then-s-at-eq32 c = λ g. c.slow-then-s-at-eq32.ensures

pub returns : goal.returns
returns c =
    λ g. ref_ends _ _ _ _ _ _ g c.requires.1 c.requires.2 refl c.if-long-gt-MOST_REF.false c.if-s-at-eq32.false c.tell.ensures
