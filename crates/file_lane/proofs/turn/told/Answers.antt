-- `turn::told` meets its contract. Assumes nothing.
use native.Mathlib.Omega.{arith}
use borrow.Author.Tests.{not-false}
use Rattle.file_lane.proofs.Turning.{leaf_near, leaf_few, goes_long, goes_word, goes_text}
use Rattle.file_lane.proofs.turn.told.Goals as goal

pub returns-then-kind-eq-LONG : goal.returns-then-kind-eq-LONG
returns-then-kind-eq-LONG c =
    (goes_long _ _ _ _ _ _ c.requires.2 c.requires.3 c.if-kind-eq-LONG.true, omega arith, omega arith, omega (arith, c.requires.4))

pub returns-then-kind-eq-ENUM : goal.returns-then-kind-eq-ENUM
returns-then-kind-eq-ENUM c =
    (goes_word _ _ _ _ _ _ c.requires.2 c.requires.3 c.if-kind-eq-ENUM.true (c.listed.ensures (not-false _ c.if-not-listed.false-raw)), omega arith, omega arith, omega (arith, c.requires.4))

pub overflow_add-result-2 : goal.overflow_add-result-2
overflow_add-result-2 c = omega (arith, leaf_few _ _ _ _ _ (c.leaf-f.ensures c.requires.0) _ c.in_ok-size.was)

pub returns : goal.returns
returns c =
    let l = c.leaf-f.ensures c.requires.0 in
    let jump = c.skip.ensures in (
      goes_text _ _ _ _ _ _ c.requires.2 c.requires.3 _ _ _ c.requires.6 c.if-kind-eq-LONG.false c.if-kind-eq-ENUM.false c.requires.7 (c.is_bare.ensures c.if-is_bare.false) c.sort.ensures
          (jump.0, jump.1, jump.2) l _ c.in_ok-size.was,
      omega (arith, l.ends),
      omega (arith, leaf_few _ _ _ _ _ l _ c.in_ok-size.was),
      omega (arith, leaf_near _ _ _ _ _ l, jump.3, c.requires.4, c.requires.5),
    )
