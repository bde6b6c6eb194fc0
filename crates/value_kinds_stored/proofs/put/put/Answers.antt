-- `put::put` meets its contract: each arm writes what the table of kinds has at its number. Assumes nothing.
use mathlib.Core.Path.{sym, ◌∙◌, ap, ap₂}
use Prim.Native.Nat.{◌+◌}
use native.Mathlib.Omega.{arith}
use lib.ListN.{length}
use Rattle.text.specs.Digits.{in_digits, pointed}
use Rattle.value.specs.mirror.Stored.{raw_text}
use Rattle.value.proofs.script.Writing.{wrote_as, wrote_none, by_key, by_text, by_none}
use Rattle.value_kinds_stored.proofs.put.put.Goals as goal

pub returns-in-6 : goal.returns-in-6
unfolding raw_text
returns-in-6 c =
    let g = c.args in
    let p = c.part_of-b.ensures in
    let k = c.cell.ensures in
    wrote_as _ _ _ _ _ (327675 + length g.pool.now) _ _ (by_key g.run.now _ g.i _ _ _ p k 6 c.in-6.is) (omega arith) c.write_word.ensures

pub returns-in-7 : goal.returns-in-7
unfolding raw_text
returns-in-7 c =
    let g = c.args in
    let p = c.part_of-b.ensures in
    let k = c.cell.ensures in
    wrote_as _ _ _ _ _ (327675 + length g.pool.now) _ _ (by_key g.run.now _ g.i _ _ _ p k 7 c.in-7.is) (omega arith) c.write_truth.ensures

pub returns-in-8 : goal.returns-in-8
unfolding raw_text
returns-in-8 c =
    let g = c.args in
    let p = c.part_of-b.ensures in
    let k = c.cell.ensures in
    wrote_as _ _ _ _ _ (327675 + length g.pool.now) _ _ (by_key g.run.now _ g.i _ _ _ p k 8 c.in-8.is ∙ ap in_digits (sym c.get64.ensures)) (omega arith) c.put.ensures

pub returns-in-9 : goal.returns-in-9
unfolding raw_text
returns-in-9 c =
    let g = c.args in
    let p = c.part_of-b.ensures in
    let k = c.cell.ensures in
    wrote_as _ _ _ _ _ (327675 + length g.pool.now) _ _ (by_key g.run.now _ g.i _ _ _ p k 9 c.in-9.is ∙ ap₂ pointed (sym c.byte.ensures) (sym c.get64-in-9.ensures)) (omega arith) c.put_pointed.ensures

pub returns-in-10 : goal.returns-in-10
unfolding raw_text
returns-in-10 c =
    let g = c.args in
    let p = c.part_of-b.ensures in
    let k = c.cell.ensures in
    wrote_as _ _ _ _ _ (327675 + length g.pool.now) _ _ (by_key g.run.now _ g.i _ _ _ p k 10 c.in-10.is) (omega arith) c.write_day.ensures

pub returns-in-11 : goal.returns-in-11
unfolding raw_text
returns-in-11 c =
    let g = c.args in
    let p = c.part_of-b.ensures in
    let k = c.cell.ensures in
    wrote_as _ _ _ _ _ (327675 + length g.pool.now) _ _ (by_key g.run.now _ g.i _ _ _ p k 11 c.in-11.is) (omega arith) c.write_moment.ensures

pub returns-in-2-to-5 : goal.returns-in-2-to-5
returns-in-2-to-5 c =
    let g = c.args in
    let p = c.part_of-b.ensures in
    let k = c.cell.ensures in
    wrote_as _ _ _ _ _ (327675 + length g.pool.now) _ _ (by_text g.run.now _ g.i _ _ _ p k c.in-2-to-5.if-this-lt2-own.false (omega (arith, c.in-2-to-5.if-this-lt6-own.true))) (omega arith) c.write_text.ensures

pub returns-in_default : goal.returns-in_default
returns-in_default c =
    let g = c.args in
    let p = c.part_of-b.ensures in
    let k = c.cell.ensures in
    wrote_none _ _ _ _ (by_none g.run.now _ g.i _ _ _ p k (λ l m. omega (arith, l, c.in_default.if-this-lt2-own.true)))

pub returns-in_default-2 : goal.returns-in_default-2
returns-in_default-2 c =
    let g = c.args in
    let p = c.part_of-b.ensures in
    let k = c.cell.ensures in
    let r = c.in_default.in_default-own.rest in
    wrote_none _ _ _ _ (by_none g.run.now _ g.i _ _ _ p k (λ l m. omega (arith, l, m, c.in_default.if-this-lt6-own.false, r)))
