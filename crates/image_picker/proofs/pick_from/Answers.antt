-- `image_picker::pick_from` meets its contract. Assumes nothing.
use mathlib.Core.Path.{refl, sym}
use mathlib.Core.List.{[]}
use Prim.Native.Nat.{◌+◌}
use native.Mathlib.Omega.{arith}
use lib.Seq.{slice}
use Rattle.image.specs.mirror.Ends.{item_end}
use Rattle.image.specs.mirror.Run.{head_of, missing, found}
use Rattle.image.proofs.loops.PickerTurn.{find_within, head_small}
use Rattle.image.proofs.Meaning.{answer_means}
use Rattle.image_picker.proofs.pick_from.Goals as goal

pub returns-in_default-clause-means : goal.returns-in_default-clause-means
returns-in_default-clause-means c =
    let g = c.args in
    (answer_means g.rows.now g.run.now g.from g.row g.n _ (record { part = []; chooses = missing c.in_default.ensures.is c.no_such_leaf.ensures refl })).1

pub overflow_add-value : goal.overflow_add-value
overflow_add-value c =
    let g = c.args in
    omega (arith, c.head.ensures, head_small g.rows.now g.row, find_within g.rows.now (item_end g.rows.now g.run.now) g.run.now g.row g.from g.n c.in-Some.value.at c.in-Some.ensures.is)

pub returns : goal.returns
returns c =
    let g = c.args in
    let v = c.in-Some.value.at in
    let w = answer_means g.rows.now g.run.now g.from g.row g.n _
    (record {
      part = slice (v + head_of g.rows.now g.row) (item_end g.rows.now g.run.now g.row v) g.run.now;
      chooses = found v c.in-Some.ensures.ends.0 c.in-Some.ensures.is (rw (sym c.head.ensures) c.picked.ensures) refl;
    }) in record { is = w.0; means = w.1 }
