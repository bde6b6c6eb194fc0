-- `image_picker::picked_from` meets its contract. Assumes nothing.
use borrow.Author.Rules.{rules}
use mathlib.Core.Path.{◌≡◌, refl, ◌∙◌, ap₂}
use mathlib.Core.List.{[]}
use Prim.Native.Nat.{ℕ, ◌+◌, ◌-◌}
use native.Mathlib.Omega.{arith}
use lib.ListN.{take, drop}
use lib.Seq.{slice}
use Rattle.answer.specs.Table.{picked, no_such_leaf}
use Rattle.value.proofs.raw.Parts.{part_within}
use Rattle.image.specs.mirror.Ends.{item_end}
use Rattle.image.specs.mirror.Run.{head_of, missing, found}
use Rattle.image.proofs.loops.PickerTurn.{find_within, head_small, found_end, answer_none, answer_place}
use Rattle.image.proofs.Meaning.{part_means}
use Rattle.image_picker.proofs.picked_from.Goals as goal

pub returns-in_default : goal.returns-in_default
returns-in_default c =
    let g = c.args in
    let f = c.in_default.ensures.is in
    let p = part_means g.rows.now g.run.now g.from g.row g.n [] (record { answer = no_such_leaf; chooses = missing f refl refl }) in
    record { is = p.0; means = p.1; lies = (λ a h z. absurd (omega (arith, z, answer_none g.rows.now (item_end g.rows.now g.run.now) g.run.now g.row g.from g.n f a h))) }

pub overflow_add-result : goal.overflow_add-result
overflow_add-result c =
    let g = c.args in
    omega (arith, c.head.ensures, head_small g.rows.now g.row, find_within g.rows.now (item_end g.rows.now g.run.now) g.run.now g.row g.from g.n c.in-Some.value.at c.in-Some.ensures.is)

pub slice_bounds-result-count-2 : goal.slice_bounds-result-count-2
slice_bounds-result-count-2 c =
    let g = c.args in
    let e = found_end g.rows.now g.run.now g.row g.from g.n c.in-Some.value.at c.in-Some.ensures.ends.0 c.in-Some.ensures.is in
    omega (arith, e.0, e.1, c.head.ensures, c.in-Some.ensures.ends.1)

pub slice_bounds-result-start-2 : goal.slice_bounds-result-start-2
slice_bounds-result-start-2 c =
    let g = c.args in
    let e = found_end g.rows.now g.run.now g.row g.from g.n c.in-Some.value.at c.in-Some.ensures.ends.0 c.in-Some.ensures.is in
    omega (arith, e.0, e.1, c.head.ensures, c.in-Some.ensures.ends.1)

pub slice_bounds-result-end-2 : goal.slice_bounds-result-end-2
slice_bounds-result-end-2 c =
    let g = c.args in
    let e = found_end g.rows.now g.run.now g.row g.from g.n c.in-Some.value.at c.in-Some.ensures.ends.0 c.in-Some.ensures.is in
    omega (arith, e.0, e.1, c.head.ensures, c.in-Some.ensures.ends.1)

pub returns : goal.returns
returns c =
    let g = c.args in
    let t = g.rows.now in
    let s = g.run.now in
    let v = c.in-Some.value.at in
    let first = v + c.head.result in
    let end = c.in-Some.value.end in
    let z = c.in-Some.ensures.ends.0 in
    let e = found_end t s g.row g.from g.n v z c.in-Some.ensures.is in
    let is : take (end - first) (drop first s) ≡ slice (v + head_of t g.row) (item_end t s g.row v) s =
    part_within first end s (omega (arith, e.0, c.head.ensures, c.in-Some.ensures.ends.1)) (omega (arith, e.1, c.in-Some.ensures.ends.1))
    ∙ ap₂ (λ (a b : ℕ). slice (v + a) b s) c.head.ensures c.in-Some.ensures.ends.1 in
    let p =
    part_means t s g.from g.row g.n (take (end - first) (drop first s))
    (record { answer = picked g.row (v + head_of t g.row); chooses = found v z c.in-Some.ensures.is refl is }) in
    record { is = p.0; means = p.1; lies = (λ a h y. (search rules, omega (arith, c.head.ensures, answer_place t (item_end t s) s g.row g.from g.n v z c.in-Some.ensures.is a h))) }
