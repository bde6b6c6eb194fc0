-- `to_text::text_of` meets its contract. Assumes nothing.
use mathlib.Core.Path.{◌≡◌, ◌∙◌, ap}
use mathlib.Core.List.{List}
use Prim.Native.Nat.{ℕ, ◌+◌, ◌≤◌}
use native.Mathlib.Omega.{arith}
use lib.ListN.{length, take}
use lib.Seq.{slice}
use Rattle.text.specs.Numbers.{number}
use Rattle.text.proofs.Parts.{part_past, part_cut}
use Rattle.value.proofs.script.Writing.{part_most}
use Rattle.value_texts_put.proofs.to_text.text_of.Goals as goal

told : (b t : List ℕ) (n : ℕ) → n ≡ number (take 2 b) → n ≤ 65535 → t ≡ slice 2 (2 + n) b → (t ≡ slice 2 (2 + number (take 2 b)) b) × (length t ≤ 65535)
told b t n e h f = (f ∙ ap (λ (k : ℕ). slice 2 (2 + k) b) e, omega (arith, part_most b t n f))

pub returns-then-b-end : goal.returns-then-b-end
returns-then-b-end c = let w = let b = c.args.b.now in
    let n = c.from-end.result in
    told b _ n (c.from-end.ensures ∙ c.get16.ensures) (omega (arith, c.get16.type_inv, c.from-end.ensures)) (c.part_of.ensures ∙ part_past 2 (2 + n) b (omega (arith, c.if-b-end.true))) in record { is = w.0; most = w.1 }

pub returns : goal.returns
returns c = let w = let b = c.args.b.now in
    let n = c.from-end.result in
    told b _ n (c.from-end.ensures ∙ c.get16.ensures) (omega (arith, c.get16.type_inv, c.from-end.ensures)) (part_cut 2 (2 + n) (2 + n) b (omega (arith, c.if-b-end.false)) (omega arith)) in record { is = w.0; most = w.1 }
