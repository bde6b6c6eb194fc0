-- `number::paste` meets its contract. Assumes nothing.
use Rattle.std.proofs.Common.{◌≡◌, ◌∙◌, ap, refl, arith, ℕ, ◌+◌, ◌-◌, List, ◌++◌, length, take, drop}
use Rattle.text.proofs.Pasting.{copy_not, copy_over}
use Rattle.text_bytes.proofs.number.paste.Goals as goal

pub returns-then-dst-at : goal.returns-then-dst-at
returns-then-dst-at g c = copy_not _ _ _ _ refl (omega arith)

pub returns-then-dst-at-2 : goal.returns-then-dst-at-2
returns-then-dst-at-2 g c = copy_not _ _ _ _ refl (omega arith)

pub returns : goal.returns
returns g c =
    let d : List ℕ = c.args.dst.now in
    let e : g.row.N ≡ length c.args.bytes.now = omega arith in
    ap (λ (n : ℕ). take c.args.at d ++ (c.copy_from_slice.new.self ++ drop (c.args.at + n - c.args.at) (drop c.args.at d))) e
    ∙ copy_over _ _ _ _ (omega (arith, c.if-dst-at.false, c.if-dst-at-2.false)) c.copy_from_slice.ensures.after
