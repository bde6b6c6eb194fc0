-- `held::rest` meets its contract. Assumes nothing.
use borrow.Author.Rules.{rules}
use mathlib.Core.Path.{sym}
use Prim.Native.Nat.{◌-◌, ◌≤◌}
use native.Mathlib.Omega.{arith}
use lib.ListN.{length, drop, length-drop, drop_of_length-le}
use lib.Seq.{take_all}
use Rattle.image_hold.proofs.held.rest.Goals as goal

pub returns-then-run-at : goal.returns-then-run-at
returns-then-run-at c =
    let h : length c.args.run.now ≤ c.args.at = omega (arith, c.if-run-at.true) in
    record { is = sym (drop_of_length-le c.args.run.now h); lies = (λ k. absurd (omega (arith, k, c.if-run-at.true))) }

pub returns : goal.returns
returns c = record { is = take_all (length c.args.run.now - c.args.at) (drop c.args.at c.args.run.now) (omega (arith, length-drop c.args.at c.args.run.now)); lies = (λ k. (search rules, search rules)) }
