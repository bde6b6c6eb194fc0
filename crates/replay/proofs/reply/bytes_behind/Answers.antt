-- `reply::bytes_behind` meets its contract. Assumes nothing.
use mathlib.Core.Path.{◌≡◌, ap}
use Prim.Native.Nat.{ℕ, ◌+◌, ◌-◌}
use native.Mathlib.Omega.{arith}
use lib.ListN.{take, drop}
use Rattle.replay.proofs.reply.bytes_behind.Goals as goal

pub returns : goal.returns
returns c =
    let e : 13 + c.args.size - 13 ≡ c.args.size = omega arith in
    ap (λ (n : ℕ). take n (drop 13 c.args.feed.now)) e
