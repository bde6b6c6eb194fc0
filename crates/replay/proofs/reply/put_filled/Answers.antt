-- `reply::put_filled` meets its contract: as many bytes as the call left. Assumes nothing.
use mathlib.Core.Path.{◌∙◌, ap}
use Prim.Native.Nat.{ℕ}
use native.Mathlib.Omega.{arith}
use lib.ListN.{length, take, length-take}
use Rattle.program_reply.specs.Reply.{answer_line}
use Rattle.replay.proofs.reply.put_filled.Goals as goal

pub put_line-requires : goal.put_line-requires
put_line-requires c =
    omega (arith, ap length c.part_of.ensures, length-take c.held.result c.args.buffer.now, c.requires.0, c.requires.1)

pub returns : goal.returns
returns c =
    let h = c.held in
    let p = c.put_line in
    record { is = p.ensures.is ∙ ap (answer_line c.args.a) (c.part_of.ensures ∙ ap (λ (n : ℕ). take n c.args.buffer.now) h.ensures); within = p.ensures.within }
