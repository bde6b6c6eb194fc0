-- `program_reply::put_broken` meets its contract: the line whole, or nothing. Assumes nothing.
use mathlib.Core.Path.{◌∙◌, ap}
use native.Mathlib.Omega.{arith}
use lib.ListN.{take}
use Rattle.text.specs.Pasting.{pasted}
use Rattle.program_line.proofs.Lines.{taken_out}
use Rattle.program_reply.specs.Reply.{broken_line}
use Rattle.program_reply.proofs.Replies.{put_where}
use Rattle.program_reply.proofs.put_broken.Goals as goal

pub returns-clause-put : goal.returns-clause-put
returns-clause-put c =
    let n = c.spread_broken-w in
    put_where _ _ n.result _ _ n.ensures.0 c.then_some.ensures
    (c.copy.ensures ∙ ap (pasted c.args.out.now 0) (ap (take n.result) n.ensures.1.1 ∙ taken_out _ (broken_line c.args.n) n.result n.ensures.0 (omega (arith, n.ensures.1.0))))
