-- `divided::put_image` meets its contract: a number, a blank, a number, a blank, a number, the line end. Assumes nothing.
use Prim.Native.Nat.{◌+◌, ◌≤◌}
use native.Mathlib.Omega.{arith}
use lib.ListN.{length}
use borrow.Author.Rules.{rules}
use Rattle.images.proofs.Dividing.{length_line, line_put}
use Rattle.images.proofs.divided.put_image.Goals as goal

pub overflow_add-result : goal.overflow_add-result
overflow_add-result c =
    let p = c.put in
    let q = c.put-2 in
    let k = c.put-3 in
    let h : c.args.to + p.result + 1 + q.result + 1 + k.result + 1 ≤ length c.args.out.now = omega (arith, p.ensures.1.0, q.ensures.1.0, k.ensures.1.0, c.requires) in
    search rules

pub returns : goal.returns
returns c =
    let p = c.put in
    let q = c.put-2 in
    let k = c.put-3 in
    let b = c.args.to + p.result in
    let f = b + 1 + q.result in (
      omega (arith, length_line c.args.place c.args.size c.args.count, p.ensures.0, q.ensures.0, k.ensures.0),
      rw (c.copy-3.ensures, k.ensures.1.1, c.copy-2.ensures, q.ensures.1.1, c.copy.ensures, p.ensures.1.1)
          (line_put c.args.place c.args.size c.args.count c.args.out.now c.args.to b f (f + 1 + k.result) (omega (arith, p.ensures.0)) (omega (arith, q.ensures.0)) (omega (arith, k.ensures.0))
          (omega (arith, p.ensures.1.0, q.ensures.1.0, k.ensures.1.0, c.requires))),
    )
