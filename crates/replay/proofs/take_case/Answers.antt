-- `take_case` meets its contract: what is read counts bytes of the buffer.
use Rattle.std.proofs.Common.{◌+◌, ◌≤◌, length}
use native.Mathlib.Omega.{arith}
use lib.Seq.{length-take-le}
use mathlib.Core.Path.{sym}
use Rattle.program_feed.specs.Cases.{longest}
use Rattle.replay.proofs.Replying.{size_most}
use Rattle.replay.proofs.take_case.Goals as goal

pub overflow_add-end : goal.overflow_add-end
overflow_add-end g c =
    let k : c.size_of-end.result ≤ longest = size_most _ _ _ c.case_of.ensures c.size_of-end.ensures in
    omega arith

pub fill-requires-2 : goal.fill-requires-2
fill-requires-2 g c =
    let k : c.size_of-end.result ≤ longest = size_most _ _ _ c.case_of.ensures c.size_of-end.ensures in
    (omega arith, omega (arith, c.requires, c.fill.auto.space))

pub overflow_add-result : goal.overflow_add-result
overflow_add-result g c =
    let k : c.size_of-end.result ≤ longest = size_most _ _ _ c.case_of.ensures c.size_of-end.ensures in
    omega (arith, c.in_ok-more.ensures)

pub returns : goal.returns
returns g c =
    let k : c.size_of-end.result ≤ longest = size_most _ _ _ c.case_of.ensures c.size_of-end.ensures in
    let h : 13 + c.in_ok-more.more ≤ length c.fill-2.new.space = omega (arith, c.in_ok-more.ensures, c.requires, c.fill.auto.space, c.fill-2.auto.space) in
    (h, sym (length-take-le _ _ h))
