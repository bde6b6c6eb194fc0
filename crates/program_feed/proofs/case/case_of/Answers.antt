-- `case::case_of` meets its contract: a head that breaks off, one with a length over the longest, and the others by their op. Assumes nothing.
use mathlib.Core.Path.{◌∙◌, ap}
use native.Mathlib.Omega.{arith}
use lib.ListN.{length, length-drop}
use Rattle.program_feed.proofs.Heads.{case_short, case_long, case_whole}
use Rattle.program_feed.proofs.case.case_of.Goals as goal

pub returns-in_err-op : goal.returns-in_err-op
returns-in_err-op c = c.from_residual.ensures ∙ case_short _ (omega (arith, c.in_err-op.ensures.cases))

pub returns-in_err-first : goal.returns-in_err-first
returns-in_err-first c = c.from_residual-in_err-first.ensures ∙ case_short _ (omega (arith, c.in_ok-op.ensures.cases.1, c.in_err-first.ensures))

pub returns-in_err-second : goal.returns-in_err-second
returns-in_err-second c =
    let first = c.in_ok-first.ensures in
    c.from_residual-in_err-second.ensures ∙ case_short _ (omega (arith, c.in_ok-op.ensures.cases.1, c.in_err-second.ensures, ap length first.2, length-drop 4 c.in_ok-op.numbers.now))

pub returns-in_err-size : goal.returns-in_err-size
returns-in_err-size c =
    let first = c.in_ok-first.ensures in
    let second = c.in_ok-second.ensures in
    c.from_residual-in_err-size.ensures
    ∙ case_short _ (omega (arith, c.in_ok-op.ensures.cases.1, c.in_err-size.ensures, ap length first.2, ap length second.2, length-drop 4 c.in_ok-op.numbers.now, length-drop 4 c.in_ok-first.numbers.now))

pub returns-then-size-gt-LONGEST : goal.returns-then-size-gt-LONGEST
returns-then-size-gt-LONGEST c =
    let size = c.in_ok-size.ensures in
    case_long c.in_ok-op.ensures.cases c.in_ok-first.ensures c.in_ok-second.ensures (size.0, size.1) (omega arith)

pub returns : goal.returns
returns c =
    let size = c.in_ok-size.ensures in
    case_whole c.in_ok-op.ensures.cases c.in_ok-first.ensures c.in_ok-second.ensures (size.0, size.1) (omega arith) c.by_op.ensures
