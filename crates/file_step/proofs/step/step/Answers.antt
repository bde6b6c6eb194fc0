-- `step::step` meets its contract. Assumes nothing.
use mathlib.Core.Path.{sym, ◌∙◌}
use mathlib.Core.Bool.{true≢false}
use native.Mathlib.Omega.{arith}
use Rattle.file_walk.proofs.calls.Step.{group_is, token_from, ink_from_lem, step_ink, step_close, step_end, step_open, step_empty}
use Rattle.file_step.proofs.step.step.Goals as goal
use Rattle.file_step.proofs.step.step.Goals.{in-Empty, in-Open}

pub returns-then-bad-less : goal.returns-then-bad-less
returns-then-bad-less c =
    let d = group_is _ _ _ _ c.cell.ensures c.is_group-group.ensures in
    let k = token_from _ _ _ _ _ c.text_from-from.ensures c.next-token.ensures in
    let f = ink_from_lem _ _ _ _ _ c.text_from-from.ensures c.next-token.ensures _ _ _ d c.ink-bad.ensures in
    step_ink _ _ _ _ _ _ k _ f _ c.if-bad-less.true c.text_in_group.ensures

pub returns-in-Close : goal.returns-in-Close
returns-in-Close c =
    let d = group_is _ _ _ _ c.cell.ensures c.is_group-group.ensures in
    let k = token_from _ _ _ _ _ c.text_from-from.ensures c.next-token.ensures in
    let f = ink_from_lem _ _ _ _ _ c.text_from-from.ensures c.next-token.ensures _ _ _ d c.ink-bad.ensures in
    step_close _ _ _ _ _ _ k _ f (omega (arith, c.if-bad-less.false)) _ _ c.in-Close.is d c.closed.ensures

pub returns-in-End : goal.returns-in-End
returns-in-End c =
    let d = group_is _ _ _ _ c.cell.ensures c.is_group-group.ensures in
    let k = token_from _ _ _ _ _ c.text_from-from.ensures c.next-token.ensures in
    let f = ink_from_lem _ _ _ _ _ c.text_from-from.ensures c.next-token.ensures _ _ _ d c.ink-bad.ensures in
    step_end _ _ _ _ _ _ k _ f (omega (arith, c.if-bad-less.false)) _ c.in-End.is c.not_house_xml.ensures

pub returns-then-hollow : goal.returns-then-hollow
returns-then-hollow c =
    let d = group_is _ _ _ _ c.cell.ensures c.is_group-group.ensures in
    let k = token_from _ _ _ _ _ c.text_from-from.ensures c.next-token.ensures in
    let f = ink_from_lem _ _ _ _ _ c.text_from-from.ensures c.next-token.ensures _ _ _ d c.ink-bad.ensures in
    step_empty _ _ _ _ _ _ k _ f (omega (arith, c.if-bad-less.false)) _ _ c.row_of-r.ensures c.own-ok.ensures _ (elim c.match-token.branch [ in-Empty w ↦ w.in-Empty.is | in-Open w ↦ absurd (true≢false (sym c.if-hollow.true ∙ w.hollow-is)) ]) c.vacant.ensures

pub returns : goal.returns
returns c =
    let d = group_is _ _ _ _ c.cell.ensures c.is_group-group.ensures in
    let k = token_from _ _ _ _ _ c.text_from-from.ensures c.next-token.ensures in
    let f = ink_from_lem _ _ _ _ _ c.text_from-from.ensures c.next-token.ensures _ _ _ d c.ink-bad.ensures in
    step_open _ _ _ _ _ _ k _ f (omega (arith, c.if-bad-less.false)) _ _ c.row_of-r.ensures c.own-ok.ensures _ _ (elim c.match-token.branch [ in-Empty w ↦ absurd (true≢false (sym w.hollow-is ∙ c.if-hollow.false)) | in-Open w ↦ w.in-Open.is ]) c.entered.ensures.0 c.entered.ensures.1
