-- `end::found_end` meets its contract: past the end no value stands, and none reaches over it. Assumes nothing.
use Rattle.std.proofs.Common.{◌∙◌, arith, length-drop}
use Rattle.value_kinds_stored.proofs.Ended.{long_fits, found_past}
use Rattle.value_kinds_stored.proofs.end.found_end.Goals as goal

pub returns-in_err-there : goal.returns-in_err-there
returns-in_err-there c =
    let g = c.args in
    c.from_residual.ensures ∙ found_past g.kind g.k g.words g.s.now g.at (omega (arith, c.in_err-there.ensures.lookup))

pub overflow_add-result : goal.overflow_add-result
overflow_add-result c =
    let g = c.args in
    let l = long_fits g.kind g.k g.words c.in_ok-there.there.now c.length_of.result c.in_ok-n.n c.length_of.ensures c.in_ok-n.was in
    record { fits = omega (arith, l, c.in_ok-there.ensures.lookup, length-drop g.at g.s.now) }
