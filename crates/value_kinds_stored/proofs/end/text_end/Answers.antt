-- `end::text_end` meets its contract: its first two bytes say how long it is. Assumes nothing.
use Rattle.std.proofs.Common.{ap, ◌∙◌, ◌+◌}
use Rattle.value_kinds_stored.specs.Ended.{ended}
use Rattle.value_kinds_stored.proofs.Ended.{number_two}
use Rattle.value_kinds_stored.proofs.end.text_end.Goals as goal

pub returns : goal.returns
returns g c p h =
    let t = c.args.there.now in
    let chunk = c.in_ok-said.ensures.cases in
    c.end_of.ensures p h
    ∙ ap (λ w. ended 2 (2 + w) p t 0) (c.from-n.ensures ∙ number_two t _ _ chunk.enough chunk.same c.from_be_bytes.ensures)
