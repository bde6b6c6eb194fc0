-- `file_answers::sized` meets its contract. Assumes nothing.
use mathlib.Core.Path.{sym, ◌∙◌}
use Rattle.file_answers.proofs.Answering.{sized_large, sized_short, sized_whole}
use Rattle.file_answers.proofs.sized.Goals as goal

pub returns-then-n-gt-LIMIT : goal.returns-then-n-gt-LIMIT
returns-then-n-gt-LIMIT c = c.too_large.ensures ∙ sym (sized_large _ _ c.if-n-gt-LIMIT.true)

pub returns-then-room-n : goal.returns-then-room-n
returns-then-room-n c = c.no_room.ensures ∙ sym (sized_short _ _ c.if-n-gt-LIMIT.false c.if-room-n.true)

pub returns : goal.returns
returns c = c.accepted.ensures ∙ sym (sized_whole _ _ c.if-n-gt-LIMIT.false c.if-room-n.false)
