-- `to_text::has_room` meets its contract: five bytes for each are never too few. Assumes nothing.
use Rattle.std.proofs.Common.{sym, ◌∙◌, length, arith}
use borrow.Author.Tests.{le-leb}
use Rattle.value.specs.script.Raw.{escaped}
use Rattle.value.proofs.script.Escaping.{escaped_most}
use Rattle.value_texts_put.proofs.to_text.has_room.Goals as goal

pub returns-then-t-room : goal.returns-then-t-room
returns-then-t-room c =
    let g = c.args in
    le-leb _ g.room c.if-t-room.true ∙ sym (le-leb (length (escaped g.t.now)) g.room (omega (arith, escaped_most g.t.now, c.if-t-room.true)))
