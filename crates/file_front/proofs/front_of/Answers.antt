-- `front_of` meets its contract. Assumes nothing.
use mathlib.Core.Path.{refl, sym, ◌∙◌}
use native.Mathlib.Omega.{arith}
use borrow.Author.Tests.{not-false}
use Rattle.text.specs.Bytes.{ascii}
use Rattle.file_front.proofs.Joining.{starts_room}
use Rattle.file_front.proofs.Opening.{opens_by}
use Rattle.file_front.proofs.front_of.Goals as goal

pub overflow_add-less : goal.overflow_add-less
overflow_add-less c =
    omega (arith, starts_room c.args.s.now (ascii "<Document") c.root_at-less.result (sym c.begins.ensures ∙ not-false _ c.if-not-begins.false-raw) (omega arith))

pub returns : goal.returns
returns c =
    let so = c.in_ok-seen.ensures in
    let whole = c.in_ok-kind.ensures in
    opens_by _ (ascii "<Document") _ _ refl c.root_at-less.ensures (sym c.begins.ensures ∙ not-false _ c.if-not-begins.false-raw) so.0 so.1 _ whole.0 whole.1
