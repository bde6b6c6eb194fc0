-- `tag_at` meets its contract. Assumes nothing.
use mathlib.Core.Path.{refl, sym, ap, ◌∙◌}
use native.Mathlib.Omega.{arith}
use Rattle.xml_tags.proofs.Passing.{head_in}
use Rattle.xml_tags.proofs.Steps.{open_end, tail_greater, open_tail}
use Rattle.xml_tags.specs.mirror.Skimmed.{tag_of}
use Rattle.xml_skim.proofs.tag_at.Goals as goal

pub returns-then-s-less : goal.returns-then-s-less
returns-then-s-less c =
    ap tag_of (open_end _ _ c.if-s-less.true)

pub overflow_add-end : goal.overflow_add-end
overflow_add-end c =
    omega (arith, head_in 62 c.args.s.now c.name_end-stop.result (sym c.byte_is.ensures ∙ c.if-byte_is.true))

pub returns-then-byte_is : goal.returns-then-byte_is
returns-then-byte_is c =
    ap tag_of (tail_greater _ _ _ _ (sym c.byte_is.ensures ∙ c.if-byte_is.true) refl ∙ open_tail _ _ _ c.if-s-less.false c.name_end-stop.ensures)

pub returns : goal.returns
returns c =
    ap tag_of c.opening-token.ensures
