-- `attributes::with_one` meets its contract. Assumes nothing.
use mathlib.Core.Path.{refl, sym, ◌∙◌}
use native.Mathlib.Omega.{arith}
use Rattle.std.proofs.lemmas.Option.{IfSome_then}
use Rattle.text.specs.Bytes.{ascii}
use Rattle.file_front.proofs.Joining.{starts_room}
use Rattle.file_front.proofs.Bearing.{puts_adds}
use Rattle.file_front.proofs.attributes.with_one.Goals as goal

pub overflow_add-from : goal.overflow_add-from
overflow_add-from c =
    omega (arith, starts_room c.args.s.now (ascii "xmlns=") c.blanks_end-from.result (sym c.begins.ensures ∙ c.if-begins.true) (omega arith))

pub returns-then-begins : goal.returns-then-begins
returns-then-begins c =
    IfSome_then c.with_space.result c.with_space.ensures
    (λ d g. puts_adds (ascii "xmlns") (ascii "xmlns=") _ _ _ _ c.blanks_end-from.ensures c.if-from-seen.false refl (sym c.begins.ensures ∙ c.if-begins.true) g)

pub overflow_add-from-then-begins-2 : goal.overflow_add-from-then-begins-2
overflow_add-from-then-begins-2 c =
    omega (arith, starts_room c.args.s.now (ascii "xmlns:xsi=") c.blanks_end-from.result (sym c.begins-2.ensures ∙ c.if-begins-2.true) (omega arith))

pub returns-then-begins-2 : goal.returns-then-begins-2
returns-then-begins-2 c =
    IfSome_then c.with_prefix.result c.with_prefix.ensures
    (λ d g. puts_adds (ascii "xmlns:xsi") (ascii "xmlns:xsi=") _ _ _ _ c.blanks_end-from.ensures c.if-from-seen.false refl (sym c.begins-2.ensures ∙ c.if-begins-2.true) g)

pub overflow_add-from-then-begins-3 : goal.overflow_add-from-then-begins-3
overflow_add-from-then-begins-3 c =
    omega (arith, starts_room c.args.s.now (ascii "xsi:schemaLocation=") c.blanks_end-from.result (sym c.begins-3.ensures ∙ c.if-begins-3.true) (omega arith))

pub returns-then-begins-3 : goal.returns-then-begins-3
returns-then-begins-3 c =
    IfSome_then c.with_location.result c.with_location.ensures
    (λ d g. puts_adds (ascii "xsi:schemaLocation") (ascii "xsi:schemaLocation=") _ _ _ _ c.blanks_end-from.ensures c.if-from-seen.false refl (sym c.begins-3.ensures ∙ c.if-begins-3.true) g)
