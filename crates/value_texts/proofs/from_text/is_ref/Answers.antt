-- `from_text::is_ref` meets its contract. Assumes nothing.
use mathlib.Core.Path.{sym, ◌∙◌, ap}
use native.Mathlib.Omega.{arith}
use borrow.Author.Tests.{eq-eqb, lt-leb}
use Rattle.text.proofs.Classes.{no}
use Rattle.value.specs.types.Text.{is_ref}
use Rattle.value.proofs.classes.Named.{reference}
use Rattle.value.proofs.classes.Computed.{slash_ref}
use Rattle.value_texts.proofs.from_text.is_ref.Goals as goal

pub returns-then-c-eq-SLASH : goal.returns-then-c-eq-SLASH
returns-then-c-eq-SLASH c =
    eq-eqb c.args.c 47 c.if-c-eq-SLASH.true ∙ slash_ref ∙ ap is_ref (sym c.if-c-eq-SLASH.true)

pub returns-else-c-le-LAST_ASCII : goal.returns-else-c-le-LAST_ASCII
returns-else-c-le-LAST_ASCII c =
    lt-leb c.args.c 127 c.if-c-le-LAST_ASCII.false ∙ no reference (omega arith)
