-- `token::is_declared` meets its contract. Assumes nothing.
use mathlib.Core.Path.{sym, ◌∙◌}
use Rattle.xml_tags.proofs.Steps.{declared_yes, declared_no}
use Rattle.xml_cursor.proofs.token.is_declared.Goals as goal

pub returns-then-byte_is : goal.returns-then-byte_is
returns-then-byte_is c = c.byte_is-then-byte_is.ensures ∙ declared_yes c.args.s.now (sym c.byte_is.ensures ∙ c.if-byte_is.true)

pub returns : goal.returns
returns c = declared_no c.args.s.now (sym c.byte_is.ensures ∙ c.if-byte_is.false)
