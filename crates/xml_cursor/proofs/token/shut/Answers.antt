-- `token::shut` meets its contract. Assumes nothing.
use mathlib.Core.Path.{sym, ◌∙◌}
use native.Mathlib.Omega.{arith}
use Rattle.xml_tags.proofs.Passing.{head_in}
use Rattle.xml_tags.proofs.Steps.{shut_empty, shut_open}
use Rattle.xml_cursor.proofs.token.shut.Goals as goal

pub overflow_add-at : goal.overflow_add-at
overflow_add-at c =
    let a = c.args in
    omega (arith, head_in 47 a.s.now a.at (sym c.byte_is.ensures ∙ c.if-byte_is.true))

pub returns-then-byte_is : goal.returns-then-byte_is
returns-then-byte_is c = shut_empty _ _ _ _ _ _ _ (sym c.byte_is.ensures ∙ c.if-byte_is.true) c.past-end.ensures

pub returns : goal.returns
returns c = shut_open _ _ _ _ _ _ _ (sym c.byte_is.ensures ∙ c.if-byte_is.false) c.past-end-2.ensures
