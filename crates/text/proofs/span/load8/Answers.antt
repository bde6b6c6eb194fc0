-- `span::load8` meets its contract. Assumes nothing.
use Rattle.text.proofs.Littles.{load_all}
use Rattle.text.proofs.span.load8.Goals as goal

pub returns-in-Some : goal.returns-in-Some
returns-in-Some c = load_all _ _ _ _ (λ i. (c.type_inv.s i).fits) c.in-Some.ensures.cases.same c.from_le_bytes.ensures
