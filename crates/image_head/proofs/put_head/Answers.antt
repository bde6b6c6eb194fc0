-- `put_head` meets its contract. Assumes nothing.
use mathlib.Core.Path.{refl}
use Rattle.image_head.proofs.Heading.{head_of_lem}
use Rattle.image_head.proofs.put_head.Goals as goal

pub returns : goal.returns
returns c = record { is = (refl, c.copy.ensures); means = head_of_lem _ _ _ c.copy.ensures }
