-- `pass::value_size` meets its contract. Assumes nothing.
use mathlib.Core.Path.{refl}
use Rattle.file_measure.proofs.Value.{valued_word, valued_counted}
use Rattle.file_measure.proofs.pass.value_size.Goals as goal

pub returns-then-kind-eq-ENUM : goal.returns-then-kind-eq-ENUM
returns-then-kind-eq-ENUM c =
    λ cur at. valued_word _ _ _ _ c.requires.0 cur _ _ at _ _ (c.word_size.ensures at) c.if-kind-eq-ENUM.true

pub returns : goal.returns
returns c =
    λ cur at. valued_counted _ _ _ _ c.requires.0 cur _ _ at c.if-kind-eq-ENUM.false _ _ c.cell.ensures _ c.then_some.ensures refl c.size-n.ensures
