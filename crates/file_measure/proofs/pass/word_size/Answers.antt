-- `pass::word_size` meets its contract. Assumes nothing.
use Rattle.text.proofs.Puts.{pasted_nowhere}
use Rattle.file_measure.proofs.Value.{worded_size}
use Rattle.file_measure.proofs.pass.word_size.Goals as goal

pub returns : goal.returns
returns c =
    λ at. worded_size _ _ _ at _ c.word_byte-byte.ensures (pasted_nowhere _ _) _ c.then_some.ensures
