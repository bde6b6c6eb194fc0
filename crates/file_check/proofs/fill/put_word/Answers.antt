-- `fill::put_word` meets its contract. Assumes nothing.
use Rattle.file_measure.proofs.Value.{worded_none, worded_some}
use Rattle.file_check.proofs.fill.put_word.Goals as goal

pub returns-then-byte-eq0 : goal.returns-then-byte-eq0
returns-then-byte-eq0 c =
    worded_none _ _ _ _ _ c.word_byte-byte.ensures c.if-byte-eq0.true

pub returns : goal.returns
returns c =
    worded_some _ _ _ _ _ c.word_byte-byte.ensures c.if-byte-eq0.false _ c.place.ensures
