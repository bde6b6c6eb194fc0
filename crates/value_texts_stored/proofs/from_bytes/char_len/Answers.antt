-- `from_bytes::char_len` meets its contract. Assumes nothing.
use Rattle.value.proofs.stored.texts.Writings.{len_is}
use Rattle.value_texts_stored.proofs.from_bytes.char_len.Goals as goal

pub returns : goal.returns
returns c = len_is _ _ c.decode-c.ensures _ c.is_txt.ensures _ c.then_some.ensures
