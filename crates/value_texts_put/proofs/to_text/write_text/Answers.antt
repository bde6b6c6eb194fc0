-- `to_text::write_text` meets its contract. Assumes nothing.
use mathlib.Core.Path.{refl}
use native.Mathlib.Omega.{arith}
use Rattle.value.proofs.script.Writing.{wrote_as, text_part}
use Rattle.value_texts_put.proofs.to_text.write_text.Goals as goal

pub write_chars-requires : goal.write_chars-requires
write_chars-requires c = c.text_of.ensures.most

pub returns : goal.returns
returns c =
    wrote_as _ _ _ _ _ _ _ _ (text_part c.args.b.now _ _ refl c.text_of.ensures.is) (omega arith) c.write_chars.ensures
