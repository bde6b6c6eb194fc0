-- `utf8::char_len` meets its contract. Assumes nothing.
use mathlib.Core.Path.{ap}
use Rattle.text_characters.specs.declared.utf8.Char.{Char}
use Rattle.text_characters.proofs.Decoding.{decoded_one, pair_len}
use Rattle.text_characters.proofs.utf8.char_len.Goals as goal

pub returns-then-pair-ne0 : goal.returns-then-pair-ne0
returns-then-pair-ne0 c = pair_len _ _ c.pair.ensures c.if-pair-ne0.true

pub returns : goal.returns
returns c = ap (λ (r : Char). r.len) (decoded_one _ _ c.decode-c.ensures)
