-- `number::paste_all` meets its contract: each turn copies one byte. Assumes nothing.
use Rattle.text.proofs.Pasting.{Copying}
use Rattle.text_bytes.proofs.number.paste_all.Given as goal

abbrev pub invariant-loop-k : goal.invariant-loop-k
invariant-loop-k l = Copying l.bytes l.initial.dst l.at l.dst l.k
