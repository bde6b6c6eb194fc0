-- `to_text::write_word` meets its contract. Assumes nothing.
use mathlib.Core.Path.{refl, sym}
use native.Mathlib.Omega.{arith}
use lib.Seq.{take-length}
use Rattle.value.proofs.script.Escaping.{pasted_as}
use Rattle.value.proofs.script.Writing.{wrote_as, wrote_none, word_none, word_some, word_most}
use Rattle.value_numbers.proofs.to_text.write_word.Goals as goal

pub returns-then-n-eq0 : goal.returns-then-n-eq0
returns-then-n-eq0 c =
    wrote_none _ _ _ _ (word_none _ c.args.b.now _ c.byte-n.ensures c.if-n-eq0.true)

pub returns : goal.returns
returns c =
    let g = c.args in
    let w = c.nth_word-word.ensures in
    let m = word_most g.rows.now g.pool.now g.row _ _ w in
    wrote_as _ _ _ _ _ _ _ _ (word_some _ g.b.now _ _ c.byte-n.ensures c.if-n-eq0.false w) m (refl, (omega arith, pasted_as _ _ _ _ _ (sym (take-length _)) c.copy.ensures))
