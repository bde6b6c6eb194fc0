-- `from_bytes::is_spaced` meets its contract. Assumes nothing.
use Rattle.std.proofs.Common.{sym, ◌∙◌, inl, inr}
use Rattle.value.proofs.stored.texts.Slashes.{spaced_end, spaced_word, spaced_bad, spaced_slash, spaced_twice}
use Rattle.value_texts_stored.proofs.from_bytes.is_spaced.Goals as goal
use Rattle.value_texts_stored.proofs.from_bytes.is_spaced.Goals.{then-is_word, else-is_word+else-x-ne47+else-slash}

pub returns-then-x-ne47 : goal.returns-then-x-ne47
returns-then-x-ne47 c = elim c.then-x-ne47.either [
  | inl h ↦ spaced_bad _ _ _ _ c.loop-x.invariant c.loop-x-test.true (sym c.is_word.ensures ∙ c.if-is_word.false) h
  | inr h ↦ spaced_twice _ _ _ _ c.loop-x.invariant c.loop-x-test.true h.0 h.1
]

pub loop-x-preserved : goal.loop-x-preserved
loop-x-preserved c = elim c.if-is_word.branch [
  | then-is_word w ↦ rw w.slash-is (spaced_word _ _ _ _ c.loop-x.invariant c.loop-x-test.true (sym c.is_word.ensures ∙ w.if-is_word.true))
  | else-is_word+else-x-ne47+else-slash w ↦ rw w.slash-is (spaced_slash _ _ _ _ c.loop-x.invariant c.loop-x-test.true w.if-x-ne47.false w.if-slash.false)
]

pub returns : goal.returns
returns c = spaced_end _ _ _ _ c.loop-x.invariant c.loop-x-test.false
