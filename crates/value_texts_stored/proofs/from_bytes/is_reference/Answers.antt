-- `from_bytes::is_reference` meets its contract. Assumes nothing.
use Rattle.std.proofs.Common.{◌≡◌, sym, ◌∙◌, true, false, Bool, ◌&&◌, List, ℕ, ◌≤◌, ◌<◌, length}
use mathlib.Core.Bool.{and-false, true≢false}
use lib.Dec.{leb}
use borrow.Author.Tests.{le-leb, lt-leb}
use Rattle.value.specs.types.Text.{is_ref}
use Rattle.value.specs.mirror.Tests.{not_space, every, some, apart}
use Rattle.value.specs.mirror.Judges.{is_reference}
use Rattle.value_texts_stored.proofs.from_bytes.is_reference.Goals as goal
use Rattle.value_texts_stored.proofs.from_bytes.is_reference.Goals.{then-b-le-MOST_REF, else-b-le-MOST_REF}

long : (b : List ℕ) → 35 < length b → false ≡ is_reference b
unfolding is_reference
long b h = rw (lt-leb (length b) 35 h)

blank : (b : List ℕ) → some not_space b ≡ false → false ≡ is_reference b
unfolding is_reference
blank b e = rw (e, and-false (every is_ref b), and-false (leb (length b) 35))

spaced : (b : List ℕ) (r : Bool) → length b ≤ 35 → some not_space b ≡ true → r ≡ (every is_ref b && apart true b) → r ≡ is_reference b
unfolding is_reference
spaced b r h e f = rw (le-leb (length b) 35 h, e) f

pub returns-then-is_inked : goal.returns-then-is_inked
returns-then-is_inked c = elim c.if-b-le-MOST_REF.branch [
  | then-b-le-MOST_REF w ↦ spaced _ _ w.if-b-le-MOST_REF.true (sym w.is_inked.ensures ∙ sym w.value-is ∙ c.if-is_inked.true) c.is_spaced.ensures
  | else-b-le-MOST_REF w ↦ absurd (true≢false (sym c.if-is_inked.true ∙ w.value-is ∙ lt-leb _ 35 w.if-b-le-MOST_REF.false))
]

pub returns-else-is_inked : goal.returns-else-is_inked
returns-else-is_inked c =
    c.if-is_inked.false
    ∙ elim c.if-b-le-MOST_REF.branch [
      | then-b-le-MOST_REF w ↦ blank _ (sym w.is_inked.ensures ∙ sym w.value-is ∙ c.if-is_inked.false)
      | else-b-le-MOST_REF w ↦ long _ w.if-b-le-MOST_REF.false
    ]
