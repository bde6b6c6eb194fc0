-- What the program writes, case by case; and that nothing else fits. Assumes nothing.
use mathlib.Core.Path.{◌≡◌, refl, sym, ◌∙◌, ap}
use mathlib.Core.List.{List}
use Prim.Native.Nat.{ℕ}
use native.Mathlib.Omega.{arith}
use lib.ListN.{length, take}
use Rattle.io.specs.Counts.{IsPrefixLen}
use Rattle.answer.specs.declared.Answer.{Answer}
use Rattle.answer.specs.Table.{limit}
use Rattle.program_line.specs.Line.{refusal}
use Rattle.file_letter.specs.Writes.{Writes}
use Rattle.program_outcome.specs.Outcome.{Outcome}
use Rattle.program_outcome.proofs.Outcomes.{outcome_written, outcome_counts}
use Rattle.file_letter.proofs.Rooms.{written_fits, written_alike}
use Rattle.write.specs.Sends.{Sends, no_file, file}

-- the outcome of a writing, for a buffer with room for every file
pub sends : (run d d' : List ℕ) (a : Answer) → length d ≡ limit → length d' ≡ limit → Writes run d a d' → (r : ℕ) (x : List ℕ) → Outcome a d' r x → Sends run (take r x) × IsPrefixLen r x
sends run d d' a i k w r x o = (
  outcome_written a d' r x (omega (arith, k)) (Sends run) (λ z. file a d d' i w z refl) (λ n. no_file a d d' i w n refl) o,
  outcome_counts a d' r x (omega (arith, k)) (λ z. omega (arith, written_fits run d a d' w z, i, k)) o,
)

-- only one output fits
module _ (run u v : List ℕ) where
  same : (a b : Answer) (c d c' d' : List ℕ) → length c ≡ limit → length d ≡ limit → Writes run c a c' → Writes run d b d' → a ≡ b
  same a b c d c' d' m n p q = (written_alike c d (m ∙ sym n) run a b c' d' p q).0

  code_of : (a b : Answer) → a ≡ b → a.code ≡ b.code
  code_of a b e = ap (λ (x : Answer). x.code) e

  pub sends_one : Sends run u → Sends run v → u ≡ v
  sends_one (no_file a c c' m p z e) (no_file b d d' n q w f) = e ∙ ap refusal (same a b c d c' d' m n p q) ∙ sym f
  sends_one (no_file a c c' m p z e) (file b d d' n q w f) = absurd (z (code_of a b (same a b c d c' d' m n p q) ∙ w))
  sends_one (file a c c' m p z e) (no_file b d d' n q w f) = absurd (w (sym (code_of a b (same a b c d c' d' m n p q)) ∙ z))
  sends_one (file a c c' m p z e) (file b d d' n q w f) = e ∙ (written_alike c d (m ∙ sym n) run a b c' d' p q).1 z ∙ sym f
