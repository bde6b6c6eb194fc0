-- What the program writes, case by case: nothing else fits. Assumes nothing.
use mathlib.Core.Path.{◌≡◌, refl, sym, ◌∙◌, ap}
use mathlib.Core.List.{List}
use Prim.Native.Nat.{ℕ}
use native.Mathlib.Omega.{arith}
use lib.ListN.{length, take}
use Rattle.io.specs.Counts.{IsPrefixLen}
use Rattle.answer.specs.declared.Answer.{Answer}
use Rattle.answer.specs.Table.{limit}
use Rattle.program_line.specs.Line.{refusal}
use Rattle.file_letter.specs.Tidies.{Tidies}
use Rattle.program_outcome.specs.Outcome.{Outcome}
use Rattle.program_outcome.proofs.Outcomes.{outcome_written, outcome_counts}
use Rattle.file_letter.proofs.Tidying.{tidied_fits, tidied_alike}
use Rattle.tidy.specs.Presents.{Presents, untidied, tidied}

-- the outcome of a tidying, for buffers with room for every image and every file
pub presented : (s d e d' e' : List ℕ) (a : Answer) → length d ≡ limit → length e ≡ limit → length e' ≡ limit → Tidies s d e a d' e' → (r : ℕ) (x : List ℕ) → Outcome a e' r x → Presents s (take r x) × IsPrefixLen r x
presented s d e d' e' a i j k t r x o = (
  outcome_written a e' r x (omega (arith, k)) (Presents s) (λ z. tidied a d e d' e' i j t z refl) (λ n. untidied a d e d' e' i j t n refl) o,
  outcome_counts a e' r x (omega (arith, k)) (λ z. omega (arith, tidied_fits s d e a d' e' t z, j, k)) o,
)

-- only one output fits
module _ (s u v : List ℕ) where
  same : (a b : Answer) (d e d' e' g h g' h' : List ℕ) → length d ≡ limit → length e ≡ limit → length g ≡ limit → length h ≡ limit → Tidies s d e a d' e' → Tidies s g h b g' h'
      → (a ≡ b) × (a.code ≡ 0 → take a.place e' ≡ take b.place h')
  same a b d e d' e' g h g' h' i j m n = tidied_alike s d g e h (i ∙ sym m) (j ∙ sym n) a b d' e' g' h'

  code_of : (a b : Answer) → a ≡ b → a.code ≡ b.code
  code_of a b e = ap (λ (x : Answer). x.code) e

  pub presents_one : Presents s u → Presents s v → u ≡ v
  presents_one (untidied a d e d' e' i j p z x) (untidied b g h g' h' m n q w y) = x ∙ ap refusal (same a b d e d' e' g h g' h' i j m n p q).0 ∙ sym y
  presents_one (untidied a d e d' e' i j p z x) (tidied b g h g' h' m n q w y) = absurd (z (code_of a b (same a b d e d' e' g h g' h' i j m n p q).0 ∙ w))
  presents_one (tidied a d e d' e' i j p z x) (untidied b g h g' h' m n q w y) = absurd (w (sym (code_of a b (same a b d e d' e' g h g' h' i j m n p q).0) ∙ z))
  presents_one (tidied a d e d' e' i j p z x) (tidied b g h g' h' m n q w y) = x ∙ (same a b d e d' e' g h g' h' i j m n p q).1 z ∙ sym y
