-- What the program writes, case by case; and that nothing else fits. Assumes nothing.
use mathlib.Core.Path.{◌≡◌, refl, sym, ◌∙◌, ap, subst}
use mathlib.Core.Logic.{◌≢◌}
use mathlib.Core.List.{List}
use Prim.Native.Nat.{ℕ, ◌≤◌}
use native.Mathlib.Omega.{arith}
use lib.ListN.{length, take}
use Rattle.io.specs.Counts.{IsPrefixLen}
use Rattle.answer.specs.declared.Answer.{Answer}
use Rattle.program_line.specs.Line.{refusal}
use Rattle.program_outcome.specs.Outcome.{Outcome}
use Rattle.program_outcome.proofs.Outcomes.{outcome_written, outcome_counts}
use Rattle.image_reading.specs.Reads.{HouseReads}
use Rattle.file.specs.Checks.{Checks}
use Rattle.file.proofs.Rooms.{place_fits, reads_back, rooms_alike}
use Rattle.kto.specs.Says.{most, Says, longer, refused_input, written}
use Rattle.kto.specs.Answered.{Answered, over, within}

module _ (input d : List ℕ) where
  -- the reader gives the answer that check gave
  pub read_again : length input ≤ most → (a : Answer) (d' : List ℕ) → Checks input d a d' → a.code ≡ 0 → (b : Answer) → HouseReads (take a.place d') b → Answered input d b d'
  read_again h a d' p z b q =
      let e : b ≡ a = reads_back input d a d' p z b q in
      subst (λ (x : Answer). Answered input d x d') (sym e) (within h p (λ _. subst (λ (x : Answer). HouseReads (take a.place d') x) e q))

  module _ (n : length d ≡ most) (a : Answer) (d' : List ℕ) where
    -- longer input, or a refusal
    says_refused : Answered input d a d' → a.code ≢ 0 → Says input (refusal a)
    says_refused (over h e) z = longer h (ap refusal e)
    says_refused (within h p b) z = refused_input h a d d' n p z refl

    -- an image
    says_written : Answered input d a d' → a.code ≡ 0 → Says input (take a.place d')
    says_written (over h e) z = absurd (omega (arith, ap (λ (x : Answer). x.code) e, z))
    says_written (within h p b) z = written h a d d' n p z refl (b z)

    image_fits : Answered input d a d' → a.code ≡ 0 → a.place ≤ most
    image_fits (over h e) z = absurd (omega (arith, ap (λ (x : Answer). x.code) e, z))
    image_fits (within h p b) z = omega (arith, n, place_fits input d a d' p z)

    -- the outcome of either
    pub says : Answered input d a d' → length d' ≡ most → (r : ℕ) (x : List ℕ) → Outcome a d' r x → Says input (take r x) × IsPrefixLen r x
    says w k r x o = (
      outcome_written a d' r x (omega (arith, k)) (Says input) (says_written w) (says_refused w) o,
      outcome_counts a d' r x (omega (arith, k)) (λ z. omega (arith, image_fits w z, k)) o,
    )

-- only one output fits
pub says_one : (input u v : List ℕ) → Says input u → Says input v → u ≡ v
says_one input u v (longer h e) (longer k f) = e ∙ sym f
says_one input u v (longer h e) (refused_input k b d d' n q w f) = absurd (omega arith)
says_one input u v (longer h e) (written k b d d' n q w f r) = absurd (omega arith)
says_one input u v (refused_input h a c c' m p z e) (longer k f) = absurd (omega arith)
says_one input u v (refused_input h a c c' m p z e) (refused_input k b d d' n q w f) =
    e ∙ ap refusal (rooms_alike input c d (m ∙ sym n) a b c' d' p q).0 ∙ sym f
says_one input u v (refused_input h a c c' m p z e) (written k b d d' n q w f r) =
    absurd (z (ap (λ (x : Answer). x.code) (rooms_alike input c d (m ∙ sym n) a b c' d' p q).0 ∙ w))
says_one input u v (written h a c c' m p z e o) (longer k f) = absurd (omega arith)
says_one input u v (written h a c c' m p z e o) (refused_input k b d d' n q w f) =
    absurd (w (sym (ap (λ (x : Answer). x.code) (rooms_alike input c d (m ∙ sym n) a b c' d' p q).0) ∙ z))
says_one input u v (written h a c c' m p z e o) (written k b d d' n q w f r) =
    e ∙ (rooms_alike input c d (m ∙ sym n) a b c' d' p q).1 z ∙ sym f
