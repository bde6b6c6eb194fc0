-- What a program writes for an answer, as a part of the buffer; and that nothing else fits. Assumes nothing.
use mathlib.Core.Path.{◌≡◌, sym, ◌∙◌, ap, ap₂, subst}
use mathlib.Core.Logic.{◌≢◌}
use mathlib.Core.List.{List}
use Prim.Native.Nat.{ℕ, ◌≤◌}
use native.Mathlib.Omega.{arith}
use lib.ListN.{length, take}
use Rattle.answer.specs.declared.Answer.{Answer}
use Rattle.program_line.specs.Line.{refusal}
use Rattle.program_line.proofs.Lines.{counts, line_taken, line_counts}
use Rattle.program_outcome.specs.Outcome.{Outcome, filled, turned_down}

module _ (a : Answer) (d : List ℕ) (r : ℕ) (d' : List ℕ) where
  -- into a buffer that has room for any line, and for what the answer says
  module _ (h : 71 ≤ length d) where
    -- what an acceptance has, and what a refusal, is what is written
    pub outcome_written : (P : List ℕ → Type 0) → (a.code ≡ 0 → P (take a.place d)) → (a.code ≢ 0 → P (refusal a)) → Outcome a d r d' → P (take r d')
    outcome_written P p q (filled z e f) = subst P (sym (ap₂ take e f)) (p z)
    outcome_written P p q (turned_down n e m f) = subst P (sym (line_taken a d d' r (omega arith) f e)) (q n)

    pub outcome_counts : (a.code ≡ 0 → a.place ≤ length d) → Outcome a d r d' → (r ≤ length d') × (r ≡ length (take r d'))
    outcome_counts p (filled z e f) = counts r d' (omega (arith, p z, e, ap length f))
    outcome_counts p (turned_down n e m f) = line_counts a d d' r (omega arith) f

-- only one result and one buffer fit
pub outcome_one : (a : Answer) (d : List ℕ) (r r' : ℕ) (x y : List ℕ) → Outcome a d r x → Outcome a d r' y → (r ≡ r') × (x ≡ y)
outcome_one a d r r' x y (filled z e f) (filled w g h) = (e ∙ sym g, f ∙ sym h)
outcome_one a d r r' x y (filled z e f) (turned_down w g m h) = absurd (w z)
outcome_one a d r r' x y (turned_down z e m f) (filled w g h) = absurd (z w)
outcome_one a d r r' x y (turned_down z e m f) (turned_down w g n h) = (e ∙ sym g, f ∙ sym h)
