-- What a program writes for an answer. Assumes nothing.
use Rattle.std.specs.Prelude.{◌≡◌, ◌≢◌, List, ℕ, ◌≤◌, length}
use Rattle.text.specs.Pasting.{pasted}
use Rattle.answer.specs.declared.Answer.{Answer}
use Rattle.program_line.specs.Line.{refusal, longest_refusal}

-- d is the buffer that the call was lent, as it left it, r how many bytes of d' are written
pub data Outcome (a : Answer) (d : List ℕ) (r : ℕ) (d' : List ℕ) : Type 0 where
  -- as many bytes as the answer says, as they stand there
  filled : a.code ≡ 0 → r ≡ a.place → d' ≡ d → Outcome a d r d'
  -- "or one line", `refused CODE ROW PLACE` where there is room for it
  turned_down : a.code ≢ 0 → r ≡ length (refusal a) → r ≤ longest_refusal → d' ≡ pasted d 0 (refusal a) → Outcome a d r d'
