-- What tidying a file answers, and what it leaves in the two buffers. Assumes nothing.
use Rattle.std.specs.Prelude.{◌≡◌, ◌≢◌, List, ℕ, take}
use Rattle.answer.specs.declared.Answer.{Answer}
use Rattle.file.specs.Checks.{Checks}
use Rattle.file_letter.specs.Writes.{Writes}

-- "Reading an accepted file and writing it with §1 is a tidying .. Image and tidied file go into two lent buffers": the file s, the buffers d and e
-- before, the answer a, and the buffers d' and e' after
pub data Tidies (s d e : List ℕ) (a : Answer) (d' e' : List ℕ) : Type 0 where
  -- "A file that document 01 refuses, code 14 included, changes neither"
  turned_away : Checks s d a d' → a.code ≢ 0 → e' ≡ e → Tidies s d e a d' e'
  -- "then §1's answers and order apply, and where §1 refuses, the image stands and the other buffer stays": to the image's own bytes, as many as check says
  handed_on : (b : Answer) → Checks s d b d' → b.code ≡ 0 → Writes (take b.place d') e a e' → Tidies s d e a d' e'
