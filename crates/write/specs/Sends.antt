-- What the program writes for what it reads. Assumes nothing.
use Rattle.std.specs.Prelude.{◌≡◌, ◌≢◌, List, ℕ, length, take}
use Rattle.answer.specs.declared.Answer.{Answer}
use Rattle.answer.specs.Table.{limit}
use Rattle.program_line.specs.Line.{refusal}
use Rattle.file_letter.specs.Writes.{Writes}

-- the file of the image that a run begins with, or one line `refused CODE ROW PLACE`; d is the buffer that it lends, with room for every file
-- that may be written, d' that buffer afterwards. To a run over the limit the writer's own answer is 1
pub data Sends (run sent : List ℕ) : Type 0 where
  no_file : (a : Answer) (d d' : List ℕ) → length d ≡ limit → Writes run d a d' → a.code ≢ 0 → sent ≡ refusal a → Sends run sent
  file : (a : Answer) (d d' : List ℕ) → length d ≡ limit → Writes run d a d' → a.code ≡ 0 → sent ≡ take a.place d' → Sends run sent
