-- What the program writes for what it reads. Assumes nothing.
use Rattle.std.specs.Prelude.{◌≡◌, ◌≢◌, List, ℕ, length, take}
use Rattle.answer.specs.declared.Answer.{Answer}
use Rattle.answer.specs.Table.{limit}
use Rattle.program_line.specs.Line.{refusal}
use Rattle.file_letter.specs.Tidies.{Tidies}

-- the tidied file, or one line `refused CODE ROW PLACE`; d and e are the buffers that it lends, with room for every image and for every file that may be
-- written, d' and e' those buffers afterwards. To a file over the limit check's own answer is 1
pub data Presents (input shown : List ℕ) : Type 0 where
  untidied : (a : Answer) (d e d' e' : List ℕ) → length d ≡ limit → length e ≡ limit → Tidies input d e a d' e' → a.code ≢ 0 → shown ≡ refusal a → Presents input shown
  tidied : (a : Answer) (d e d' e' : List ℕ) → length d ≡ limit → length e ≡ limit → Tidies input d e a d' e' → a.code ≡ 0 → shown ≡ take a.place e' → Presents input shown
