-- The answer on which the program decides what to write: of longer input no more is known; an image is read back. Assumes nothing.
use Rattle.std.specs.Prelude.{◌≡◌, List, ℕ, ◌≤◌, ◌<◌, length, take}
use Rattle.answer.specs.declared.Answer.{Answer}
use Rattle.answer.specs.Table.{answer}
use Rattle.image_reading.specs.Reads.{HouseReads}
use Rattle.file.specs.Checks.{Checks}
use Rattle.kto.specs.Says.{most}

-- the buffer d before and d' after
pub data Answered (input d : List ℕ) (a : Answer) (d' : List ℕ) : Type 0 where
  over : most < length input → a ≡ answer 1 0 most → Answered input d a d'
  within : length input ≤ most → Checks input d a d' → (a.code ≡ 0 → HouseReads (take a.place d') a) → Answered input d a d'
