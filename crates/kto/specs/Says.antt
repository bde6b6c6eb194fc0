-- What the program writes for what it reads. Assumes nothing.
use Rattle.std.specs.Prelude.{◌≡◌, ◌≢◌, List, ℕ, ◌≤◌, ◌<◌, length, take}
use Rattle.answer.specs.declared.Answer.{Answer}
use Rattle.answer.specs.Table.{answer}
use Rattle.program_line.specs.Line.{refusal}
use Rattle.image_reading.specs.Reads.{HouseReads}
use Rattle.file.specs.Checks.{Checks}

-- "The program reads at most 65,536 bytes"
abbrev pub most : ℕ
most = 65536

-- "and writes the image or one line"; d is the buffer that it lends, as long as what it reads at most, d' that buffer afterwards
pub data Says (input said : List ℕ) : Type 0 where
  -- "Longer input gives `refused 1 0 65536` and LF"
  longer : most < length input → said ≡ refusal (answer 1 0 most) → Says input said
  refused_input : length input ≤ most → (a : Answer) (d d' : List ℕ) → length d ≡ most → Checks input d a d' → a.code ≢ 0 → said ≡ refusal a → Says input said
  -- the image, which the reader takes for one of the same length
  written : length input ≤ most → (a : Answer) (d d' : List ℕ) → length d ≡ most → Checks input d a d' → a.code ≡ 0 → said ≡ take a.place d' → HouseReads said a → Says input said
