-- What the program writes for a run. Assumes nothing.
use Rattle.std.specs.Prelude.{◌≡◌, ◌≢◌, List, [], ◌∷◌, ◌++◌, ℕ, ◌+◌, ◌≤◌, ◌<◌, length, drop}
use Prim.Native.Char.{code}
use Rattle.text.specs.Digits.{in_digits}
use Rattle.answer.specs.declared.Answer.{Answer}
use Rattle.program_line.specs.Line.{refusal}
use Rattle.image_reading.specs.Reads.{HouseReads, HouseCounts}

-- "one line for each image, `PLACE LENGTH ITEMS`"
unfoldable pub image_line : ℕ → ℕ → ℕ → List ℕ
image_line place size count = in_digits place ++ (code " " ∷ (in_digits size ++ (code " " ∷ (in_digits count ++ (code "\n" ∷ [])))))

-- so many items the reader takes of a run, whatever it answers
pub record Taken (run : List ℕ) (n : ℕ) : Type 0 where
  pub answer : Answer
  pub reads : HouseReads run answer
  pub counts : HouseCounts run answer n

-- how long it is at most, and room for all lines of a run with that of a refusal: no image is shorter than six bytes, no line of one longer than 24
abbrev pub longest_line : ℕ
longest_line = 63

abbrev pub all_lines : ℕ
all_lines = 4194375

-- what is written for the rest of a run from a place on: "it answers as they do on the rest of the run", places of refusals counted from its start
pub data Divides (run : List ℕ) : ℕ → List ℕ → Type 0 where
  -- "nothing at the run's end"
  at_end : {at : ℕ} → length run ≤ at → Divides run at []
  -- an image with the items that it has, the closing 0 among them, and what stands after it
  another : {at : ℕ} {said : List ℕ} → at < length run → (a : Answer) → HouseReads (drop at run) a → a.code ≡ 0 → (n : ℕ) → HouseCounts (drop at run) a n
      → Divides run (at + a.place) said → Divides run at (image_line at a.place n ++ said)
  -- "at the end the reader's own answer for what is left"
  left_over : {at : ℕ} → at < length run → (a : Answer) → HouseReads (drop at run) a → a.code ≢ 0 → Divides run at (refusal a)
