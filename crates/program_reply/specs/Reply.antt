-- The lines that answer a feed. Assumes nothing.
use Rattle.std.specs.Prelude.{◌≡◌, cond, List, [], ◌∷◌, ◌++◌, ℕ, Option, leb, eqb, length}
use Rattle.std.specs.Bool.{then_some}
use Prim.Native.Char.{code}
use Rattle.text.specs.Bytes.{ascii}
use Rattle.text.specs.Digits.{in_digits}
use Rattle.text.specs.Pasting.{pasted}
use Rattle.answer.specs.declared.Answer.{Answer}
use Rattle.program_line.specs.Line.{numbers}
use Rattle.program_line.specs.Hex.{hexadecimal}

-- "For each case it writes `CODE ROW PLACE HEX` and LF": an answer with the bytes that are handed back, "else nothing after the third blank"
unfoldable pub answer_line : Answer → List ℕ → List ℕ
answer_line a part = numbers a ++ (code " " ∷ (hexadecimal part ++ (code "\n" ∷ [])))

-- of a tidying "the image where it was written, `/`, the tidied file where it was written"
unfoldable pub pair_line : Answer → List ℕ → List ℕ → List ℕ
pair_line a p q = numbers a ++ (code " " ∷ (hexadecimal p ++ (code "/" ∷ (hexadecimal q ++ (code "\n" ∷ [])))))

-- "ends with the line `feed broken at case N` (N from 0)"
unfoldable pub broken_line : ℕ → List ℕ
broken_line n = ascii "feed broken at case " ++ (in_digits n ++ (code "\n" ∷ []))

-- a line put to the start of a buffer: r is its length, none where the buffer is too short; the buffer before and after
pub record Put (l before : List ℕ) (r : Option ℕ) (after : List ℕ) : Type 0 where
  pub length' : r ≡ then_some (leb (length l) (length before)) (length l)
  pub buffer : after ≡ pasted before 0 l

-- "HEX is the image of an accepted check .., the file of an accepted write, else nothing": as many of the buffer's first bytes as the answer says
abbrev pub held_length : Answer → ℕ
held_length a = cond (eqb a.code 0) a.place 0

-- how long lines are at most, beside the digits of bytes: of an answer, of one with two parts; of an answer with a count; of a broken feed
abbrev pub longest_answer : ℕ
longest_answer = 64

abbrev pub longest_pair : ℕ
longest_pair = 65

abbrev pub longest_count : ℕ
longest_count = 72

abbrev pub longest_broken : ℕ
longest_broken = 41
