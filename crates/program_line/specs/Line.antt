-- What the programs write: the line of an answer. Assumes nothing.
use Rattle.std.specs.Prelude.{List, [], ◌∷◌, ◌++◌, ℕ}
use Prim.Native.Char.{code}
use Rattle.text.specs.Bytes.{ascii}
use Rattle.text.specs.Digits.{in_digits}
use Rattle.answer.specs.declared.Answer.{Answer}

-- the numbers of an answer, a blank between them
unfoldable pub numbers : Answer → List ℕ
numbers a = in_digits a.code ++ (code " " ∷ (in_digits a.row ++ (code " " ∷ in_digits a.place)))

-- the line of a refusal, of which document 01 has two: "`refused 3 0 0` and LF", "`refused 1 0 65536` and LF"
unfoldable pub refusal : Answer → List ℕ
refusal a = ascii "refused " ++ (numbers a ++ (code "\n" ∷ []))

-- how long these are at most: a blank and a number of 64 bits in 20 digits; three of them, a blank between them; with the word and LF
abbrev pub longest_next : ℕ
longest_next = 21

abbrev pub longest_numbers : ℕ
longest_numbers = 62

abbrev pub longest_refusal : ℕ
longest_refusal = 71
