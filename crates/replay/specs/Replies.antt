-- The line that answers a case of a feed. Assumes nothing.
use Rattle.std.specs.Prelude.{◌≡◌, List, [], ℕ, Some, None, length, take}
use Rattle.answer.specs.declared.Answer.{Answer}
use Rattle.text.specs.Numbers.{big_endian}
use Rattle.image_reading.specs.Reads.{HouseReads, HouseCounts, HousePicks}
use Rattle.file.specs.Checks.{Checks}
use Rattle.file_letter.specs.Writes.{Writes}
use Rattle.file_letter.specs.Tidies.{Tidies}
use Rattle.program_feed.specs.declared.case.Ask.TheVariants.{Check, Read, Pick, Write, Count, Tidy}
use Rattle.program_feed.specs.Cases.{case, case_in, bytes_in}
use Rattle.program_reply.specs.Reply.{answer_line, pair_line, broken_line, held_length}

-- what an accepted call leaves in its buffer
abbrev pub held_by : Answer → List ℕ → List ℕ
held_by a d = take (held_length a) d

-- a call with a buffer: what it may answer and leave in the buffer, that buffer afterwards, the line
pub record Filled (call : Answer → List ℕ → Type 0) (d' l : List ℕ) : Type 0 where
  pub answer : Answer
  pub called : call answer d'
  pub line : l ≡ answer_line answer (held_by answer d')

-- "0 check": the file s, the buffer before and after, the line
abbrev pub Checked : List ℕ → List ℕ → List ℕ → List ℕ → Type 0
Checked s d d' l = Filled (Checks s d) d' l

-- "3 write": the run s, the buffer before and after, the line
abbrev pub Written : List ℕ → List ℕ → List ℕ → List ℕ → Type 0
Written s d d' l = Filled (Writes s d) d' l

-- "1 read"
pub record Measured (s l : List ℕ) : Type 0 where
  pub answer : Answer
  pub reads : HouseReads s answer
  pub line : l ≡ answer_line answer []

-- "6 read with its count": "the number of items, 4 bytes big-endian, on every answer"
pub record Tallied (s l : List ℕ) : Type 0 where
  pub answer : Answer
  pub reads : HouseReads s answer
  pub count : ℕ
  pub counts : HouseCounts s answer count
  pub line : l ≡ answer_line answer (big_endian 4 count)

-- "2 pick": "the part of an accepted pick", of a refused one the empty part
pub record Picked (s : List ℕ) (row n : ℕ) (l : List ℕ) : Type 0 where
  pub answer : Answer
  pub part : List ℕ
  pub picks : HousePicks s row n answer part
  pub line : l ≡ answer_line answer part

-- "8 tidy": "the image where it was written, `/`, the tidied file where it was written"; the file s, both buffers before and after, the line
pub record Tidied (s d e d' e' l : List ℕ) : Type 0 where
  pub answer : Answer
  pub tidies : Tidies s d e answer d' e'
  -- what check said of the file: with an acceptance the image was written
  pub checked : Answer
  pub checks : Checks s d checked d'
  pub line : l ≡ pair_line answer (held_by checked d') (held_by answer e')

-- s is the feed from the case on, as far as it was read; k is the case's number; l the line
pub data Replies (s : List ℕ) (k : ℕ) (l : List ℕ) : Type 0 where
  -- for a buffer of so much room
  checked : (room size : ℕ) → case_in s ≡ Some (case (Check room) size) → (d d' : List ℕ) → length d ≡ room → Checked (bytes_in size s) d d' l → Replies s k l
  measured : (size : ℕ) → case_in s ≡ Some (case Read size) → Measured (bytes_in size s) l → Replies s k l
  picked : (row n size : ℕ) → case_in s ≡ Some (case (Pick row n) size) → Picked (bytes_in size s) row n l → Replies s k l
  -- for a buffer of so much room
  written : (room size : ℕ) → case_in s ≡ Some (case (Write room) size) → (d d' : List ℕ) → length d ≡ room → Written (bytes_in size s) d d' l → Replies s k l
  tallied : (size : ℕ) → case_in s ≡ Some (case Count size) → Tallied (bytes_in size s) l → Replies s k l
  -- for two buffers of so much room
  tidied : (room space size : ℕ) → case_in s ≡ Some (case (Tidy room space) size) → (d e d' e' : List ℕ) → length d ≡ room → length e ≡ space → Tidied (bytes_in size s) d e d' e' l → Replies s k l
  -- "A feed that breaks off, names another op or a greater length ends with the line `feed broken at case N` (N from 0)"
  broken : case_in s ≡ None → l ≡ broken_line k → Replies s k l

-- n bytes of its image are what check leaves of the file s in a buffer of so much room, whatever stood there
abbrev pub ImageHeld : List ℕ → ℕ → ℕ → Type 0
ImageHeld s room n = (d : List ℕ) (a : Answer) (d' : List ℕ) → length d ≡ room → Checks s d a d' → n ≡ held_length a

-- room for the line of an answer with the bytes of a case, and with two parts as long as buffers may be
abbrev pub line_room : ℕ
line_room = 2097218

abbrev pub pair_room : ℕ
pair_room = 4194369
