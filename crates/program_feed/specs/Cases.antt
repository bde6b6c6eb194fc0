-- A case's head: "one byte op (0 check, 1 read, 2 pick, 3 write, 6 count, 8 tidy), then three 32-bit little-endian numbers". Assumes nothing.
use Rattle.std.specs.Prelude.{Bool, cond, List, ℕ, ◌+◌, Option, Some, None, is_some, min, ltb, eqb, length, get_or, take, drop}
use Rattle.text.specs.Little.{little}
use Rattle.answer.specs.Table.{limit}
use Rattle.program_feed.specs.declared.case.Ask.{Ask}
use Rattle.program_feed.specs.declared.case.Ask.TheVariants.{Check, Read, Pick, Write, Count, Tidy}
use Rattle.program_feed.specs.declared.case.Case.{Case}

-- the one of 32 bits at a place
abbrev pub number_at : ℕ → List ℕ → ℕ
number_at at s = little (take 4 (drop at s))

-- how many bytes a head has, and where its second and third number stand
abbrev pub head_size : ℕ
head_size = 13

abbrev pub second_at : ℕ
second_at = 5

abbrev pub third_at : ℕ
third_at = 9

-- "that many bytes (at most 1,048,577 ..)"
abbrev pub longest : ℕ
longest = limit + 1

-- what is asked, of so many bytes
abbrev pub case : Ask → ℕ → Case
case a n = record { ask = a; size = n }

-- by the op, room (of a pick: the row), n (of a pick; of a tidying the room for the file) and the length: "room at most 1,048,576 is honoured
-- exactly, more counts as 1,048,576"; "names another op": none
unfoldable pub op_by : ℕ → ℕ → ℕ → ℕ → Option Case
op_by op room n size =
    cond (eqb op 0) (Some (case (Check (min room limit)) size))
    (cond (eqb op 1) (Some (case Read size))
    (cond (eqb op 2) (Some (case (Pick room n) size))
    (cond (eqb op 3) (Some (case (Write (min room limit)) size))
    (cond (eqb op 6) (Some (case Count size))
    (cond (eqb op 8) (Some (case (Tidy (min room limit) (min n limit)) size))
    None)))))

-- "or a greater length": none
unfoldable pub case_by : ℕ → ℕ → ℕ → ℕ → Option Case
case_by op room n size = cond (ltb longest size) None (op_by op room n size)

-- "A feed that breaks off": fewer bytes are no head
unfoldable pub case_of : List ℕ → Option Case
case_of s = cond (ltb (length s) head_size) None (case_by (get_or s 0 0) (number_at 1 s) (number_at second_at s) (number_at third_at s))

-- how many bytes a case has after its head
abbrev pub size_of : Option Case → ℕ
size_of (Some c) = c.size
size_of None = 0

-- the case that a feed begins with: its head, "then that many bytes"; none where the feed "breaks off" before they end
unfoldable pub case_in : List ℕ → Option Case
case_in s = cond (ltb (length s) (head_size + size_of (case_of s))) None (case_of s)

-- its bytes after the head
abbrev pub bytes_in : ℕ → List ℕ → List ℕ
bytes_in size s = take size (drop head_size s)

-- of a broken feed "nothing after it is read"
abbrev pub goes_on : Option Case → Bool
goes_on c = is_some c
