-- What writing a statement file answers, and what it leaves in the buffer. Assumes nothing.
use Rattle.std.specs.Prelude.{◌≡◌, ◌≢◌, List, ◌++◌, ℕ, ◌≤◌, ◌<◌, length, drop}
use Rattle.answer.specs.declared.Answer.{Answer}
use Rattle.answer.specs.Table.{limit, accepted, no_room, too_large, too_fine, retired}
use Rattle.list.specs.Listing.{Listing}
use Rattle.list.specs.Content.{items}
use Rattle.list_house.specs.Lists.{asked_of}
use Rattle.image.specs.Image.{Item, image}
use Rattle.image.specs.Kinds.{values}
use Rattle.image_reading.specs.Reads.{HouseAccepts, HouseReads}
use Rattle.file_letter.specs.Letter.{letter_of}
use Rattle.file_letter.specs.Stale.{NoneOf, FirstAt, Withdrawn, Finer}

-- the list that files of the image's kind are asked to keep to
abbrev pub asked_in : {run : List ℕ} {n : ℕ} → HouseAccepts run n → Listing
asked_in w = asked_of w.list.byte

-- "From an image at the start of a run, write a message": the file of that image's content, by the list of files
abbrev pub letter_in : {run : List ℕ} {n : ℕ} → HouseAccepts run n → List ℕ
letter_in w = letter_of (asked_in w) w.holds.content

-- the image's items
abbrev pub items_in : {run : List ℕ} {n : ℕ} → HouseAccepts run n → List (Item values)
items_in w = items w.holds.content

-- "The written file .. gives the same image": section 5, "§1's same image reads: the version 2 image of that content"
abbrev pub image_in : {run : List ℕ} {n : ℕ} → HouseAccepts run n → List ℕ
image_in w = image values w.list w.holds.content

-- a file s that is to be written: the buffer d before, the answer a and the buffer d' after; "place is the bytes needed, row 0"
pub data Delivers (s d : List ℕ) (a : Answer) (d' : List ℕ) : Type 0 where
  -- "19 where the file would be over 1,048,576 bytes"
  large : limit < length s → a ≡ too_large (length s) → d' ≡ d → Delivers s d a d'
  -- "then 14 where the buffer is too short"
  short : length s ≤ limit → length d < length s → a ≡ no_room (length s) → d' ≡ d → Delivers s d a d'
  -- "Success is code 0, row 0, the file's length; bytes beyond it stay"
  delivered : length s ≤ limit → length s ≤ length d → a ≡ accepted (length s) → d' ≡ s ++ drop (length s) d → Delivers s d a d'

-- a run: the buffer d before, the answer a and the buffer d' after
pub data Writes (run d : List ℕ) (a : Answer) (d' : List ℕ) : Type 0 where
  -- "Refusals: 1 and 15 to 17 as in the reader"
  unread : HouseReads run a → a.code ≢ 0 → d' ≡ d → Writes run d a d'
  -- section 9: "§1 won't write such a statement", with "26, before 20, row 40, place of the first such item"
  withdrawn : length run ≤ limit → (n : ℕ) (w : HouseAccepts run n) (r p : ℕ) → FirstAt w.list (Withdrawn (asked_in w)) (length w.head) (items_in w) r p → a ≡ retired r p → d' ≡ d → Writes run d a d'
  -- section 3: "Stored images with finer fractions are still read; §1 refuses to write them", with "20, before 19, row of the date-time, place of its item"
  finer : length run ≤ limit → (n : ℕ) (w : HouseAccepts run n) → NoneOf (Withdrawn (asked_in w)) (items_in w) → (r p : ℕ) → FirstAt w.list Finer (length w.head) (items_in w) r p → a ≡ too_fine r p → d' ≡ d
      → Writes run d a d'
  -- "then 19 .., then 14 .."
  begun : length run ≤ limit → (n : ℕ) (w : HouseAccepts run n) → NoneOf (Withdrawn (asked_in w)) (items_in w) → NoneOf Finer (items_in w) → Delivers (letter_in w) d a d' → Writes run d a d'
