-- What is told of the image that a run begins with. Assumes nothing.
use Rattle.std.specs.Prelude.{◌≡◌, ◌≢◌, List, ◌++◌, ℕ, ◌≤◌, length, Option, None, Some, Result, Ok, Err}
use Rattle.answer.specs.declared.Answer.{Answer}
use Rattle.answer.specs.Table.{accepted, limit}
use Rattle.list.specs.Listing.{Listing}
use Rattle.image.specs.Place.{Among, Front}
use Rattle.image_reading.specs.Reads.{stored, HouseAccepts, HouseReads, HouseCounts}
use Rattle.image_reading.specs.declared.front.Head.{Head}
use Rattle.image_reading.specs.declared.front.Image.{Image}
use Rattle.image_reading.specs.declared.front.Refusal.{Refusal}

-- what is told of the image that a run begins with: the answer, the kind byte of its list and where its items begin, 0 and 0 where none begins
-- there; and how many items were taken
pub record Reading : Type 0 where
  pub answer : Answer
  pub kind : ℕ
  pub from : ℕ
  pub count : ℕ

-- by what is handed back: of an image, that it is accepted, so long; of a refusal, its answer
abbrev pub told : Result Image Refusal → Reading
told (Ok i) = record { answer = accepted i.length; kind = i.kind; from = i.from; count = i.count }
told (Err r) = record { answer = r.answer; kind = 0; from = 0; count = r.count }

-- the answer alone
abbrev pub answer_of : Result Image Refusal → Answer
answer_of r = (told r).answer

-- of a header, before an item is taken: the answer so far is its length
abbrev pub told_of_head : Result Head Answer → Reading
told_of_head (Ok h) = record { answer = accepted h.from; kind = h.kind; from = h.from; count = 0 }
told_of_head (Err a) = record { answer = a; kind = 0; from = 0; count = 0 }

-- the kind byte and the place of the items that a header tells, 0 and 0 where there is none
abbrev pub kind_in : Option Head → ℕ
kind_in None = 0
kind_in (Some h) = h.kind

abbrev pub from_in : Option Head → ℕ
from_in None = 0
from_in (Some h) = h.from

-- the run begins as an image of a list of this kind byte does, whose items begin at a place; or as none, which is 0 and 0
pub data Headed (run : List ℕ) (kind from : ℕ) : Type 0 where
  bare : ((l : Listing) → Among l stored → (h s : List ℕ) → Front l h → run ≡ h ++ s → ⊥) → kind ≡ 0 → from ≡ 0 → Headed run kind from
  leads : (l : Listing) → Among l stored → (h s : List ℕ) → Front l h → run ≡ h ++ s → kind ≡ l.byte → from ≡ length h → Headed run kind from

-- up to the items: the run is too long or begins as no image does; or as one of the list of this kind byte, whose items begin after its header: the
-- answer so far is the header's length, and no item is counted
pub data Fronts (run : List ℕ) (r : Reading) : Type 0 where
  nothing : (length run ≤ limit → (l : Listing) → Among l stored → (h s : List ℕ) → Front l h → run ≡ h ++ s → ⊥)
      → HouseReads run r.answer → r.answer.code ≢ 0 → r.kind ≡ 0 → r.from ≡ 0 → HouseCounts run r.answer r.count → Fronts run r
  headed : length run ≤ limit → (l : Listing) → Among l stored → (h s : List ℕ) → Front l h → run ≡ h ++ s → r.kind ≡ l.byte → r.from ≡ length h
      → r.answer ≡ accepted (length h) → r.count ≡ 0 → Fronts run r

-- the reader's answer and its count; of an image that it accepts, the kind byte of its list and where its items begin; of a refusal 0 and 0
pub data Begun (run : List ℕ) (r : Reading) : Type 0 where
  refuses : HouseReads run r.answer → r.answer.code ≢ 0 → r.kind ≡ 0 → r.from ≡ 0 → HouseCounts run r.answer r.count → Begun run r
  accepts : length run ≤ limit → (n : ℕ) (w : HouseAccepts run n) → r.answer ≡ accepted n → r.kind ≡ w.list.byte → r.from ≡ length w.head
      → HouseCounts run r.answer r.count → Begun run r
