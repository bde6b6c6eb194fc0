-- What the reader and the picker answer over the lists that stored images keep to. Assumes nothing.
use Rattle.std.specs.Prelude.{◌≡◌, List, ℕ}
use Rattle.std.specs.Borrow.{Bor}
use Rattle.answer.specs.declared.Answer.{Answer}
pub use Rattle.list_house.specs.Lists.{stored}
use Rattle.image.specs.Kinds.{values}
use Rattle.image.specs.Place.{Accepts, Reads}
use Rattle.image.specs.Count.{CountsItems}
use Rattle.image.specs.Pick.{Lies, Picks}

-- the run begins with an image, n bytes long
abbrev pub HouseAccepts : List ℕ → ℕ → Type 0
HouseAccepts run n = Accepts values stored run n

-- what reading answers
abbrev pub HouseReads : List ℕ → Answer → Type 0
HouseReads run a = Reads values stored run a

-- how many items it counts, where a is answered
abbrev pub HouseCounts : List ℕ → Answer → ℕ → Type 0
HouseCounts run a n = CountsItems values stored run a n

-- what picking answers and hands back: both together; of the call that gives the answer, where there is a part to it; of the call that hands back the
-- part, where there is an answer to it
abbrev pub HousePicks : List ℕ → ℕ → ℕ → Answer → List ℕ → Type 0
HousePicks run r n a part = Picks values stored run r n a part

abbrev pub HouseAnswers : List ℕ → ℕ → ℕ → Answer → Type 0
HouseAnswers run r n a = (part : List ℕ) × HousePicks run r n a part

abbrev pub HouseHands : List ℕ → ℕ → ℕ → List ℕ → Type 0
HouseHands run r n part = (a : Answer) × HousePicks run r n a part

-- "It hands back that part of the lent image itself": these bytes, and they lie in the run where the answer says
pub record HousePicked (run : Bor (List ℕ)) (r n : ℕ) (s : Bor (List ℕ)) : Type 0 where
  pub hands : HouseHands run.now r n s.now
  pub lies : (a : Answer) → HouseAnswers run.now r n a → a.code ≡ 0 → Lies run a.place s
