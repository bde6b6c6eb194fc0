-- What a reader that holds a run and its place answers: as the plain calls do on the rest of the run. Assumes nothing.
use Rattle.std.specs.Prelude.{◌≡◌, ◌≢◌, List, [], ◌∷◌, ℕ, ◌+◌, drop}
use Rattle.std.specs.Borrow.{Bor}
use Rattle.answer.specs.declared.Answer.{Answer}
use Rattle.image.specs.Pick.{Lies}
use Rattle.image_reading.specs.Reads.{HouseReads, HouseAnswers, HouseHands}
use Rattle.image_hold.specs.declared.held.Held.{Held}
use Rattle.image_hold.specs.declared.held.Step.{Step}

-- "the rest of the run", "places counted from the start of that rest". From the run's end on it is empty, and so "a held place past the run's end
-- answers 15"
abbrev pub left : Held → List ℕ
left h = drop h.at h.run.now

-- "moves on by the image's length when accepting an image, and stays when .. refusing": by the answer, from one place to another
pub record Moves (a : Answer) (from to : ℕ) : Type 0 where
  pub on : a.code ≡ 0 → to ≡ from + a.place
  pub stays : a.code ≢ 0 → to ≡ from

-- reading at a place of a run
pub record Steps (run : List ℕ) (at : ℕ) (r : Step) : Type 0 where
  pub reads : HouseReads (drop at run) r.answer
  pub moves : Moves r.answer at r.at

-- the part of the n-th leaf of row r, at a place of a run: these bytes, and they lie in the run where the answer says, from that place on
pub record HeldPicked (run : Bor (List ℕ)) (at r n : ℕ) (s : Bor (List ℕ)) : Type 0 where
  pub hands : HouseHands (drop at run.now) r n s.now
  pub lies : (a : Answer) → HouseAnswers (drop at run.now) r n a → a.code ≡ 0 → Lies run (at + a.place) s

-- the held reader before and after a call that reads: "it answers as they do on the rest of the run", and moves; its run stays
pub record Next (h : Held) (a : Answer) (h' : Held) : Type 0 where
  pub reads : HouseReads (left h) a
  pub moves : Moves a h.at h'.at
  pub holds : h'.run ≡ h.run

-- calls that read, one after the other, with what each answers
pub data Calls : Held → List Answer → Held → Type 0 where
  rested : {h : Held} → Calls h [] h
  called : {h p q : Held} {a : Answer} {answers : List Answer} → Next h a p → Calls p answers q → Calls h (a ∷ answers) q
