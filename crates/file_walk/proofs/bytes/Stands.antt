-- Where the walk over bytes stands, and what one step there does, said by the walk over events. Assumes nothing.
use Rattle.std.specs.Prelude.{Ok, Err}
use mathlib.Core.Path.{◌≡◌}
use mathlib.Core.Bool.{true}
use mathlib.Core.List.{List, [], ◌∷◌, ◌++◌}
use mathlib.Core.Option.{Option}
use Prim.Native.Nat.{ℕ, zero, suc, ◌≤◌, ◌<◌}
use lib.ListN.{length}
use lib.Seq.{slice}
use Rattle.answer.specs.declared.Answer.{Answer}
use Rattle.text_characters.specs.Pieces.{Spells}
use Rattle.list.specs.Listing.{amt, leaf, Listing, Child}
use Rattle.list.specs.tables.Table.{list_of}
use Rattle.list.specs.tables.Sound.{Sound}
use Rattle.xml.specs.House.{Tree}
use Rattle.xml.specs.Message.{Attrs, message_of}
use Rattle.xml_tags.specs.Story.{Event, char, enter, leave, events, Tells}
use Rattle.file_walk.specs.declared.level.Level.{Level}
use Rattle.file_walk.specs.declared.step.Here.{Here}
use Rattle.file_walk.specs.declared.step.Refusal.{Refusal}
use Rattle.file_walk.specs.declared.step.Turn.TheVariants.{Opened, Closed, Ended}
use Rattle.file_walk.specs.mirror.Stride.{Stepped}
use Rattle.file_walk.specs.mirror.Begin.{Rooted}
use Rattle.file_walk.specs.First.{Found, or_else, currency_given, attrs_ok, kind_of}
use Rattle.file_walk.specs.mirror.Machine.{Speller, judge_of, before, at, advance, run, opens, closes, emits}
use Rattle.file_walk.specs.mirror.Tables.{levels}
use Rattle.value.specs.mirror.Judges.{is_currency}
use Rattle.file_walk.proofs.bytes.Sound.{Placed}
use Rattle.file_walk.proofs.bytes.Joint.{judged}

-- these events close n open elements, and nothing is open after them
abbrev pub Closing : ℕ → List Event → Type 0
Closing n [] = n ≡ 0
Closing n (char o c ∷ es) = Closing n es
Closing n (enter o m ats ∷ es) = Closing (suc n) es
Closing zero (leave ∷ es) = ⊥
Closing (suc n) (leave ∷ es) = Closing n es

module _ (T : Speller) (t pool s : List ℕ) (sd : Sound t pool) where
  abbrev pub list : Listing
  list = list_of t pool

  -- row r stands within these levels, the innermost first: each is of the parent's row; the outermost is the root
  abbrev pub Nested : ℕ → List Level → Type 0
  Nested r [] = r ≡ 1
  Nested r (lv ∷ below) = Child list lv.row r × Placed t pool sd lv × Nested lv.row below

  -- the walk stands here: the levels around, the attributes of the innermost element, and what is still to come
  pub record Stands (st : List Level) (here : Here) (below : List Level) (ats : Attrs) (es : List Event) : Type 0 where
    pub room : length st ≡ 16
    pub around : levels st here.depth ≡ below
    pub placed : Placed t pool sd here.level
    pub nested : Nested here.level.row below
    pub within : here.at ≤ length s
    pub tells : Tells s here.at es
    pub closing : Closing (suc here.depth) es
    pub attrs : attrs_ok (judge_of T) (kind_of list here.level.row) ats ≡ true
    -- an amount's currency is three capitals, and stands where it is said to
    pub coin : kind_of list here.level.row ≡ leaf amt → currency_given ats ≡ slice here.value here.quote s
    pub capitals : kind_of list here.level.row ≡ leaf amt → is_currency (slice here.value here.quote s) ≡ true

  -- what is found and what is handed out from here on
  abbrev pub finds : Here → List Level → Attrs → List Event → Found
  finds here below ats es = run T list (at here.level below ats []) es

  abbrev pub hands : Here → List Level → Attrs → List Event → List (ℕ × Option T.A)
  hands here below ats es = emits T list (at here.level below ats []) es

  module _ (here : Here) (below : List Level) (ats : Attrs) (es : List Event) (st : List Level) where
    -- an element that goes on, in which the walk stands then
    pub record Enters (to : Here) : Type 0 where
      pub attrs : Attrs
      pub rest : List Event
      pub stands : Stands st to (advance list here.level to.level.row ∷ below) attrs rest
      pub found : finds here below ats es ≡ finds to (advance list here.level to.level.row ∷ below) attrs rest
      pub handed : hands here below ats es
          ≡ opens T list (kind_of list to.level.row) to.level.row
          ++ hands to (advance list here.level to.level.row ∷ below) attrs rest
      pub on : here.at < to.at

    -- the end of an element within another, in which the walk stands then: of a leaf its characters are still to be judged
    pub record Leaves (to : Here) (less : ℕ) : Type 0 where
      pub deep : 0 < here.depth
      pub text : here.at ≤ less
      pub inside : less ≤ length s
      pub chars : List ℕ
      pub spelt : Spells (slice here.at less s) chars
      pub outer : List Level
      pub is : below ≡ to.level ∷ outer
      pub rest : List Event
      pub stands : Stands st to outer [] rest
      pub found : finds here below ats es
          ≡ or_else (judged (judge_of T) (kind_of list here.level.row) here.level.row here.level.place ats chars) (finds to outer [] rest)
      pub handed : hands here below ats es
          ≡ closes T list (kind_of list here.level.row) here.level.row ats chars ++ hands to outer [] rest
      pub on : here.at < to.at

    -- the end of the root
    pub record Ends : Type 0 where
      pub root : here.depth ≡ 0
      pub row : here.level.row ≡ 1
      pub found : finds here below ats es ≡ Ok tt
      pub handed : hands here below ats es ≡ []

    -- one step from here did one of these, the first being a violation that is the first from here on; st is the stack after it
    pub data Turned (step : Stepped) : Type 0 where
      refused : (a : Answer) → step ≡ Err a → finds here below ats es ≡ Err a → Turned step
      opened : (to : Here) → step ≡ Ok (Opened to) → Enters to → Turned step
      closed : (to : Here) (less : ℕ) → step ≡ Ok (Closed to less) → Leaves to less → Turned step
      whole : (less : ℕ) → step ≡ Ok (Ended less) → Ends → Turned step

  -- ---- the beginning: the root's tag in the text of a tree

  module _ (m : Tree) where
    pub record Starts (here : Here) : Type 0 where
      pub rest : List Event
      pub stands : (st : List Level) → length st ≡ 16 → Stands st here [] [] rest
      pub found : run T list before (events (message_of m) []) ≡ finds here [] [] rest
      pub handed : emits T list before (events (message_of m) []) ≡ (1, Option.none) ∷ hands here [] [] rest

    pub data Began (tried : Rooted) : Type 0 where
      denied : (r : Refusal) → tried ≡ Err r → run T list before (events (message_of m) []) ≡ Err r.answer → Began tried
      starts : (here : Here) → tried ≡ Ok here → Starts here → Began tried
