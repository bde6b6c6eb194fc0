-- A mirror: the walk over a message's tags and characters, with a level for each open element. Assumes nothing.
use Rattle.std.specs.Prelude.{◌≡◌, Bool, true, false, cond, ◌&&◌, ◌||◌, not, List, [], ◌∷◌, ◌++◌, ℕ, eqb, ltb, Ok}
use Rattle.std.proofs.Math.Option.{Option}
use Rattle.answer.specs.Table as table
use Rattle.text.specs.Bytes.{ascii, is_blank}
use Rattle.text.specs.Lists.{same}
use Rattle.list.specs.Listing.{Leaf, ref, iban, ccy, bool, num, amt, date, dtm, txt, enum, Kind, group, choice, leaf, Listing, row_at, child, is_group, is_choice, at_most_once, next_due}
use Rattle.list.specs.WellFormed.{LeafOk}
use Rattle.list.specs.tables.Sound.{first_of as mate, second_of as pair}
use Rattle.xml.specs.Message.{Attrs, Inside}
use Rattle.xml_tags.specs.Story.{Event, char as text, enter, leave, events}
use Rattle.file_walk.specs.declared.level.Level.{Level}
use Rattle.file_walk.specs.Types.{Types, Judge}
use Rattle.file_walk.specs.First.{Found, refuse, or_else, first_of, is_empty, currency_given, attrs_ok, kind_of, is_root, leaf_end}

-- values, and a way to compute which of them is spelt
pub record Speller : Type 1 where
  pub A : Type 0
  pub spell : Leaf → List ℕ → List ℕ → Option A

abbrev pub is_none : {A : Type 0} → Option A → Bool
is_none Option.none = true
is_none (Option.some v) = false

-- yes or no, of a type, the characters of a currency, and those of a text
abbrev pub Verdict : Type 0
Verdict = Leaf → List ℕ → List ℕ → Bool

module _ (says : Verdict) where
  -- "One attribute, Ccy, of type CCY"
  abbrev pub one_currency : Attrs → Bool
  one_currency [] = false
  one_currency (a ∷ []) = same (ascii "Ccy") a.0 && says ccy [] a.1
  one_currency (a ∷ b ∷ ats) = false

  -- "exactly the type's"
  abbrev pub leaf_attrs : Leaf → Attrs → Bool
  leaf_attrs amt ats = one_currency ats
  leaf_attrs ref ats = is_empty ats
  leaf_attrs iban ats = is_empty ats
  leaf_attrs ccy ats = is_empty ats
  leaf_attrs bool ats = is_empty ats
  leaf_attrs num ats = is_empty ats
  leaf_attrs date ats = is_empty ats
  leaf_attrs dtm ats = is_empty ats
  leaf_attrs (txt k) ats = is_empty ats
  leaf_attrs (enum ws) ats = is_empty ats

-- the judge that goes by it
abbrev pub judge_by : Verdict → Judge
judge_by says = record { attrs = leaf_attrs says; value = says }

-- there is a value
abbrev pub verdict_of : Speller → Verdict
verdict_of T k w cs = not (is_none (T.spell k w cs))

-- the judge that asks it
abbrev pub judge_of : Speller → Judge
judge_of T = judge_by (verdict_of T)

-- of types
abbrev pub speller_of : (t : Types) → (Leaf → List ℕ → List ℕ → Option t.A) → Speller
speller_of t sp = record { A = t.A; spell = sp }

pub record Computes (t : Types) (sp : Leaf → List ℕ → List ℕ → Option t.A) : Type 0 where
  pub sound : (k : Leaf) (w cs : List ℕ) (v : t.A) → sp k w cs ≡ Option.some v → t.Spelt k w cs v
  pub some : (k : Leaf) (w cs : List ℕ) (v : t.A) → t.Spelt k w cs v → (u : t.A) × (sp k w cs ≡ Option.some u)
  -- of the types that a list may have it is that very value
  pub complete : (k : Leaf) (w cs : List ℕ) (v : t.A) → LeafOk k → t.Spelt k w cs v → sp k w cs ≡ Option.some v

-- the root is to come; the innermost open element, those around it, and of a leaf its attributes and the characters so far; the root is closed
pub data State : Type 0 where
  before : State
  at : Level → List Level → Attrs → List ℕ → State
  after : State

abbrev pub pop : List Level → State
pop [] = after
pop (lv ∷ below) = at lv below [] []

-- the other row, where there is one, is not q
abbrev pub misses : ℕ → ℕ → Bool
misses other q = not (eqb other 0) && not (eqb other q)

module _ (l : Listing) where
  unfoldable pub fresh : ℕ → ℕ → Level
  fresh r o = record { row = r; place = o; last = 0; due = next_due l r 0; odd = false }

  -- a child of row r: when it comes for the first time, its rule's first row must be the child before it, and the rule's second row must be the
  -- child after its first
  unfoldable pub advance : Level → ℕ → Level
  advance lv r = record {
    row = lv.row;
    place = lv.place;
    last = r;
    due = cond (eqb r lv.due) (next_due l lv.row r) lv.due;
    odd = lv.odd || (not (eqb r lv.last) && (misses (mate l.rules r) lv.last || misses (pair l.rules lv.last) r));
  }

  abbrev pub again : Kind → ℕ → ℕ → Bool
  again group last r = at_most_once (row_at l r).count && eqb last r
  again choice last r = not (eqb last 0)
  again (leaf k) last r = false

module _ (T : Speller) (l : Listing) where
  unfoldable pub open_test : Level → ℕ → Attrs → ℕ → Found
  open_test lv r ats o = first_of (
      refuse (eqb r 0) (table.not_a_child lv.row o) ∷
      refuse (not (is_choice (kind_of l lv.row)) && ltb r lv.last) (table.out_of_order r o) ∷
      refuse (again l (kind_of l lv.row) lv.last r) (table.too_many r o) ∷
      refuse (not (attrs_ok (judge_of T) (kind_of l r) ats)) (table.wrong_attributes r o) ∷ [])

  abbrev pub group_test : Level → Found
  group_test lv = first_of (
      refuse (eqb lv.last 0) (table.empty lv.row lv.place) ∷
      refuse (ltb 0 lv.due) (table.absent lv.due lv.place) ∷
      refuse (lv.odd || not (eqb (pair l.rules lv.last) 0)) (table.rule_broken lv.row lv.place) ∷ [])

  abbrev pub close_test : Kind → Level → Attrs → List ℕ → Found
  close_test group lv ats cs = group_test lv
  close_test choice lv ats cs = group_test lv
  close_test (leaf k) lv ats cs = leaf_end (judge_of T) l k lv.row lv.place ats cs

  -- what an event finds, and what it leads to
  abbrev pub test : State → Event → Found
  test before (enter o n ats) = refuse (not (is_root l n ats)) (table.wrong_root o)
  test before (text o x) = Ok tt
  test before leave = Ok tt
  test (at lv below ats cs) (enter o n new) = open_test lv (child l lv.row n) new o
  test (at lv below ats cs) (text o x) = refuse (is_group (kind_of l lv.row) && not (is_blank x)) (table.text_in_group lv.row o)
  test (at lv below ats cs) leave = close_test (kind_of l lv.row) lv ats cs
  test after e = Ok tt

  abbrev pub next : State → Event → State
  next before (enter o n ats) = at (fresh l 1 o) [] [] []
  next before (text o x) = before
  next before leave = before
  next (at lv below ats cs) (enter o n new) = at (fresh l (child l lv.row n) o) (advance l lv (child l lv.row n) ∷ below) new []
  next (at lv below ats cs) (text o x) = at lv below ats (cond (is_group (kind_of l lv.row)) cs (cs ++ (x ∷ [])))
  next (at lv below ats cs) leave = pop below
  next after e = after

  unfoldable pub run : State → List Event → Found
  run s [] = Ok tt
  run s (e ∷ es) = or_else (test s e) (run (next s e) es)

  unfoldable pub walk : Inside → Found
  walk m = run before (events m [])

  -- the items: a group's at its opening tag, a leaf's at its closing tag
  abbrev pub opens : Kind → ℕ → List (ℕ × Option T.A)
  opens group r = (r, Option.none) ∷ []
  opens choice r = (r, Option.none) ∷ []
  opens (leaf k) r = []

  abbrev pub closes : Kind → ℕ → Attrs → List ℕ → List (ℕ × Option T.A)
  closes group r ats cs = []
  closes choice r ats cs = []
  closes (leaf k) r ats cs = (r, T.spell k (currency_given ats) cs) ∷ []

  abbrev pub emit : State → Event → List (ℕ × Option T.A)
  emit before (enter o n ats) = (1, Option.none) ∷ []
  emit before (text o x) = []
  emit before leave = []
  emit (at lv below ats cs) (enter o n new) = opens (kind_of l (child l lv.row n)) (child l lv.row n)
  emit (at lv below ats cs) (text o x) = []
  emit (at lv below ats cs) leave = closes (kind_of l lv.row) lv.row ats cs
  emit after e = []

  unfoldable pub emits : State → List Event → List (ℕ × Option T.A)
  emits s [] = []
  emits s (e ∷ es) = emit s e ++ emits (next s e) es
