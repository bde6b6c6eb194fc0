-- What the picker answers and hands back: the n-th leaf of a row. Assumes nothing.
use Rattle.std.specs.Prelude.{◌≡◌, ◌⊎◌, ◌≢◌, true, List, [], ◌∷◌, ◌++◌, map, ℕ, ◌+◌, ◌≤◌, length, drop}
use Rattle.std.proofs.Math.Option.{some}
use Rattle.std.specs.Borrow.{Bor}
use Rattle.answer.specs.declared.Answer.{Answer}
use Rattle.answer.specs.Table.{limit, picked, no_such_leaf}
use Rattle.list.specs.Words.{times}
use Rattle.list.specs.Listing.{Leaf, leaf, Listing, row_at, is_group}
use Rattle.list.specs.Content.{Content, items}
use Rattle.image.specs.Image.{Values, Item, items_bytes}
use Rattle.image.specs.Place.{Accepts, Reads}

-- "that part of the lent image itself": s lies p bytes after the start of the run, in the same memory (a pointer is a block and an offset)
abbrev pub Lies : Bor (List ℕ) → ℕ → Bor (List ℕ) → Type 0
Lies run p s = (s.ref_ptr.0 ≡ run.ref_ptr.0) × (s.ref_ptr.1 ≡ run.ref_ptr.1 + p)

module _ (vs : Values) where
  module _ (l : Listing) where
    -- "the n-th (from 0) leaf of a given row", the part of the image that holds its value, "the value bytes without row byte and length", and
    -- where that part begins, when the items begin at `from`
    pub record Picked (from : ℕ) (c : Content vs.Value) (r n place : ℕ) (part : List ℕ) : Type 0 where
      pub type : Leaf
      pub kind : (row_at l r).kind ≡ leaf type
      pub before : List (Item vs)
      pub value : vs.Value
      pub after : List (Item vs)
      pub at : items c ≡ before ++ ((r, some value) ∷ after)
      pub nth : times r (map (λ (i : Item vs). i.0) before) ≡ n
      pub starts : place ≡ from + length (items_bytes vs l before) + 1 + vs.head type
      pub holds : part ≡ drop (vs.head type) (vs.bytes type value)

    -- "if the row is no leaf or has no such item"
    abbrev pub Missing : Content vs.Value → ℕ → ℕ → Type 0
    Missing c r n = (is_group (row_at l r).kind ≡ true) ⊎ (times r (map (λ (i : Item vs). i.0) (items c)) ≤ n)

    -- what is answered and handed back for a content whose items begin at `from`
    pub data Selects (from : ℕ) (c : Content vs.Value) (r n : ℕ) (a : Answer) (part : List ℕ) : Type 0 where
      none_such : Missing c r n → a ≡ no_such_leaf → part ≡ [] → Selects from c r n a part
      one_such : (place : ℕ) → Picked from c r n place part → a ≡ picked r place → Selects from c r n a part

  module _ (ls : List Listing) where
    -- "A second call picks a value": the answer and the part
    pub data Picks (run : List ℕ) (r n : ℕ) (a : Answer) (part : List ℕ) : Type 0 where
      -- "after 1 and 15 to 17"; "every refusal hands back an empty part"
      refused : Reads vs ls run a → a.code ≢ 0 → part ≡ [] → Picks run r n a part
      -- "code 18 .. if the row is no leaf or has no such item, row 0 and place 0"
      missing : length run ≤ limit → (k : ℕ) (w : Accepts vs ls run k) → Missing w.list w.holds.content r n → a ≡ no_such_leaf → part ≡ [] → Picks run r n a part
      -- "Acceptance is code 0, the asked row, and the place where the part begins"
      found : length run ≤ limit → (k : ℕ) (w : Accepts vs ls run k) → (place : ℕ) → Picked w.list (length w.head) w.holds.content r n place part → a ≡ picked r place → Picks run r n a part

  -- the rows of items, as the laws name them
  abbrev pub rows_of : List (Item vs) → List ℕ
  rows_of is = map (λ (i : Item vs). i.0) is
