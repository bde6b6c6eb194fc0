-- A mirror: a leaf's element as the tables and the run say it, and what the pass over an image puts. Assumes nothing.
use Rattle.std.specs.Prelude.{◌≡◌, cond, List, [], ◌++◌, ℕ, ◌+◌, ◌≤◌, eqb, length, drop}
use Rattle.std.proofs.Math.Seq.{slice}
use Rattle.answer.specs.Table.{limit}
use Rattle.text.specs.Bytes.{ascii}
use Rattle.text.specs.Puts.{Puts}
use Rattle.list.specs.Listing.{Leaf, leaf}
use Rattle.list.specs.WellFormed.{LeafOk}
use Rattle.list.specs.tables.Columns.{KIND, MOST, AMT}
use Rattle.list.specs.tables.Table.{cell, kind_of, words_in, list_of}
use Rattle.list.specs.tables.Sound.{Sound}
use Rattle.value.specs.Value.{Value, text, place, truth, natural, amount, day, moment, IsValue, bytes}
use Rattle.value.specs.script.Script.{script_of}
use Rattle.xml.specs.House.{render}
use Rattle.image.specs.Kinds.{values}
use Rattle.image.specs.Place.{Holds}
use Rattle.file_letter.specs.Letter.{text_in, letter_of}
use Rattle.file_write.specs.mirror.Tags.{longest_pool, start_in, shut_in, coin_in}

-- the attribute that a value has
abbrev pub coin_text : Value → List ℕ
coin_text (text cs) = []
coin_text (place n) = []
coin_text (truth b) = []
coin_text (natural n) = []
coin_text (amount w k c) = coin_in w
coin_text (day y m d) = []
coin_text (moment y mo d h mi s u z) = []

-- the attribute of a leaf of row x, by its kind: an amount begins with its currency
abbrev pub coin_at : List ℕ → List ℕ → ℕ → ℕ → List ℕ
coin_at t run x i = cond (eqb (cell t x KIND) AMT) (coin_in (slice i (i + 3) run)) []

-- more than a leaf's element has: two names of the pool, and a text of which each byte is written as five
abbrev pub longest_leaf : ℕ
longest_leaf = 1000000

module _ (t pool run : List ℕ) where
  -- the value v of a leaf of row x stands in the run from i on
  pub record ValueAt (x i : ℕ) (f : Leaf) (v : Value) : Type 0 where
    pub kind : kind_of (cell t x KIND) (cell t x MOST) (words_in t pool x) ≡ leaf f
    pub ok : LeafOk f
    pub is : IsValue f v
    pub behind : List ℕ
    pub holds : drop i run ≡ bytes v ++ behind

  -- its element
  abbrev pub leaf_in : ℕ → Leaf → Value → List ℕ
  leaf_in x f v = start_in t pool x ++ (coin_text v ++ (ascii ">" ++ (render (text_in (script_of f v)) ++ shut_in t pool x)))

  -- what is put for a leaf
  pub record LeafPut (x i : ℕ) (d : List ℕ) (at r : ℕ) (d' : List ℕ) : Type 0 where
    pub most : r ≤ at + longest_leaf
    pub value : (f : Leaf) (v : Value) → ValueAt x i f v → Puts d at (leaf_in x f v) r d'

  -- what the pass asks: a well-formed list, a body at `from` of a run within the limit, and sums that do not overflow
  pub record Held (from : ℕ) : Type 0 where
    pub sound : Sound t pool
    pub small : length pool ≤ longest_pool
    pub within : length run ≤ limit
    pub size : ℕ
    pub holds : Holds values (list_of t pool) (drop from run) size

  -- the file of whatever content is held there
  abbrev pub Emits : ℕ → List ℕ → ℕ → List ℕ → Type 0
  Emits from d r d' = (n : ℕ) (w : Holds values (list_of t pool) (drop from run) n) → Puts d 0 (letter_of (list_of t pool) w.content) r d'
