-- One pass over a message: the first violation, or the image's length and its bytes in a lent buffer. Assumes nothing.
use Rattle.std.specs.Prelude.{◌≡◌, true, false, List, [], ◌∷◌, ℕ, suc, ◌+◌, ◌≤◌, ◌<◌, length, Ok, Err, Result, Option as Told, None, IfSome, IsSomeAnd}
use Rattle.std.proofs.Math.Option.{Option, none, some}
use Rattle.answer.specs.declared.Answer.{Answer}
use Rattle.answer.specs.Table.{limit}
use Rattle.text.specs.Pasting.{pasted}
use Rattle.text.specs.Puts.{Puts}
use Rattle.text_characters.specs.Pieces.{Spells}
use Rattle.list.specs.Listing.{Leaf, amt, Kind, leaf, Listing, is_group}
use Rattle.list.specs.WellFormed.{LeafOk}
use Rattle.list.specs.Content.{Content}
use Rattle.list.specs.tables.Columns.{KIND, MOST}
use Rattle.list.specs.tables.Table.{cell, place_in, kind_of, words_in}
use Rattle.list.specs.tables.Sound.{Sound}
use Rattle.xml.specs.House.{HouseXml}
use Rattle.xml.specs.Message.{Inside, message_of}
use Rattle.value.specs.types.Code.{Ccy}
use Rattle.file_walk.specs.First.{First}
use Rattle.file_walk.specs.Denotes.{Has}
use Rattle.file.specs.Instance.{Kinds}
use Rattle.file.specs.File.{image_of}
use Rattle.value.specs.Places.{longest_value}

-- the place of the word raw in its list, as one byte: n is 1, or none where it has none
pub record Worded (ws : List (List ℕ)) (raw d : List ℕ) (at : ℕ) (n : Told ℕ) (d' : List ℕ) : Type 0 where
  pub most : IfSome n (λ m. m ≤ 1)
  pub long : length d' ≡ length d
  pub none : place_in ws raw ≡ 0 → (n ≡ None) × Puts d at [] at d'
  pub some : (p : ℕ) → place_in ws raw ≡ suc p → p < 255 → IsSomeAnd n (λ m. Puts d at (suc p ∷ []) (at + m) d')

-- the same where nothing is written
abbrev pub WordSize : List (List ℕ) → List ℕ → Told ℕ → Type 0
WordSize ws raw n = (at : ℕ) → Worded ws raw [] at n []

module _ (t pool : List ℕ) where
  abbrev pub kind_in : ℕ → Kind
  kind_in r = kind_of (cell t r KIND) (cell t r MOST) (words_in t pool r)

  -- an element of row r is a leaf f with the raw text raw, which spells the characters cs; cur is the raw text of an amount's currency, w its
  -- characters
  pub record Shut (r : ℕ) (cur raw : List ℕ) (f : Leaf) (w cs : List ℕ) : Type 0 where
    pub kind : kind_in r ≡ leaf f
    pub ok : LeafOk f
    pub chars : Spells raw cs
    pub money : f ≡ amt → (w ≡ cur) × Ccy cur

module _ (k : Kinds) where
  -- what the characters cs spell, beside those of a currency: a value; or that they spell none
  abbrev pub Yields : Leaf → List ℕ → List ℕ → Option k.types.A → Type 0
  Yields f w cs none = (v : k.types.A) → k.types.Spelt f w cs v → ⊥
  Yields f w cs (some v) = k.types.Spelt f w cs v

  -- the n bytes of the value that is spelt; none, and nothing put, where there is none
  abbrev pub ValuePut : Leaf → Option k.types.A → List ℕ → ℕ → Told ℕ → List ℕ → Type 0
  ValuePut f none d at n d' = (n ≡ None) × Puts d at [] at d'
  ValuePut f (some v) d at n d' = IsSomeAnd n (λ m. Puts d at (k.bytes f v) (at + m) d')

  module _ (t pool : List ℕ) where
    -- a leaf's value: n bytes, none where its text spells none
    pub record Valued (row : ℕ) (cur raw d : List ℕ) (at : ℕ) (n : Told ℕ) (d' : List ℕ) : Type 0 where
      pub most : IfSome n (λ m. m ≤ longest_value)
      pub long : length d' ≡ length d
      pub value : (f : Leaf) (w cs : List ℕ) → Shut t pool row cur raw f w cs → (u : Option k.types.A) → Yields f w cs u → ValuePut f u d at n d'

    -- the same where nothing is written, whatever the currency
    abbrev pub Sizes : ℕ → List ℕ → Told ℕ → Type 0
    Sizes row raw n = (cur : List ℕ) (at : ℕ) → Valued row cur raw [] at n []

    -- "An item is the row byte and, for a leaf, its value": up to r, which is none where there is no value
    abbrev pub ItemPut : ℕ → Leaf → Option k.types.A → List ℕ → ℕ → Told ℕ → List ℕ → Type 0
    ItemPut row f none d at r d' = r ≡ None
    ItemPut row f (some v) d at r d' = IsSomeAnd r (λ n. Puts d at (row ∷ k.bytes f v) n d')

    -- at the end of an element: of a leaf its item, of a group nothing
    pub record Shuts (row : ℕ) (cur raw d : List ℕ) (at : ℕ) (r : Told ℕ) (d' : List ℕ) : Type 0 where
      pub most : IfSome r (λ n. n ≤ at + (1 + longest_value))
      pub long : length d' ≡ length d
      pub group : is_group (kind_in t pool row) ≡ true → IsSomeAnd r (λ n. Puts d at [] n d')
      pub leaf : (f : Leaf) (w cs : List ℕ) → Shut t pool row cur raw f w cs → (u : Option k.types.A) → Yields f w cs u → ItemPut row f u d at r d'

  -- at the beginning of an element: of a group its item, of a leaf nothing
  pub record Opens (t : List ℕ) (row : ℕ) (d : List ℕ) (at r : ℕ) (d' : List ℕ) : Type 0 where
    pub most : r ≤ at + 1
    pub group : (pool : List ℕ) → is_group (kind_in t pool row) ≡ true → Puts d at (row ∷ []) r d'
    pub leaf : (pool : List ℕ) → is_group (kind_in t pool row) ≡ false → Puts d at [] r d'

-- what a pass asks: a well-formed list, and a file that codes 1 and 3 do not refuse
pub record Ready (t pool s : List ℕ) : Type 0 where
  pub sound : Sound t pool
  pub xml : HouseXml s
  pub small : length s ≤ limit

module _ (k : Kinds) (l : Listing) where
  -- the first violation of a message; or that there is none, its image's length, and its image where that fits in
  abbrev pub Passes : Inside → List ℕ → Result ℕ Answer → List ℕ → Type 0
  Passes m d (Err a) d' = First k.types l m (Err a)
  Passes m d (Ok n) d' = First k.types l m (Ok tt)
      × ((c : Content k.types.A) × Has k.types l m c × (n ≡ length (image_of k l c)) × (length (image_of k l c) ≤ length d → d' ≡ pasted d 0 (image_of k l c)))

  -- the same of a text that is house XML
  abbrev pub Passed : List ℕ → List ℕ → Result ℕ Answer → List ℕ → Type 0
  Passed s d r d' = (x : HouseXml s) → Passes (message_of x.tree) d r d'
