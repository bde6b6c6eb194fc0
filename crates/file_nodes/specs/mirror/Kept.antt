-- A mirror: the numbers of a node in a table, eleven a node. Assumes nothing.
use Rattle.std.specs.Prelude.{◌≡◌, cond, List, [], ℕ, ◌+◌, ◌*◌, ◌-◌, ◌/◌, ◌%◌, ◌^◌, ◌≤◌, ◌<◌, leb, length, get_or, take, drop}
use Rattle.std.proofs.Math.Option.{Option, none, some}
use Rattle.text.specs.Bytes.{is_capital}
use Rattle.text.specs.Lists.{Each, All}
use Rattle.list.specs.Listing.{Leaf, ref, iban, ccy, bool, num, amt, date, dtm, txt, enum}
use Rattle.xml.specs.House.{Quote, single_quote, double}
use Rattle.value.specs.Kind.{code}
use Rattle.file_nodes.specs.Run.{Sort, over, shut, group, leaf, Node}
use Rattle.file_nodes.specs.Fitting.{coined, given}
use Rattle.file_nodes.specs.mirror.Fields.{width, base, chunk, half, second_mask_at, info, end_at, words_at, more_words, next_field, other_field, most_field, row_field, more_field, item_field, upper, letters, single, ending}
use Rattle.text.specs.Little.{little}

-- a byte that a word may have
abbrev pub Inked : ℕ → Type 0
Inked y = (0 < y) × (y < 256)

-- at place j of d, a word of at most sixteen bytes: the first eight bytes, their mask, the others, their mask
pub record Masked (d : List ℕ) (j : ℕ) (w : List ℕ) : Type 0 where
  pub first : get_or d j 0 ≡ little (take half w)
  pub first_mask : get_or d (j + 1) 0 ≡ base ^ length (take half w) - 1
  pub second : get_or d (j + 2) 0 ≡ little (drop half w)
  pub second_mask : get_or d (j + second_mask_at) 0 ≡ base ^ length (drop half w) - 1
  pub short : length w ≤ chunk
  pub inked : Each Inked w

-- the number of a leaf's kind, another of an amount in single quotes
abbrev pub leaf_number : Leaf → Option Quote → ℕ
leaf_number f none = code f
leaf_number f (some double) = code f
leaf_number f (some single_quote) = single

-- 0 of a tag of at most sixteen bytes, 1 of a longer one
abbrev pub tag_number : List ℕ → ℕ
tag_number w = cond (leb (length w) chunk) 0 1

abbrev pub number : Sort → List ℕ → ℕ
number over w = ending
number shut w = tag_number w
number group w = tag_number w
number (leaf f h) w = leaf_number f h

-- what is compared after the tag's first sixteen bytes: of a leaf its closing tag, after its text
abbrev pub after : Sort → Node → List ℕ
after over x = drop chunk x.tag
after shut x = drop chunk x.tag
after group x = drop chunk x.tag
after (leaf f h) x = x.close

-- k of TXTk
abbrev pub most_of : Leaf → ℕ
most_of (txt k) = k
most_of ref = 0
most_of iban = 0
most_of ccy = 0
most_of bool = 0
most_of num = 0
most_of amt = 0
most_of date = 0
most_of dtm = 0
most_of (enum ws) = 0

abbrev pub most : Sort → ℕ
most over = 0
most shut = 0
most group = 0
most (leaf f h) = most_of f

-- how many bytes of an item an opening tag has: its row byte
abbrev pub item : Sort → ℕ
item over = 0
item shut = 0
item group = 1
item (leaf f h) = 1

-- n is the number of a word of four letters that is one of ws, at this place among them
pub record Word (ws : List (List ℕ)) (n : ℕ) : Type 0 where
  pub place : ℕ
  pub within : place < length ws
  pub four : length (get_or ws place []) ≡ letters
  pub capitals : All is_capital (get_or ws place [])
  pub is : n ≡ little (get_or ws place [])

-- an ENUM's words, four numbers of 32 bits; where there are fewer, the last is there again
abbrev pub Words : Sort → List ℕ → Type 0
Words over d = Unit {0}
Words shut d = Unit {0}
Words group d = Unit {0}
Words (leaf ref h) d = Unit {0}
Words (leaf iban h) d = Unit {0}
Words (leaf ccy h) d = Unit {0}
Words (leaf bool h) d = Unit {0}
Words (leaf num h) d = Unit {0}
Words (leaf amt h) d = Unit {0}
Words (leaf date h) d = Unit {0}
Words (leaf dtm h) d = Unit {0}
Words (leaf (txt k) h) d = Unit {0}
Words (leaf (enum ws) h) d =
    Word ws (get_or d words_at 0 % upper) × Word ws (get_or d words_at 0 / upper) × Word ws (get_or d more_words 0 % upper) × Word ws (get_or d more_words 0 / upper)

-- of the root's end and of a leaf the tag is compared at once; a leaf has a currency where its type has one
abbrev pub Plain : Sort → List ℕ → Type 0
Plain over w = length w ≤ chunk
Plain shut w = Unit {0}
Plain group w = Unit {0}
Plain (leaf f h) w = (length w ≤ chunk) × (coined f ≡ given h)

-- d begins with the numbers of the node x
pub record Kept (d : List ℕ) (x : Node) : Type 0 where
  pub some : 0 < length x.tag
  pub tag : Masked d 0 (take chunk x.tag)
  pub end : Masked d end_at (after x.sort x)
  pub long : get_or d info 0 % 256 ≡ length (take chunk x.tag)
  pub sort : get_or d info 0 / 256 % 256 ≡ number x.sort x.tag
  pub next : get_or d info 0 / next_field % 256 ≡ x.next
  pub other : get_or d info 0 / other_field % 256 ≡ x.other
  pub most : get_or d info 0 / most_field % 256 ≡ most x.sort
  pub row : get_or d info 0 / row_field % 256 ≡ x.row
  pub end_long : get_or d info 0 / more_field % 256 ≡ length (after x.sort x)
  pub item : get_or d info 0 / item_field % 256 ≡ item x.sort
  pub words : Words x.sort d
  pub plain : Plain x.sort x.tag

-- n is a node of the table t
abbrev pub In : List ℕ → ℕ → Type 0
In t n = (0 < n) × (width * n + width ≤ length t)

-- where the nodes lead: to nodes, beside to a later one; and after the root's end there is none
pub record Leading (t : List ℕ) (x : Node) (n : ℕ) : Type 0 where
  pub over : (x.next ≡ 0 → x.sort ≡ over) × (x.sort ≡ over → x.next ≡ 0)
  pub next : 0 < x.next → In t x.next
  pub other : 0 < x.other → (n < x.other) × In t x.other

-- the table t has these nodes
pub record Tabled (t : List ℕ) (at : ℕ → Node) : Type 0 where
  pub kept : (n : ℕ) → In t n → Kept (drop (width * n) t) (at n)
  pub leads : (n : ℕ) → In t n → Leading t (at n) n
