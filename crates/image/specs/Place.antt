-- What a reader of images answers: the first image's length, or where it breaks. Assumes nothing.
use Rattle.std.specs.Prelude.{◌≡◌, ◌≢◌, ◌⊎◌, List, ◌++◌, ℕ, ◌+◌, ◌≤◌, ◌<◌, length, take}
use Rattle.answer.specs.declared.Answer.{Answer}
use Rattle.answer.specs.Table.{accepted, limit, too_long, no_header, wrong_version, broken_image}
use Rattle.text.specs.Bytes.{ascii}
use Rattle.list.specs.Listing.{Listing}
use Rattle.list.specs.Content.{Content, items, Meets}
pub use Rattle.list.specs.Within.{Among}
use Rattle.image.specs.Image.{Values, Item, versioned, header, items_bytes, body}

-- ---- after the header: items and the closing 0

module _ (vs : Values) (l : Listing) where
  -- s begins with the body, n bytes long, of a content that meets the list
  pub record Holds (s : List ℕ) (n : ℕ) : Type 0 where
    pub content : Content vs.Value
    pub meets : Meets vs.Is l content
    pub rest : List ℕ
    pub at : s ≡ body vs l content ++ rest
    pub long : n ≡ length (body vs l content)

  -- some content that meets the list begins with these items
  pub record BeginsContent (is : List (Item vs)) : Type 0 where
    pub content : Content vs.Value
    pub meets : Meets vs.Is l content
    pub rest : List (Item vs)
    pub at : items content ≡ is ++ rest

  -- n bytes of s are "the most whole items that begin some image"
  pub record Most (s : List ℕ) (n : ℕ) : Type 0 where
    pub whole : List (Item vs)
    pub rest : List ℕ
    pub at : s ≡ items_bytes vs l whole ++ rest
    pub begins : BeginsContent whole
    pub long : n ≡ length (items_bytes vs l whole)
    pub most : (is : List (Item vs)) (u : List ℕ) → s ≡ items_bytes vs l is ++ u → BeginsContent is → length is ≤ length whole

  -- s begins with no such body, and n bytes of it are the most whole items
  pub record Breaks (s : List ℕ) (n : ℕ) : Type 0 where
    pub none : (m : ℕ) → Holds s m → ⊥
    pub most : Most s n

  -- what is answered for a body, s, that stands at a place
  pub data Tells (s : List ℕ) (from : ℕ) (a : Answer) : Type 0 where
    held : (n : ℕ) → Holds s n → a ≡ accepted (from + n) → Tells s from a
    broke : (n : ℕ) → Breaks s n → a ≡ broken_image (from + n) → Tells s from a

-- ---- the header, of one of several lists

-- an image of a content of the list begins with h
pub data Front (l : Listing) (h : List ℕ) : Type 0 where
  -- "New images are version 2: after the version comes a kind byte, 1 for camt.053, 2 for camt.052"
  current : h ≡ header l → Front l h
  -- "The reader takes versions 1 and 2": in version 1 there are statements alone
  earlier : l.byte ≡ 1 → h ≡ versioned 1 → Front l h

-- what one run begins with is of one list, and ends at one place
pub record Apart (ls : List Listing) : Type 0 where
  pub one : (l m : Listing) → Among l ls → Among m ls → (h g u v : List ℕ) → Front l h → Front m g → h ++ u ≡ g ++ v → (l ≡ m) × (h ≡ g) × (u ≡ v)

module _ (vs : Values) (ls : List Listing) where
  -- the run begins with the image, n bytes long, of a content that meets one of the lists
  pub record Accepts (run : List ℕ) (n : ℕ) : Type 0 where
    pub list : Listing
    pub among : Among list ls
    pub head : List ℕ
    pub front : Front list head
    pub after : List ℕ
    pub at : run ≡ head ++ after
    pub size : ℕ
    pub holds : Holds vs list after size
    pub long : n ≡ length head + size

  -- "Reader, over a run of bytes": what it answers; "Row 0"
  pub data Reads (run : List ℕ) (a : Answer) : Type 0 where
    -- "1 for a run over the same limit, place as in the table"
    over : limit < length run → a ≡ too_long → Reads run a
    -- "15 fewer than five bytes or no `KTO`, place 0"
    foreign : length run ≤ limit → (length run < 5) ⊎ (take 3 run ≢ ascii "KTO") → a ≡ no_header → Reads run a
    -- "16 now means version neither 1 nor 2", place 3
    version : length run ≤ limit → 5 ≤ length run → take 3 run ≡ ascii "KTO" → take 5 run ≢ versioned 1 → take 5 run ≢ versioned 2 → a ≡ wrong_version → Reads run a
    -- "a missing or bad kind byte is 17, place 5"
    kindless : length run ≤ limit → take 5 run ≡ versioned 2 → ((l : Listing) → Among l ls → take 6 run ≢ header l) → a ≡ broken_image 5 → Reads run a
    -- "17 no image of a rule-meeting content begins here, place 5 plus the bytes of the most whole items that begin some image";
    -- "item places in version 2 count from 6"
    broken : length run ≤ limit → (l : Listing) → Among l ls → (h : List ℕ) → Front l h → (s : List ℕ) → run ≡ h ++ s → (n : ℕ) → Breaks vs l s n → a ≡ broken_image (length h + n) → Reads run a
    -- "it gives the length of the first image"
    whole_image : length run ≤ limit → (n : ℕ) → Accepts run n → a ≡ accepted n → Reads run a
