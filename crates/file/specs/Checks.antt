-- What `check` may answer, and what it leaves in the buffer: document 01's table, over any types and any list; and over its own. Assumes nothing.
use Rattle.std.specs.Prelude.{◌≡◌, cond, List, [], ◌∷◌, ◌++◌, ℕ, ◌≤◌, ◌<◌, length, drop, Err}
use Rattle.answer.specs.declared.Answer.{Answer}
use Rattle.answer.specs.Table.{accepted, limit, too_long, not_utf8, not_house_xml, no_room}
use Rattle.text.specs.Bytes.{ascii}
use Rattle.text.specs.Lists.{same, LongestBeginning}
use Rattle.text_characters.specs.Utf8.{Utf8}
use Rattle.list.specs.Listing.{Listing}
use Rattle.list.specs.Content.{Content}
use Rattle.list.specs.Within.{Among}
use Rattle.list_house.specs.Lists.{asked}
use Rattle.value.specs.Value.{Value}
use Rattle.xml.specs.House.{HouseXml, Viable}
use Rattle.xml.specs.Message.{Attrs, Inside}
use Rattle.file_walk.specs.First.{First}
use Rattle.file.specs.Instance.{Kinds, house_kinds}
use Rattle.file.specs.File.{Whole, message_in, root_of, File, image_of}

module _ (k : Kinds) (l : Listing) where
  -- the file s, the buffer d before the call, the answer a and the buffer d' after it; "Any other code leaves that buffer unchanged"
  pub data Answers (s d : List ℕ) (a : Answer) (d' : List ℕ) : Type 0 where
    -- 1: "input over 1,048,576 bytes", place 1048576
    long : limit < length s → a ≡ too_long → d' ≡ d → Answers s d a d'
    -- 2: "not UTF-8", "start of first bad sequence"
    bad_bytes : length s ≤ limit → (Utf8 s → ⊥) → (n : ℕ) → LongestBeginning Utf8 s n → a ≡ not_utf8 n → d' ≡ d → Answers s d a d'
    -- 3: "not house XML", "most leading bytes that still begin some house XML text"
    markup : length s ≤ limit → Utf8 s → (HouseXml s → ⊥) → (n : ℕ) → LongestBeginning Viable s n → a ≡ not_house_xml n → d' ≡ d → Answers s d a d'
    -- 4 to 13: "then the message is walked in document order and the first violation is the answer"
    violation : (w : Whole s) → First k.types l (message_in w) (Err a) → d' ≡ d → Answers s d a d'
    -- 14: "valid, but image longer than the buffer", row 0, "bytes needed"; "14 comes last"
    room : (c : Content k.types.A) → File k l s c → length d < length (image_of k l c) → a ≡ no_room (length (image_of k l c)) → d' ≡ d → Answers s d a d'
    -- "Acceptance is 0, row 0, image length; bytes of the result buffer beyond the image stay"
    imaged : (c : Content k.types.A) → File k l s c → length (image_of k l c) ≤ length d → a ≡ accepted (length (image_of k l c))
        → d' ≡ image_of k l c ++ drop (length (image_of k l c)) d → Answers s d a d'

-- the value of an attribute; where there is none of this name, nothing
abbrev pub value_of : List ℕ → Attrs → List ℕ
value_of n [] = []
value_of n (a ∷ ats) = cond (same n a.0) a.1 (value_of n ats)

-- "The namespace chooses the list": the one whose namespace the root's xmlns has; where none has it, any of them, for then each says 4
abbrev pub Chosen : Inside → Listing → Type 0
Chosen m l = (k : Listing) → Among k asked → value_of (ascii "xmlns") (root_of m) ≡ k.space → l ≡ k

-- with document 01's types, and the list that the file's message chooses
pub record Checks (s d : List ℕ) (a : Answer) (d' : List ℕ) : Type 0 where
  pub list : Listing
  pub among : Among list asked
  pub chosen : (w : Whole s) → Chosen (message_in w) list
  pub answers : Answers house_kinds list s d a d'

-- a good file: its list, and its content. "The kind being part of the content": both together are what it says
pub record Filed (s : List ℕ) (l : Listing) (c : Content Value) : Type 0 where
  pub among : Among l asked
  pub file : File house_kinds l s c

-- what check answers to every buffer that is as long as the file or longer. No image is longer than its file, so that 14 is none of these: the answer is
-- one of 1 to 13, or 0 with the image's length
pub record Finds (s : List ℕ) (a : Answer) : Type 0 where
  pub roomy : (d : List ℕ) → length s ≤ length d → (d' : List ℕ) × Checks s d a d'
