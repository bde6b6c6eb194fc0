-- Which files are good, and their content, over any types and any list. Assumes nothing.
use Rattle.std.specs.Prelude.{List, [], ℕ, ◌≤◌, length}
use Rattle.answer.specs.Table.{limit}
use Rattle.text_characters.specs.Utf8.{Utf8}
use Rattle.list.specs.Listing.{Listing}
use Rattle.list.specs.Content.{Content, Meets}
use Rattle.xml.specs.House.{HouseXml}
use Rattle.xml.specs.Message.{Attrs, Inside, nothing_inside, character, element, message_of}
use Rattle.file_walk.specs.Denotes.{Has}
use Rattle.image.specs.Image.{image}
use Rattle.file.specs.Instance.{Kinds, values_of}

-- what codes 1, 2 and 3 ask of a file: it is at most 1,048,576 bytes, UTF-8, and house XML
pub record Whole (s : List ℕ) : Type 0 where
  pub size : length s ≤ limit
  pub utf8 : Utf8 s
  pub xml : HouseXml s

-- its message: what its tree holds, with the place of each `<` and of each character
abbrev pub message_in : {s : List ℕ} → Whole s → Inside
message_in w = message_of w.xml.tree

-- the attributes of a message's root
abbrev pub root_of : Inside → Attrs
root_of nothing_inside = []
root_of (character o x k) = []
root_of (element o n ats i k) = ats

module _ (k : Kinds) (l : Listing) where
  -- "Content is the tree of rows with values": c is the file's, by the names of its elements and by what its leaves spell, and it meets the list, the
  -- types and the rules
  pub record File (s : List ℕ) (c : Content k.types.A) : Type 0 where
    pub whole : Whole s
    pub has : Has k.types l (message_in whole) c
    pub meets : Meets k.types.Is l c

  -- the image of a content
  abbrev pub image_of : Content k.types.A → List ℕ
  image_of c = image (values_of k) l c
