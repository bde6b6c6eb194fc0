-- The front of a file: a declaration or none, blanks, and the opening tag of a list's root. Assumes nothing.
use Rattle.std.specs.Prelude.{◌≡◌, Bool, true, List, ◌∷◌, ◌++◌, ℕ, drop}
use Rattle.text.specs.Bytes.{is_blank}
use Rattle.text.specs.Lists.{All}
use Rattle.text_characters.specs.Pieces.{less, greater}
use Rattle.list.specs.Listing.{Listing}
use Rattle.list.specs.Within.{Among}
use Rattle.list_house.specs.Lists.{asked}
use Rattle.xml.specs.House.{Tag, tag, GoodTag, declaration}
use Rattle.xml.specs.Message.{attrs_of}
use Rattle.file_walk.specs.First.{is_root}

-- the file s begins with a declaration or none, blanks, and the opening tag of the list's root; rest comes after it
pub record RootOpened (l : Listing) (s rest : List ℕ) : Type 0 where
  pub declared : Bool
  pub before : List ℕ
  pub blanks : All is_blank before
  pub root : Tag
  pub good : GoodTag root
  pub keeps : is_root l root.name (attrs_of root.attributes) ≡ true
  pub is : s ≡ declaration declared ++ (before ++ (less ∷ (tag root ++ (greater ∷ rest))))

-- it does so for a list of files that has the kind byte b, and its root's tag ends at a place
pub record Opens (s : List ℕ) (b from : ℕ) : Type 0 where
  pub list : Listing
  pub among : Among list asked
  pub kind : b ≡ list.byte
  pub opened : RootOpened list s (drop from s)
