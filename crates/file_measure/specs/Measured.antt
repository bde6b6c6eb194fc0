-- What the walk over a file's bytes says of its message. Assumes nothing.
use Rattle.std.specs.Prelude.{◌≡◌, List, ℕ, length, Result, Ok, Err}
use Rattle.answer.specs.declared.Answer.{Answer}
use Rattle.list.specs.Listing.{Listing}
use Rattle.list.specs.Content.{Content}
use Rattle.xml.specs.House.{HouseXml}
use Rattle.xml.specs.Message.{Inside, message_of}
use Rattle.file_walk.specs.First.{First}
use Rattle.file_walk.specs.Denotes.{Has}
use Rattle.file.specs.Instance.{Kinds}
use Rattle.file.specs.File.{image_of}

module _ (k : Kinds) (l : Listing) where
  -- the first violation of a message; or that there is none, and the length of its content's image
  abbrev pub Says : Inside → Result ℕ Answer → Type 0
  Says m (Err a) = First k.types l m (Err a)
  Says m (Ok n) = First k.types l m (Ok tt) × ((c : Content k.types.A) × Has k.types l m c × (n ≡ length (image_of k l c)))

  -- the same of a text that is house XML
  abbrev pub Measured : List ℕ → Result ℕ Answer → Type 0
  Measured s r = (x : HouseXml s) → Says (message_of x.tree) r

  -- a text that is house XML has a message without violation
  abbrev pub Faultless : List ℕ → Type 0
  Faultless s = (x : HouseXml s) → First k.types l (message_of x.tree) (Ok tt)

  -- a text is house XML, its message has no violation, and c is its content
  pub record Message (s : List ℕ) (c : Content k.types.A) : Type 0 where
    pub xml : HouseXml s
    pub none : First k.types l (message_of xml.tree) (Ok tt)
    pub has : Has k.types l (message_of xml.tree) c
