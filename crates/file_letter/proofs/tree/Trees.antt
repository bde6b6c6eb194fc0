-- The written file as a tree: "no declaration, no blanks that could be left out". Assumes nothing.
use mathlib.Core.Path.{◌≡◌, sym}
use mathlib.Core.Bool.{false}
use mathlib.Core.List.{List, [], ◌∷◌, map, append-nil}
use Prim.Native.Nat.{ℕ}
use Rattle.text.specs.Bytes.{ascii}
use Rattle.text_characters.specs.Pieces.{Piece, char}
use Rattle.list.specs.Listing.{Listing}
use Rattle.list.specs.Content.{Content}
use Rattle.value.specs.Value.{Value}
use Rattle.xml.specs.House.{Markup, render, Tree, whole}
use Rattle.file_letter.specs.Letter.{attr_of, tree_in, letter_of}

-- characters that stand for themselves
abbrev pub plainly : List ℕ → List Piece
plainly cs = map char cs

module _ (l : Listing) where
  abbrev pub root_in : Content Value → Markup
  root_in c = tree_in l (attr_of (ascii "xmlns") l.space ∷ []) c

  abbrev pub tree_of : Content Value → Tree
  tree_of c = record { declared = false; before = []; root = root_in c; after = [] }

  pub letter_is : (c : Content Value) → letter_of l c ≡ whole (tree_of c)
  unfolding letter_of
  letter_is c = sym (append-nil (render (root_in c)))
