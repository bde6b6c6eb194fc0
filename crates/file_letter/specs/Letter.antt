-- The tree that is written for a content: "no declaration, no blanks that could be left out, double quotes". Assumes nothing.
use Rattle.std.specs.Prelude.{List, [], ◌∷◌, map, ℕ}
use Prim.Native.Char.{code}
use Rattle.text.specs.Bytes.{ascii}
use Rattle.text_characters.specs.Pieces.{char}
use Rattle.list.specs.Listing.{Kind, group, choice, leaf, Listing, row_at}
use Rattle.list.specs.Content.{Content, end, value, node}
use Rattle.value.specs.Value.{Value, text, place, truth, natural, amount, day, moment}
use Rattle.xml.specs.House.{double, Attr, Tag, Markup, no_more, piece, full, render}
use Rattle.value.specs.script.Script.{script_of}
use Rattle.value.specs.script.Raw.{piece_of}

-- the characters of a text, "`&` and `<` and `>` as entities"
abbrev pub text_in : List ℕ → Markup
text_in [] = no_more
text_in (c ∷ cs) = piece (piece_of c) (text_in cs)

abbrev pub attr_of : List ℕ → List ℕ → Attr
attr_of n v = record { gap = code " " ∷ []; name = n; before = []; after = []; quote = double; value = map char v }

abbrev pub tag_of : List ℕ → List Attr → Tag
tag_of n as' = record { name = n; attributes = as'; gap = [] }

-- the attribute Ccy, which an amount alone has
abbrev pub coin_of : Value → List Attr
coin_of (text cs) = []
coin_of (place n) = []
coin_of (truth b) = []
coin_of (natural n) = []
coin_of (amount w k c) = attr_of (ascii "Ccy") w ∷ []
coin_of (day y m d) = []
coin_of (moment y mo d h mi s u z) = []

abbrev pub words_in : Kind → Value → List ℕ
words_in group v = []
words_in choice v = []
words_in (leaf f) v = script_of f v

module _ (l : Listing) where
  -- what stands in an element; its groups have these attributes
  abbrev pub tree_in : List Attr → Content Value → Markup
  tree_in ats end = no_more
  tree_in ats (value r v k) = full (tag_of (row_at l r).name (coin_of v)) (text_in (words_in (row_at l r).kind v)) [] (tree_in ats k)
  tree_in ats (node r c k) = full (tag_of (row_at l r).name ats) (tree_in [] c) [] (tree_in ats k)

  -- the file that is written: the root alone, with the list's namespace
  unfoldable pub letter_of : Content Value → List ℕ
  letter_of c = render (tree_in (attr_of (ascii "xmlns") l.space ∷ []) c)
