-- A message: what a tree holds once blanks in tags are passed over and entities resolved, with the byte place of each `<` and of each
-- character. Assumes nothing.
use Rattle.std.specs.Prelude.{List, map, ℕ, ◌+◌, length}
use Rattle.text_characters.specs.Pieces.{spell, resolved}
use Rattle.xml.specs.House.{Attr, tag, Markup, no_more, piece, empty_tag, full, render, declaration, Tree}

-- attributes in order: the name, and the characters of the value "after entities are resolved"
abbrev pub Attrs : Type 0
Attrs = List (List ℕ × List ℕ)

-- what stands in an element, in document order
pub data Inside : Type 0 where
  nothing_inside : Inside
  -- a character, its first byte at a place, and what follows it
  character : ℕ → ℕ → Inside → Inside
  -- an element, its `<` at a place: its name, its attributes, what stands in it, and what follows it
  element : ℕ → List ℕ → Attrs → Inside → Inside → Inside

abbrev pub attrs_of : List Attr → Attrs
attrs_of as' = map (λ (a : Attr). (a.name, map resolved a.value)) as'

-- what stands inside markup whose first byte is at place o
abbrev pub parts_of : ℕ → Markup → Inside
parts_of o no_more = nothing_inside
parts_of o (piece p k) = character o (resolved p) (parts_of (o + length (spell p)) k)
parts_of o (empty_tag t k) = element o t.name (attrs_of t.attributes) nothing_inside (parts_of (o + length (render (empty_tag t no_more))) k)
parts_of o (full t i g k) =
    element o t.name (attrs_of t.attributes) (parts_of (o + (length (tag t) + 2)) i) (parts_of (o + length (render (full t i g no_more))) k)

-- the message of a tree: its one element
abbrev pub message_of : Tree → Inside
message_of t = parts_of (length (declaration t.declared) + length t.before) t.root

-- where that begins, as the laws name it
abbrev pub root_at : Tree → ℕ
root_at t = length (declaration t.declared) + length t.before
