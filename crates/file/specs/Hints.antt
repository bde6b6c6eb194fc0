-- Files that differ in schema hints alone: "they belong to no content". Assumes nothing.
use Rattle.std.specs.Prelude.{◌≡◌, cond, List, [], ◌∷◌, ℕ}
use Rattle.xml.specs.House.{Attr, Tag, Markup, no_more, piece, empty_tag, full, Tree}
use Rattle.file_walk.specs.First.{is_hint}
use Rattle.file.specs.File.{Whole}

-- the attributes of a tag, the tag, the one element of a tree, the tree, each without its hints
abbrev pub bare_attrs : List Attr → List Attr
bare_attrs [] = []
bare_attrs (a ∷ more) = cond (is_hint a.name) (bare_attrs more) (a ∷ bare_attrs more)

abbrev pub bare_tag : Tag → Tag
bare_tag t = record { name = t.name; attributes = bare_attrs t.attributes; gap = t.gap }

abbrev pub bare_root : Markup → Markup
bare_root no_more = no_more
bare_root (piece p k) = piece p k
bare_root (empty_tag t k) = empty_tag (bare_tag t) k
bare_root (full t i g k) = full (bare_tag t) i g k

abbrev pub bare_tree : Tree → Tree
bare_tree m = record { declared = m.declared; before = m.before; root = bare_root m.root; after = m.after }

-- without the hints on their roots both files are the same text
abbrev pub HintsAlone : {s s' : List ℕ} → Whole s → Whole s' → Type 0
HintsAlone w w' = bare_tree w.xml.tree ≡ bare_tree w'.xml.tree
