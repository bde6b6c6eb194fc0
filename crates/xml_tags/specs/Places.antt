-- The places of an attribute and of a tag of a tree. Assumes nothing.
use Rattle.std.specs.Prelude.{◌≡◌, List, [], ◌∷◌, ℕ, ◌+◌, length}
use Rattle.text_characters.specs.Pieces.{spells}
use Rattle.xml.specs.House.{Attr, Tag, Tree, whole, GoodTree}
use Rattle.xml.specs.Message.{root_at}
use Rattle.xml_tags.specs.declared.attribute.Attribute.{Attribute}
use Rattle.xml_tags.specs.declared.token.Kind.{Kind}
use Rattle.xml_tags.specs.declared.token.Token.{Token}
use Rattle.xml_tags.specs.mirror.Attributes.{nowhere}

-- r is the place of the `<` of the root, whichever good tree the text is
abbrev pub RootAt : List ℕ → ℕ → Type 0
RootAt s r = (t : Tree) → GoodTree t → s ≡ whole t → r ≡ root_at t

-- where an attribute's name begins, and where its value begins, if its blanks begin at o
abbrev pub name_of : ℕ → Attr → ℕ
name_of o a = o + length a.gap

-- after the name: blanks, `=`, blanks, a quote
abbrev pub value_of : ℕ → Attr → ℕ
value_of o a = name_of o a + length a.name + (length a.before + length a.after + 2)

abbrev pub attribute_of : ℕ → Attr → Attribute
attribute_of o a =
    record {
      name = name_of o a;
      stop = name_of o a + length a.name;
      value = value_of o a;
      quote = value_of o a + length (spells a.value);
      end = value_of o a + length (spells a.value) + 1;
    }

-- the first attribute after a place; where there is none, the place after the blanks
abbrev pub first_of : ℕ → List Attr → List ℕ → Attribute
first_of o [] g = nowhere (o + length g)
first_of o (a ∷ more) g = attribute_of o a

-- the token of a tag with its `<` at o
abbrev pub tag_of : Kind → ℕ → Tag → ℕ → Token
tag_of k o t e =
    record {
      kind = k;
      less = o;
      stop = o + 1 + length t.name;
      attributes = length t.attributes;
      first = first_of (o + 1 + length t.name) t.attributes t.gap;
      end = e;
    }
