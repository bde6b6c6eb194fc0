-- A mirror: how the cursor passes a text and the tag after it. Assumes nothing.
use Rattle.std.specs.Prelude.{Bool, cond, ◌&&◌, List, [], ◌∷◌, ℕ, ◌+◌, ◌-◌, min, drop}
use Prim.Native.Char.{code}
use Rattle.text.specs.Bytes.{is_blank}
use Rattle.text.specs.Lists.{span}
use Rattle.text_characters.specs.Pieces.{less, greater, solidus}
use Rattle.xml_tags.specs.declared.attribute.Attribute.{Attribute}
use Rattle.xml_tags.specs.declared.token.Kind.{Kind}
use Rattle.xml_tags.specs.declared.token.Kind.TheVariants.{Open, Empty, Close, End}
use Rattle.xml_tags.specs.declared.token.Token.{Token}
use Rattle.xml_tags.specs.Marks.{but, pass, one, head_is, behind}
use Rattle.xml_tags.specs.mirror.Passing.{in_name}
use Rattle.xml_tags.specs.mirror.Attributes.{nowhere, attribute_at, passed_at}

-- a token without name and attributes, whose text ends at o
abbrev pub bare : Kind → ℕ → ℕ → Token
bare k o e = record { kind = k; less = o; stop = o; attributes = 0; first = nowhere o; end = e }

-- a tag with its `<` at o and its name up to e, n attributes, the first of them a; its `/` or `>` is at z
unfoldable pub shut_at : ℕ → ℕ → ℕ → Attribute → ℕ → List ℕ → Token
shut_at o e n a z l =
    cond (head_is solidus l)
    (record { kind = Empty; less = o; stop = e; attributes = n; first = a; end = z + 1 + one (drop 1 l) })
    (record { kind = Open; less = o; stop = e; attributes = n; first = a; end = z + one l })

-- after the name
unfoldable pub tail_at : ℕ → ℕ → List ℕ → Token
tail_at o e l = shut_at o e (passed_at e l).count (attribute_at e l) (passed_at e l).end (drop ((passed_at e l).end - e) l)

-- a tag's `<` is at o
unfoldable pub tag_at : ℕ → List ℕ → Token
tag_at o [] = bare End o o
tag_at o (x ∷ l) = cond (head_is solidus l) (bare Close o (behind greater (o + 1) l)) (pass in_name (tail_at o) (o + 1) l)

-- an opening tag's `<` is at o, or the bytes end there
unfoldable pub open_at : ℕ → List ℕ → Token
open_at o [] = bare End o o
open_at o (x ∷ l) = pass in_name (tail_at o) (o + 1) l

-- from o on
unfoldable pub token_at : ℕ → List ℕ → Token
token_at o l = pass (but less) tag_at o l

-- where the root begins: after the declaration, if there is one, and blanks
unfoldable pub root_from : ℕ → List ℕ → ℕ
root_from o l = o + span is_blank l

-- it begins as a declaration does
abbrev pub is_declared : List ℕ → Bool
is_declared l = head_is less l && head_is (code "?") (drop 1 l)

unfoldable pub start_of : List ℕ → ℕ
start_of l =
    cond (is_declared l)
    (pass (but greater) (λ o m. root_from (o + one m) (drop (one m) m)) 0 l)
    (root_from 0 l)

-- the first byte from a to b that is no blank, or b
abbrev pub ink_in : List ℕ → ℕ → ℕ → ℕ
ink_in s a b = min (a + span is_blank (drop a s)) b
