-- A mirror: the root's tag over bytes and tables. Assumes nothing.
use Rattle.std.specs.Prelude.{Bool, true, false, cond, not, ◌&&◌, ◌||◌, List, ℕ, zero, suc, ◌+◌, eqb, ltb, length, drop, Result, Ok, Err}
use Rattle.std.proofs.Math.Seq.{slice}
use Rattle.answer.specs.declared.Answer.{Answer}
use Rattle.answer.specs.Table as table
use Rattle.text.specs.Bytes.{ascii}
use Rattle.text.specs.Lists.{same}
use Rattle.list.specs.tables.Table.{name_in, list_of}
use Rattle.xml_tags.specs.declared.attribute.Attribute.{Attribute}
use Rattle.xml_tags.specs.declared.token.Kind.{Kind}
use Rattle.xml_tags.specs.declared.token.Kind.TheVariants.{Open, Empty, Close, End}
use Rattle.xml_tags.specs.declared.token.Token.{Token}
use Rattle.xml_tags.specs.Story.{attribute_in}
use Rattle.xml_tags.specs.mirror.Tokens.{open_at, start_of}
use Rattle.file_walk.specs.declared.hints.Carried.{Carried}
use Rattle.file_walk.specs.declared.step.Here.{Here}
use Rattle.file_walk.specs.declared.step.Refusal.{Refusal}
use Rattle.file_walk.specs.mirror.Tables.{fresh_in}
use Rattle.file_walk.specs.mirror.Stride.{named}

-- ---- its attributes

-- an attribute is xmlns with the list's namespace
unfoldable pub space_in : List ℕ → List ℕ → List ℕ → Attribute → Bool
space_in t pool s a = named (ascii "xmlns") s a.name a.stop && same (list_of t pool).space (slice a.value a.quote s)

-- what stands among some attributes and one more, which is `xmlns:xsi`, `xsi:schemaLocation`, the namespace; a second namespace is as any other
unfoldable pub noted : Bool → Bool → Bool → Carried → Carried
noted true l x c = record { space = c.space; prefix = true; location = c.location; other = c.other }
noted false true x c = record { space = c.space; prefix = c.prefix; location = true; other = c.other }
noted false false x c =
    cond (not c.space && x)
    (record { space = true; prefix = c.prefix; location = c.location; other = c.other })
    (record { space = c.space; prefix = c.prefix; location = c.location; other = true })

abbrev pub noted_in : List ℕ → List ℕ → List ℕ → Carried → Attribute → Carried
noted_in t pool s c a =
    noted (named (ascii "xmlns:xsi") s a.name a.stop) (named (ascii "xsi:schemaLocation") s a.name a.stop) (space_in t pool s a) c

abbrev pub nothing : Carried
nothing = record { space = false; prefix = false; location = false; other = false }

-- after the next n of them, from o on
unfoldable pub carried_in : List ℕ → List ℕ → List ℕ → Carried → ℕ → ℕ → Carried
carried_in t pool s c zero o = c
carried_in t pool s c (suc n) o = carried_in t pool s (noted_in t pool s c (attribute_in s o)) n (attribute_in s o).end

unfoldable pub allowed : Carried → Bool
allowed c = not c.other && (c.space && (not c.location || c.prefix))

-- ---- the tag

-- s from a to b is row 1's name
unfoldable pub is_first_in : List ℕ → List ℕ → List ℕ → ℕ → ℕ → Bool
is_first_in t pool s a b = same (name_in t pool 1) (slice a b s)

-- a tag with its `<` at less, its name up to stop and count attributes is the root's
unfoldable pub is_root_in : List ℕ → List ℕ → List ℕ → ℕ → ℕ → ℕ → Bool
is_root_in t pool s less stop count = ltb less (length s) && (is_first_in t pool s (less + 1) stop && allowed (carried_in t pool s nothing count stop))

-- the walk stands in the root, which has its `<` at less, and its tag's end at end
abbrev pub root_at : List ℕ → ℕ → ℕ → Here
root_at t less end = record { level = fresh_in t 1 less; depth = 0; at = end; value = 0; quote = 0 }

-- where the walk stands then; or the first violation, and where it would stand
abbrev pub Rooted : Type 0
Rooted = Result Here Refusal

abbrev pub refused_at : Here → Answer → Refusal
refused_at here a = record { answer = a; here = here }

-- by whether it is the root: an element that goes on, an element without content
unfoldable pub rooted_in : Bool → Here → ℕ → Rooted
rooted_in b here less = cond b (Ok here) (Err (refused_at here (table.wrong_root less)))

unfoldable pub hollow_in : Bool → ℕ → Answer
hollow_in b less = cond b (table.empty 1 less) (table.wrong_root less)

module _ (t pool s : List ℕ) where
  -- by what stands where the root begins; where no tag opens there, it is no house XML
  abbrev pub found_in : Kind → Token → Rooted
  found_in Open k = rooted_in (is_root_in t pool s k.less k.stop k.attributes) (root_at t k.less k.end) k.less
  found_in Empty k = Err (refused_at (root_at t k.less k.end) (hollow_in (is_root_in t pool s k.less k.stop k.attributes) k.less))
  found_in Close k = Err (refused_at (root_at t k.less k.end) (table.not_house_xml k.less))
  found_in End k = Err (refused_at (root_at t k.less k.end) (table.not_house_xml k.less))

  -- by the tag there
  unfoldable pub begin_by : Token → Rooted
  begin_by k = found_in k.kind k

  abbrev pub begin_in : Rooted
  begin_in = begin_by (open_at (start_of s) (drop (start_of s) s))

-- the tag is not the root's, which code 4 says
abbrev pub unrooted : Rooted → Bool
unrooted (Ok here) = false
unrooted (Err r) = eqb r.answer.code 4
