-- The first violation of a message, in document order. Assumes nothing.
use Rattle.std.specs.Prelude.{◌≡◌, Bool, true, false, cond, ◌&&◌, ◌||◌, not, List, [], ◌∷◌, ℕ, eqb, ltb, Result, Ok, Err}
use Rattle.std.specs.Bool.{xor}
use Rattle.answer.specs.declared.Answer.{Answer}
use Rattle.answer.specs.Table as table
use Rattle.text.specs.Bytes.{ascii, is_blank}
use Rattle.text.specs.Lists.{same}
use Rattle.list.specs.Words.{has, first_from}
use Rattle.list.specs.Listing.{Leaf, Kind, group, choice, leaf, Rule, both, Listing, row_at, size, child, is_group, at_most_once, required}
use Rattle.xml.specs.Message.{Attrs, Inside, nothing_inside, character, element}
use Rattle.file_walk.specs.Types.{Types, Judge, Decides}

-- what is found: no violation, or the line of document 01's table that answers the first
abbrev pub Found : Type 0
Found = Result (Unit {0}) Answer

-- a line of document 01's table, where the test says so
abbrev pub refuse : Bool → Answer → Found
refuse true a = Err a
refuse false a = Ok tt

-- "the first violation is the answer"
abbrev pub or_else : Found → Found → Found
or_else (Ok tt) g = g
or_else (Err a) g = Err a

abbrev pub first_of : List Found → Found
first_of [] = Ok tt
first_of (f ∷ fs) = or_else f (first_of fs)

abbrev pub is_empty : {A : Type 0} → List A → Bool
is_empty [] = true
is_empty (x ∷ xs) = false

-- one of rs is greater than r
abbrev pub passed : ℕ → List ℕ → Bool
passed r [] = false
passed r (q ∷ rs) = ltb r q || passed r rs

-- a rule of p is broken by children of these rows
abbrev pub breaks : ℕ → List ℕ → List Rule → Bool
breaks p rs [] = false
breaks p rs (both g a b ∷ qs) = (eqb g p && xor (has a rs) (has b rs)) || breaks p rs qs

-- the characters that stand in an element
abbrev pub text_of : Inside → List ℕ
text_of nothing_inside = []
text_of (character o x k) = x ∷ text_of k
text_of (element o n ats i k) = text_of k

-- exactly one attribute, of this name and value
abbrev pub only : List ℕ → List ℕ → Attrs → Bool
only n v [] = false
only n v (a ∷ []) = same n a.0 && same v a.1
only n v (a ∷ b ∷ ats) = false

-- one of the attributes has this name
abbrev pub carries : List ℕ → Attrs → Bool
carries n [] = false
carries n (a ∷ ats) = same n a.0 || carries n ats

-- schema hints: "`xmlns:xsi` and `xsi:schemaLocation` on the root"
abbrev pub is_hint : List ℕ → Bool
is_hint n = same (ascii "xmlns:xsi") n || same (ascii "xsi:schemaLocation") n

-- "they belong to no content": the attributes without them
abbrev pub unhinted : Attrs → Attrs
unhinted [] = []
unhinted (a ∷ ats) = cond (is_hint a.0) (unhinted ats) (a ∷ unhinted ats)

-- "An xsi attribute without its `xmlns:xsi` gives code 4"
abbrev pub bound : Attrs → Bool
bound ats = not (carries (ascii "xsi:schemaLocation") ats) || carries (ascii "xmlns:xsi") ats

-- "The root may carry these two besides xmlns, with any text": without them "its only attribute" is xmlns with the namespace
abbrev pub root_attrs : List ℕ → Attrs → Bool
root_attrs space ats = only (ascii "xmlns") space (unhinted ats) && bound ats

-- the characters of the one attribute that an amount has
abbrev pub currency_given : Attrs → List ℕ
currency_given [] = []
currency_given (a ∷ ats) = a.1

module _ (judge : Judge) where
  -- "below the root: attributes .. exactly the type's": of a group none
  abbrev pub attrs_ok : Kind → Attrs → Bool
  attrs_ok group ats = is_empty ats
  attrs_ok choice ats = is_empty ats
  attrs_ok (leaf k) ats = judge.attrs k ats

module _ (l : Listing) where
  abbrev pub kind_of : ℕ → Kind
  kind_of r = (row_at l r).kind

  -- row 1's name, and "xmlns with" the list's namespace
  abbrev pub is_root : List ℕ → Attrs → Bool
  is_root n ats = same (row_at l 1).name n && root_attrs l.space ats

  -- 6, "later sibling already seen", and 7, "over its count, or second child in a choice" ("in a choice 6 isn't given"), by the parent's kind; seen: the
  -- rows of its earlier siblings, the latest first
  abbrev pub among_siblings : Kind → List ℕ → ℕ → ℕ → Found
  among_siblings group seen r o = first_of (refuse (passed r seen) (table.out_of_order r o) ∷ refuse (at_most_once (row_at l r).count && has r seen) (table.too_many r o) ∷ [])
  among_siblings choice seen r o = refuse (not (is_empty seen)) (table.too_many r o)
  among_siblings (leaf k) seen r o = refuse (passed r seen) (table.out_of_order r o)

  -- the lowest required child of p that is not among rs; 0 where there is none
  unfoldable pub absent_row : ℕ → List ℕ → ℕ
  absent_row p rs = first_from (λ r. eqb (row_at l r).parent p && (required (row_at l r).count && not (has r rs))) 1 (size l)

  -- the rows of the elements that stand in one of row p; 0 for what is no child of p
  unfoldable pub child_rows : ℕ → Inside → List ℕ
  child_rows p nothing_inside = []
  child_rows p (character o x k) = child_rows p k
  child_rows p (element o n ats i k) = child l p n ∷ child_rows p k

module _ (judge : Judge) (l : Listing) where
  -- "An opening tag is tested 4, 5, 6, 7, 9 (in a choice 6 isn't given)": below the root, with its `<` at o, in an element of row p, its own row
  -- being r (0: "not a child of its parent")
  abbrev pub opening : ℕ → List ℕ → ℕ → Attrs → ℕ → Found
  opening p seen r ats o = first_of (
      refuse (eqb r 0) (table.not_a_child p o) ∷
      among_siblings l (kind_of l p) seen r o ∷
      refuse (not (attrs_ok judge (kind_of l r) ats)) (table.wrong_attributes r o) ∷ [])

  -- "a closing tag 11, 8, 12, 13": of a group with children of the rows rs; of a leaf with the characters cs
  abbrev pub group_end : ℕ → ℕ → List ℕ → Found
  group_end r o rs = first_of (
      refuse (is_empty rs) (table.empty r o) ∷
      refuse (ltb 0 (absent_row l r rs)) (table.absent (absent_row l r rs) o) ∷
      refuse (breaks r rs l.rules) (table.rule_broken r o) ∷ [])

  abbrev pub leaf_end : Leaf → ℕ → ℕ → Attrs → List ℕ → Found
  leaf_end k r o ats cs = first_of (
      refuse (is_empty cs) (table.empty r o) ∷
      refuse (not (judge.value k (currency_given ats) cs)) (table.bad_value r o) ∷ [])

  abbrev pub closing : Kind → ℕ → ℕ → Attrs → List ℕ → List ℕ → Found
  closing group r o ats rs cs = group_end r o rs
  closing choice r o ats rs cs = group_end r o rs
  closing (leaf k) r o ats rs cs = leaf_end k r o ats cs

  -- "the message is walked in document order": what stands in an element of row p, one part after the other; 10 is "non-blank text in a group"
  unfoldable pub inside : ℕ → List ℕ → Inside → Found
  inside p seen nothing_inside = Ok tt
  inside p seen (character o x k) = first_of (refuse (is_group (kind_of l p) && not (is_blank x)) (table.text_in_group p o) ∷ inside p seen k ∷ [])
  inside p seen (element o n ats i k) =
      let r = child l p n in first_of (
      opening p seen r ats o ∷
      inside r [] i ∷
      closing (kind_of l r) r o ats (child_rows l r i) (text_of i) ∷
      inside p (r ∷ seen) k ∷ [])

  -- of a message, which is one element
  unfoldable pub first_violation : Inside → Found
  first_violation nothing_inside = Ok tt
  first_violation (character o x k) = Ok tt
  first_violation (element o n ats i k) = first_of (
      refuse (not (is_root l n ats)) (table.wrong_root o) ∷
      inside 1 [] i ∷
      closing (kind_of l 1) 1 o ats (child_rows l 1 i) (text_of i) ∷ [])

-- f is what is found first in a message. "value breaks its type", "attributes not exactly the type's, or bad Ccy": a judge says yes exactly where the
-- relations hold; who judges does not matter (`first_one`)
pub record First (t : Types) (l : Listing) (m : Inside) (f : Found) : Type 0 where
  pub judge : Judge
  pub decides : Decides t judge
  pub is : first_violation judge l m ≡ f
