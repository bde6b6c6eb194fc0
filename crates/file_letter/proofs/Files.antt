-- The file that is written for a content is a good file of that content, over any well-formed list, and gives the same image. Assumes nothing.
use mathlib.Core.Path.{◌≡◌, refl, sym, ◌∙◌, ap, ap₂, subst}
use mathlib.Core.Logic.{◌↔◌}
use mathlib.Core.List.{List, [], ◌∷◌, ◌++◌, append_assoc}
use Prim.Native.Nat.{ℕ, ◌≤◌}
use native.Mathlib.Omega.{arith}
use lib.ListN.{length, get_or, take, drop}
use lib.Seq.{take-append_seam, drop_at}
use Rattle.answer.specs.declared.Answer.{Answer}
use Rattle.answer.specs.Table.{accepted, limit}
use Rattle.text.specs.Numbers.{big_endian}
use Rattle.list.specs.Listing.{Listing}
use Rattle.list.specs.WellFormed.{WellFormed}
use Rattle.list.specs.Content.{Content, items, Meets}
use Rattle.list.specs.Within.{Among}
use Rattle.list_house.specs.Lists.{asked}
use Rattle.list_house.proofs.Lists.{asked_well}
use Rattle.list_house.proofs.Retired.{Narrowed, stored_narrowed}
use Rattle.value.specs.parts.Former.{present}
use Rattle.value.specs.Value.{Value, IsValue}
use Rattle.value.specs.Spelled.{Spelled}
use Rattle.xml.specs.House.{Tree, GoodTree, HouseXml}
use Rattle.xml.specs.Message.{message_of}
use Rattle.xml.proofs.Unique.{tree_one}
use Rattle.xml.proofs.Coded.{house_utf8}
use Rattle.file_walk.specs.Denotes.{Has}
use Rattle.file_walk.proofs.violation.Accept as walk
use Rattle.image.specs.Image.{versioned, header, body, image}
use Rattle.image.specs.Kinds.{values}
use Rattle.image.specs.Place.{Front, current, earlier}
use Rattle.image.proofs.answers.Heads.{header_is}
use Rattle.image.proofs.content.Within.{image_within}
use Rattle.image_reading.specs.Reads.{HouseAccepts}
use Rattle.image_reading.proofs.House.{house_begins}
use Rattle.file.specs.Instance.{house_types, house_kinds}
use Rattle.file.specs.File.{message_in, File, image_of}
use Rattle.file.specs.Checks.{Answers, Checks, Filed, Finds}
use Rattle.file.proofs.Chosen.{filed_chosen}
use Rattle.file.proofs.answers.House.{spelling, image_no_longer, accepted_image}
use Rattle.file.proofs.answers.Accepted.{good_accepted}
use Rattle.file_letter.proofs.tree.Trees.{tree_of, letter_is}
use Rattle.file_letter.specs.Letter.{letter_of}
use Rattle.file_letter.specs.Stale.{NoneOf, Withdrawn, Finer}
use Rattle.file_letter.specs.Writes.{asked_in, letter_in, items_in, image_in}
use Rattle.file_letter.proofs.Meeting.{said_is, has_fine}
use Rattle.file_letter.proofs.Present.{said_present}
use Rattle.file_letter.proofs.tree.Has.{letter_has}
use Rattle.file_letter.proofs.tree.Good.{letter_good}

-- some house XML, of any length, is a message of the content
pub record Sayable (l : Listing) (c : Content Value) : Type 0 where
  pub tree : Tree
  pub good : GoodTree tree
  pub has : Has house_types l (message_of tree) c

module _ (l : Listing) (wf : WellFormed l) where
  -- what is written is house XML
  pub letter_xml : (c : Content Value) → Meets IsValue l c → NoneOf (Withdrawn l) (items c) → HouseXml (letter_of l c)
  letter_xml c m q = record { tree = tree_of l c; good = letter_good l wf c m q; is = letter_is l c }

  -- two contents have one text exactly when they are one
  pub letters_tell : (a b : Content Value) → Meets (Spelled present) l a → NoneOf (Withdrawn l) (items a) → Meets (Spelled present) l b → NoneOf (Withdrawn l) (items b) → (letter_of l a ≡ letter_of l b) ↔ (a ≡ b)
  letters_tell a b m p n q = (
    (λ e. let t = tree_one (tree_of l a) (tree_of l b) (letter_good l wf a (said_is l a m) p) (letter_good l wf b (said_is l b n) q) (sym (letter_is l a) ∙ e ∙ letter_is l b) in
        walk.unique house_types spelling l wf (message_of (tree_of l b)) a b (subst (λ (x : Tree). Has house_types l (message_of x) a) t (letter_has l wf a m)) (letter_has l wf b n)),
    (λ e. ap (letter_of l) e),
  )

  -- and it has the content
  pub letter_sayable : (c : Content Value) → Meets (Spelled present) l c → NoneOf (Withdrawn l) (items c) → Sayable l c
  letter_sayable c m q = record { tree = tree_of l c; good = letter_good l wf c (said_is l c m) q; has = letter_has l wf c m }

  -- the written file is a good file of the content
  pub letter_file : (c : Content Value) → Meets (Spelled present) l c → NoneOf (Withdrawn l) (items c) → length (letter_of l c) ≤ limit → File house_kinds l (letter_of l c) c
  letter_file c m q h =
      record {
        whole = record { size = h; utf8 = house_utf8 (letter_xml c (said_is l c m) q); xml = record { tree = tree_of l c; good = letter_good l wf c (said_is l c m) q; is = letter_is l c } };
        has = letter_has l wf c m;
        meets = said_is l c m;
      }

  -- and no file of any length has a content with a finer date-time: what 20 refuses, no file says
  pub no_file_lem : (s : List ℕ) (c : Content Value) → File house_kinds l s c → NoneOf Finer (items c)
  no_file_lem s c f = has_fine l (message_in f.whole) c f.has

  -- "The written file is accepted and gives the same image": by every buffer with room for it
  pub letter_accepted : (c : Content Value) → Meets (Spelled present) l c → NoneOf (Withdrawn l) (items c) → length (letter_of l c) ≤ limit → (d : List ℕ) (a : Answer) (d' : List ℕ) → Answers house_kinds l (letter_of l c) d a d'
      → length (image_of house_kinds l c) ≤ length d → (a ≡ accepted (length (image_of house_kinds l c))) × (d' ≡ image_of house_kinds l c ++ drop (length (image_of house_kinds l c)) d)
  letter_accepted c m q h d a d' p r = good_accepted house_kinds l (letter_of l c) d a d' spelling wf c (letter_file c m q h) r p

-- of one of these lists: what is written is a file of that list, and check gives its image
module _ (l : Listing) (i : Among l asked) (c : Content Value) (m : Meets (Spelled present) l c) (q : NoneOf (Withdrawn l) (items c)) (h : length (letter_of l c) ≤ limit) where
  pub letter_filed : Filed (letter_of l c) l c
  letter_filed = record { among = i; file = letter_file l (asked_well l i) c m q h }

  pub letter_checked : (d : List ℕ) (a : Answer) (d' : List ℕ) → Checks (letter_of l c) d a d' → length (image_of house_kinds l c) ≤ length d
      → (a ≡ accepted (length (image_of house_kinds l c))) × (d' ≡ image_of house_kinds l c ++ drop (length (image_of house_kinds l c)) d)
  letter_checked d a d' p r = accepted_image (letter_of l c) d a d' p l c letter_filed r

  -- a buffer as long as the file has room for its image
  pub letter_found : Finds (letter_of l c) (accepted (length (image_of house_kinds l c)))
  letter_found =
      let n = image_no_longer (letter_of l c) l c letter_filed in
      record {
        roomy = λ d r. (
          image_of house_kinds l c ++ drop (length (image_of house_kinds l c)) d,
          record { list = l; among = i; chosen = filed_chosen (letter_of l c) l c letter_filed; answers = Answers.imaged c letter_filed.file (omega arith) refl refl },
        );
      }

-- ---- the image that a run begins with, and how it begins

image_is : (l : Listing) (c : Content Value) → image values l c ≡ header l ++ body values l c
unfolding image
image_is l c = refl

five_of : (k : ℕ) (u : List ℕ) → take 5 (versioned k ++ u) ≡ versioned k
unfolding big_endian
five_of k u = refl

five_long : length (versioned 1) ≡ 5
unfolding big_endian
five_long = refl

versions_differ : versioned 1 ≡ versioned 2 → ⊥
unfolding big_endian
versions_differ e = omega (arith, ap (λ (s : List ℕ). get_or s 4 0) e)

header_five : (l : Listing) (u : List ℕ) → take 5 (header l ++ u) ≡ versioned 2
header_five l u = ap (λ (h : List ℕ). take 5 (h ++ u)) (header_is l) ∙ ap (take 5) (append_assoc (versioned 2) (l.byte ∷ []) u) ∙ five_of 2 (l.byte ∷ u)

module _ (run : List ℕ) (n : ℕ) (w : HouseAccepts run n) where
  abbrev its : Narrowed w.list
  its = stored_narrowed w.list w.among

  -- the content of an image that may be written is said by the present rules
  pub image_said : NoneOf (Withdrawn (asked_in w)) (items_in w) → NoneOf Finer (items_in w) → Meets (Spelled present) (asked_in w) w.holds.content
  image_said = said_present w.list w.among w.holds.content w.holds.meets

  pub image_sayable : NoneOf (Withdrawn (asked_in w)) (items_in w) → NoneOf Finer (items_in w) → Sayable (asked_in w) w.holds.content
  image_sayable q f = letter_sayable (asked_in w) (asked_well (asked_in w) its.among) w.holds.content (image_said q f) q

  -- "gives the same image": what check writes for the file that was written from it is the version 2 image of its content, of its kind
  pub same_image : NoneOf (Withdrawn (asked_in w)) (items_in w) → NoneOf Finer (items_in w) → length (letter_in w) ≤ limit → (d : List ℕ) (a : Answer) (d' : List ℕ) → Checks (letter_in w) d a d'
      → length (image_in w) ≤ length d → (a ≡ accepted (length (image_in w))) × (d' ≡ image_in w ++ drop (length (image_in w)) d)
  same_image q f h d a d' p =
      subst (λ (x : List ℕ). length x ≤ length d → (a ≡ accepted (length x)) × (d' ≡ x ++ drop (length x) d))
      (image_within values (asked_in w) w.list its.within w.holds.content)
      (letter_checked (asked_in w) its.among w.holds.content (image_said q f) q h d a d' p)

  abbrev body_in : List ℕ
  body_in = body values w.list w.holds.content

  first_is : take n run ≡ w.head ++ body_in
  first_is = let g = house_begins run n w in ap₂ take g.2 g.1 ∙ take-append_seam (w.head ++ body_in) w.holds.rest

  first_five : (h : List ℕ) → w.head ≡ h → take 5 run ≡ take 5 (h ++ w.after)
  first_five h e = ap (take 5) w.at ∙ ap (λ (z : List ℕ). take 5 (z ++ w.after)) e

  -- of a run of version 2 that is the image itself
  pub current_image : take 5 run ≡ versioned 2 → image_in w ≡ take n run
  current_image v = go w.front
    where
      go : Front w.list w.head → image_in w ≡ take n run
      go (current e) = image_is w.list w.holds.content ∙ ap (λ (h : List ℕ). h ++ body_in) (sym e) ∙ sym first_is
      go (earlier b e) = absurd (versions_differ (sym (five_of 1 w.after) ∙ sym (first_five (versioned 1) e) ∙ v))

  -- of one of version 1, which is a statement's, it has the same items after version 2 and the kind byte 1
  pub former_image : take 5 run ≡ versioned 1 → image_in w ≡ versioned 2 ++ (1 ∷ drop 5 (take n run))
  former_image v = go w.front
    where
      go : Front w.list w.head → image_in w ≡ versioned 2 ++ (1 ∷ drop 5 (take n run))
      go (current e) = absurd (versions_differ (sym v ∙ first_five (header w.list) e ∙ header_five w.list w.after))
      go (earlier b e) =
          image_is w.list w.holds.content ∙ ap (λ (h : List ℕ). h ++ body_in) (header_is w.list) ∙ append_assoc (versioned 2) (w.list.byte ∷ []) body_in
          ∙ ap₂ (λ (k : ℕ) (u : List ℕ). versioned 2 ++ (k ∷ u)) b (sym (ap (drop 5) (first_is ∙ ap (λ (h : List ℕ). h ++ body_in) e) ∙ drop_at (versioned 1) body_in 5 five_long))
