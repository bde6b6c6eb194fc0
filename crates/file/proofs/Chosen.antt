-- "The namespace chooses the list": a list that the root's xmlns names is the one chosen, some list always is, and two that are say the same of a file.
-- Assumes nothing.
use Rattle.std.specs.Prelude.{Err}
use mathlib.Core.Path.{◌≡◌, refl, sym, ◌∙◌, ap, subst}
use mathlib.Core.Logic.{inl, inr}
use mathlib.Core.Bool.{Bool, true, false, cond, ◌||◌, not, true≢false}
use mathlib.Core.List.{List, [], ◌∷◌, head-eq_of_cons-eq, nil≢cons}
use Prim.Native.Nat.{ℕ}
use Rattle.answer.specs.declared.Answer.{Answer}
use Rattle.answer.specs.Table as table
use Rattle.text.specs.Bytes.{ascii}
use Rattle.text.specs.Lists.{same}
use Rattle.text.proofs.Parts.{same_eq, same_of}
use Rattle.list.specs.Listing.{Listing}
use Rattle.list.specs.Content.{Content}
use Rattle.list.specs.Within.{Among}
use Rattle.list_house.specs.House.{house}
use Rattle.list_house.specs.Lists.{asked}
use Rattle.list_house.proofs.Lists.{spaces_tell}
use Rattle.value.specs.Value.{Value}
use Rattle.xml.specs.Message.{Attrs, Inside, nothing_inside, character, element}
use Rattle.file_walk.specs.Types.{Types, Judge}
use Rattle.file_walk.specs.First.{Found, First, refuse, or_else, first_of, text_of, is_hint, unhinted, kind_of, is_root, child_rows, closing, inside, first_violation}
use Rattle.file_walk.specs.Denotes.{Has}
use Rattle.file_walk.proofs.violation.Attrs.{root_tag}
use Rattle.file.specs.Instance.{Kinds, house_kinds}
use Rattle.file.specs.File.{Whole, message_in, root_of, File}
use Rattle.file.specs.Checks.{Answers, long, bad_bytes, markup, violation, room, imaged, value_of, Chosen, Checks, Filed}
use Rattle.file.proofs.answers.One.{message_one}

-- what xmlns says on a message's root
abbrev pub space_in : Inside → List ℕ
space_in m = value_of (ascii "xmlns") (root_of m)

-- ---- a root that is the list's says its namespace

prefix_other : same (ascii "xmlns") (ascii "xmlns:xsi") ≡ false
unfolding same
prefix_other = refl

location_other : same (ascii "xmlns") (ascii "xsi:schemaLocation") ≡ false
unfolding same
location_other = refl

-- no hint is called xmlns
hint_other : (n : List ℕ) → is_hint n ≡ true → same (ascii "xmlns") n ≡ false
hint_other n e = go (same (ascii "xmlns:xsi") n) refl e
  where
    go : (b : Bool) → same (ascii "xmlns:xsi") n ≡ b → (b || same (ascii "xsi:schemaLocation") n) ≡ true → same (ascii "xmlns") n ≡ false
    go true h t = ap (same (ascii "xmlns")) (sym (same_eq (ascii "xmlns:xsi") n h)) ∙ prefix_other
    go false h t = ap (same (ascii "xmlns")) (sym (same_eq (ascii "xsi:schemaLocation") n t)) ∙ location_other

value_besides : (ats : Attrs) (space : List ℕ) → unhinted ats ≡ (ascii "xmlns", space) ∷ [] → value_of (ascii "xmlns") ats ≡ space
value_besides [] space e = absurd (nil≢cons e)
value_besides (a ∷ ats) space e = go (is_hint a.0) refl e (value_besides ats space)
  where
    go : (b : Bool) → is_hint a.0 ≡ b → cond b (unhinted ats) (a ∷ unhinted ats) ≡ (ascii "xmlns", space) ∷ []
        → (unhinted ats ≡ (ascii "xmlns", space) ∷ [] → value_of (ascii "xmlns") ats ≡ space) → cond (same (ascii "xmlns") a.0) a.1 (value_of (ascii "xmlns") ats) ≡ space
    go true h f ih = ap (λ (x : Bool). cond x a.1 (value_of (ascii "xmlns") ats)) (hint_other a.0 h) ∙ ih f
    go false h f ih =
        let p = head-eq_of_cons-eq f in
        ap (λ (x : Bool). cond x a.1 (value_of (ascii "xmlns") ats)) (same_of (ascii "xmlns") a.0 (sym (ap (λ (y : List ℕ × List ℕ). y.0) p))) ∙ ap (λ (y : List ℕ × List ℕ). y.1) p

module _ (l : Listing) where
  pub root_space : (n : List ℕ) (ats : Attrs) → is_root l n ats ≡ true → value_of (ascii "xmlns") ats ≡ l.space
  root_space n ats e = value_besides ats l.space ((root_tag l n ats).0 e).attrs.besides

  -- and one that is not is what is found first: 4
  first_unrooted : (j : Judge) (o : ℕ) (n : List ℕ) (ats : Attrs) (i k : Inside) → is_root l n ats ≡ false → first_violation j l (element o n ats i k) ≡ Err (table.wrong_root o)
  unfolding first_violation
  first_unrooted j o n ats i k e =
      ap (λ (b : Bool). or_else (refuse (not b) (table.wrong_root o)) (first_of (inside j l 1 [] i ∷ closing j l (kind_of l 1) 1 o ats (child_rows l 1 i) (text_of i) ∷ []))) e

  module _ (t : Types) where
    pub unrooted : (o : ℕ) (n : List ℕ) (ats : Attrs) (i k : Inside) (f : Found) → is_root l n ats ≡ false → First t l (element o n ats i k) f → f ≡ Err (table.wrong_root o)
    unrooted o n ats i k f e x = sym x.is ∙ first_unrooted x.judge o n ats i k e

    pub has_space : (m : Inside) (c : Content t.A) → Has t l m c → space_in m ≡ l.space
    has_space nothing_inside c h = absurd h
    has_space (character o x k) c h = absurd h
    has_space (element o n ats i k) c h = root_space n ats h.root

-- ---- so it is the list that is chosen

pub spaced_chosen : (l : Listing) → Among l asked → (m : Inside) → space_in m ≡ l.space → Chosen m l
spaced_chosen l i m e k j f = spaces_tell l k i j (sym e ∙ f)

pub rooted_chosen : (l : Listing) → Among l asked → (o : ℕ) (n : List ℕ) (ats : Attrs) (i k : Inside) → is_root l n ats ≡ true → Chosen (element o n ats i k) l
rooted_chosen l a o n ats i k e = spaced_chosen l a (element o n ats i k) (root_space l n ats e)

-- of a good file it is the file's own, whatever list is said to be chosen
pub file_chosen : (k : Kinds) (s : List ℕ) (l : Listing) (c : Content k.types.A) → Among l asked → File k l s c → (w : Whole s) → Chosen (message_in w) l
file_chosen k s l c i f w = spaced_chosen l i (message_in w) (ap space_in (message_one s w f.whole) ∙ has_space l k.types (message_in f.whole) c f.has)

pub file_list : (k : Kinds) (s : List ℕ) (l m : Listing) (c : Content k.types.A) → Among l asked → File k l s c → ((w : Whole s) → Chosen (message_in w) m) → m ≡ l
file_list k s l m c i f p = p f.whole l i (has_space l k.types (message_in f.whole) c f.has)

-- ---- some list is chosen: the first with the namespace, or else the first of all

abbrev choose : Listing → List Listing → List ℕ → Listing
choose d [] v = d
choose d (l ∷ ls) v = cond (same v l.space) l (choose d ls v)

choose_among : (d : Listing) (ls : List Listing) (v : List ℕ) → Among (choose d ls v) (d ∷ ls)
choose_among d [] v = inl refl
choose_among d (l ∷ ls) v = go (same v l.space) (choose_among d ls v)
  where
    go : (b : Bool) → Among (choose d ls v) (d ∷ ls) → Among (cond b l (choose d ls v)) (d ∷ l ∷ ls)
    go true h = inr (inl refl)
    go false (inl e) = inl e
    go false (inr e) = inr (inr e)

-- where some list has the namespace, the one that is taken has it
choose_spaced : (d : Listing) (ls : List Listing) (v : List ℕ) (k : Listing) → Among k ls → v ≡ k.space → v ≡ (choose d ls v).space
choose_spaced d [] v k i e = absurd i
choose_spaced d (l ∷ ls) v k i e = go (same v l.space) refl i (λ j. choose_spaced d ls v k j e)
  where
    go : (b : Bool) → same v l.space ≡ b → Among k (l ∷ ls) → (Among k ls → v ≡ (choose d ls v).space) → v ≡ (cond b l (choose d ls v)).space
    go true h j ih = same_eq v l.space h
    go false h (inl f) ih = absurd (true≢false (sym (same_of v l.space (e ∙ ap (λ (x : Listing). x.space) f)) ∙ h))
    go false h (inr j) ih = ih j

unfoldable pub list_for : Inside → Listing
list_for m = choose house asked (space_in m)

pub list_among : (m : Inside) → Among (list_for m) asked
unfolding list_for
list_among m = go (choose_among house asked (space_in m))
  where
    go : Among (choose house asked (space_in m)) (house ∷ asked) → Among (choose house asked (space_in m)) asked
    go (inl e) = inl e
    go (inr i) = i

list_spaced : (m : Inside) (k : Listing) → Among k asked → space_in m ≡ k.space → space_in m ≡ (list_for m).space
unfolding list_for
list_spaced m k = choose_spaced house asked (space_in m) k

pub list_chosen : (m : Inside) → Chosen m (list_for m)
list_chosen m k i e = spaces_tell (list_for m) k (list_among m) i (sym (list_spaced m k i e) ∙ e)

-- ---- two lists that are chosen: they are one, or the root is neither's and what is found is 4

none_rooted : (j : Judge) (m : Inside) → ((k : Listing) → Among k asked → space_in m ≡ k.space → ⊥) → (l k : Listing) → Among l asked → Among k asked → first_violation j k m ≡ first_violation j l m
unfolding first_violation
none_rooted j nothing_inside none l k a b = refl
none_rooted j (character o x i) none l k a b = refl
none_rooted j (element o n ats i z) none l k a b = first_unrooted k j o n ats i z (other k b) ∙ sym (first_unrooted l j o n ats i z (other l a))
  where
    other : (p : Listing) → Among p asked → is_root p n ats ≡ false
    other p c = go (is_root p n ats) refl
      where
        go : (r : Bool) → is_root p n ats ≡ r → r ≡ false
        go true h = absurd (none p c (root_space p n ats h))
        go false h = refl

module _ (l k : Listing) (a : Among l asked) (b : Among k asked) where
  pub first_alike : (t : Types) (m : Inside) (f : Found) → Chosen m l → Chosen m k → First t l m f → First t k m f
  first_alike t m f p q x = go (same (space_in m) (list_for m).space) refl
    where
      go : (r : Bool) → same (space_in m) (list_for m).space ≡ r → First t k m f
      go true h =
          let e = same_eq (space_in m) (list_for m).space h in
          subst (λ (z : Listing). First t z m f) (p (list_for m) (list_among m) e ∙ sym (q (list_for m) (list_among m) e)) x
      go false h =
          let none : (z : Listing) → Among z asked → space_in m ≡ z.space → ⊥ = λ z i e. true≢false (sym (same_of (space_in m) (list_for m).space (list_spaced m z i e)) ∙ h) in
          record { judge = x.judge; decides = x.decides; is = none_rooted x.judge m none l k a b ∙ x.is }

  -- what is answered by the one is answered by the other. Codes 1 to 3 do not look at the list, and a good file has its own
  pub answers_alike : (t : Kinds) (s d : List ℕ) (x : Answer) (d' : List ℕ) → ((w : Whole s) → Chosen (message_in w) l) → ((w : Whole s) → Chosen (message_in w) k) → Answers t l s d x d' → Answers t k s d x d'
  answers_alike t s d x d' p q (long h e f) = long h e f
  answers_alike t s d x d' p q (bad_bytes h u n i e f) = bad_bytes h u n i e f
  answers_alike t s d x d' p q (markup h u y n i e f) = markup h u y n i e f
  answers_alike t s d x d' p q (violation w v f) = violation w (first_alike t.types (message_in w) (Err x) (p w) (q w) v) f
  answers_alike t s d x d' p q (room c w h e f) = subst (λ (z : Listing). Answers t z s d x d') (sym (file_list t s l k c a w q)) (room c w h e f)
  answers_alike t s d x d' p q (imaged c w h e f) = subst (λ (z : Listing). Answers t z s d x d') (sym (file_list t s l k c a w q)) (imaged c w h e f)

-- ---- with document 01's types

-- what check answers, by any list that the file chooses
pub checks_over : (s d : List ℕ) (a : Answer) (d' : List ℕ) → Checks s d a d' → (l : Listing) → Among l asked → ((w : Whole s) → Chosen (message_in w) l) → Answers house_kinds l s d a d'
checks_over s d a d' p l i q = answers_alike p.list l p.among i house_kinds s d a d' p.chosen q p.answers

module _ (s : List ℕ) (l : Listing) (c : Content Value) (f : Filed s l c) where
  pub filed_chosen : (w : Whole s) → Chosen (message_in w) l
  filed_chosen = file_chosen house_kinds s l c f.among f.file

  -- by the file's own list
  pub filed_answers : (d : List ℕ) (a : Answer) (d' : List ℕ) → Checks s d a d' → Answers house_kinds l s d a d'
  filed_answers d a d' p = checks_over s d a d' p l f.among filed_chosen

  pub filed_list : (m : Listing) → ((w : Whole s) → Chosen (message_in w) m) → m ≡ l
  filed_list m = file_list house_kinds s l m c f.among f.file
