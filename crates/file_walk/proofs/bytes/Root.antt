-- The root's tag over bytes does what the walk over events does, in the text of a good tree. Assumes nothing.
use Rattle.std.specs.Prelude.{Ok, Err}
use mathlib.Core.Path.{◌≡◌, refl, sym, ◌∙◌, ap, ap₂, subst}
use mathlib.Core.Logic.{◌≢◌, inl}
use mathlib.Core.Bool.{Bool, true, false, ◌&&◌, not}
use mathlib.Core.List.{List, [], ◌∷◌, ◌++◌}
use mathlib.Core.Option.{Option}
use Prim.Native.Nat.{ℕ, ◌+◌, ◌≤◌, ◌<◌}
use native.Mathlib.Omega.{arith}
use lib.ListN.{length, length-append}
use borrow.Author.Tests.{lt-ltb}
use Rattle.answer.specs.declared.Answer.{Answer}
use Rattle.answer.specs.Table as table
use Rattle.text.specs.Lists.{same}
use Rattle.text_characters.specs.Pieces.{Piece, spell}
use Rattle.list.specs.Listing.{Listing, is_group}
use Rattle.list.specs.WellFormed.{WellFormed}
use Rattle.list.specs.tables.Table.{cell, list_of}
use Rattle.list.specs.tables.Sound.{Sound}
use Rattle.list.proofs.rows.Rows.{size_is, name_is}
use Rattle.list.proofs.sound.Tests.{by_cases}
use Rattle.xml.specs.House.{Markup, no_more, piece, empty_tag, full, render, OneElement, declaration, Tree, whole as text, GoodTree}
use Rattle.xml.specs.Message.{Attrs, Inside, nothing_inside, character, element, parts_of, message_of, root_at}
use Rattle.xml_tags.specs.declared.token.Kind.{Kind as Mark}
use Rattle.xml_tags.specs.declared.token.Kind.TheVariants.{Open, Empty, End}
use Rattle.xml_tags.specs.declared.token.Token.{Token}
use Rattle.xml_tags.specs.mirror.Tokens.{start_of}
use Rattle.xml_tags.specs.Story.{Event, char, enter, leave, events, chars, token_in, Tagged, Tells}
use Rattle.xml_tags.proofs.Tokens.{Ahead, token_within}
use Rattle.xml_tags.proofs.Story.{start_root, start_opens, told}
use Rattle.file_walk.specs.declared.level.Level.{Level}
use Rattle.file_walk.specs.declared.step.Here.{Here}
use Rattle.file_walk.specs.First.{refuse, or_else, kind_of, is_root, first_violation}
use Rattle.file_walk.specs.Denotes.{OneElement as Single}
use Rattle.file_walk.specs.mirror.Machine.{Speller, judge_of, before, at, after, fresh, run, walk, emits}
use Rattle.file_walk.specs.mirror.Tables.{fresh_in, levels}
use Rattle.file_walk.specs.mirror.Begin.{is_first_in, is_root_in, root_at as root_in_lem, Rooted, refused_at, rooted_in, hollow_in, found_in, begin_by, begin_in, unrooted}
use Rattle.file_walk.proofs.violation.Answers.{attrs_group}
use Rattle.file_walk.proofs.Carrying.{root_judged}
use Rattle.file_walk.proofs.bytes.Sound.{fresh_in_lem}
use Rattle.file_walk.proofs.calls.Whole.{closes_empty}
use Rattle.file_walk.proofs.events.Machine.{walk_is}
use Rattle.file_walk.proofs.events.Told.{Told, by_open, by_empty, by_close, by_end, told_of, goes_on, closing_text, closing_events, run_before, emits_before}
use Rattle.file_walk.proofs.bytes.Stands.{Closing, Stands, Began, denied, starts}
use Rattle.file_walk.proofs.bytes.OneStep.{no_amount_lem}

-- ---- the message of a tree is one element

pub one_element : (i : Markup) (o : ℕ) → OneElement i → Single (parts_of o i)
one_element no_more o h = absurd h
one_element (piece p i) o h = absurd h
one_element (empty_tag t i) o h = ap (parts_of _) h
one_element (full t j g i) o h = ap (parts_of _) h

-- so there are events
some_events : (i : Markup) (o : ℕ) → OneElement i → 0 < length (events (parts_of o i) [])
some_events no_more o h = absurd h
some_events (piece p i) o h = absurd h
some_events (empty_tag t i) o h = omega arith
some_events (full t j g i) o h = omega arith

-- what the walk over events finds is the first violation of a tree's message
pub first_is : (T : Speller) (l : Listing) → WellFormed l → (m : Tree) → GoodTree m → first_violation (judge_of T) l (message_of m) ≡ run T l before (events (message_of m) [])
unfolding walk
first_is T l w m g = sym (walk_is T l w (message_of m) (one_element m.root (root_at m) g.one))

-- ---- the root's tag keeps to a list, by the message and by its events

abbrev pub rooted : Listing → Inside → Bool
rooted l nothing_inside = false
rooted l (character o x k) = false
rooted l (element o n ats i k) = is_root l n ats

module _ (l : Listing) where
  abbrev rooted_by : List Event → Bool
  rooted_by [] = false
  rooted_by (char o x ∷ es) = rooted_by es
  rooted_by (enter o n ats ∷ es) = is_root l n ats
  rooted_by (leave ∷ es) = false

  rooted_events : (i : Markup) (o : ℕ) → OneElement i → rooted_by (events (parts_of o i) []) ≡ rooted l (parts_of o i)
  rooted_events no_more o h = absurd h
  rooted_events (piece p i) o h = absurd h
  rooted_events (empty_tag t i) o h = refl
  rooted_events (full t j g i) o h = refl

  rooted_behind : (o : ℕ) (ps : List Piece) (es : List Event) → rooted_by (chars o ps es) ≡ rooted_by es
  rooted_behind o [] es = refl
  rooted_behind o (p ∷ ps) es = rooted_behind (o + length (spell p)) ps es

start_within : (m : Tree) → GoodTree m → start_of (text m) ≤ length (text m)
start_within m g =
    let d = declaration m.declared in
    let r = render m.root ++ m.after in
    omega (arith, start_root m g, length-append d (m.before ++ r), length-append m.before r)

-- ---- the root's name and attributes, by the places of its token

module _ (t pool s : List ℕ) (sd : Sound t pool) where
  abbrev l : Listing
  l = list_of t pool

  root_is : (k : Token) (n : List ℕ) (ats : Attrs) → k.less < length s → Tagged s k n ats → is_root_in t pool s k.less k.stop k.attributes ≡ is_root l n ats
  unfolding is_root_in is_first_in
  root_is k n ats h g =
      let one : 1 ≤ cell t 0 0 = subst (λ z. 1 ≤ z) (size_is t pool) (omega (arith, sd.well.root.0)) in
      rw (lt-ltb k.less (length s) h)
      (ap₂ ◌&&◌ (ap₂ same (sym (name_is t pool 1 (omega arith) one)) g.name) (root_judged t pool s sd ats k.attributes k.stop g.count g.attributes))

module _ (T : Speller) (t pool : List ℕ) (sd : Sound t pool) (m : Tree) (good : GoodTree m) where
  abbrev s : List ℕ
  s = text m

  abbrev es : List Event
  es = events (message_of m) []

  abbrev list : Listing
  list = list_of t pool

  abbrev k : Token
  k = token_in s (start_of s)

  ahead : Ahead (start_of s) (length s) k
  ahead = token_within s (start_of s) (start_within m good)

  abbrev Goal : Type 0
  Goal = Began T t pool s sd m (begin_in t pool s)

  to : (x : Rooted) → x ≡ begin_in t pool s → Began T t pool s sd m x → Goal
  to x e v = subst (λ z. Began T t pool s sd m z) e v

  by_kind : (q : Mark) → k.kind ≡ q → found_in t pool s q k ≡ begin_in t pool s
  unfolding begin_by
  by_kind q e = ap (λ z. found_in t pool s z k) (sym e) ∙ ap (begin_by t pool s) (sym (start_opens m good))

  root_group : is_group (kind_of list 1) ≡ true
  root_group = ap is_group sd.well.root.1

  fresh_is : fresh list 1 k.less ≡ fresh_in t 1 k.less
  fresh_is = sym (fresh_in_lem t pool sd 1 k.less (omega (arith, sd.well.root.0)))

  module _ (ps : List Piece) (n : List ℕ) (ats : Attrs) (more : List Event) (is : es ≡ chars (start_of s) ps (enter k.less n ats ∷ more)) (g : Tagged s k n ats) (going : k.kind ≢ End) where
    abbrev b : Bool
    b = is_root_in t pool s k.less k.stop k.attributes

    test_is : b ≡ is_root list n ats
    test_is = root_is t pool s sd k n ats (omega (arith, ahead.on going, ahead.within)) g

    found_root : run T list before es ≡ or_else (refuse (not b) (table.wrong_root k.less)) (run T list (at (fresh list 1 k.less) [] [] []) more)
    unfolding run
    found_root = ap (run T list before) is ∙ run_before T list (start_of s) ps (enter k.less n ats ∷ more)
        ∙ ap (λ z. or_else (refuse (not z) (table.wrong_root k.less)) (run T list (at (fresh list 1 k.less) [] [] []) more)) (sym test_is)

    handed_root : emits T list before es ≡ (1, Option.none) ∷ emits T list (at (fresh list 1 k.less) [] [] []) more
    unfolding emits
    handed_root = ap (emits T list before) is ∙ emits_before T list (start_of s) ps (enter k.less n ats ∷ more)

    -- where the walk stands after the root's tag
    abbrev root : Here
    root = root_in_lem t k.less k.end

    -- a violation that is the first
    denies : (a : Answer) → run T list before es ≡ Err a → Began T t pool s sd m (Err (refused_at root a))
    denies a e = denied (refused_at root a) refl e

    not_root : b ≡ false → Began T t pool s sd m (Err (refused_at root (table.wrong_root k.less)))
    not_root e = denies (table.wrong_root k.less) (found_root ∙ ap (λ z. or_else (refuse (not z) (table.wrong_root k.less)) (run T list (at (fresh list 1 k.less) [] [] []) more)) e)

    found_in_lem : b ≡ true → run T list before es ≡ run T list (at (fresh list 1 k.less) [] [] []) more
    found_in_lem e = found_root ∙ ap (λ z. or_else (refuse (not z) (table.wrong_root k.less)) (run T list (at (fresh list 1 k.less) [] [] []) more)) e

    stands_root : Tells s k.end more → (st : List Level) → length st ≡ 16 → Stands T t pool s sd st root [] [] more
    unfolding levels
    stands_root tells st e = record {
      room = e;
      around = refl;
      placed = record { low = omega arith; high = omega (arith, sd.well.root.0); last = inl refl };
      nested = refl;
      within = ahead.within;
      tells = tells;
      closing = closing_text 0 (start_of s) ps (enter k.less n ats ∷ more) (subst (Closing 0) is (closing_events (message_of m) 0 [] refl));
      attrs = attrs_group (judge_of T) (kind_of list 1) [] root_group refl;
      coin = λ z. absurd (no_amount_lem (kind_of list 1) root_group z);
      capitals = λ z. absurd (no_amount_lem (kind_of list 1) root_group z);
    }

    open_began : k.kind ≡ Open → Tells s k.end more → Goal
    unfolding rooted_in
    open_began kind tells = by_cases b
        (λ e. to (Ok root) (ap (λ z. rooted_in z root k.less) (sym e) ∙ by_kind Open kind)
        (starts root refl (record {
          rest = more;
          stands = stands_root tells;
          found = found_in_lem e ∙ ap (λ z. run T list (at z [] [] []) more) fresh_is;
          handed = handed_root ∙ ap (λ z. (1, Option.none) ∷ emits T list (at z [] [] []) more) fresh_is;
        })))
        (λ e. to (Err (refused_at root (table.wrong_root k.less))) (ap (λ z. rooted_in z root k.less) (sym e) ∙ by_kind Open kind) (not_root e))

    empty_began : (rest : List Event) → more ≡ leave ∷ rest → k.kind ≡ Empty → Goal
    unfolding hollow_in run
    empty_began rest f kind = by_cases b
        (λ e. to (Err (refused_at root (table.empty 1 k.less))) (ap (λ z. Err (refused_at root (hollow_in z k.less))) (sym e) ∙ by_kind Empty kind)
        (denies (table.empty 1 k.less) (found_in_lem e ∙ ap (run T list (at (fresh list 1 k.less) [] [] [])) f
        ∙ ap (λ z. or_else z (run T list after rest)) (closes_empty T list (kind_of list (fresh list 1 k.less).row) 1 k.less []))))
        (λ e. to (Err (refused_at root (table.wrong_root k.less))) (ap (λ z. Err (refused_at root (hollow_in z k.less))) (sym e) ∙ by_kind Empty kind) (not_root e))

  began_by : Told s (start_of s) es → Goal
  began_by (by_open ps n ats more is kind x g tells) = open_began ps n ats more is g (goes_on k.kind Open kind (omega arith)) kind tells
  began_by (by_empty ps n ats more is kind x g) = empty_began ps n ats (leave ∷ more) is g (goes_on k.kind Empty kind (omega arith)) more refl kind
  began_by (by_close ps more is kind x tells) = absurd (closing_text 0 (start_of s) ps (leave ∷ more) (subst (Closing 0) is (closing_events (message_of m) 0 [] refl)))
  began_by (by_end is) = absurd (omega (arith, some_events m.root (root_at m) good.one, ap length is))

  pub began : Began T t pool (text m) sd m (begin_in t pool (text m))
  began = began_by (told_of (told m good))

  -- ---- what is met there says whether the root keeps to the list

  module _ (ps : List Piece) (n : List ℕ) (ats : Attrs) (more : List Event) (is : es ≡ chars (start_of s) ps (enter k.less n ats ∷ more)) (g : Tagged s k n ats) (going : k.kind ≢ End) where
    kept_is : is_root_in t pool s k.less k.stop k.attributes ≡ rooted list (message_of m)
    kept_is = test_is ps n ats more is g going ∙ sym (ap (rooted_by list) is ∙ rooted_behind list (start_of s) ps (enter k.less n ats ∷ more)) ∙ rooted_events list m.root (root_at m) good.one

  met_by : (q : Mark) → k.kind ≡ q → unrooted (begin_in t pool s) ≡ unrooted (found_in t pool s q k)
  met_by q e = ap unrooted (sym (by_kind q e))

  open_kept : (b : Bool) (here : Here) (less : ℕ) → unrooted (rooted_in b here less) ≡ not b
  unfolding rooted_in
  open_kept true here less = refl
  open_kept false here less = refl

  empty_kept : (b : Bool) (here : Here) (less : ℕ) → unrooted (Err (refused_at here (hollow_in b less))) ≡ not b
  unfolding hollow_in
  empty_kept true here less = refl
  empty_kept false here less = refl

  keeps_by : Told s (start_of s) es → unrooted (begin_in t pool s) ≡ not (rooted list (message_of m))
  keeps_by (by_open ps n ats more is kind x g tells) =
      met_by Open kind ∙ open_kept (is_root_in t pool s k.less k.stop k.attributes) (root_in_lem t k.less k.end) k.less
      ∙ ap not (kept_is ps n ats more is g (goes_on k.kind Open kind (omega arith)))
  keeps_by (by_empty ps n ats more is kind x g) =
      met_by Empty kind ∙ empty_kept (is_root_in t pool s k.less k.stop k.attributes) (root_in_lem t k.less k.end) k.less
      ∙ ap not (kept_is ps n ats (leave ∷ more) is g (goes_on k.kind Empty kind (omega arith)))
  keeps_by (by_close ps more is kind x tells) = absurd (closing_text 0 (start_of s) ps (leave ∷ more) (subst (Closing 0) is (closing_events (message_of m) 0 [] refl)))
  keeps_by (by_end is) = absurd (omega (arith, some_events m.root (root_at m) good.one, ap length is))

  pub keeps : unrooted (begin_in t pool (text m)) ≡ not (rooted (list_of t pool) (message_of m))
  keeps = keeps_by (told_of (told m good))
