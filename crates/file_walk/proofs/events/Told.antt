-- What is told after a place of a text, by the token there, and how events run on. Assumes nothing.
use Rattle.std.specs.Prelude.{Ok}
use mathlib.Core.Path.{◌≡◌, refl, sym, ◌∙◌, ap}
use mathlib.Core.Logic.{◌≢◌}
use mathlib.Core.List.{List, [], ◌∷◌}
use Prim.Native.Nat.{ℕ, suc, ◌+◌, ◌<◌}
use native.Mathlib.Omega.{arith}
use lib.ListN.{length}
use Rattle.text_characters.specs.Pieces.{Piece, spell}
use Rattle.list.specs.Listing.{Listing}
use Rattle.xml.specs.Message.{Attrs, Inside, nothing_inside, character, element}
use Rattle.xml_tags.specs.declared.token.Kind.{Kind as Mark}
use Rattle.xml_tags.specs.declared.token.Kind.TheVariants.{Open, Empty, Close, End}
use Rattle.xml_tags.specs.Story.{Event, enter, leave, events, chars, Text, token_in, Tagged, Tells, enters, passes, leaves, ends}
use Rattle.file_walk.specs.mirror.Machine.{Speller, before, after, run, emits}
use Rattle.file_walk.proofs.bytes.Stands.{Closing}

-- ---- what is told after a place, by the token there

pub data Told (s : List ℕ) (o : ℕ) (es : List Event) : Type 0 where
  by_open : (ps : List Piece) (n : List ℕ) (ats : Attrs) (more : List Event) → es ≡ chars o ps (enter (token_in s o).less n ats ∷ more)
      → (token_in s o).kind ≡ Open → Text s o (token_in s o).less ps → Tagged s (token_in s o) n ats → Tells s (token_in s o).end more → Told s o es
  by_empty : (ps : List Piece) (n : List ℕ) (ats : Attrs) (more : List Event) → es ≡ chars o ps (enter (token_in s o).less n ats ∷ leave ∷ more)
      → (token_in s o).kind ≡ Empty → Text s o (token_in s o).less ps → Tagged s (token_in s o) n ats → Told s o es
  by_close : (ps : List Piece) (more : List Event) → es ≡ chars o ps (leave ∷ more)
      → (token_in s o).kind ≡ Close → Text s o (token_in s o).less ps → Tells s (token_in s o).end more → Told s o es
  by_end : es ≡ [] → Told s o es

pub told_of : {s : List ℕ} {o : ℕ} {es : List Event} → Tells s o es → Told s o es
told_of (enters {o} {ps} {n} {ats} {more} k x g m) = by_open ps n ats more refl k x g m
told_of (passes {o} {ps} {n} {ats} {more} k x g m) = by_empty ps n ats more refl k x g
told_of (leaves {o} {ps} {more} k x m) = by_close ps more refl k x m
told_of (ends k) = by_end refl

-- what goes on is no end
abbrev rank : Mark → ℕ
rank Open = 0
rank Empty = 1
rank Close = 2
rank End = 3

pub goes_on : (k x : Mark) → k ≡ x → rank x < 3 → k ≢ End
goes_on k x e h = λ f. let z : rank x ≡ 3 = ap rank (sym e ∙ f) in omega arith

-- ---- events

pub closing_text : (n o : ℕ) (ps : List Piece) (more : List Event) → Closing n (chars o ps more) → Closing n more
closing_text n o [] more h = h
closing_text n o (p ∷ ps) more h = closing_text n (o + length (spell p)) ps more h

-- the parts of a message open nothing that they don't close
pub closing_events : (p : Inside) (n : ℕ) (more : List Event) → Closing n more → Closing n (events p more)
closing_events nothing_inside n more h = h
closing_events (character o x k) n more h = closing_events k n more h
closing_events (element o m ats i k) n more h = closing_events i (suc n) (leave ∷ events k more) (closing_events k n more h)

module _ (T : Speller) (l : Listing) where
  -- after the root nothing is found or handed out
  pub run_after : (es : List Event) → run T l after es ≡ Ok tt
  unfolding run
  run_after [] = refl
  run_after (e ∷ es) = run_after es

  pub emits_after : (es : List Event) → emits T l after es ≡ []
  unfolding emits
  emits_after [] = refl
  emits_after (e ∷ es) = emits_after es

  -- before the root a text is passed over
  pub run_before : (o : ℕ) (ps : List Piece) (more : List Event) → run T l before (chars o ps more) ≡ run T l before more
  unfolding run
  run_before o [] more = refl
  run_before o (p ∷ ps) more = run_before (o + length (spell p)) ps more

  pub emits_before : (o : ℕ) (ps : List Piece) (more : List Event) → emits T l before (chars o ps more) ≡ emits T l before more
  unfolding emits
  emits_before o [] more = refl
  emits_before o (p ∷ ps) more = emits_before (o + length (spell p)) ps more
