-- One step of the walk over bytes does what the walk over events does, where the walk stands. Assumes nothing.
use Rattle.std.specs.Prelude.{Ok, Err}
use mathlib.Core.Path.{◌≡◌, refl, sym, ◌∙◌, ap, ap₂, subst}
use mathlib.Core.Logic.{◌≢◌, inl, inr}
use mathlib.Core.Bool.{Bool, true, false, cond, not, true≢false, false≢true}
use mathlib.Core.List.{List, [], ◌∷◌, ◌++◌}
use Prim.Native.Nat.{ℕ, suc, ◌+◌, ◌-◌, ◌≤◌, ◌<◌}
use native.Mathlib.Numerals.{add-one}
use native.Mathlib.Omega.{arith}
use native.Mathlib.Decide.{ℕ_discrete, dec_lt}
use lib.Dec.{eqb, ltb}
use lib.ListN.{length}
use lib.Seq.{slice}
use borrow.Author.Tests.{eqb-false, lt-ltb, le-ltb, not-false}
use Rattle.answer.specs.declared.Answer.{Answer}
use Rattle.answer.specs.Table as table
use Rattle.text_characters.specs.Pieces.{Piece, resolved_all}
use Rattle.list.specs.Listing.{amt, Kind, group, choice, leaf, Listing, Child, child, is_group}
use Rattle.list.specs.tables.Table.{cell, list_of}
use Rattle.list.specs.tables.Sound.{Sound, level}
use Rattle.list.proofs.rows.Child.{child_found}
use Rattle.list.proofs.rows.Levels.{level_root, level_child, level_bound}
use Rattle.list.proofs.rows.Rows.{size_is}
use Rattle.list.proofs.sound.Tests.{by_cases}
use Rattle.xml.specs.Message.{Attrs}
use Rattle.xml_tags.specs.declared.token.Kind.TheVariants.{Open, Empty, Close, End}
use Rattle.xml_tags.specs.declared.token.Token.{Token}
use Rattle.xml_tags.specs.Story.{Event, enter, leave, chars, Text, token_in, Tagged, Tells}
use Rattle.xml_tags.proofs.Tokens.{Ahead, token_within}
use Rattle.xml_tags.proofs.Texts.{text_spells}
use Rattle.file_walk.specs.declared.level.Level.{Level}
use Rattle.file_walk.specs.declared.step.Here.{Here}
use Rattle.file_walk.specs.declared.step.Turn.TheVariants.{Opened, Closed, Ended}
use Rattle.file_walk.specs.First.{Found, refuse, or_else, first_of, currency_given, attrs_ok, kind_of}
use Rattle.file_walk.specs.mirror.Machine.{Speller, verdict_of, judge_of, State, at, pop, fresh, advance, close_test, run, opens, closes, emits}
use Rattle.list.specs.tables.Numbers.{is_group_in}
use Rattle.value.specs.mirror.Judges.{is_currency}
use Rattle.file_walk.specs.mirror.Tables.{fresh_in, advance_in, passed_in, again_in, opening_in, level_at, pushed, levels}
use Rattle.file_walk.specs.mirror.Stride.{own_in, ink_before, end_in, row_in, Stepped, closed_in, entered_in, below_in, vacant_in, step_in, stack_in}
use Rattle.file_walk.proofs.violation.Answers.{or_fine, refuse_no, attrs_group}
use Rattle.file_walk.proofs.bytes.Sound.{fresh_in_lem, advance_in_lem}
use Rattle.file_walk.proofs.events.Items.{closes_group}
use Rattle.file_walk.proofs.calls.Whole.{leaf_hands, group_hands, closes_empty}
use Rattle.file_walk.proofs.bytes.Own.{Coins, own_is, coined}
use Rattle.file_walk.proofs.bytes.Stack.{levels_length, pushed_length, levels_push, levels_top}
use Rattle.file_walk.proofs.calls.Step.{closed_refused, closed_root, closed_outer, vacant_refused, vacant_on, entered_refused, entered_on, step_ink, step_close, step_open, step_empty}
use Rattle.file_walk.proofs.bytes.Joint.{judged, kept, text_run, close_run, row_is, open_run}
use Rattle.file_walk.proofs.events.Told.{Told, by_open, by_empty, by_close, by_end, told_of, goes_on, closing_text, run_after, emits_after}
use Rattle.file_walk.proofs.bytes.Stands.{Closing, Nested, Stands, finds, hands, Turned, refused, opened, closed, whole}

module _ (T : Speller) (l : Listing) where
  pub judged_group : (k : Kind) (r o : ℕ) (ats : Attrs) (cs : List ℕ) → is_group k ≡ true → judged (judge_of T) k r o ats cs ≡ Ok tt
  judged_group group r o ats cs g = refl
  judged_group choice r o ats cs g = refl
  judged_group (leaf f) r o ats cs g = absurd (false≢true g)

  closes_kept : (k : Kind) (r : ℕ) (ats : Attrs) (ps : List Piece) → closes T l k r ats (kept (is_group k) ps) ≡ closes T l k r ats (resolved_all ps)
  closes_kept group r ats ps = refl
  closes_kept choice r ats ps = refl
  closes_kept (leaf f) r ats ps = refl

pub no_amount_lem : (k : Kind) → is_group k ≡ true → k ≡ leaf amt → ⊥
no_amount_lem k g e = true≢false (sym g ∙ ap is_group e)

-- ---- an opening tag in which nothing is found

open_fits : (a b c d : Bool) (u v w x : Answer) → first_of (refuse a u ∷ refuse b v ∷ refuse c w ∷ refuse (not d) x ∷ []) ≡ Ok tt → (a ≡ false) × (d ≡ true)
open_fits a b c d u v w x e =
    let p = or_fine (refuse a u) _ e in
    let q = or_fine (refuse b v) _ p.1 in
    let r = or_fine (refuse c w) _ q.1 in
    (refuse_no a u p.0, not-false d (refuse_no (not d) x (or_fine (refuse (not d) x) (Ok tt) r.1).0))

opening_fits : (t : List ℕ) (lv : Level) (r : ℕ) (own : Bool) (o : ℕ) → opening_in t lv r own o ≡ Ok tt → (eqb r 0 ≡ false) × (own ≡ true)
unfolding opening_in
opening_fits t lv r own o e = open_fits (eqb r 0) (passed_in t lv r) (again_in t lv r) own _ _ _ _ e

module _ (T : Speller) (t pool s : List ℕ) (sd : Sound t pool) (m : Coins (judge_of T)) where
  abbrev l : Listing
  l = list_of t pool

  -- ---- the depth

  root_child : Child l 0 1
  root_child = record { first = omega arith; last = omega (arith, sd.well.root.0); parent = sd.well.root.2 }

  nested_level : (below : List Level) (r : ℕ) → Nested T t pool s sd r below → level l r ≡ suc (length below)
  nested_level [] r e = ap (level l) e ∙ level_child l sd.well 0 1 root_child ∙ ap suc (level_root l)
  nested_level (lv ∷ below) r w = level_child l sd.well lv.row r w.0 ∙ ap suc (nested_level below lv.row w.2)

  -- "Nesting is at most 16, the root being 1"
  nested_most : (below : List Level) (r : ℕ) → Nested T t pool s sd r below → length below ≤ 15
  nested_most [] r e = omega arith
  nested_most (lv ∷ below) r w = omega (arith, nested_level (lv ∷ below) r w, (level_bound l sd.well lv.row r w.0).1)

  module _ (st : List Level) (here : Here) (below : List Level) (ats : Attrs) (es : List Event) (w : Stands T t pool s sd st here below ats es) where
    abbrev lv : Level
    lv = here.level

    abbrev k : Token
    k = token_in s here.at

    abbrev ink : ℕ
    ink = ink_before t s lv.row here.at k.less

    ahead : Ahead here.at (length s) k
    ahead = token_within s here.at w.within

    low : here.at ≤ k.less
    low = ahead.text

    high : k.less ≤ length s
    high = omega (arith, ahead.tag, ahead.within)

    shallow : here.depth ≤ 15
    shallow = omega (arith, nested_most below lv.row w.nested, ap length (sym w.around) ∙ levels_length st here.depth)

    abbrev Goal : Type 0
    Goal = Turned T t pool s sd here below ats es (stack_in t pool s st here) (step_in t pool s st here)

    to : (x : Stepped) (y : List Level) → (x ≡ step_in t pool s st here) × (y ≡ stack_in t pool s st here) → Turned T t pool s sd here below ats es y x → Goal
    to x y e v =
        subst (λ z. Turned T t pool s sd here below ats es z (step_in t pool s st here)) e.1 (subst (λ z. Turned T t pool s sd here below ats es y z) e.0 v)

    -- a violation that is the first
    refuses : (a : Answer) → finds T t pool s sd here below ats es ≡ Err a → Turned T t pool s sd here below ats es st (Err a)
    refuses a e = refused a refl e

    -- ---- the text

    module _ (ps : List Piece) (x : Text s here.at k.less ps) (more : List Event) (is : es ≡ chars here.at ps more) where
      -- after the text
      abbrev inside : State
      inside = at lv below ats (kept (is_group (kind_of l lv.row)) ps)

      found_text : finds T t pool s sd here below ats es ≡ cond (ltb ink k.less) (Err (table.text_in_group lv.row ink)) (run T l inside more)
      found_text = ap (λ z. run T l (at lv below ats []) z) is ∙ text_run T t pool s sd lv w.placed below ats here.at k.less ps low high x more

      handed_text : hands T t pool s sd here below ats es ≡ emits T l inside more
      handed_text = ap (λ z. emits T l (at lv below ats []) z) is ∙ by_cases (is_group (kind_of l lv.row))
          (λ g. group_hands T l lv below ats ps here.at [] more g ∙ ap (λ b. emits T l (at lv below ats (kept b ps)) more) (sym g))
          (λ g. leaf_hands T l lv below ats ps here.at [] more g ∙ ap (λ b. emits T l (at lv below ats (kept b ps)) more) (sym g))

      closing_behind : Closing (suc here.depth) more
      closing_behind = closing_text (suc here.depth) here.at ps more (subst (Closing (suc here.depth)) is w.closing)

      inked : ink < k.less → Goal
      inked h =
          let a = table.text_in_group lv.row ink in
          to (Err a) st (step_ink t pool s st here k refl ink refl a h refl) (refuses a (found_text ∙ rw (lt-ltb ink k.less h)))

      passed_text : k.less ≤ ink → finds T t pool s sd here below ats es ≡ run T l inside more
      passed_text h = found_text ∙ rw (le-ltb ink k.less h)

    -- ---- a closing tag

    module _ (ps : List Piece) (x : Text s here.at k.less ps) (more : List Event) (is : es ≡ chars here.at ps (leave ∷ more))
        (kind : k.kind ≡ Close) (tells : Tells s k.end more) (h : k.less ≤ ink) where
      abbrev in_group : Bool
      in_group = is_group_in (cell t lv.row 2)

      abbrev v : Found
      v = end_in t in_group lv here.at k.less

      found_close : finds T t pool s sd here below ats es
          ≡ or_else v (or_else (judged (judge_of T) (kind_of l lv.row) lv.row lv.place ats (resolved_all ps)) (run T l (pop below) more))
      found_close = passed_text ps x (leave ∷ more) is h ∙ close_run T t pool s sd lv w.placed below ats here.at k.less ps low high x more

      close_to : (y : Stepped) → y ≡ closed_in t in_group st here k.less k.end → Turned T t pool s sd here below ats es st y → Goal
      close_to y e = to y st (step_close t pool s st here k refl ink refl h y in_group kind refl e)

      handed_close : hands T t pool s sd here below ats es ≡ closes T l (kind_of l lv.row) lv.row ats (resolved_all ps) ++ emits T l (pop below) more
      unfolding emits
      handed_close = handed_text ps x (leave ∷ more) is ∙ ap (λ z. z ++ emits T l (pop below) more) (closes_kept T l (kind_of l lv.row) lv.row ats ps)

      -- by what its tests found
      found_by_lem : (f : Found) → v ≡ f → finds T t pool s sd here below ats es ≡ or_else f (or_else (judged (judge_of T) (kind_of l lv.row) lv.row lv.place ats (resolved_all ps)) (run T l (pop below) more))
      found_by_lem f e = found_close ∙ ap (λ g. or_else g (or_else (judged (judge_of T) (kind_of l lv.row) lv.row lv.place ats (resolved_all ps)) (run T l (pop below) more))) e

      close_refused : (a : Answer) → v ≡ Err a → Goal
      close_refused a e = close_to (Err a) (closed_refused t in_group st here k.less k.end v refl a e) (refuses a (found_by_lem (Err a) e))

      module _ (z : v ≡ Ok tt) where
        found_on : finds T t pool s sd here below ats es ≡ or_else (judged (judge_of T) (kind_of l lv.row) lv.row lv.place ats (resolved_all ps)) (run T l (pop below) more)
        found_on = found_by_lem (Ok tt) z

        -- the root's
        close_root : here.depth ≡ 0 → Goal
        unfolding levels
        close_root d =
            let none : below ≡ [] = sym w.around ∙ ap (levels st) d in
            let row : lv.row ≡ 1 = subst (Nested T t pool s sd lv.row) none w.nested in
            let g : is_group (kind_of l lv.row) ≡ true = ap (λ r. is_group (kind_of l r)) row ∙ ap is_group sd.well.root.1 in
            close_to (Ok (Ended k.less)) (closed_root t in_group st here k.less k.end v refl z d)
            (whole k.less refl (record {
              root = d;
              row = row;
              found = found_on ∙ ap₂ or_else (judged_group T l (kind_of l lv.row) lv.row lv.place ats (resolved_all ps) g) (ap (λ b. run T l (pop b) more) none ∙ run_after T l more);
              handed = handed_close ∙ ap₂ ◌++◌ (closes_group T l (kind_of l lv.row) lv.row ats (resolved_all ps) g) (ap (λ b. emits T l (pop b) more) none ∙ emits_after T l more);
            }))

        -- another's
        module _ (d : here.depth ≢ 0) where
          abbrev around : Level
          around = level_at st (here.depth - 1)

          abbrev further : List Level
          further = levels st (here.depth - 1)

          below_is : below ≡ around ∷ further
          below_is = sym w.around ∙ levels_top st here.depth (omega arith)

          nested_in : Nested T t pool s sd lv.row (around ∷ further)
          nested_in = subst (Nested T t pool s sd lv.row) below_is w.nested

          around_group : is_group (kind_of l around.row) ≡ true
          around_group = sd.well.parents around.row lv.row nested_in.0 nested_in.1.low

          abbrev out : Here
          out = record { level = around; depth = here.depth - 1; at = k.end; value = 0; quote = 0 }

          stands_out : Stands T t pool s sd st out further [] more
          stands_out = record {
            room = w.room;
            around = refl;
            placed = nested_in.1;
            nested = nested_in.2;
            within = ahead.within;
            tells = tells;
            closing = subst (λ n. Closing n more) (let e : here.depth ≡ suc (here.depth - 1) = omega arith in e) (closing_behind ps x (leave ∷ more) is);
            attrs = attrs_group (judge_of T) (kind_of l around.row) [] around_group refl;
            coin = λ e. absurd (no_amount_lem (kind_of l around.row) around_group e);
            capitals = λ e. absurd (no_amount_lem (kind_of l around.row) around_group e);
          }

          close_on : Goal
          close_on =
              close_to (Ok (Closed out k.less))
              (closed_outer t in_group st here k.less k.end v refl z d out (omega (arith, shallow)) refl)
              (closed out k.less refl (record {
                deep = omega arith;
                text = low;
                inside = high;
                chars = resolved_all ps;
                spelt = text_spells s here.at k.less ps x;
                outer = further;
                is = below_is;
                rest = more;
                stands = stands_out;
                found = found_on ∙ ap (λ b. or_else (judged (judge_of T) (kind_of l lv.row) lv.row lv.place ats (resolved_all ps)) (run T l (pop b) more)) below_is;
                handed = handed_close ∙ ap (λ b. closes T l (kind_of l lv.row) lv.row ats (resolved_all ps) ++ emits T l (pop b) more) below_is;
                on = omega (arith, low, ahead.on (goes_on k.kind Close kind (omega arith)));
              }))

      close_turned : Goal
      close_turned = go v refl
        where
          go : (f : Found) → v ≡ f → Goal
          go (Ok tt) z = elim (ℕ_discrete here.depth 0) [ yes d ↦ close_root z d | no d ↦ close_on z d ]
          go (Err a) e = close_refused a e

    -- ---- an opening tag

    module _ (ps : List Piece) (x : Text s here.at k.less ps) (n : List ℕ) (new : Attrs) (more : List Event) (is : es ≡ chars here.at ps (enter k.less n new ∷ more))
        (going : k.kind ≢ End) (g : Tagged s k n new) (h : k.less ≤ ink) where
      abbrev r : ℕ
      r = child l lv.row n

      abbrev ok : Bool
      ok = own_in t s r k.attributes k.first

      abbrev u : Found
      u = opening_in t lv r ok k.less

      shorter : k.less < length s
      shorter = omega (arith, ahead.on going, ahead.within)

      found_open : finds T t pool s sd here below ats es ≡ or_else u (run T l (at (fresh l r k.less) (advance l lv r ∷ below) new []) more)
      unfolding run
      found_open = passed_text ps x (enter k.less n new ∷ more) is h
          ∙ ap (λ z. or_else z (run T l (at (fresh l r k.less) (advance l lv r ∷ below) new []) more)) (open_run T t pool s sd lv w.placed m here.at k refl shorter n new g)

      -- by what its tests found
      found_as : (f : Found) → u ≡ f → finds T t pool s sd here below ats es ≡ or_else f (run T l (at (fresh l r k.less) (advance l lv r ∷ below) new []) more)
      found_as f e = found_open ∙ ap (λ g. or_else g (run T l (at (fresh l r k.less) (advance l lv r ∷ below) new []) more)) e

      handed_open : hands T t pool s sd here below ats es ≡ opens T l (kind_of l r) r ++ emits T l (at (fresh l r k.less) (advance l lv r ∷ below) new []) more
      unfolding emits
      handed_open = handed_text ps x (enter k.less n new ∷ more) is

      row : r ≡ row_in t pool s lv k.less k.stop
      row = sym (row_is T t pool s sd lv w.placed m here.at k refl shorter n new g)

      module _ (z : u ≡ Ok tt) where
        its : Child l lv.row r
        its = (child_found l lv.row n r refl (some (opening_fits t lv r ok k.less z).0)).its
          where
            some : eqb r 0 ≡ false → 0 < r
            some e = elim (dec_lt 0 r) [ yes p ↦ p | no p ↦ absurd (eqb-false r 0 e (omega arith)) ]

        fits : attrs_ok (judge_of T) (kind_of l r) new ≡ true
        fits = sym (own_is (verdict_of T) t pool s r its.first (subst (λ y. r ≤ y) (size_is t pool) its.last) m k n new g) ∙ (opening_fits t lv r ok k.less z).1

        fresh_is : fresh_in t r k.less ≡ fresh l r k.less
        fresh_is = fresh_in_lem t pool sd r k.less its.last

        found_in : finds T t pool s sd here below ats es ≡ run T l (at (fresh_in t r k.less) (advance l lv r ∷ below) new []) more
        found_in = found_as (Ok tt) z ∙ ap (λ y. run T l (at y (advance l lv r ∷ below) new []) more) (sym fresh_is)

        handed_in : hands T t pool s sd here below ats es ≡ opens T l (kind_of l r) r ++ emits T l (at (fresh_in t r k.less) (advance l lv r ∷ below) new []) more
        handed_in = handed_open ∙ ap (λ y. opens T l (kind_of l r) r ++ emits T l (at y (advance l lv r ∷ below) new []) more) (sym fresh_is)

        abbrev in' : Here
        in' = record { level = fresh_in t r k.less; depth = here.depth + 1; at = k.end; value = k.first.value; quote = k.first.quote }

        abbrev st' : List Level
        st' = pushed st here.depth (advance_in t lv r)

        nested_child : Nested T t pool s sd r (advance l lv r ∷ below)
        unfolding advance
        nested_child = (its, record { low = w.placed.low; high = w.placed.high; last = inr its }, w.nested)

        coined_in : kind_of l r ≡ leaf amt → (is_currency (slice k.first.value k.first.quote s) ≡ true) × (currency_given new ≡ slice k.first.value k.first.quote s)
        coined_in e = coined (verdict_of T) m s k n new g (subst (λ q. attrs_ok (judge_of T) q new ≡ true) e fits)

        stands_in : Tells s k.end more → Stands T t pool s sd st' in' (advance l lv r ∷ below) new more
        stands_in tells = record {
          room = pushed_length st here.depth (advance_in t lv r) ∙ w.room;
          around = levels_push st here.depth (advance_in t lv r) (omega (arith, shallow, w.room)) ∙ ap₂ (λ (y : Level) (b : List Level). y ∷ b) (advance_in_lem t pool sd lv r w.placed its) w.around;
          placed = record { low = its.first; high = its.last; last = inl refl };
          nested = nested_child;
          within = ahead.within;
          tells = tells;
          closing = subst (λ y. Closing (suc y) more) (sym (add-one here.depth)) (closing_behind ps x (enter k.less n new ∷ more) is);
          attrs = fits;
          coin = λ e. (coined_in e).1;
          capitals = λ e. (coined_in e).0;
        }

      -- of an element that goes on
      module _ (kind : k.kind ≡ Open) (tells : Tells s k.end more) where
        open_to : (y : Stepped) (b : List Level) → (y ≡ entered_in t here r ok k.less k.end k.first) × (b ≡ below_in t st here r ok k.less)
            → Turned T t pool s sd here below ats es b y → Goal
        open_to y b e = to y b (step_open t pool s st here k refl ink refl h r ok row refl y b kind e.0 e.1)

        open_turned : Goal
        open_turned = go u refl
          where
            go : (f : Found) → u ≡ f → Goal
            go (Ok tt) z = open_to (Ok (Opened (in' z))) (st' z)
                (entered_on t here r ok k.less u refl st k.end k.first z (fresh_in t r k.less) (advance_in t lv r) (st' z) shallow refl refl refl)
                (opened (in' z) refl (record {
                  attrs = new;
                  rest = more;
                  stands = stands_in z tells;
                  found = found_in z;
                  handed = handed_in z;
                  on = omega (arith, low, ahead.on going);
                }))
            go (Err a) e = open_to (Err a) st (entered_refused t here r ok k.less u refl st k.end k.first a e) (refuses a (found_as (Err a) e))

    -- of an element without content
    module _ (ps : List Piece) (x : Text s here.at k.less ps) (n : List ℕ) (new : Attrs) (more : List Event) (is : es ≡ chars here.at ps (enter k.less n new ∷ leave ∷ more))
        (kind : k.kind ≡ Empty) (g : Tagged s k n new) (h : k.less ≤ ink) where
      going : k.kind ≢ End
      going = goes_on k.kind Empty kind (omega arith)

      abbrev q : ℕ
      q = child l lv.row n

      abbrev own : Bool
      own = own_in t s q k.attributes k.first

      abbrev y : Found
      y = opening_in t lv q own k.less

      empty_to : (a : Answer) → a ≡ vacant_in t here q own k.less → Turned T t pool s sd here below ats es st (Err a) → Goal
      empty_to z e = to (Err z) st (step_empty t pool s st here k refl ink refl h q own (row ps x n new (leave ∷ more) is going g h) refl z kind e)

      empty_found : y ≡ Ok tt → finds T t pool s sd here below ats es ≡ Err (table.empty q k.less)
      unfolding run
      empty_found z = found_as ps x n new (leave ∷ more) is going g h (Ok tt) z
          ∙ ap (λ f. or_else f (run T l (at (advance l lv q) below [] []) more)) (closes_now q)
        where
          closes_now : (q : ℕ) → close_test T l (kind_of l (fresh l q k.less).row) (fresh l q k.less) new [] ≡ Err (table.empty q k.less)
          closes_now q = closes_empty T l (kind_of l (fresh l q k.less).row) q k.less new

      empty_turned : Goal
      empty_turned = go y refl
        where
          go : (f : Found) → y ≡ f → Goal
          go (Ok tt) z =
              let a = table.empty q k.less in
              empty_to a (vacant_on t here q own k.less y refl a z refl) (refuses a (empty_found z))
          go (Err a) e =
              empty_to a (vacant_refused t here q own k.less y refl a e) (refuses a (found_as ps x n new (leave ∷ more) is going g h (Err a) e))

    -- ---- by what is told

    turned_by : Told s here.at es → Goal
    turned_by (by_open ps n new more is kind x g tells) = elim (dec_lt ink k.less) [
      | yes i ↦ inked ps x (enter k.less n new ∷ more) is i
      | no i ↦ open_turned ps x n new more is (goes_on k.kind Open kind (omega arith)) g (omega arith) kind tells
    ]
    turned_by (by_empty ps n new more is kind x g) = elim (dec_lt ink k.less) [
      | yes i ↦ inked ps x (enter k.less n new ∷ leave ∷ more) is i
      | no i ↦ empty_turned ps x n new more is kind g (omega arith)
    ]
    turned_by (by_close ps more is kind x tells) = elim (dec_lt ink k.less) [
      | yes i ↦ inked ps x (leave ∷ more) is i
      | no i ↦ close_turned ps x more is kind tells (omega arith)
    ]
    turned_by (by_end is) = let z : suc here.depth ≡ 0 = subst (Closing (suc here.depth)) is w.closing in absurd (omega arith)

    pub turned : Turned T t pool s sd here below ats es (stack_in t pool s st here) (step_in t pool s st here)
    turned = turned_by (told_of w.tells)
