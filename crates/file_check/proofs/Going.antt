-- The pass that writes: where it stands, by the walk that finds nothing there, and what each turn adds. Over any types. Assumes nothing.
use Rattle.std.specs.Prelude.{Option as Told, None, Some, IfSome, Ok, Err, is_ok, is_some}
use mathlib.Core.Path.{◌≡◌, refl, sym, ◌∙◌, ap, subst}
use mathlib.Core.Logic.{◌≢◌, ◌⊎◌, inl, inr}
use mathlib.Core.Bool.{Bool, true, false, true≢false}
use mathlib.Core.List.{List, [], ◌∷◌, ◌++◌}
use Prim.Native.Nat.{ℕ, ◌+◌, ◌-◌, ◌≤◌, ◌<◌}
use native.Mathlib.Omega.{arith}
use lib.ListN.{length, drop, replicate, length-replicate}
use lib.Seq.{slice}
use borrow.Author.Tests.{lt-ltb}
use Rattle.answer.specs.Table.{bad_value}
use Rattle.text.specs.Bytes.{is_blank}
use Rattle.text.specs.Lists.{span}
use Rattle.text.specs.Pasting.{pasted}
use Rattle.text.specs.Puts.{Puts}
use Rattle.text_characters.specs.Pieces.{less, greater, solidus}
use Rattle.list.specs.Listing.{Listing, row_at, size, Child, child, is_group}
use Rattle.list.specs.tables.Table.{cell, list_of}
use Rattle.list.specs.tables.Sound.{Sound}
use Rattle.list.proofs.rows.Along.{child_along_lem}
use Rattle.list.proofs.rows.Rows.{size_is, parent_is}
use Rattle.xml.specs.House.{HouseXml}
use Rattle.xml.specs.Message.{message_of}
use Rattle.xml_tags.specs.declared.token.Kind.TheVariants.{Close}
use Rattle.xml_tags.specs.declared.token.Token.{Token}
use Rattle.xml_tags.specs.Marks.{but, head_is, behind}
use Rattle.xml_tags.specs.mirror.Tokens.{open_at}
use Rattle.xml_tags.specs.Story.{events, token_in}
use Rattle.file_walk.specs.declared.step.Here.{Here}
use Rattle.file_walk.specs.declared.level.Level.{Level}
use Rattle.file_walk.specs.declared.step.Turn.TheVariants.{Opened, Closed, Ended}
use Rattle.file_walk.specs.Types.{Spelling}
use Rattle.file_walk.specs.First.{First}
use Rattle.file_walk.specs.mirror.Machine.{Speller, judge_of, speller_of, before, advance, run}
use Rattle.list.specs.tables.Numbers.{is_group_in}
use Rattle.file_walk.specs.mirror.Tables.{no_level}
use Rattle.file_walk.specs.mirror.Stride.{Stepped, row_in, inner, step_in, stack_in}
use Rattle.file_walk.specs.mirror.Begin.{Rooted, begin_in}
use Rattle.file_walk.proofs.bytes.Sound.{Placed, group_in}
use Rattle.file_walk.proofs.bytes.Own.{Coins}
use Rattle.file_walk.proofs.violation.Judges.{first_one}
use Rattle.file_walk.proofs.bytes.Stands.{Nested, Enters, Leaves, refused, opened, closed, whole, Starts, denied, starts, finds}
use Rattle.file_walk.proofs.bytes.Known.{less_is, is_open, close_end, blanks_less, Went, known, there, by_close_lem, by_open_lem}
use Rattle.image.specs.Image.{header}
use Rattle.file.specs.Instance.{Kinds}
use Rattle.file_check.specs.declared.fill.Spot.{Spot}
use Rattle.file_measure.specs.Pass.{Shuts, Passes}
use Rattle.file_check.specs.Fill.{spot_at, Comes}
use Rattle.file_measure.proofs.Leaf.{opens_group, opens_leaf, shuts_group}
use Rattle.file.proofs.answers.One.{fine_found}
use Rattle.file_measure.proofs.Going.{Computed, Going, first_found, begun, begin_opened, goes_first, at_most, steps, step_enters, step_leaves, step_ends, goes_in, goes_out, bad_value_lem, ends_in}

-- a stack to begin with: the walk asks of it only that it has room
room : List Level
room = replicate 16 no_level

room_length : length room ≡ 16
unfolding room
room_length = length-replicate {A = Level} 16 no_level

module _ (cm : Computed) (t pool s : List ℕ) (sd : Sound t pool) (x : HouseXml s) where
  abbrev k : Kinds
  k = cm.kinds

  abbrev T : Speller
  T = speller_of k.types cm.spell

  abbrev l : Listing
  l = list_of t pool

  parent_in : (p r : ℕ) → Child l p r → cell t r 0 ≡ p
  parent_in p r c = sym (parent_is t pool r c.first (omega (arith, c.last, size_is t pool))) ∙ c.parent

  module _ (d₁ : List ℕ) (a₁ : ℕ) where
    -- with d in the buffer up to `at`: the walk stands in the group of this row, at this place
    pub record Writing (d : List ℕ) (here : Spot) (at : ℕ) : Type 0 where
      pub st : List Level
      pub full : Here
      pub going : Going cm t pool s sd x d₁ a₁ d st full at
      pub row : full.level.row ≡ here.row
      pub behind : full.at ≡ here.at
      pub group : is_group (row_at l here.row).kind ≡ true
      pub last : IfSome here.last (Child l here.row)

    module _ (coins : Coins (judge_of T)) (none : First k.types l (message_of x.tree) (Ok tt)) where
      found_none : run T l before (events (message_of x.tree) []) ≡ Ok tt
      found_none = first_one k.types l (message_of x.tree) (run T l before (events (message_of x.tree) [])) (Ok tt) (first_found cm t pool s sd x (run T l before (events (message_of x.tree) [])) refl) none

      -- ---- a step of the walk

      module _ (d : List ℕ) (st : List Level) (full : Here) (at : ℕ) (g : Going cm t pool s sd x d₁ a₁ d st full at) where
        abbrev turn : Stepped
        turn = step_in t pool s st full

        abbrev st' : List Level
        st' = stack_in t pool s st full

        abbrev token : Token
        token = token_in s full.at

        abbrev row : ℕ
        row = full.level.row

        fine_here : finds T t pool s sd full g.below g.ats g.rest ≡ Ok tt
        fine_here = sym g.found ∙ found_none

        goes_on_lem : is_ok turn ≡ true
        goes_on_lem = elim (steps cm t pool s sd x d₁ a₁ d st full at g coins turn st' refl refl) [
          | refused a m w ↦ fine_found _ a fine_here w
          | opened to m w ↦ ap is_ok m
          | closed to n m w ↦ ap is_ok m
          | whole n m w ↦ ap is_ok m
        ]

        pub went : Went t pool s st full turn
        went = (known t pool s st full goes_on_lem).1

        pub enters : (to : Here) → turn ≡ Ok (Opened to) → Enters T t pool s sd full g.below g.ats g.rest st' to
        enters to m = step_enters cm t pool s sd x d₁ a₁ d st full at g coins turn st' refl refl to m

        pub leaves : (to : Here) (n : ℕ) → turn ≡ Ok (Closed to n) → Leaves T t pool s sd full g.below g.ats g.rest st' to n
        leaves to n m = step_leaves cm t pool s sd x d₁ a₁ d st full at g coins turn st' refl refl to n m

        -- an element within another has its row
        pub around : (to : Here) (n : ℕ) → turn ≡ Ok (Closed to n) → Child l to.level.row row × (0 < to.level.row)
        around to n m =
            let w = leaves to n m in
            let e = subst (Nested T t pool s sd row) w.is g.stands.nested in
            (e.0, e.1.low)

        -- only the root is of row 1
        pub not_root : (to : Here) (n : ℕ) → turn ≡ Ok (Closed to n) → row ≢ 1
        not_root to n m e = let c = around to n m in absurd (omega (arith, c.1, ap (λ (r : ℕ). (row_at l r).parent) (sym e) ∙ c.0.parent, sd.well.root.2))

        pub is_root_lem : (n : ℕ) → turn ≡ Ok (Ended n) → row ≡ 1
        is_root_lem n m = (step_ends cm t pool s sd x d₁ a₁ d st full at g coins turn st' refl refl n m).row

        -- an element that goes on is a child of the innermost one
        pub below : (to : Here) → turn ≡ Ok (Opened to) → Child l row to.level.row
        unfolding advance
        below to m = (enters to m).stands.nested.0

        no_bad : First k.types l (message_of x.tree) (Err (bad_value row full.level.place)) → ⊥
        no_bad f = fine_found (Ok tt) (bad_value row full.level.place) refl (first_one k.types l (message_of x.tree) (Ok tt) (Err (bad_value row full.level.place)) none f)

        -- the end of an element within another
        pub leaves_to : (to : Here) (o : ℕ) (m : turn ≡ Ok (Closed to o)) (r : ℕ) (d' : List ℕ)
            → Shuts k t pool row (slice full.value full.quote s) (slice full.at o s) d at (Some r) d' → Going cm t pool s sd x d₁ a₁ d' st' to r
        leaves_to to o m r d' p = goes_out cm t pool s sd x d₁ a₁ d st full at g st' to o (leaves to o m) r d' p

        -- and its text spells a value
        pub leaves_some : (to : Here) (o : ℕ) (m : turn ≡ Ok (Closed to o)) (r : Told ℕ) (d' : List ℕ)
            → Shuts k t pool row (slice full.value full.quote s) (slice full.at o s) d at r d' → is_some r ≡ true
        leaves_some to o m None d' p = absurd (no_bad (bad_value_lem cm t pool s sd x d₁ a₁ d st full at g st' to o (leaves to o m) d' p []))
        leaves_some to o m (Some r) d' p = refl

      -- ---- the beginning

      pub begins : (tried : Rooted) → tried ≡ begin_in t pool s → is_ok tried ≡ true
      begins tried e = elim (begun cm t pool s sd x tried e) [
        | denied r m w ↦ fine_found _ r.answer found_none w
        | starts here m w ↦ ap is_ok m
      ]

      pub first_spot : (d₀ : List ℕ) → Puts d₀ 0 (header l ++ (1 ∷ [])) a₁ d₁ → (first : Here) → Ok first ≡ begin_in t pool s → Writing d₁ (spot_at 1 None first.at) a₁
      first_spot d₀ p first e = record {
        st = room;
        full = first;
        going = goes_first cm t pool s sd x d₁ a₁ d₀ first w room room_length p;
        row = (w.stands room room_length).nested;
        behind = refl;
        group = ap is_group sd.well.root.1;
        last = tt;
      }
        where
          w : Starts T t pool s sd x.tree first
          w = begin_opened cm t pool s sd x (Ok first) (begun cm t pool s sd x (Ok first) e) first refl

      -- ---- a turn

      module _ (d : List ℕ) (here : Spot) (at : ℕ) (w : Writing d here at) (o : ℕ) (e : o ≡ here.at + span is_blank (drop here.at s)) where
        abbrev g : Going cm t pool s sd x d₁ a₁ d w.st w.full at
        g = w.going

        abbrev full : Here
        full = w.full

        abbrev step : Stepped
        step = step_in t pool s w.st full

        abbrev stack : List Level
        stack = stack_in t pool s w.st full

        abbrev mark : Token
        mark = token_in s full.at

        placed : Placed t pool sd full.level
        placed = g.stands.placed

        in_group : is_group_in (cell t full.level.row 2) ≡ true
        in_group = group_in t pool sd full.level.row placed.low placed.high ∙ ap (λ (r : ℕ). is_group (row_at l r).kind) w.row ∙ w.group

        gone : Went t pool s w.st full step
        gone = went d w.st full at g

        -- the tag is after the blanks
        at_less : o ≡ mark.less
        at_less = e ∙ ap (λ (n : ℕ). n + span is_blank (drop n s)) (sym w.behind) ∙ blanks_less s full.at t full.level.row in_group (known t pool s w.st full (goes_on_lem d w.st full at g)).0

        pub tag_in : o < length s
        tag_in = subst (λ (n : ℕ). n < length s) (sym at_less) (there t pool s w.st full step gone)

        pub place_low : length s ≤ 1048576 → at ≤ 1000000000000
        place_low h = at_most cm t pool s sd x d₁ a₁ d w.st full at g h

        pub same_room : length d ≡ length d₁
        same_room = g.put.long

        -- a closing tag
        module _ (b : head_is solidus (drop (o + 1) s) ≡ true) where
          closes : (mark.kind ≡ Close) × ((step ≡ Ok (Ended mark.less)) ⊎ ((to : Here) × (to.at ≡ mark.end) × (step ≡ Ok (Closed to mark.less))))
          closes = by_close_lem t pool s w.st full step gone o at_less b

          -- the root's
          shut : here.row ≡ 1 → step ≡ Ok (Ended mark.less)
          shut r = elim closes.1 [
            | inl e ↦ e
            | inr z ↦ absurd (not_root d w.st full at g z.0 mark.less z.2 (w.row ∙ r))
          ]

          pub spot_ends : here.row ≡ 1 → Spelling k.types → (d₀ : List ℕ) → Puts d₀ 0 (header l ++ (1 ∷ [])) a₁ d₁ → (d' : List ℕ) → d' ≡ pasted d at (0 ∷ [])
              → Passes k l (message_of x.tree) d₀ (Ok (at + 1)) d'
          spot_ends r y d₀ p d' f =
              ends_in cm t pool s sd x d₁ a₁ d w.st full at g y d₀ p stack (step_ends cm t pool s sd x d₁ a₁ d w.st full at g coins step stack refl refl mark.less (shut r)) d' f

          module _ (r : here.row ≢ 1) where
            out : (to : Here) × (to.at ≡ mark.end) × (step ≡ Ok (Closed to mark.less))
            out = elim closes.1 [
              | inl e ↦ absurd (r (sym w.row ∙ is_root_lem d w.st full at g mark.less e))
              | inr z ↦ z
            ]

            abbrev to : Here
            to = out.0

            up : Child l to.level.row here.row × (0 < to.level.row)
            up = let c = around d w.st full at g to mark.less out.2 in (subst (λ (n : ℕ). Child l to.level.row n) w.row c.0, c.1)

            up_is : cell t here.row 0 ≡ to.level.row
            up_is = parent_in to.level.row here.row up.0

            end_is : to.at ≡ behind greater (o + 1) (drop (o + 1) s)
            end_is = out.1 ∙ close_end s full.at o at_less closes.0

            pub out_less : length s - behind greater (o + 1) (drop (o + 1) s) < length s - here.at
            out_less =
                let v = leaves d w.st full at g to mark.less out.2 in
                omega (arith, v.on, v.stands.within, end_is, w.behind)

            pub spot_out : Writing d (spot_at (cell t here.row 0) (Some here.row) (behind greater (o + 1) (drop (o + 1) s))) at
            spot_out = record {
              st = stack;
              full = to;
              going = leaves_to d w.st full at g to mark.less out.2 at d
                  (shuts_group t full.level.row (cell t full.level.row 2) refl (is_group_in (cell t full.level.row 2)) refl k d at pool (slice full.value full.quote s) (slice full.at mark.less s) in_group);
              row = sym up_is;
              behind = end_is;
              group = ap (λ (n : ℕ). is_group (row_at l n).kind) up_is ∙ sd.well.parents to.level.row here.row up.0 up.1;
              last = subst (λ (n : ℕ). Child l n here.row) (sym up_is) up.0;
            }

        -- an opening tag, and its row
        module _ (b : head_is solidus (drop (o + 1) s) ≡ false) (tag : Token) (f : tag ≡ open_at o (drop o s)) where
          abbrev in' : Here
          in' = inner t full (row_in t pool s full.level mark.less mark.stop) mark.less mark.end mark.first

          enter : step ≡ Ok (Opened in')
          enter = by_open_lem t pool s w.st full step gone o at_less b

          tag_is : tag ≡ mark
          tag_is = f ∙ sym (is_open s full.at o at_less tag_in b)

          in_at : in'.at ≡ tag.end
          in_at = ap (λ (z : Token). z.end) (sym tag_is)

          row_in_lem : row_in t pool s full.level mark.less mark.stop ≡ child l full.level.row (slice (mark.less + 1) mark.stop s)
          unfolding row_in
          row_in_lem =
              rw (lt-ltb mark.less (length s) (there t pool s w.st full step gone))
              (child_along_lem t pool sd (slice (mark.less + 1) mark.stop s) full.level.row full.level.last placed.high placed.last)

          abbrev named : ℕ
          named = child l here.row (slice (o + 1) tag.stop s)

          in_named : in'.level.row ≡ named
          in_named =
              row_in_lem
              ∙ ap (λ (n : ℕ). child l full.level.row (slice (n + 1) mark.stop s)) (sym at_less)
              ∙ ap (λ (z : Token). child l full.level.row (slice (o + 1) z.stop s)) (sym tag_is)
              ∙ ap (λ (n : ℕ). child l n (slice (o + 1) tag.stop s)) w.row

          -- the name is a child's
          pub comes : Comes t pool here.row here.last (slice (o + 1) tag.stop s)
          comes = record {
            sound = sd;
            within = subst (λ (n : ℕ). n ≤ size l) w.row placed.high;
            from = w.last;
            its = subst (λ (n : ℕ). Child l n named) w.row (subst (λ (n : ℕ). Child l full.level.row n) in_named (below d w.st full at g in' enter));
          }

          module _ (r : ℕ) (q : r ≡ named) where
            in_row : in'.level.row ≡ r
            in_row = in_named ∙ sym q

            its : Child l here.row r
            its = subst (Child l here.row) (sym q) comes.its

            pub row_low : r ≤ 255
            row_low = omega (arith, its.last, sd.well.bytes)

            is_group_lem : is_group_in (cell t r 2) ≡ is_group (row_at l r).kind
            is_group_lem = group_in t pool sd r its.first its.last

            on : full.at < in'.at
            on = (enters d w.st full at g in' enter).on

            -- of a group
            module _ (j : is_group_in (cell t r 2) ≡ true) where
              pub in_less : length s - tag.end < length s - here.at
              in_less = omega (arith, on, (enters d w.st full at g in' enter).stands.within, in_at, w.behind)

              pub spot_in : (n : ℕ) → n ≡ r → (d' : List ℕ) → d' ≡ pasted d at (n ∷ []) → Writing d' (spot_at r None tag.end) (at + 1)
              spot_in n i d' p = record {
                st = stack;
                full = in';
                going = goes_in cm t pool s sd x d₁ a₁ d w.st full at g stack in' (enters d w.st full at g in' enter) (at + 1) d'
                    (opens_group t in'.level.row (cell t in'.level.row 2) refl (is_group_in (cell t in'.level.row 2)) refl k d at (ap (λ (m : ℕ). is_group_in (cell t m 2)) in_row ∙ j) n (i ∙ sym in_row) d' p);
                row = in_row;
                behind = in_at;
                group = sym is_group_lem ∙ j;
                last = tt;
              }

            -- of a leaf: its closing tag is the next
            module _ (j : is_group_in (cell t r 2) ≡ false) (z : ℕ) (i : z ≡ tag.end + span (but less) (drop tag.end s)) where
              inside : Going cm t pool s sd x d₁ a₁ d stack in' at
              inside = goes_in cm t pool s sd x d₁ a₁ d w.st full at g stack in' (enters d w.st full at g in' enter) at d
                  (opens_leaf t in'.level.row (cell t in'.level.row 2) refl (is_group_in (cell t in'.level.row 2)) refl k d at (ap (λ (m : ℕ). is_group_in (cell t m 2)) in_row ∙ j))

              abbrev next : Stepped
              next = step_in t pool s stack in'

              abbrev after : Token
              after = token_in s in'.at

              gone_next : Went t pool s stack in' next
              gone_next = went d stack in' at inside

              z_is : z ≡ after.less
              z_is = i ∙ ap (λ (n : ℕ). n + span (but less) (drop n s)) (sym in_at) ∙ less_is s in'.at

              pub close_in : z < length s
              close_in = subst (λ (n : ℕ). n < length s) (sym z_is) (there t pool s stack in' next gone_next)

              in_row_not : in'.level.row ≢ 1
              in_row_not e = let c = subst (Child l here.row) (sym in_row) its in absurd (omega (arith, c.parent, ap (λ (n : ℕ). (row_at l n).parent) e, sd.well.root.2, w_low))
                where
                  w_low : 0 < here.row
                  w_low = subst (λ (n : ℕ). 0 < n) w.row placed.low

              -- no element stands in a leaf
              shut_next : (after.kind ≡ Close) × ((to : Here) × (to.at ≡ after.end) × (next ≡ Ok (Closed to after.less)))
              shut_next = go (head_is solidus (drop (z + 1) s)) refl
                where
                  go : (c : Bool) → head_is solidus (drop (z + 1) s) ≡ c → (after.kind ≡ Close) × ((to : Here) × (to.at ≡ after.end) × (next ≡ Ok (Closed to after.less)))
                  go true c =
                      let m = by_close_lem t pool s stack in' next gone_next z z_is c in
                      elim m.1 [
                        | inl e ↦ absurd (in_row_not (is_root_lem d stack in' at inside after.less e))
                        | inr y ↦ (m.0, y)
                      ]
                  go false c =
                      let in'' = inner t in' (row_in t pool s in'.level after.less after.stop) after.less after.end after.first in
                      let m = by_open_lem t pool s stack in' next gone_next z z_is c in
                      let v = below d stack in' at inside in'' m in
                      absurd (true≢false (sym (sd.well.parents in'.level.row in''.level.row v (enters d w.st full at g in' enter).stands.placed.low) ∙ ap (λ (n : ℕ). is_group (row_at l n).kind) in_row ∙ sym is_group_lem ∙ j))

              abbrev past : Here
              past = shut_next.1.0

              end_next : past.at ≡ behind greater (z + 1) (drop (z + 1) s)
              end_next = shut_next.1.1 ∙ close_end s in'.at z z_is shut_next.0

              pub leaf_less : length s - behind greater (z + 1) (drop (z + 1) s) < length s - here.at
              leaf_less =
                  let v = leaves d stack in' at inside past after.less shut_next.1.2 in
                  omega (arith, on, v.on, v.stands.within, end_next, w.behind)

              row_next : past.level.row ≡ here.row
              row_next =
                  let c = (around d stack in' at inside past after.less shut_next.1.2).0 in
                  sym c.parent ∙ ap (λ (n : ℕ). (row_at l n).parent) in_row ∙ its.parent

              first_is' : (in'.value ≡ tag.first.value) × (in'.quote ≡ tag.first.quote)
              first_is' = (ap (λ (y : Token). y.first.value) (sym tag_is), ap (λ (y : Token). y.first.quote) (sym tag_is))

              text_is : slice in'.at after.less s ≡ slice tag.end z s
              text_is = ap (λ (m : ℕ). slice m after.less s) in_at ∙ ap (λ (m : ℕ). slice tag.end m s) (sym z_is)

              coin_is : slice in'.value in'.quote s ≡ slice tag.first.value tag.first.quote s
              coin_is = ap (λ (m : ℕ). slice m in'.quote s) first_is'.0 ∙ ap (λ (m : ℕ). slice tag.first.value m s) first_is'.1

              as_full : (n : Told ℕ) (d' : List ℕ) → Shuts k t pool r (slice tag.first.value tag.first.quote s) (slice tag.end z s) d at n d'
                  → Shuts k t pool in'.level.row (slice in'.value in'.quote s) (slice in'.at after.less s) d at n d'
              as_full n d' p =
                  subst (λ (m : ℕ). Shuts k t pool m (slice in'.value in'.quote s) (slice in'.at after.less s) d at n d') (sym in_row)
                  (subst (λ (u : List ℕ). Shuts k t pool r u (slice in'.at after.less s) d at n d') (sym coin_is)
                  (subst (λ (u : List ℕ). Shuts k t pool r (slice tag.first.value tag.first.quote s) u d at n d') (sym text_is) p))

              -- its text spells a value
              pub spot_some : (n : Told ℕ) (d' : List ℕ) → Shuts k t pool r (slice tag.first.value tag.first.quote s) (slice tag.end z s) d at n d' → is_some n ≡ true
              spot_some n d' p = leaves_some d stack in' at inside past after.less shut_next.1.2 n d' (as_full n d' p)

              pub spot_past : (n : ℕ) (d' : List ℕ) → Shuts k t pool r (slice tag.first.value tag.first.quote s) (slice tag.end z s) d at (Some n) d'
                  → Writing d' (spot_at here.row (Some r) (behind greater (z + 1) (drop (z + 1) s))) n
              spot_past n d' p = record {
                st = stack_in t pool s stack in';
                full = past;
                going = leaves_to d stack in' at inside past after.less shut_next.1.2 n d' (as_full (Some n) d' p);
                row = row_next;
                behind = end_next;
                group = w.group;
                last = its;
              }
