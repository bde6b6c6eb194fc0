-- A pass over a message: where it stands, what it has found and put so far, and what each step adds. Over any types. Assumes nothing.
use Rattle.std.specs.Prelude.{Option as Told, None, Some, Result, Ok, Err, is_err}
use Rattle.std.proofs.lemmas.Option.{none-some}
use mathlib.Core.Path.{◌≡◌, refl, sym, ◌∙◌, ap, subst}
use mathlib.Core.Logic.{◌≢◌}
use mathlib.Core.Bool.{true, false, not, true≢false, false≢true}
use mathlib.Core.List.{List, [], ◌∷◌, ◌++◌, append_assoc, append-nil}
use mathlib.Core.Option.{Option}
use Prim.Native.Nat.{ℕ, ◌+◌, ◌*◌, ◌≤◌}
use native.Mathlib.Omega.{arith}
use lib.ListN.{length, length-append}
use lib.Seq.{slice}
use Rattle.answer.specs.declared.Answer.{Answer}
use Rattle.answer.specs.Table.{bad_value}
use Rattle.text.specs.Pasting.{pasted}
use Rattle.text.specs.Puts.{Puts}
use Rattle.list.specs.Listing.{Leaf, amt, Kind, group, choice, leaf, Listing, row_at, Child, is_group}
use Rattle.list.specs.WellFormed.{LeafOk, KindOk}
use Rattle.list.specs.Content.{Content, items, Meets}
use Rattle.list.specs.tables.Table.{list_of}
use Rattle.list.specs.tables.Sound.{Sound}
use Rattle.list.proofs.rows.Rows.{size_is, kind_is}
use Rattle.xml.specs.House.{HouseXml}
use Rattle.xml.specs.Message.{Attrs, root_at, message_of}
use Rattle.xml_tags.specs.Story.{Event, events}
use Rattle.file_walk.specs.declared.level.Level.{Level}
use Rattle.file_walk.specs.declared.step.Here.{Here}
use Rattle.file_walk.specs.declared.step.Turn.{Turn}
use Rattle.file_walk.specs.declared.step.Refusal.{Refusal}
use Rattle.file_walk.specs.declared.step.Turn.TheVariants.{Opened, Closed, Ended}
use Rattle.file_walk.specs.Types.{Spelling}
use Rattle.file_walk.specs.First.{Found, First, refuse, or_else, currency_given}
use Rattle.file_walk.specs.Denotes.{Has}
use Rattle.file_walk.specs.mirror.Machine.{Speller, is_none, judge_of, speller_of, Computes, before, advance, opens, closes, run, emits}
use Rattle.file_walk.specs.mirror.Stride.{Stepped, step_in, stack_in}
use Rattle.file_walk.specs.mirror.Begin.{Rooted, begin_in}
use Rattle.file_walk.proofs.violation.Answers.{kinds}
use Rattle.file_walk.proofs.violation.Judges.{computes_decides}
use Rattle.file_walk.proofs.bytes.Sound.{Placed}
use Rattle.file_walk.proofs.bytes.Joint.{judged}
use Rattle.file_walk.proofs.bytes.Own.{Coins}
use Rattle.file_walk.proofs.bytes.OneStep.{turned, judged_group}
use Rattle.list.proofs.sound.Tests.{by_cases}
use Rattle.file_walk.proofs.bytes.Root.{one_element, began, first_is}
use Rattle.file_walk.proofs.violation.Accept.{accept}
use Rattle.file_walk.proofs.events.Items.{opens_group, closes_group, items_are}
use Rattle.file_walk.proofs.bytes.Stands.{Stands, Nested, Enters, Leaves, Ends, Turned, refused, opened, closed, whole, Starts, Began, denied, starts, finds, hands}
use Rattle.image.specs.Image.{items_bytes, item_bytes, value_bytes, header, image}
use Rattle.image.proofs.answers.Heads.{header_length}
use Rattle.file.specs.Instance.{Kinds, values_of}
use Rattle.file.specs.File.{image_of}
use Rattle.file.proofs.answers.Codes.{violation_code}
use Rattle.text.proofs.Puts.{puts_none, puts_pasted, puts_then, puts_as}
use Rattle.value.specs.Places.{longest_value}
use Rattle.file_measure.specs.Pass.{kind_in, Shut, Yields, Shuts, Opens, ItemPut, Passes}
use Rattle.value.proofs.stored.texts.Codes.{currency_exactly}

-- ---- what a step met

-- a number for each, to tell them apart
abbrev rank : Stepped → ℕ
rank (Err a) = 0
rank (Ok (Opened to)) = 1
rank (Ok (Closed to less)) = 2
rank (Ok (Ended less)) = 3

apart : {P : Type 0} (x y z : Stepped) → x ≡ y → x ≡ z → rank y ≢ rank z → P
apart x y z e f n = absurd (n (ap rank (sym e ∙ f)))

-- what stands in one
refused_one : {T : Type 0} (a b : Answer) → ◌≡◌ {A = Result T Answer} (Err a) (Err b) → a ≡ b
refused_one a b e = cc

denied_one : (a b : Refusal) → ◌≡◌ {A = Rooted} (Err a) (Err b) → a ≡ b
denied_one a b e = cc

rooted_one : (a b : Here) → ◌≡◌ {A = Rooted} (Ok a) (Ok b) → a ≡ b
rooted_one a b e = cc

opened_one : (a b : Here) → ◌≡◌ {A = Stepped} (Ok (Opened a)) (Ok (Opened b)) → a ≡ b
opened_one a b e = cc

closed_one : (a b : Here) (m n : ℕ) → ◌≡◌ {A = Stepped} (Ok (Closed a m)) (Ok (Closed b n)) → (a ≡ b) × (m ≡ n)
closed_one a b m n e = (cc, cc)

plainly : (n : ℕ) → 0 + n ≡ n
plainly n = omega arith

-- types, and a way to compute which of their values is spelt
pub record Computed : Type 1 where
  pub kinds : Kinds
  pub spell : Leaf → List ℕ → List ℕ → Option kinds.types.A
  pub computes : Computes kinds.types spell

module _ (k : Kinds) (sp : Leaf → List ℕ → List ℕ → Option k.types.A) (y : Computes k.types sp) where
  no_value : (f : Leaf) (w cs : List ℕ) → LeafOk f → sp f w cs ≡ Option.none → (v : k.types.A) → k.types.Spelt f w cs v → ⊥
  no_value f w cs ok e v st = true≢false (ap (λ (x : Option k.types.A). is_none x) (sym e ∙ y.complete f w cs v ok st))

  yields : (f : Leaf) (w cs : List ℕ) → LeafOk f → (u : Option k.types.A) → sp f w cs ≡ u → Yields k f w cs u
  yields f w cs ok Option.none e = no_value f w cs ok e
  yields f w cs ok (Option.some v) e = y.sound f w cs v e

module _ (cm : Computed) (t pool s : List ℕ) (sd : Sound t pool) where
  abbrev k : Kinds
  k = cm.kinds

  abbrev T : Speller
  T = speller_of k.types cm.spell

  abbrev l : Listing
  l = list_of t pool

  abbrev items_of : List (ℕ × Option T.A) → List ℕ
  items_of is = items_bytes (values_of k) l is

  -- ---- bytes of items

  items_append : (a b : List (ℕ × Option T.A)) → items_of (a ++ b) ≡ items_of a ++ items_of b
  items_append [] b = refl
  items_append (i ∷ a) b =
      ap (λ (z : List ℕ). item_bytes (values_of k) l i ++ z) (items_append a b) ∙ sym (append_assoc (item_bytes (values_of k) l i) (items_of a) (items_of b))

  group_bytes : (q : Kind) (v : Option T.A) → is_group q ≡ true → value_bytes (values_of k) l q v ≡ []
  group_bytes group v e = refl
  group_bytes choice v e = refl
  group_bytes (leaf f) v e = absurd (false≢true e)

  group_item : (r : ℕ) → is_group (row_at l r).kind ≡ true → items_of ((r, Option.none) ∷ []) ≡ r ∷ []
  group_item r e = ap (λ (z : List ℕ). r ∷ (z ++ [])) (group_bytes (row_at l r).kind Option.none e)

  leaf_item : (r : ℕ) (f : Leaf) (v : T.A) → (row_at l r).kind ≡ leaf f → items_of ((r, Option.some v) ∷ []) ≡ r ∷ k.bytes f v
  leaf_item r f v e =
      ap (λ (q : Kind). r ∷ (value_bytes (values_of k) l q (Option.some v) ++ [])) e ∙ ap (λ (z : List ℕ). r ∷ z) (append-nil (k.bytes f v))

  opens_bytes : (q : Kind) (r : ℕ) → (row_at l r).kind ≡ q → is_group q ≡ true → items_of (opens T l q r) ≡ r ∷ []
  opens_bytes q r e g = ap items_of (opens_group T l q r g) ∙ group_item r (ap is_group e ∙ g)

  opens_leaf : (q : Kind) (r : ℕ) → is_group q ≡ false → opens T l q r ≡ []
  opens_leaf group r g = absurd (true≢false g)
  opens_leaf choice r g = absurd (true≢false g)
  opens_leaf (leaf f) r g = refl

  -- a row's kind, by the list and by the cells
  kind_of_lem : (lv : Level) → Placed t pool sd lv → (row_at l lv.row).kind ≡ kind_in t pool lv.row
  kind_of_lem lv p = kind_is t pool lv.row p.low (omega (arith, p.high, size_is t pool))

  module _ (x : HouseXml s) where
    abbrev found_all : Found
    found_all = run T l before (events (message_of x.tree) [])

    abbrev handed_all : List (ℕ × Option T.A)
    handed_all = emits T l before (events (message_of x.tree) [])

    abbrev Goal : List ℕ → Result ℕ Answer → List ℕ → Type 0
    Goal d₀ a d = Passes k l (message_of x.tree) d₀ a d

    -- ---- the beginning

    pub begun : (tried : Rooted) → tried ≡ begin_in t pool s → Began T t pool s sd x.tree tried
    begun tried e =
        subst (λ (z : Rooted). Began T t pool s sd x.tree z) (sym e)
        (subst (λ (z : List ℕ). Began T t pool z sd x.tree (begin_in t pool z)) (sym x.is) (began T t pool sd x.tree x.good))

    pub first_found : (f : Found) → found_all ≡ f → First k.types l (message_of x.tree) f
    first_found f e = record { judge = judge_of T; decides = computes_decides k.types cm.spell cm.computes; is = first_is T l sd.well x.tree x.good ∙ e }

    -- a violation that is the first
    refused_is : (d₀ d : List ℕ) (a b : Answer) → a ≡ b → found_all ≡ Err b → Goal d₀ (Err a) d
    refused_is d₀ d a b e g = first_found (Err a) (g ∙ ap Err (sym e))

    module _ (tried : Rooted) (w : Began T t pool s sd x.tree tried) where
      pub begin_refused : (d₀ : List ℕ) (r : Refusal) → tried ≡ Err r → Goal d₀ (Err r.answer) d₀
      begin_refused d₀ r e = elim w [
        | denied q f g ↦ refused_is d₀ d₀ r.answer q.answer (ap (λ (z : Refusal). z.answer) (denied_one r q (sym e ∙ f))) g
        | starts h f v ↦ absurd (true≢false (ap is_err (sym e ∙ f)))
      ]

      -- what stands there is house XML: 3 is no violation's code
      pub begin_lost : (r : Refusal) → tried ≡ Err r → r.answer.code ≢ 3
      begin_lost r e z = omega (arith, z, (violation_code k.types l (message_of x.tree) r.answer (begin_refused [] r e)).0)

      pub begin_opened : (here : Here) → tried ≡ Ok here → Starts T t pool s sd x.tree here
      begin_opened here e = elim w [
        | denied b f g ↦ absurd (false≢true (ap is_err (sym e ∙ f)))
        | starts h f v ↦ subst (Starts T t pool s sd x.tree) (rooted_one h here (sym f ∙ e)) v
      ]

    -- ---- from the root's tag on, with d₁ in the buffer up to a₁

    module _ (d₁ : List ℕ) (a₁ : ℕ) where
      -- where the pass stands, with d in the buffer up to `at`: the levels and events of the walk, and the items that it has handed out after the root's
      pub record Going (d : List ℕ) (st : List Level) (here : Here) (at : ℕ) : Type 0 where
        pub below : List Level
        pub ats : Attrs
        pub rest : List Event
        pub stands : Stands T t pool s sd st here below ats rest
        pub found : found_all ≡ finds T t pool s sd here below ats rest
        pub done : List (ℕ × Option T.A)
        pub handed : handed_all ≡ (1, Option.none) ∷ (done ++ hands T t pool s sd here below ats rest)
        pub put : Puts d₁ a₁ (items_of done) at d
        pub head : a₁ ≡ length (header l) + 1
        -- no step adds more than this, and each goes on
        pub most : at ≤ a₁ + 65538 * here.at

      pub goes_first : (d₀ : List ℕ) (here : Here) → Starts T t pool s sd x.tree here → (st : List Level) → length st ≡ 16 → Puts d₀ 0 (header l ++ (1 ∷ [])) a₁ d₁ → Going d₁ st here a₁
      goes_first d₀ here w st h p = record {
        below = [];
        ats = [];
        rest = w.rest;
        stands = w.stands st h;
        found = w.found;
        done = [];
        handed = w.handed;
        put = puts_none d₁ a₁;
        head = omega (arith, p.behind, length-append (header l) (1 ∷ []));
        most = omega arith;
      }

      -- ---- a step

      module _ (d : List ℕ) (st : List Level) (here : Here) (at : ℕ) (g : Going d st here at) where
        pub at_most : length s ≤ 1048576 → at ≤ 1000000000000
        at_most h = omega (arith, g.most, g.head, header_length l, g.stands.within)

        -- what is put after
        more : (new : List (ℕ × Option T.A)) (r : ℕ) (d' : List ℕ) → Puts d at (items_of new) r d' → Puts d₁ a₁ (items_of (g.done ++ new)) r d'
        more new r d' p =
            puts_as d₁ a₁ (items_of g.done ++ items_of new) (items_of (g.done ++ new)) r d' (sym (items_append g.done new))
            (puts_then d₁ a₁ (items_of g.done) at d (items_of new) r d' g.put p)

        module _ (coins : Coins (judge_of T)) (step : Stepped) (st' : List Level) (e : step ≡ step_in t pool s st here) (f : st' ≡ stack_in t pool s st here) where
          abbrev Steps : Type 0
          Steps = Turned T t pool s sd here g.below g.ats g.rest st' step

          pub steps : Steps
          steps =
              subst (λ (z : Stepped). Turned T t pool s sd here g.below g.ats g.rest st' z) (sym e)
              (subst (λ (z : List Level). Turned T t pool s sd here g.below g.ats g.rest z (step_in t pool s st here)) (sym f)
              (turned T t pool s sd coins st here g.below g.ats g.rest g.stands))

          pub step_refused : (d₀ : List ℕ) (a : Answer) → step ≡ Err a → Goal d₀ (Err a) d
          step_refused d₀ a m = elim steps [
            | refused b i w ↦ refused_is d₀ d a b (refused_one {T = Turn} a b (sym m ∙ i)) (g.found ∙ w)
            | opened to i w ↦ apart step _ _ m i (λ z. omega (arith, z))
            | closed to n i w ↦ apart step _ _ m i (λ z. omega (arith, z))
            | whole n i w ↦ apart step _ _ m i (λ z. omega (arith, z))
          ]

          -- nor is a step lost in house XML
          pub step_lost : (a : Answer) → step ≡ Err a → a.code ≢ 3
          step_lost a m z = omega (arith, z, (violation_code k.types l (message_of x.tree) a (step_refused [] a m)).0)

          pub step_enters : (to : Here) → step ≡ Ok (Opened to) → Enters T t pool s sd here g.below g.ats g.rest st' to
          step_enters to m = elim steps [
            | refused b i w ↦ apart step _ _ m i (λ z. omega (arith, z))
            | opened o i w ↦ subst (Enters T t pool s sd here g.below g.ats g.rest st') (opened_one o to (sym i ∙ m)) w
            | closed o n i w ↦ apart step _ _ m i (λ z. omega (arith, z))
            | whole n i w ↦ apart step _ _ m i (λ z. omega (arith, z))
          ]

          pub step_leaves : (to : Here) (less : ℕ) → step ≡ Ok (Closed to less) → Leaves T t pool s sd here g.below g.ats g.rest st' to less
          step_leaves to less m = elim steps [
            | refused b i w ↦ apart step _ _ m i (λ z. omega (arith, z))
            | opened o i w ↦ apart step _ _ m i (λ z. omega (arith, z))
            | closed o n i w ↦
                let c = closed_one o to n less (sym i ∙ m) in
                subst (λ y. Leaves T t pool s sd here g.below g.ats g.rest st' y less) c.0 (subst (Leaves T t pool s sd here g.below g.ats g.rest st' o) c.1 w)
            | whole n i w ↦ apart step _ _ m i (λ z. omega (arith, z))
          ]

          pub step_ends : (less : ℕ) → step ≡ Ok (Ended less) → Ends T t pool s sd here g.below g.ats g.rest st'
          step_ends less m = elim steps [
            | refused b i w ↦ apart step _ _ m i (λ z. omega (arith, z))
            | opened o i w ↦ apart step _ _ m i (λ z. omega (arith, z))
            | closed o n i w ↦ apart step _ _ m i (λ z. omega (arith, z))
            | whole n i w ↦ w
          ]

        -- an element that goes on
        module _ (st' : List Level) (to : Here) (w : Enters T t pool s sd here g.below g.ats g.rest st' to) where
          pub goes_in : (r : ℕ) (d' : List ℕ) → Opens k t to.level.row d at r d' → Going d' st' to r
          goes_in r d' o = record {
            below = advance l here.level to.level.row ∷ g.below;
            ats = w.attrs;
            rest = w.rest;
            stands = w.stands;
            found = g.found ∙ w.found;
            done = g.done ++ opens T l (row_at l to.level.row).kind to.level.row;
            handed = g.handed ∙ ap (λ z. (1, Option.none) ∷ (g.done ++ z)) w.handed
                ∙ ap (λ z. (1, Option.none) ∷ z) (sym (append_assoc g.done (opens T l (row_at l to.level.row).kind to.level.row)
                (hands T t pool s sd to (advance l here.level to.level.row ∷ g.below) w.attrs w.rest)));
            put = more (opens T l (row_at l to.level.row).kind to.level.row) r d' put_in;
            head = g.head;
            most = omega (arith, o.most, g.most, w.on);
          }
            where
              q : Kind
              q = (row_at l to.level.row).kind

              q_is : q ≡ kind_in t pool to.level.row
              q_is = kind_of_lem to.level w.stands.placed

              put_in : Puts d at (items_of (opens T l (row_at l to.level.row).kind to.level.row)) r d'
              put_in = by_cases (is_group q)
                  (λ b. puts_as d at (to.level.row ∷ []) (items_of (opens T l q to.level.row)) r d' (sym (opens_bytes q to.level.row refl b))
                  (o.group pool (ap is_group (sym q_is) ∙ b)))
                  (λ b. puts_as d at [] (items_of (opens T l q to.level.row)) r d' (ap items_of (sym (opens_leaf q to.level.row b)))
                  (o.leaf pool (ap is_group (sym q_is) ∙ b)))

        -- the end of an element within another
        module _ (st' : List Level) (to : Here) (less : ℕ) (w : Leaves T t pool s sd here g.below g.ats g.rest st' to less) where
          abbrev row : ℕ
          row = here.level.row

          kind_here : (row_at l row).kind ≡ kind_in t pool row
          kind_here = kind_of_lem here.level g.stands.placed

          child_here : Child l to.level.row row
          child_here = (subst (Nested T t pool s sd row) w.is g.stands.nested).0

          leaf_ok_lem : (f : Leaf) → (row_at l row).kind ≡ leaf f → LeafOk f
          leaf_ok_lem f e = subst KindOk e (sd.well.kinds to.level.row row child_here)

          shut : (f : Leaf) → (row_at l row).kind ≡ leaf f → Shut t pool row (slice here.value here.quote s) (slice here.at less s) f (currency_given g.ats) w.chars
          shut f e = record {
            kind = sym kind_here ∙ e;
            ok = leaf_ok_lem f e;
            chars = w.spelt;
            money = λ a. let m : (row_at l row).kind ≡ leaf amt = e ∙ ap leaf a in (g.stands.coin m, (currency_exactly (slice here.value here.quote s)).0 (g.stands.capitals m));
          }

          abbrev new : List (ℕ × Option T.A)
          new = closes T l (row_at l row).kind row g.ats w.chars

          abbrev spelt : Leaf → Option T.A
          spelt f = T.spell f (currency_given g.ats) w.chars

          abbrev Shutting : Told ℕ → List ℕ → Type 0
          Shutting r d' = Shuts k t pool row (slice here.value here.quote s) (slice here.at less s) d at r d'

          item_of : (r : Told ℕ) (d' : List ℕ) → Shutting r d' → (f : Leaf) → (row_at l row).kind ≡ leaf f → (v : Option T.A) → spelt f ≡ v → ItemPut k t pool row f v d at r d'
          item_of r d' o f e v u = o.leaf f (currency_given g.ats) w.chars (shut f e) v (yields k cm.spell cm.computes f (currency_given g.ats) w.chars (leaf_ok_lem f e) v u)

          module _ (n : ℕ) (d' : List ℕ) (o : Shutting (Some n) d') where
            few : n ≤ at + (1 + longest_value)
            few = o.most

            -- it adds these items, and nothing is found in it
            goes_by : judged (judge_of T) (row_at l row).kind row here.level.place g.ats w.chars ≡ Ok tt → Puts d at (items_of new) n d' → Going d' st' to n
            goes_by j p = record {
              below = w.outer;
              ats = [];
              rest = w.rest;
              stands = w.stands;
              found = g.found ∙ w.found ∙ ap (λ z. or_else z (finds T t pool s sd to w.outer [] w.rest)) j;
              done = g.done ++ new;
              handed = g.handed ∙ ap (λ z. (1, Option.none) ∷ (g.done ++ z)) w.handed ∙ ap (λ z. (1, Option.none) ∷ z) (sym (append_assoc g.done new (hands T t pool s sd to w.outer [] w.rest)));
              put = more new n d' p;
              head = g.head;
              most = omega (arith, few, g.most, w.on);
            }

            by_group : is_group (row_at l row).kind ≡ true → Going d' st' to n
            by_group b = goes_by (judged_group T l (row_at l row).kind row here.level.place g.ats w.chars b)
                (puts_as d at [] (items_of new) n d' (ap items_of (sym (closes_group T l (row_at l row).kind row g.ats w.chars b))) (o.group (ap is_group (sym kind_here) ∙ b)))

            by_leaf : (f : Leaf) → (row_at l row).kind ≡ leaf f → (v : Option T.A) → spelt f ≡ v → Going d' st' to n
            by_leaf f e Option.none u = absurd (none-some n (sym (item_of (Some n) d' o f e Option.none u)))
            by_leaf f e (Option.some v) u = goes_by
                (ap (λ (q : Kind). judged (judge_of T) q row here.level.place g.ats w.chars) e ∙ ap (λ z. refuse (not (not (is_none z))) (bad_value row here.level.place)) u)
                (puts_as d at (row ∷ k.bytes f v) (items_of new) n d'
                (sym (ap (λ (q : Kind). items_of (closes T l q row g.ats w.chars)) e ∙ ap (λ z. items_of ((row, z) ∷ [])) u ∙ leaf_item row f v e))
                (item_of (Some n) d' o f e (Option.some v) u))

            pub goes_out : Going d' st' to n
            goes_out = kinds (row_at l row).kind by_group (λ f e. by_leaf f e (spelt f) refl)

          module _ (d' : List ℕ) (o : Shutting None d') (d₀ : List ℕ) where
            bad_leaf : (f : Leaf) → (row_at l row).kind ≡ leaf f → (v : Option T.A) → spelt f ≡ v → Goal d₀ (Err (bad_value row here.level.place)) d'
            bad_leaf f e Option.none u = first_found (Err (bad_value row here.level.place)) (g.found ∙ w.found
                ∙ ap (λ z. or_else z (finds T t pool s sd to w.outer [] w.rest))
                (ap (λ (q : Kind). judged (judge_of T) q row here.level.place g.ats w.chars) e ∙ ap (λ z. refuse (not (not (is_none z))) (bad_value row here.level.place)) u))
            bad_leaf f e (Option.some v) u = absurd (item_of None d' o f e (Option.some v) u)

            pub bad_value_lem : Goal d₀ (Err (bad_value row here.level.place)) d'
            bad_value_lem = kinds (row_at l row).kind
                (λ b. absurd (o.group (ap is_group (sym kind_here) ∙ b)))
                (λ f e. bad_leaf f e (spelt f) refl)

        -- the end of the root
        pub ends_in : Spelling k.types → (d₀ : List ℕ) → Puts d₀ 0 (header l ++ (1 ∷ [])) a₁ d₁ → (st' : List Level) → Ends T t pool s sd here g.below g.ats g.rest st' → (d' : List ℕ) → d' ≡ pasted d at (0 ∷ [])
            → Goal d₀ (Ok (at + 1)) d'
        unfolding image
        ends_in y d₀ p st' w d' e = (none, (c, has, length_is, λ h. image_put.is (omega (arith, h))))
          where
            none : First k.types l (message_of x.tree) (Ok tt)
            none = first_found (Ok tt) (g.found ∙ w.found)

            content : (c : Content T.A) × Meets k.types.Is l c × Has k.types l (message_of x.tree) c
            content = accept k.types y l sd.well (message_of x.tree) (one_element x.tree.root (root_at x.tree) x.good.one) none

            c : Content T.A
            c = content.0

            has : Has k.types l (message_of x.tree) c
            has = content.2

            all_done : (1, Option.none) ∷ g.done ≡ items c
            all_done = ap (λ z. (1, Option.none) ∷ z) (sym (append-nil g.done) ∙ ap (λ z. g.done ++ z) (sym w.handed)) ∙ sym g.handed ∙ items_are k.types cm.spell cm.computes l sd.well (message_of x.tree) c has

            root_bytes : items_of ((1, Option.none) ∷ g.done) ≡ 1 ∷ items_of g.done
            root_bytes = items_append ((1, Option.none) ∷ []) g.done ∙ ap (λ (z : List ℕ). z ++ items_of g.done) (group_item 1 (ap is_group sd.well.root.1))

            image_bytes : header l ++ (1 ∷ []) ++ items_of g.done ++ (0 ∷ []) ≡ image_of k l c
            image_bytes =
                append_assoc (header l ++ (1 ∷ [])) (items_of g.done) (0 ∷ []) ∙ append_assoc (header l) (1 ∷ []) (items_of g.done ++ (0 ∷ []))
                ∙ ap (λ (z : List ℕ). header l ++ (z ++ (0 ∷ []))) (sym root_bytes ∙ ap items_of all_done)

            image_put : Puts d₀ 0 (image_of k l c) (at + 1) d'
            image_put = puts_as d₀ 0 (header l ++ (1 ∷ []) ++ items_of g.done ++ (0 ∷ [])) (image_of k l c) (at + 1) d' image_bytes
                (puts_then d₀ 0 (header l ++ (1 ∷ []) ++ items_of g.done) at d (0 ∷ []) (at + 1) d'
                (puts_then d₀ 0 (header l ++ (1 ∷ [])) a₁ d₁ (items_of g.done) at d p g.put) (puts_pasted d at (0 ∷ []) 1 d' refl e))

            length_is : at + 1 ≡ length (image_of k l c)
            length_is = image_put.behind ∙ plainly (length (image_of k l c))
