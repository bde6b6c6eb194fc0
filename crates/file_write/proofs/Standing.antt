-- Going over the items of an image: what stands at a place of the run, and where the item after it stands. Assumes nothing.
use mathlib.Core.Path.{◌≡◌, refl, sym, ◌∙◌, ap, ap₂, subst}
use mathlib.Core.Logic.{◌≢◌}
use mathlib.Core.Bool.{Bool, true, false, true≢false}
use mathlib.Core.List.{List, [], ◌∷◌, ◌++◌, append_assoc, append-nil, head-eq_of_cons-eq, tail-eq_of_cons-eq}
use mathlib.Core.Option.{Option, none, some}
use Prim.Native.Nat.{ℕ, ◌+◌, ◌≤◌, ◌<◌}
use native.Mathlib.Omega.{arith}
use native.Mathlib.Numerals.{add-one}
use lib.ListN.{length, get_or, drop, length-drop}
use lib.Seq.{drop-cons, drop-drop, drop_at}
use Rattle.text.specs.Lists.{Each}
use Rattle.list.specs.Listing.{Leaf, Kind, group, choice, leaf, Listing, size, row_at, Child, is_group}
use Rattle.list.specs.WellFormed.{LeafOk, KindOk}
use Rattle.list.specs.Content.{Content, end, value, node, rows, items, ValueOf, Good}
use Rattle.list.specs.Within.{Within}
use Rattle.list.proofs.Within.{within_itself}
use Rattle.list.specs.tables.Table.{cell, kind_of, words_in, list_of}
use Rattle.list.specs.tables.Sound.{word_count, Sound}
use Rattle.list.proofs.rows.Rows.{size_is, parent_is, kind_is}
use Rattle.value.specs.Value.{Value, IsValue, bytes as valued}
use Rattle.value.specs.given.Stands.{taken}
use Rattle.value.specs.mirror.Ends.{width, value_end}
use Rattle.value.proofs.stored.Meaning.{end_is as width_is, ends_one}
use Rattle.image.specs.Image.{Item, value_bytes, items_bytes, body}
use Rattle.image.specs.Kinds.{values}
use Rattle.image.specs.Place.{Holds}
use Rattle.image.specs.mirror.Follow.{OfKind}
use Rattle.list.specs.tables.Numbers.{is_group_in}
use Rattle.file_walk.proofs.bytes.Sound.{group_in}
use Rattle.file_letter.proofs.tree.Has.{rooted}
use Rattle.file_write.specs.mirror.Emit.{ValueAt}
use Rattle.file_write.specs.mirror.Stale.{ItemOf}

each_both : {A : Type 0} (P : A → Type 0) (a b : List A) → Each P a → Each P b → Each P (a ++ b)
each_both P [] b h k = k
each_both P (x ∷ a) b h k = (h.0, each_both P a b h.1 k)

-- what stands at a place of a run
module _ (run : List ℕ) (i y : ℕ) (u : List ℕ) (e : drop i run ≡ y ∷ u) where
  pub inside : i < length run
  inside = omega (arith, ap length e, length-drop i run)

  pub split : drop i run ≡ get_or run i 0 ∷ drop (i + 1) run
  split = drop-cons run i 0 inside ∙ ap (λ (z : ℕ). get_or run i 0 ∷ drop z run) (sym (add-one i))

  pub byte_there : get_or run i 0 ≡ y
  byte_there = head-eq_of_cons-eq (sym split ∙ e)

  pub rest_there : drop (i + 1) run ≡ u
  rest_there = tail-eq_of_cons-eq (sym split ∙ e)

module _ (t pool : List ℕ) where
  abbrev l : Listing
  l = list_of t pool

  abbrev pub Fine : Item values → Type 0
  Fine = ItemOf t pool

  -- the items of a content of a list that this one lies within
  module _ (m : Listing) (v : Within l m) where
    last_in : (p r : ℕ) → Child m p r → r ≤ size l
    last_in p r c = omega (arith, c.last, v.many)

    pub fine_in : (c : Content Value) (p : ℕ) → Each (Child m p) (rows c) → Good IsValue m c → Each Fine (items c)
    fine_in end p a g = tt
    fine_in (value r u k) p a g = ((a.0.first, last_in p r a.0, subst (λ (z : Kind). ValueOf IsValue l z u) (sym (v.kinds r)) g.0), fine_in k p a.1 g.1)
    fine_in (node r c k) p a g = (
      (a.0.first, last_in p r a.0, subst (λ (z : Kind). is_group z ≡ true) (sym (v.kinds r)) g.0.0),
      each_both Fine (items c) (items k) (fine_in c r g.0.1.theirs g.1) (fine_in k p a.1 g.2),
    )

  -- ---- what an item of a kind has

  pub is_none : (k : Kind) (v : Option Value) → is_group k ≡ true → OfKind values l k v → (v ≡ none) × (value_bytes values l k v ≡ [])
  is_none group none e o = (refl, refl)
  is_none group (some v) e o = absurd o
  is_none choice none e o = (refl, refl)
  is_none choice (some v) e o = absurd o
  is_none (leaf f) v e o = absurd (true≢false (sym e))

  pub record Leafed (k : Kind) (v : Option Value) : Type 0 where
    pub type : Leaf
    pub val : Value
    pub kind : k ≡ leaf type
    pub some' : v ≡ some val
    pub is : IsValue type val

  pub is_some : (k : Kind) (v : Option Value) → is_group k ≡ false → OfKind values l k v → Leafed k v
  is_some group v e o = absurd (true≢false e)
  is_some choice v e o = absurd (true≢false e)
  is_some (leaf f) none e o = absurd (true≢false (sym o))
  is_some (leaf f) (some u) e o = record { type = f; val = u; kind = refl; some' = refl; is = o }

  -- the items that are left, of which the first stands at i
  pub record Standing (run : List ℕ) (i : ℕ) : Type 0 where
    pub left : List (Item values)
    pub rest : List ℕ
    pub here : drop i run ≡ items_bytes values l left ++ (0 ∷ rest)
    pub fine : Each Fine left

  module _ (so : Sound t pool) (run : List ℕ) where
    -- ---- the start

    module _ (from n : ℕ) (w : Holds values l (drop from run) n) where
      abbrev pub kids : Content Value
      kids = (rooted l so.well w.content w.meets).kids

      pub is_root_lem : w.content ≡ node 1 kids end
      is_root_lem = (rooted l so.well w.content w.meets).is

      pub body_is : drop from run ≡ 1 ∷ (items_bytes values l (items kids) ++ (0 ∷ w.rest))
      body_is =
          w.at ∙ ap (λ (c : Content Value). body values l c ++ w.rest) is_root_lem
          ∙ ap (λ (k : Kind). (((1 ∷ value_bytes values l k none) ++ items_bytes values l (items kids ++ [])) ++ (0 ∷ [])) ++ w.rest) so.well.root.1
          ∙ ap (λ (is : List (Item values)). 1 ∷ ((items_bytes values l is ++ (0 ∷ [])) ++ w.rest)) (append-nil (items kids))
          ∙ ap (λ (u : List ℕ). 1 ∷ u) (append_assoc (items_bytes values l (items kids)) (0 ∷ []) w.rest)

      abbrev pub stand_first : Standing run (from + 1)
      stand_first =
          let g : Good IsValue l (node 1 kids end) = subst (Good IsValue l) is_root_lem w.meets.good in
          record {
            left = items kids;
            rest = w.rest;
            here = rest_there run from 1 (items_bytes values l (items kids) ++ (0 ∷ w.rest)) body_is;
            fine = fine_in l (within_itself l) kids 1 g.0.1.theirs g.1;
          }

      pub stand_start : from < length run
      stand_start = inside run from 1 (items_bytes values l (items kids) ++ (0 ∷ w.rest)) body_is

    -- ---- a turn

    module _ (i : ℕ) (w : Standing run i) where
      -- some byte stands there
      some_byte : (is : List (Item values)) (u : List ℕ) → (y : ℕ) × (r : List ℕ) × (items_bytes values l is ++ (0 ∷ u) ≡ y ∷ r)
      some_byte [] u = (0, u, refl)
      some_byte (j ∷ is) u = (j.0, (value_bytes values l (row_at l j.0).kind j.1 ++ items_bytes values l is) ++ (0 ∷ u), refl)

      pub stand_in : i < length run
      stand_in = let b = some_byte w.left w.rest in inside run i b.0 b.1 (w.here ∙ b.2)

      -- the closing 0
      pub stand_end : get_or run i 0 ≡ 0 → w.left ≡ []
      stand_end z = go w.left refl
        where
          go : (is : List (Item values)) → w.left ≡ is → is ≡ []
          go [] e = refl
          go (j ∷ is) e =
              let f : Fine j × Each Fine is = subst (Each Fine) e w.fine in
              let b = byte_there run i j.0 _ (w.here ∙ ap (λ (is : List (Item values)). items_bytes values l is ++ (0 ∷ w.rest)) e) in
              absurd (omega (arith, f.0.0))

      -- an item: its row, its value, and what stands after its row byte
      pub record Ahead (x : ℕ) : Type 0 where
        pub val : Option Value
        pub more : List (Item values)
        pub is : w.left ≡ (x, val) ∷ more
        pub its : Fine (x, val)
        pub fines : Each Fine more
        pub behind : drop (i + 1) run ≡ value_bytes values l (row_at l x).kind val ++ (items_bytes values l more ++ (0 ∷ w.rest))

      pub ahead : (x : ℕ) → x ≡ get_or run i 0 → x ≢ 0 → Ahead x
      ahead x ex n = go w.left refl
        where
          go : (is : List (Item values)) → w.left ≡ is → Ahead x
          go [] e = absurd (n (ex ∙ byte_there run i 0 w.rest (w.here ∙ ap (λ (is : List (Item values)). items_bytes values l is ++ (0 ∷ w.rest)) e)))
          go (j ∷ is) e =
              let h : drop i run ≡ j.0 ∷ ((value_bytes values l (row_at l j.0).kind j.1 ++ items_bytes values l is) ++ (0 ∷ w.rest)) = w.here ∙ ap (λ (is : List (Item values)). items_bytes values l is ++ (0 ∷ w.rest)) e in
              let b : x ≡ j.0 = ex ∙ byte_there run i j.0 _ h in
              let f : Fine j × Each Fine is = subst (Each Fine) e w.fine in
              let r = rest_there run i j.0 _ h ∙ append_assoc (value_bytes values l (row_at l j.0).kind j.1) (items_bytes values l is) (0 ∷ w.rest) in
              record {
                val = j.1;
                more = is;
                is = e ∙ ap (λ (z : ℕ). (z, j.1) ∷ is) (sym b);
                its = subst (λ (z : ℕ). Fine (z, j.1)) (sym b) f.0;
                fines = f.1;
                behind = r ∙ ap (λ (z : ℕ). value_bytes values l (row_at l z).kind j.1 ++ (items_bytes values l is ++ (0 ∷ w.rest))) (sym b);
              }

      module _ (x : ℕ) (ex : x ≡ get_or run i 0) (n : x ≢ 0) where
        abbrev pub h : Ahead x
        h = ahead x ex n

        pub row_in_lem : x ≤ cell t 0 0
        row_in_lem = omega (arith, h.its.1, size_is t pool)

        pub row_parent : (p : ℕ) → p ≡ cell t x 0 → p ≡ (row_at l x).parent
        row_parent p e = e ∙ sym (parent_is t pool x h.its.0 row_in_lem)

        pub row_parent_in : (row_at l x).parent ≤ size l
        row_parent_in = omega (arith, so.well.before (row_at l x).parent x (record { first = h.its.0; last = h.its.1; parent = refl }), h.its.1)

        module _ (b : Bool) (eb : b ≡ is_group_in (cell t x 2)) where
          pub sort : b ≡ is_group (row_at l x).kind
          sort = eb ∙ group_in t pool so x h.its.0 h.its.1

          -- ---- of a group

          module _ (y : b ≡ true) where
            pub group_none : (h.val ≡ none) × (value_bytes values l (row_at l x).kind h.val ≡ [])
            group_none = is_none (row_at l x).kind h.val (sym sort ∙ y) h.its.2

            abbrev pub group_after : Standing run (i + 1)
            group_after = record {
              left = h.more;
              rest = w.rest;
              here = h.behind ∙ ap (λ (u : List ℕ). u ++ (items_bytes values l h.more ++ (0 ∷ w.rest))) group_none.1;
              fine = h.fines;
            }

          -- ---- of a leaf

          module _ (y : b ≡ false) where
            abbrev pub leafed : Leafed (row_at l x).kind h.val
            leafed = is_some (row_at l x).kind h.val (sym sort ∙ y) h.its.2

            abbrev pub f : Leaf
            f = leafed.type

            abbrev pub u : Value
            u = leafed.val

            leaf_kind : kind_of (cell t x 2) (cell t x 3) (words_in t pool x) ≡ leaf f
            leaf_kind = sym (kind_is t pool x h.its.0 row_in_lem) ∙ leafed.kind

            leaf_ok_lem : LeafOk f
            leaf_ok_lem = subst KindOk leafed.kind (so.well.kinds (row_at l x).parent x (record { first = h.its.0; last = h.its.1; parent = refl }))

            counted : cell t x 15 ≡ word_count (leaf f)
            counted = (so.derived x h.its.1).words ∙ ap word_count leafed.kind

            value_here : drop (i + 1) run ≡ valued u ++ (items_bytes values l h.more ++ (0 ∷ w.rest))
            value_here = h.behind ∙ ap₂ (λ (k : Kind) (v : Option Value). value_bytes values l k v ++ (items_bytes values l h.more ++ (0 ∷ w.rest))) leafed.kind leafed.some'

            pub value_at_lem : ValueAt t pool run x (i + 1) f u
            value_at_lem = record { kind = leaf_kind; ok = leaf_ok_lem; is = leafed.is; behind = items_bytes values l h.more ++ (0 ∷ w.rest); holds = value_here }

            pub behind_value : drop (i + 1 + length (valued u)) run ≡ items_bytes values l h.more ++ (0 ∷ w.rest)
            behind_value = sym (drop-drop (length (valued u)) (i + 1) run) ∙ ap (drop (length (valued u))) value_here ∙ drop_at (valued u) (items_bytes values l h.more ++ (0 ∷ w.rest)) (length (valued u)) refl

            -- it ends where it would be judged to end
            judged : i + 1 + length (valued u) ≡ value_end (cell t x 2) (cell t x 3) (cell t x 15) run (i + 1)
            judged =
                ends_one (cell t x 2) (cell t x 3) (cell t x 15) (words_in t pool x) f leaf_ok_lem counted leaf_kind run (i + 1) (i + 1 + length (valued u))
                (taken (record { value = u; is = leafed.is; here = value_here ∙ ap (λ (s : List ℕ). valued u ++ s) (sym behind_value); ends = refl }))

            module _ (e : ℕ) (ee : e ≡ i + 1 + width (cell t x 2) (drop (i + 1) run)) where
              pub end_is : e ≡ i + 1 + length (valued u)
              end_is = ee ∙ sym (width_is (cell t x 2) (cell t x 3) (cell t x 15) run (i + 1) (omega (arith, judged))).1 ∙ sym judged

              abbrev pub leaf_after : Standing run e
              leaf_after = record { left = h.more; rest = w.rest; here = ap (λ (r : ℕ). drop r run) end_is ∙ behind_value; fine = h.fines }
