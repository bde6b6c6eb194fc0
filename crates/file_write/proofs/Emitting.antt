-- The pass over an image that puts its file: what is put so far, with what the items to come tell, is the whole file. Assumes nothing.
use mathlib.Core.Path.{◌≡◌, sym, ◌∙◌, ap, ap₂, subst}
use mathlib.Core.Logic.{◌≢◌}
use mathlib.Core.Bool.{Bool, true, false}
use mathlib.Core.List.{List, [], ◌∷◌, ◌++◌, append_assoc}
use mathlib.Core.Option.{Option, none}
use Prim.Native.Nat.{ℕ, ◌+◌, ◌*◌, ◌≤◌, ◌<◌}
use native.Mathlib.Omega.{arith}
use lib.ListN.{length, get_or, drop}
use Rattle.answer.specs.Table.{limit}
use Rattle.text.specs.Bytes.{ascii}
use Rattle.text.specs.Puts.{Puts}
use Rattle.text.proofs.Puts.{puts_none, puts_then, puts_as}
use Rattle.list.specs.Listing.{Leaf, Kind, Listing, size, row_at}
use Rattle.list.specs.Content.{Content, end, value, node, items}
use Rattle.list.specs.tables.Table.{cell, list_of}
use Rattle.list.specs.tables.Sound.{Sound}
use Rattle.value.specs.Value.{Value, bytes as valued}
use Rattle.value.specs.script.Script.{script_of}
use Rattle.value.specs.mirror.Ends.{width}
use Rattle.xml.specs.House.{render}
use Rattle.image.specs.Image.{Item, value_bytes}
use Rattle.image.specs.Kinds.{values}
use Rattle.image.specs.Place.{Holds}
use Rattle.list.specs.tables.Numbers.{is_group_in}
use Rattle.file_letter.specs.Letter.{text_in, coin_of, words_in as in_words, letter_of}
use Rattle.file_letter.specs.mirror.Tell.{opens, shuts, closes, tell}
use Rattle.file_letter.proofs.tree.Telling.{letter_told}
use Rattle.file_write.specs.mirror.Tags.{start_in, open_in, shut_in, root_in, Opened}
use Rattle.file_write.specs.mirror.Emit.{coin_text, leaf_in, LeafPut, Held, Emits}
use Rattle.file_write.proofs.Standing.{Standing, kids, is_root_lem, stand_first, stand_start, stand_in, stand_end, Ahead, ahead, row_parent, row_parent_in, group_none, group_after, Leafed, leafed, value_at_lem, end_is, leaf_after}
use Rattle.file_write.proofs.Tagging.{closes_most, open_most, root_most, open_is, shut_is, root_is, leaf_open}

regroup : (a b c e : List ℕ) → a ++ (b ++ (c ++ e)) ≡ (a ++ (b ++ c)) ++ e
regroup a b c e = simp append_assoc

spread : (a b c e s : List ℕ) → (a ++ (b ++ (c ++ e))) ++ s ≡ a ++ (b ++ (c ++ (e ++ s)))
spread a b c e s = simp append_assoc

-- what stands in the root of a content
abbrev pub kids_of : Content Value → Content Value
kids_of end = end
kids_of (value r v k) = end
kids_of (node r c k) = c

module _ (t pool : List ℕ) where
  abbrev l : Listing
  l = list_of t pool

  -- ---- where the pass stands: from d₁ on, in which a₁ bytes are put, `all` is to be put

  module _ (run d₁ : List ℕ) (a₁ : ℕ) (all : List ℕ) where
    -- g is the innermost open group, i the place of the next item
    pub record Emitting (d : List ℕ) (g i at : ℕ) : Type 0 where
      pub stands : Standing t pool run i
      pub done : List ℕ
      pub put : Puts d₁ a₁ done at d
      pub told : done ++ tell l g stands.left ≡ all
      pub group : g ≤ size l
      pub low : at ≤ 3000000 * i

  -- the same of whatever content is held in the run
  abbrev pub EmittingOn : List ℕ → ℕ → List ℕ → ℕ → List ℕ → ℕ → ℕ → ℕ → Type 0
  EmittingOn run from d₁ a₁ d g i at = (n : ℕ) (w : Holds values l (drop from run) n) → Emitting run d₁ a₁ (tell l 1 (items (kids_of w.content))) d g i at

  module _ (so : Sound t pool) (run : List ℕ) where
    -- ---- the start

    module _ (from n : ℕ) (w : Holds values l (drop from run) n) where
      pub emit_first : (d₁ : List ℕ) (a₁ : ℕ) → a₁ ≤ 200000 → Emitting run d₁ a₁ (tell l 1 (items (kids_of w.content))) d₁ 1 (from + 1) a₁
      emit_first d₁ a₁ h =
          record {
            stands = stand_first t pool so run from n w;
            done = [];
            put = puts_none d₁ a₁;
            told = ap (λ (c : Content Value). tell l 1 (items (kids_of c))) (sym (is_root_lem t pool so run from n w));
            group = so.well.root.0;
            low = omega arith;
          }

      pub emit_start : from < length run
      emit_start = stand_start t pool so run from n w

      -- the root's tag and what is told after it are the whole file
      pub emit_whole : root_in t pool ++ tell l 1 (items (kids_of w.content)) ≡ letter_of l w.content
      emit_whole =
          ap₂ ◌++◌ (root_is t pool so.well) (ap (λ (c : Content Value). tell l 1 (items (kids_of c))) (is_root_lem t pool so run from n w))
          ∙ sym (letter_told l so.well w.content w.meets (kids t pool so run from n w) (is_root_lem t pool so run from n w))

    -- ---- a turn

    module _ (d₁ : List ℕ) (a₁ : ℕ) (all d : List ℕ) (g i at : ℕ) (w : Emitting run d₁ a₁ all d g i at) where
      pub emit_in : i < length run
      emit_in = stand_in t pool so run i w.stands

      pub emit_low : length run ≤ limit → at ≤ 3200000000000
      emit_low h = omega (arith, w.low, emit_in)

      pub emit_open : length pool ≤ 65535 → length run ≤ limit → Opened t pool g at
      emit_open s h = record { sound = so; within = w.group; small = s; low = omega (arith, emit_low h) }

      -- the closing 0
      pub emit_end : get_or run i 0 ≡ 0 → (r : ℕ) (d' : List ℕ) → Puts d at (closes l 17 g 0) r d' → Puts d₁ a₁ all r d'
      unfolding tell
      emit_end z r d' x =
          puts_as d₁ a₁ (w.done ++ closes l 17 g 0) all r d' (ap (λ (is : List (Item values)). w.done ++ tell l g is) (sym (stand_end t pool so run i w.stands z)) ∙ w.told)
          (puts_then d₁ a₁ w.done at d (closes l 17 g 0) r d' w.put x)

      module _ (x : ℕ) (ex : x ≡ get_or run i 0) (n : x ≢ 0) where
        abbrev h : Ahead t pool so run i w.stands x
        h = ahead t pool so run i w.stands x ex n

        abbrev parent : (p : ℕ) → p ≡ cell t x 0 → p ≡ (row_at l x).parent
        parent p e = row_parent t pool so run i w.stands x ex n p e

        module _ (b : Bool) (eb : b ≡ is_group_in (cell t x 2)) where
          -- ---- of a group

          module _ (y : b ≡ true) (small : length pool ≤ 65535) (p : ℕ) (ep : p ≡ cell t x 0) (a₂ : ℕ) (d₂ : List ℕ) (c : Puts d at (closes l 17 g p) a₂ d₂) (a₃ : ℕ) (d₃ : List ℕ) (o : Puts d₂ a₂ (open_in t pool x) a₃ d₃) where
            abbrev none_is : (h.val ≡ none) × (value_bytes values l (row_at l x).kind h.val ≡ [])
            none_is = group_none t pool so run i w.stands x ex n b eb y

            pub emit_group : Emitting run d₁ a₁ all d₃ x (i + 1) a₃
            unfolding tell
            emit_group = record {
              stands = group_after t pool so run i w.stands x ex n b eb y;
              done = w.done ++ (closes l 17 g p ++ open_in t pool x);
              put = puts_then d₁ a₁ w.done at d (closes l 17 g p ++ open_in t pool x) a₃ d₃ w.put (puts_then d at (closes l 17 g p) a₂ d₂ (open_in t pool x) a₃ d₃ c o);
              told =
                  append_assoc w.done (closes l 17 g p ++ open_in t pool x) (tell l x h.more)
                  ∙ ap (λ (u : List ℕ). w.done ++ u) (append_assoc (closes l 17 g p) (open_in t pool x) (tell l x h.more))
                  ∙ ap₂ (λ (q : ℕ) (u : List ℕ). w.done ++ (closes l 17 g q ++ (u ++ tell l x h.more))) (parent p ep) (open_is t pool x h.its.0 h.its.1)
                  ∙ ap (λ (v : Option Value). w.done ++ tell l g ((x, v) ∷ h.more)) (sym none_is.0)
                  ∙ ap (λ (is : List (Item values)). w.done ++ tell l g is) (sym h.is) ∙ w.told;
              group = h.its.1;
              low = omega (arith, w.low, c.behind, o.behind, closes_most t pool small 17 g p, open_most t pool x);
            }

          -- ---- of a leaf

          module _ (y : b ≡ false) where
            abbrev its : Leafed t pool (row_at l x).kind h.val
            its = leafed t pool so run i w.stands x ex n b eb y

            abbrev f : Leaf
            f = its.type

            abbrev u : Value
            u = its.val

            module _ (e : ℕ) (ee : e ≡ i + 1 + width (cell t x 2) (drop (i + 1) run)) where
              abbrev ends_at : e ≡ i + 1 + length (valued u)
              ends_at = end_is t pool so run i w.stands x ex n b eb y e ee

              pub emit_less : i < e
              emit_less = omega (arith, ends_at)

              module _ (small : length pool ≤ 65535) (p : ℕ) (ep : p ≡ cell t x 0) (a₂ : ℕ) (d₂ : List ℕ) (c : Puts d at (closes l 17 g p) a₂ d₂) (a₃ : ℕ) (d₃ : List ℕ) (o : LeafPut t pool run x (i + 1) d₂ a₂ a₃ d₃) where
                leaf_is : leaf_in t pool run x f u ≡ opens l x (coin_of u) ++ (render (text_in (script_of f u)) ++ shuts l x)
                leaf_is =
                    regroup (start_in t pool x) (coin_text u) (ascii ">") (render (text_in (script_of f u)) ++ shut_in t pool x)
                    ∙ ap₂ (λ (a s : List ℕ). a ++ (render (text_in (script_of f u)) ++ s)) (leaf_open t pool x h.its.0 h.its.1 f u its.is) (shut_is t pool x h.its.0 h.its.1)

                pub emit_leaf : Emitting run d₁ a₁ all d₃ p e a₃
                unfolding tell
                emit_leaf =
                    let q = o.value f u (value_at_lem t pool so run i w.stands x ex n b eb y) in
                    let z = render (text_in (script_of f u)) in
                    record {
                      stands = leaf_after t pool so run i w.stands x ex n b eb y e ee;
                      done = w.done ++ (closes l 17 g p ++ leaf_in t pool run x f u);
                      put = puts_then d₁ a₁ w.done at d (closes l 17 g p ++ leaf_in t pool run x f u) a₃ d₃ w.put (puts_then d at (closes l 17 g p) a₂ d₂ (leaf_in t pool run x f u) a₃ d₃ c q);
                      told =
                          append_assoc w.done (closes l 17 g p ++ leaf_in t pool run x f u) (tell l p h.more)
                          ∙ ap (λ (s : List ℕ). w.done ++ ((closes l 17 g p ++ s) ++ tell l p h.more)) leaf_is
                          ∙ ap (λ (s : List ℕ). w.done ++ s) (spread (closes l 17 g p) (opens l x (coin_of u)) z (shuts l x) (tell l p h.more))
                          ∙ ap (λ (r : ℕ). w.done ++ (closes l 17 g r ++ (opens l x (coin_of u) ++ (z ++ (shuts l x ++ tell l r h.more))))) (parent p ep)
                          ∙ ap (λ (k : Kind). w.done ++ (closes l 17 g (row_at l x).parent ++ (opens l x (coin_of u) ++ (render (text_in (in_words k u)) ++ (shuts l x ++ tell l (row_at l x).parent h.more))))) (sym its.kind)
                          ∙ ap (λ (v : Option Value). w.done ++ tell l g ((x, v) ∷ h.more)) (sym its.some')
                          ∙ ap (λ (is : List (Item values)). w.done ++ tell l g is) (sym h.is) ∙ w.told;
                      group = subst (λ (r : ℕ). r ≤ size l) (sym (parent p ep)) (row_parent_in t pool so run i w.stands x ex n);
                      low = omega (arith, w.low, c.behind, o.most, closes_most t pool small 17 g p, ends_at);
                    }

-- ---- the same of whatever content is held in the run, as the loop asks for it

module _ (t pool run : List ℕ) (from : ℕ) (pre : Held t pool run from) where
  pub held_start : from < length run
  held_start = emit_start t pool pre.sound run from pre.size pre.holds

  pub held_first : (d₀ : List ℕ) (a₁ : ℕ) (d₁ : List ℕ) → Puts d₀ 0 (root_in t pool) a₁ d₁ → EmittingOn t pool run from d₁ a₁ d₁ 1 (from + 1) a₁
  held_first d₀ a₁ d₁ p n w = emit_first t pool pre.sound run from n w d₁ a₁ (omega (arith, p.behind, root_most t pool, pre.small))

  module _ (d₁ : List ℕ) (a₁ : ℕ) (d : List ℕ) (g i at : ℕ) (w : EmittingOn t pool run from d₁ a₁ d g i at) where
    abbrev mine : List ℕ
    mine = tell (list_of t pool) 1 (items (kids_of pre.holds.content))

    here : Emitting t pool run d₁ a₁ mine d g i at
    here = w pre.size pre.holds

    pub held_in : i < length run
    held_in = emit_in t pool pre.sound run d₁ a₁ mine d g i at here

    pub held_long : length d ≡ length d₁
    held_long = here.put.long

    pub held_open : Opened t pool g at
    held_open = emit_open t pool pre.sound run d₁ a₁ mine d g i at here pre.small pre.within

    module _ (x : ℕ) (ex : x ≡ get_or run i 0) where
      pub held_end : x ≡ 0 → (d₀ : List ℕ) → Puts d₀ 0 (root_in t pool) a₁ d₁ → (r : ℕ) (d' : List ℕ) → Puts d at (closes (list_of t pool) 17 g 0) r d' → Emits t pool run from d₀ r d'
      held_end z d₀ p r d' c n h =
          let all = tell (list_of t pool) 1 (items (kids_of h.content)) in
          puts_as d₀ 0 (root_in t pool ++ all) (letter_of (list_of t pool) h.content) r d' (emit_whole t pool pre.sound run from n h)
          (puts_then d₀ 0 (root_in t pool) a₁ d₁ all r d' p (emit_end t pool pre.sound run d₁ a₁ all d g i at (w n h) (sym ex ∙ z) r d' c))

      module _ (nz : x ≢ 0) (p : ℕ) (ep : p ≡ cell t x 0) (a₂ : ℕ) (d₂ : List ℕ) (c : Puts d at (closes (list_of t pool) 17 g p) a₂ d₂) where
        pub held_low : a₂ ≤ 4000000000000
        held_low = omega (arith, c.behind, closes_most t pool pre.small 17 g p, emit_low t pool pre.sound run d₁ a₁ mine d g i at here pre.within)

        module _ (k : ℕ) (ek : k ≡ cell t x 2) (b : Bool) (eb : b ≡ is_group_in k) where
          sorted : b ≡ is_group_in (cell t x 2)
          sorted = eb ∙ ap is_group_in ek

          pub held_group : b ≡ true → (a₃ : ℕ) (d₃ : List ℕ) → Puts d₂ a₂ (open_in t pool x) a₃ d₃ → EmittingOn t pool run from d₁ a₁ d₃ x (i + 1) a₃
          held_group y a₃ d₃ o n h = emit_group t pool pre.sound run d₁ a₁ _ d g i at (w n h) x ex nz b sorted y pre.small p ep a₂ d₂ c a₃ d₃ o

          module _ (y : b ≡ false) where
            module _ (e : ℕ) (ee : e ≡ i + 1 + width k (drop (i + 1) run)) where
              ends : e ≡ i + 1 + width (cell t x 2) (drop (i + 1) run)
              ends = ee ∙ ap (λ (j : ℕ). i + 1 + width j (drop (i + 1) run)) ek

              pub held_less : i < e
              held_less = emit_less t pool pre.sound run d₁ a₁ mine d g i at here x ex nz b sorted y e ends

              pub held_leaf : (a₃ : ℕ) (d₃ : List ℕ) → LeafPut t pool run x (i + 1) d₂ a₂ a₃ d₃ → EmittingOn t pool run from d₁ a₁ d₃ p e a₃
              held_leaf a₃ d₃ o n h = emit_leaf t pool pre.sound run d₁ a₁ _ d g i at (w n h) x ex nz b sorted y e ends pre.small p ep a₂ d₂ c a₃ d₃ o
