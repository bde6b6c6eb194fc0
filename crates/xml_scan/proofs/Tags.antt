-- Start tags after their name: attributes, blanks, and `>` or `/>`. Assumes nothing.
use mathlib.Core.Path.{◌≡◌, refl, sym, ◌∙◌, ap, subst}
use mathlib.Core.Bool.{true, false, true≢false}
use mathlib.Core.Logic.{◌≢◌}
use mathlib.Core.List.{List, [], ◌∷◌}
use Prim.Native.Nat.{ℕ, zero, suc, ◌+◌, ◌-◌, ◌≤◌, ◌<◌}
use native.Mathlib.Decide.{dec_lt}
use native.Mathlib.Omega.{arith}
use lib.ListN.{length, get_or, drop, take}
use lib.Seq.{slice}
use borrow.Author.Tests.{ne_eqb}
use Rattle.text.specs.Bytes.{is_blank, is_name_start}
use Rattle.text.specs.Lists.{span}
use Rattle.text.proofs.Spans.{span_go}
use Rattle.xml.specs.mirror.Auto.{Mode, grows, may_stop, tail, gap, attr, equals, slash, content, dead, at, member, after, next}
use Rattle.xml.proofs.Basics.{blank_no_start}
use Rattle.xml_scan.specs.mirror.Goes.{fate, GoesEquals}
use Rattle.xml_scan.specs.mirror.Tags.{Named, GoesName, GoesAttribute, GoesEnd, GoesTag}
use Rattle.std.specs.Prelude.{Result, Ok, Err}
use Rattle.xml_pieces.specs.declared.Stopped.{Stopped}
use Rattle.xml_pieces.specs.Over.{stop}
use Rattle.xml_scan.specs.declared.tag.Ending.{Ending}
use Rattle.xml_scan.specs.declared.tag.Ending.TheVariants.{Open, Empty}
use Rattle.xml_scan.proofs.Fate.{fate_end, fate_dead, fate_byte, fate_alike, run_within, run_behind, run_over, run_first}
use Rattle.xml_scan.proofs.names.Names.{lent}

-- a byte that begins a name is no other
start_other : (y x : ℕ) → is_name_start y ≡ false → is_name_start x ≡ true → x ≢ y
start_other y x e f g = true≢false (sym f ∙ ap is_name_start g ∙ e)

-- ---- the automaton at a byte of a tag

module _ (k : ℕ) (ss : List (List ℕ)) (d : ℕ) (n : List ℕ) (ns : List (List ℕ)) where
  tail_blank : (x : ℕ) → is_blank x ≡ true → next (tail k ss d n ns) x ≡ at (gap k ss d n ns)
  unfolding next
  tail_blank x e = rw e refl

  gap_blank : (x : ℕ) → is_blank x ≡ true → next (gap k ss d n ns) x ≡ at (gap k ss d n ns)
  unfolding next
  gap_blank x e = rw (blank_no_start x e, e) refl

  gap_tail : (x : ℕ) → is_name_start x ≡ false → next (gap k ss d n ns) x ≡ next (tail k ss d n ns) x
  unfolding next
  gap_tail x e = rw e refl

  tail_greater : (x : ℕ) → x ≡ 62 → next (tail k ss d n ns) x ≡ at (content 0 d n ns)
  unfolding next is_blank
  tail_greater x e = rw e refl

  tail_slash : (x : ℕ) → x ≡ 47 → next (tail k ss d n ns) x ≡ at (slash d ns)
  unfolding next is_blank
  tail_slash x e = rw e refl

  tail_dead : (x : ℕ) → is_blank x ≡ false → x ≢ 62 → x ≢ 47 → next (tail k ss d n ns) x ≡ dead
  unfolding next
  tail_dead x e f g = rw (e, ne_eqb x 62 f, ne_eqb x 47 g) refl

  attr_seen : (m : Mode) (b : List ℕ) (x : ℕ) → grows m x ≡ false → may_stop m ≡ true → member b ss ≡ true → next (attr m b k ss d n ns) x ≡ dead
  unfolding next
  attr_seen m b x e y f = rw (e, y, f) refl

  attr_fresh : (m : Mode) (b : List ℕ) (x : ℕ) → grows m x ≡ false → may_stop m ≡ true → member b ss ≡ false
      → next (attr m b k ss d n ns) x ≡ next (equals k (b ∷ ss) d n ns) x
  unfolding next
  attr_fresh m b x e y f = rw (e, y, f) refl

gap_full : (ss : List (List ℕ)) (d : ℕ) (n : List ℕ) (ns : List (List ℕ)) (x : ℕ) → is_name_start x ≡ true → next (gap zero ss d n ns) x ≡ dead
unfolding next
gap_full ss d n ns x e = rw e refl

slash_greater : (d : ℕ) (ns : List (List ℕ)) (x : ℕ) → x ≡ 62 → next (slash d ns) x ≡ at (after (suc d) ns)
unfolding next
slash_greater d ns x e = rw e refl

slash_dead : (d : ℕ) (ns : List (List ℕ)) (x : ℕ) → x ≢ 62 → next (slash d ns) x ≡ dead
unfolding next
slash_dead d ns x e = rw (ne_eqb x 62 e) refl

-- ---- `>` or `/>`

module _ (s : List ℕ) (i : ℕ) (h : i < length s) where
  pub end_greater : get_or s i 0 ≡ 62 → GoesEnd s i (Ok (Open (i + 1)))
  end_greater e =
      λ k ss d n ns. (omega arith, omega arith, fate_byte s i (tail k ss d n ns) (content 0 d n ns) h (tail_greater k ss d n ns (get_or s i 0) e))

  pub end_other : is_blank (get_or s i 0) ≡ false → get_or s i 0 ≢ 62 → get_or s i 0 ≢ 47 → GoesEnd s i (stop i)
  end_other e f g = λ k ss d n ns. fate_dead s i (tail k ss d n ns) h (tail_dead k ss d n ns (get_or s i 0) e f g)

  module _ (e : get_or s i 0 ≡ 47) where
    slashed : (k : ℕ) (ss : List (List ℕ)) (d : ℕ) (n : List ℕ) (ns : List (List ℕ)) → fate s i (tail k ss d n ns) ≡ fate s (i + 1) (slash d ns)
    slashed k ss d n ns = fate_byte s i (tail k ss d n ns) (slash d ns) h (tail_slash k ss d n ns (get_or s i 0) e)

    pub slash_cut : length s ≤ i + 1 → GoesEnd s i (stop (i + 1))
    slash_cut l = λ k ss d n ns. slashed k ss d n ns ∙ fate_end s (i + 1) (slash d ns) l refl

    pub slash_other : i + 1 < length s → get_or s (i + 1) 0 ≢ 62 → GoesEnd s i (stop (i + 1))
    slash_other l f = λ k ss d n ns. slashed k ss d n ns ∙ fate_dead s (i + 1) (slash d ns) l (slash_dead d ns (get_or s (i + 1) 0) f)

    pub slash_end : i + 1 < length s → get_or s (i + 1) 0 ≡ 62 → GoesEnd s i (Ok (Empty (i + 1 + 1)))
    slash_end l f =
        λ k ss d n ns. (
          omega arith,
          omega arith,
          slashed k ss d n ns ∙ fate_byte s (i + 1) (slash d ns) (after (suc d) ns) l (slash_greater d ns (get_or s (i + 1) 0) f),
        )

-- ---- the loop over attributes

pub record Attributing (s : List ℕ) (at : ℕ) (ss : List (List ℕ)) (i : ℕ) : Type 0 where
  pub on : at ≤ i
  pub within : i ≤ length s
  pub so : (d : ℕ) (m : List ℕ) (ns : List (List ℕ)) → fate s at (tail 4 [] d m ns) ≡ fate s i (tail (4 - length ss) ss d m ns)

pub attributing_none : (s : List ℕ) (i : ℕ) (ss : List (List ℕ)) → ss ≡ [] → i ≤ length s → Attributing s i ss i
attributing_none s i ss e h = subst (λ (us : List (List ℕ)). Attributing s i us i) (sym e) (record { on = omega arith; within = h; so = λ d m ns. refl })

module _ (s : List ℕ) (ss : List (List ℕ)) where
  -- ---- an attribute, from its name on
  module _ (b : ℕ) (h : b < length s) (e : is_name_start (get_or s b 0) ≡ true) where
    -- a fifth
    pub attribute_full : 4 ≤ length ss → GoesAttribute s b ss ss (stop b)
    attribute_full z =
        λ d m ns. ap (λ (k : ℕ). fate s b (gap k ss d m ns)) none ∙ fate_dead s b (gap zero ss d m ns) h (gap_full ss d m ns (get_or s b 0) e)
      where
        none : 4 - length ss ≡ 0
        none = omega arith

    module _ (few : length ss < 4) (r : Result ℕ Stopped) (o : GoesName s b r) where
      one_less : 4 - length ss ≡ suc (4 - suc (length ss))
      one_less = omega arith

      -- no name
      pub attribute_unnamed : (p : ℕ) → r ≡ stop p → GoesAttribute s b ss ss (stop p)
      attribute_unnamed p w =
          λ d m ns. ap (λ (k : ℕ). fate s b (gap k ss d m ns)) one_less ∙ subst (GoesName s b) w o (4 - suc (length ss)) ss d m ns

    module _ (few : length ss < 4) (r : Result ℕ Stopped) (o : GoesName s b r) (c : ℕ) (w : r ≡ Ok c) where
      its : Named s b c
      its = subst (GoesName s b) w o

      named : (d : ℕ) (m : List ℕ) (ns : List (List ℕ)) → fate s b (gap (4 - length ss) ss d m ns) ≡ fate s c (attr its.mode (slice b c s) (4 - suc (length ss)) ss d m ns)
      named d m ns = ap (λ (k : ℕ). fate s b (gap k ss d m ns)) (one_less few r o) ∙ its.so (4 - suc (length ss)) ss d m ns

      -- the name, as it was lent
      part_is : take (c - b) (drop b s) ≡ slice b c s
      part_is = lent s b c (omega (arith, its.some))

      -- a name that was seen
      pub attribute_seen : member (take (c - b) (drop b s)) ss ≡ true → GoesAttribute s b ss ss (stop c)
      attribute_seen k = λ d m ns. named d m ns ∙ go d m ns (dec_lt c (length s))
        where
          g : member (slice b c s) ss ≡ true
          g = subst (λ (n : List ℕ). member n ss ≡ true) part_is k

          go : (d : ℕ) (m : List ℕ) (ns : List (List ℕ)) → Dec (c < length s) → fate s c (attr its.mode (slice b c s) (4 - suc (length ss)) ss d m ns) ≡ (false, c)
          go d m ns (yes l) =
              fate_dead s c (attr its.mode (slice b c s) (4 - suc (length ss)) ss d m ns) l
              (attr_seen (4 - suc (length ss)) ss d m ns its.mode (slice b c s) (get_or s c 0) (its.behind l) its.stops g)
          go d m ns (no l) = fate_end s c (attr its.mode (slice b c s) (4 - suc (length ss)) ss d m ns) (omega arith) refl

      module _ (f : member (take (c - b) (drop b s)) ss ≡ false) where
        valued : (d : ℕ) (m : List ℕ) (ns : List (List ℕ)) → fate s b (gap (4 - length ss) ss d m ns) ≡ fate s c (equals (4 - suc (length ss)) (slice b c s ∷ ss) d m ns)
        valued d m ns =
            let g : member (slice b c s) ss ≡ false = subst (λ (n : List ℕ). member n ss ≡ false) part_is f in
            named d m ns ∙ fate_alike s c (attr its.mode (slice b c s) (4 - suc (length ss)) ss d m ns) (equals (4 - suc (length ss)) (slice b c s ∷ ss) d m ns) refl
            (λ l. attr_fresh (4 - suc (length ss)) ss d m ns its.mode (slice b c s) (get_or s c 0) (its.behind l) its.stops g)

        grown : (q : Result ℕ Stopped) → GoesEquals s c q → GoesAttribute s b ss (slice b c s ∷ ss) q
        grown (Ok j) v =
            let y = v 0 [] 0 [] [] in
            let l = y.0 in
            (omega (arith, its.some), y.1, λ d m ns. valued d m ns ∙ (v (4 - suc (length ss)) (slice b c s ∷ ss) d m ns).2)
        grown (Err p) v = λ d m ns. valued d m ns ∙ v (4 - suc (length ss)) (slice b c s ∷ ss) d m ns

        -- a new name, and what comes of the value
        pub attribute_new : (ss' : List (List ℕ)) → ss' ≡ take (c - b) (drop b s) ∷ ss → (q : Result ℕ Stopped) → GoesEquals s c q → GoesAttribute s b ss ss' q
        attribute_new ss' w q v =
            subst (λ (us : List (List ℕ)). GoesAttribute s b ss us q) (sym (w ∙ ap (λ (n : List ℕ). n ∷ ss) part_is)) (grown q v)

  -- ---- a turn of the loop
  module _ (o i : ℕ) (a : Attributing s o ss i) (b : ℕ) (is : b ≡ i + span is_blank (drop i s)) where
    -- over blanks, if there are some
    gapped : i < b → (k : ℕ) (d : ℕ) (m : List ℕ) (ns : List (List ℕ)) → fate s i (tail k ss d m ns) ≡ fate s b (gap k ss d m ns)
    gapped h k d m ns =
        let e = run_first is_blank s i b is h in
        let l = run_within is_blank s i b is a.within in
        let j : i < length s = omega arith in
        fate_byte s i (tail k ss d m ns) (gap k ss d m ns) j (tail_blank k ss d m ns (get_or s i 0) e)
        ∙ run_over is_blank s (i + 1) b (omega (arith, span_go is_blank s i j e)) (gap k ss d m ns) (gap_blank k ss d m ns)

    -- to the byte after, which begins no name
    ended : (b < length s → is_name_start (get_or s b 0) ≡ false) → (k : ℕ) (d : ℕ) (m : List ℕ) (ns : List (List ℕ)) → fate s i (tail k ss d m ns) ≡ fate s b (tail k ss d m ns)
    ended e k d m ns = go (dec_lt i b)
      where
        go : Dec (i < b) → fate s i (tail k ss d m ns) ≡ fate s b (tail k ss d m ns)
        go (yes h) = gapped h k d m ns ∙ fate_alike s b (gap k ss d m ns) (tail k ss d m ns) refl (λ l. gap_tail k ss d m ns (get_or s b 0) (e l))
        go (no h) = let q : i ≡ b = omega (arith, is) in ap (λ (j : ℕ). fate s j (tail k ss d m ns)) q

    pub tag_cut : length s ≤ b → GoesTag s o (stop b)
    tag_cut h =
        λ d m ns. a.so d m ns ∙ ended (λ l. absurd (omega arith)) (4 - length ss) d m ns ∙ fate_end s b (tail (4 - length ss) ss d m ns) h refl

    module _ (h : b < length s) where
      -- no name: `>` or `/>`
      pub tag_ends : is_name_start (get_or s b 0) ≡ false → (r : Result Ending Stopped) → GoesEnd s b r → GoesTag s o r
      tag_ends e (Ok (Open j)) g =
          λ d m ns. let w = g (4 - length ss) ss d m ns in let l = w.0 in
          (omega (arith, a.on, is), w.1, a.so d m ns ∙ ended (λ _. e) (4 - length ss) d m ns ∙ w.2)
      tag_ends e (Ok (Empty j)) g =
          λ d m ns. let w = g (4 - length ss) ss d m ns in let l = w.0 in
          (omega (arith, a.on, is), w.1, a.so d m ns ∙ ended (λ _. e) (4 - length ss) d m ns ∙ w.2)
      tag_ends e (Err j) g = λ d m ns. a.so d m ns ∙ ended (λ _. e) (4 - length ss) d m ns ∙ g (4 - length ss) ss d m ns

      -- no blank before a name
      pub tag_joined : is_name_start (get_or s b 0) ≡ true → b ≡ i → GoesTag s o (stop b)
      unfolding is_name_start
      tag_joined e q =
          λ d m ns. a.so d m ns ∙ ap (λ (j : ℕ). fate s j (tail (4 - length ss) ss d m ns)) (sym q)
          ∙ fate_dead s b (tail (4 - length ss) ss d m ns) h
          (tail_dead (4 - length ss) ss d m ns (get_or s b 0) (run_behind is_blank s i b is a.within h) (start_other 62 (get_or s b 0) refl e) (start_other 47 (get_or s b 0) refl e))

    -- blanks, and an attribute
    module _ (q : b ≢ i) (ss' : List (List ℕ)) (r : Result ℕ Stopped) (v : GoesAttribute s b ss ss' r) where
      reached : (d : ℕ) (m : List ℕ) (ns : List (List ℕ)) → fate s o (tail 4 [] d m ns) ≡ fate s b (gap (4 - length ss) ss d m ns)
      reached d m ns = a.so d m ns ∙ gapped (omega (arith, is)) (4 - length ss) d m ns

      pub tag_stop : (p : ℕ) → r ≡ stop p → GoesTag s o (stop p)
      tag_stop p w =
          let u : GoesAttribute s b ss ss' (stop p) = subst (GoesAttribute s b ss ss') w v in
          λ d m ns. reached d m ns ∙ u d m ns

      module _ (j : ℕ) (w : r ≡ Ok j) where
        over : GoesAttribute s b ss ss' (Ok j)
        over = subst (GoesAttribute s b ss ss') w v

        pub attributing_on : Attributing s o ss' j
        attributing_on =
            let l = over.0 in
            record { on = omega (arith, a.on, is); within = over.1; so = λ d m ns. reached d m ns ∙ over.2 d m ns }

        pub attributing_less : length s - j < length s - i
        attributing_less = let l = over.0 in let k = over.1 in omega (arith, is)

-- ---- mostly `>`

pub tag_greater : (s : List ℕ) (i : ℕ) → i < length s → get_or s i 0 ≡ 62 → GoesTag s i (Ok (Open (i + 1)))
tag_greater s i h e = λ d m ns. end_greater s i h e 4 [] d m ns
