-- The walk with a level for each open element finds the first violation. Assumes nothing.
use Rattle.std.specs.Prelude.{Ok}
use mathlib.Core.Path.{◌≡◌, refl, sym, ◌∙◌, ap, subst}
use mathlib.Core.Logic.{inl, inr}
use mathlib.Core.Bool.{Bool, true, false, cond, ◌&&◌, ◌||◌, not, true≢false, false≢true}
use mathlib.Core.List.{List, [], ◌∷◌, ◌++◌, append_assoc, append-nil}
use Prim.Native.Nat.{ℕ, ◌≤◌, ◌<◌}
use native.Mathlib.Omega.{arith}
use native.Mathlib.Decide.{ℕ_discrete, dec_lt}
use lib.Dec.{eqb, ltb}
use borrow.Author.Tests.{eqb-false, eq-eqb, ne_eqb, lt-ltb, le-ltb}
use Rattle.answer.specs.Table as table
use Rattle.text.specs.Bytes.{is_blank}
use Rattle.text.specs.Lists.{Each}
use Rattle.list.specs.Words.{times, has}
use Rattle.list.specs.Listing.{Leaf, Kind, group, choice, leaf, Rule, both, Listing, row_at, size, Child, child, is_group, is_choice, at_most_once, required}
use Rattle.list.specs.WellFormed.{WellFormed}
use Rattle.list.specs.tables.Sound.{first_of as mate, second_of as pair}
use Rattle.list.proofs.rows.Words.{first_from_ext, times_hit, times_miss, has_of, each_at, each_of}
use Rattle.xml.specs.Message.{Attrs, Inside, nothing_inside, character, element}
use Rattle.xml_tags.specs.Story.{Event, leave, events}
use Rattle.file_walk.specs.declared.level.Level.{Level}
use Rattle.file_walk.specs.Types.{Judge}
use Rattle.file_walk.specs.First.{Found, refuse, or_else, first_of, is_empty, passed, breaks, text_of, attrs_ok, kind_of, is_root, absent_row, child_rows, opening, closing, inside, first_violation}
use Rattle.file_walk.specs.Denotes.{OneElement}
use Rattle.file_walk.specs.mirror.Machine.{Speller, judge_of, at, pop, fresh, advance, again, open_test, close_test, run, walk, misses}
use Rattle.file_walk.proofs.violation.Answers.{or_right, or_when, or_assoc, refuse_no, passed_no, no_passed, group_attrs, kinds}
use Rattle.list.proofs.rows.Child.{child_found}
use Rattle.file_walk.proofs.violation.Tests.{no_child}
use Rattle.file_walk.proofs.violation.Opening.{over_count, open_tests, opening_is}
use Rattle.file_walk.proofs.violation.Steps.{Fits}
use Rattle.file_walk.proofs.violation.Tests.{Opened, opened}
use Rattle.file_walk.proofs.violation.Rules.{latest, Odd, odd_ends, step_to, step_from}
use Rattle.file_walk.proofs.violation.Due.{due_start, due_step}

-- four answers in a row, then another
regroup : (a b c d x : Found) → or_else (first_of (a ∷ b ∷ c ∷ d ∷ [])) x ≡ or_else a (or_else b (or_else c (or_else d x)))
regroup a b c d x =
    or_assoc a (or_else b (or_else c (or_else d (Ok tt)))) x
    ∙ ap (or_else a) (or_assoc b (or_else c (or_else d (Ok tt))) x ∙ ap (or_else b) (or_assoc c (or_else d (Ok tt)) x ∙ ap (or_else c) (or_assoc d (Ok tt) x)))

-- ---- the closing tests ask how often, not in which order

times_shift : (q r : ℕ) (a b : List ℕ) → times q (a ++ (r ∷ b)) ≡ times q (r ∷ (a ++ b))
times_shift q r [] b = refl
times_shift q r (x ∷ a) b = elim (ℕ_discrete x q) [
  | yes e ↦ elim (ℕ_discrete r q) [
    | yes f ↦ rw (eq-eqb x q e, times_shift q r a b, eq-eqb r q f)
    | no f ↦ rw (eq-eqb x q e, times_shift q r a b, ne_eqb r q f)
  ]
  | no e ↦ rw (ne_eqb x q e) (times_shift q r a b)
]

empty_shift : (r : ℕ) (a b : List ℕ) → is_empty (a ++ (r ∷ b)) ≡ false
empty_shift r [] b = refl
empty_shift r (x ∷ a) b = refl

breaks_same : (p : ℕ) (a b : List ℕ) (qs : List Rule) → ((q : ℕ) → times q a ≡ times q b) → breaks p a qs ≡ breaks p b qs
breaks_same p a b [] e = refl
breaks_same p a b (both g x y ∷ qs) e = rw (e x, e y, breaks_same p a b qs e)

module _ (T : Speller) (l : Listing) where
  abbrev j : Judge
  j = judge_of T

  absent_same : (p : ℕ) (a b : List ℕ) → ((q : ℕ) → times q a ≡ times q b) → absent_row l p a ≡ absent_row l p b
  unfolding absent_row
  absent_same p a b e =
      first_from_ext (λ r. eqb (row_at l r).parent p && (required (row_at l r).count && not (has r a))) (λ r. eqb (row_at l r).parent p && (required (row_at l r).count && not (has r b))) 1 (size l)
      (λ q h k. ap (λ n. eqb (row_at l q).parent p && (required (row_at l q).count && not (ltb 0 n))) (e q))

  closing_same : (k : Kind) (r o : ℕ) (ats : Attrs) (cs a b : List ℕ) → ((q : ℕ) → times q a ≡ times q b) → is_empty a ≡ is_empty b → closing j l k r o ats a cs ≡ closing j l k r o ats b cs
  closing_same group r o ats cs a b e f = rw (f, absent_same r a b e, breaks_same r a b l.rules e)
  closing_same choice r o ats cs a b e f = rw (f, absent_same r a b e, breaks_same r a b l.rules e)
  closing_same (leaf k) r o ats cs a b e f = refl

  -- a group's attributes and characters are not asked at its end
  closing_group : (k : Kind) (r o : ℕ) (ats bts : Attrs) (rs cs ds : List ℕ) → is_group k ≡ true → closing j l k r o ats rs cs ≡ closing j l k r o bts rs ds
  closing_group group r o ats bts rs cs ds g = refl
  closing_group choice r o ats bts rs cs ds g = refl
  closing_group (leaf k) r o ats bts rs cs ds g = absurd (false≢true g)

  -- ---- the opening tests by the latest row

  passed_latest : (r : ℕ) (seen : List ℕ) → Each (λ x. x ≤ latest seen) seen → ltb r (latest seen) ≡ passed r seen
  passed_latest r [] a = le-ltb r 0 (omega arith)
  passed_latest r (x ∷ s) a = elim (dec_lt r x) [
    | yes h ↦ rw (lt-ltb r x h)
    | no h ↦ rw (le-ltb r x (omega arith)) (sym (no_passed r s (each_of (λ q. q ≤ r) s (λ q z. let y : q ≤ x = each_at (λ y. y ≤ x) s q a.1 z in omega arith))))
  ]

  has_latest : (r : ℕ) (seen : List ℕ) → 0 < r → Each (λ x. x ≤ latest seen) seen → Each (λ x. x ≤ r) seen → eqb (latest seen) r ≡ has r seen
  has_latest r [] pos a b = ne_eqb 0 r (omega arith)
  has_latest r (x ∷ s) pos a b = elim (ℕ_discrete x r) [
    | yes e ↦ eq-eqb x r e ∙ sym (has_of r (x ∷ s) (omega (arith, times_hit r x s e)))
    | no e ↦ ne_eqb x r e ∙ sym (elim (dec_lt 0 (times r s)) [
      | yes h ↦ absurd (e (let g : r ≤ x = each_at (λ y. y ≤ x) s r a.1 h in omega (arith, b.0)))
      | no h ↦ le-ltb 0 (times r (x ∷ s)) (omega (arith, times_miss r x s e))
    ])
  ]

  first_latest : (p : ℕ) (seen : List ℕ) → Each (Child l p) seen → eqb (latest seen) 0 ≡ is_empty seen
  first_latest p [] c = refl
  first_latest p (x ∷ s) c = ne_eqb x 0 (omega (arith, c.0.first))

  -- 7 goes by the latest row once 6 has passed
  over_latest : (k : Kind) (p r : ℕ) (seen : List ℕ) → 0 < r → Each (Child l p) seen → Each (λ x. x ≤ latest seen) seen → (not (is_choice k) && passed r seen) ≡ false → again l k (latest seen) r ≡ over_count l k seen r
  over_latest group p r seen pos c a e = ap (λ b. at_most_once (row_at l r).count && b) (has_latest r seen pos a (passed_no r seen e))
  over_latest choice p r seen pos c a e = ap not (first_latest p seen c)
  over_latest (leaf k) p r seen pos c a e = refl

  open_same : (kp kr : Kind) (p last r o : ℕ) (seen : List ℕ) (ats : Attrs) → Each (Child l p) seen → Each (λ x. x ≤ latest seen) seen → last ≡ latest seen
      → first_of (refuse (eqb r 0) (table.not_a_child p o) ∷ refuse (not (is_choice kp) && ltb r last) (table.out_of_order r o) ∷ refuse (again l kp last r) (table.too_many r o) ∷ refuse (not (attrs_ok j kr ats)) (table.wrong_attributes r o) ∷ [])
      ≡ open_tests j l kp kr p seen r ats o
  open_same kp kr p last r o seen ats c a e =
      rw (e, passed_latest r seen a)
      (or_when (refuse (eqb r 0) (table.not_a_child p o)) _ _ (λ z. or_when (refuse (not (is_choice kp) && passed r seen) (table.out_of_order r o)) _ _ (λ y.
      ap (λ b. or_else (refuse b (table.too_many r o)) (or_else (refuse (not (attrs_ok j kr ats)) (table.wrong_attributes r o)) (Ok tt))) (over_latest kp p r seen (pos (refuse_no (eqb r 0) (table.not_a_child p o) z)) c a (refuse_no (not (is_choice kp) && passed r seen) (table.out_of_order r o) y)))))
    where
      pos : eqb r 0 ≡ false → 0 < r
      pos z = elim (dec_lt 0 r) [ yes h ↦ h | no h ↦ absurd (eqb-false r 0 z (omega arith)) ]

  below_of : (k : Kind) (r : ℕ) (seen : List ℕ) → Fits l k seen r → Each (λ x. x ≤ r) seen
  below_of group r seen f = f.0
  below_of choice r seen f = rw f tt
  below_of (leaf k) r seen f = absurd f

  latest_below : (r : ℕ) (seen : List ℕ) → Each (λ x. x ≤ r) seen → latest seen ≤ r
  latest_below r [] a = omega arith
  latest_below r (x ∷ s) a = a.0

  module _ (w : WellFormed l) where
    -- ---- a level holds what its children so far come to

    record Stands (lv : Level) (seen : List ℕ) : Type 0 where
      last : lv.last ≡ latest seen
      due : lv.due ≡ absent_row l lv.row seen
      odd_to : lv.odd ≡ true → Odd l w lv.row seen
      odd_from : Odd l w lv.row seen → lv.odd ≡ true
      top : Each (λ x. x ≤ latest seen) seen
      theirs : Each (Child l lv.row) seen

    never_odd : (p : ℕ) → Odd l w p [] → false ≡ true
    never_odd p o = elim o.one [ inl d ↦ absurd (omega (arith, d.0)) | inr d ↦ absurd (omega (arith, d.1)) ]

    stands_fresh : (r o : ℕ) → Stands (fresh l r o) []
    unfolding fresh
    stands_fresh r o = record { last = refl; due = due_start l r; odd_to = λ e. absurd (false≢true e); odd_from = never_odd r; top = tt; theirs = tt }

    -- the flag after a child of row r, the last one being x
    abbrev flagged : Bool → ℕ → ℕ → Bool
    flagged odd r x = odd || (not (eqb r x) && (misses (mate l.rules r) x || misses (pair l.rules x) r))

    stands_advance : (lv : Level) (seen : List ℕ) (r : ℕ) → Stands lv seen → Child l lv.row r → Each (λ x. x ≤ r) seen → Stands (advance l lv r) (r ∷ seen)
    unfolding advance
    stands_advance lv seen r s c a = record {
      last = refl;
      due = due_step l lv.row r lv.due seen c.first a s.due;
      odd_to = λ e. step_to l w lv.row seen s.theirs s.top lv.odd s.odd_to s.odd_from r c (latest_below r seen a) (subst (λ x. flagged lv.odd r x ≡ true) s.last e);
      odd_from = λ o. subst (λ x. flagged lv.odd r x ≡ true) (sym s.last) (step_from l w lv.row seen s.theirs s.top lv.odd s.odd_to s.odd_from r c (latest_below r seen a) o);
      top = (omega arith, a);
      theirs = (c, s.theirs);
    }

    close_same : (k : Kind) (lv : Level) (seen : List ℕ) (ats bts : Attrs) (cs ds : List ℕ) → is_group k ≡ true → Stands lv seen
        → close_test T l k lv ats cs ≡ closing j l k lv.row lv.place bts seen ds
    close_same k lv seen ats bts cs ds g s = go k lv.row lv.place lv.last lv.due lv.odd g s.last s.due
        (first_latest lv.row seen s.theirs) (odd_ends l w lv.row seen s.theirs s.top lv.odd s.odd_to s.odd_from)
      where
        go : (k : Kind) (p o last due : ℕ) (odd : Bool) → is_group k ≡ true → last ≡ latest seen → due ≡ absent_row l p seen → eqb (latest seen) 0 ≡ is_empty seen
            → (odd || not (eqb (pair l.rules (latest seen)) 0)) ≡ breaks p seen l.rules
            → close_test T l k (record { row = p; place = o; last = last; due = due; odd = odd }) ats cs ≡ closing j l k p o bts seen ds
        go group p o last due odd g e f h i = rw (e, f, h, i)
        go choice p o last due odd g e f h i = rw (e, f, h, i)
        go (leaf x) p o last due odd g e f h i = absurd (false≢true g)

    -- ---- a leaf, with its closing tag

    leaf_close : (k : Kind) (f : Leaf) (lv : Level) (ats : Attrs) (rs cs : List ℕ) → k ≡ leaf f → close_test T l k lv ats cs ≡ closing j l k lv.row lv.place ats rs cs
    leaf_close group f lv ats rs cs e = absurd (true≢false (ap is_group e))
    leaf_close choice f lv ats rs cs e = absurd (true≢false (ap is_group e))
    leaf_close (leaf g) f lv ats rs cs e = refl

    leaf_run : (i : Inside) (lv : Level) (below : List Level) (ats : Attrs) (rs cs : List ℕ) (rest : List Event) (f : Leaf) → 0 < lv.row → kind_of l lv.row ≡ leaf f
        → run T l (at lv below ats cs) (events i (leave ∷ rest))
        ≡ or_else (inside j l lv.row [] i) (or_else (closing j l (kind_of l lv.row) lv.row lv.place ats rs (cs ++ text_of i)) (run T l (pop below) rest))
    unfolding run inside open_test
    leaf_run nothing_inside lv below ats rs cs rest f h e =
        ap (λ x. or_else x (run T l (pop below) rest)) (leaf_close (kind_of l lv.row) f lv ats rs cs e)
        ∙ ap (λ x. or_else (closing j l (kind_of l lv.row) lv.row lv.place ats rs x) (run T l (pop below) rest)) (sym (append-nil cs))
    leaf_run (character o x k) lv below ats rs cs rest f h e =
        let g : is_group (kind_of l lv.row) ≡ false = ap is_group e in
        let ih = leaf_run k lv below ats rs (cs ++ (x ∷ [])) rest f h e in
        let a : cs ++ (x ∷ []) ++ text_of k ≡ cs ++ (x ∷ text_of k) = append_assoc cs (x ∷ []) (text_of k) in
        rw (g, or_right (inside j l lv.row [] k)) (rw a at ih)
    leaf_run (element o n ats' i k) lv below ats rs cs rest f h e =
        let z : eqb (child l lv.row n) 0 ≡ true = eq-eqb (child l lv.row n) 0 (no_child l lv.row n w f h e) in
        rw z

    -- ---- an element that passed its opening tests: its parts, its closing tests, and what follows it

    module _ (lv : Level) (below : List Level) (seen : List ℕ) (rest : List Event) (s : Stands lv seen) (o : ℕ) (ats : Attrs) (i k : Inside) (r : ℕ) (its : Child l lv.row r)
        (op : Opened j l (kind_of l lv.row) (kind_of l r) seen r ats) where
      abbrev ends : List ℕ → Found
      ends rs = or_else (closing j l (kind_of l lv.row) lv.row lv.place [] rs []) (run T l (pop below) rest)

      rest_run : (Stands (advance l lv r) (r ∷ seen) → run T l (at (advance l lv r) below [] []) (events k (leave ∷ rest)) ≡ or_else (inside j l lv.row (r ∷ seen) k) (ends (child_rows l lv.row k ++ (r ∷ seen))))
          → run T l (at (advance l lv r) below [] []) (events k (leave ∷ rest)) ≡ or_else (inside j l lv.row (r ∷ seen) k) (ends (r ∷ (child_rows l lv.row k ++ seen)))
      rest_run ih = ih (stands_advance lv seen r s its (below_of (kind_of l lv.row) r seen op.fits))
          ∙ ap (λ x. or_else (inside j l lv.row (r ∷ seen) k) (or_else x (run T l (pop below) rest)))
          (closing_same (kind_of l lv.row) lv.row lv.place [] [] (child_rows l lv.row k ++ (r ∷ seen)) (r ∷ (child_rows l lv.row k ++ seen))
          (λ q. times_shift q r (child_rows l lv.row k) seen) (empty_shift r (child_rows l lv.row k) seen))

      abbrev tail : List Event
      tail = events k (leave ∷ rest)

      abbrev on : Found
      on = run T l (at (advance l lv r) below [] []) tail

      part_run : (is_group (kind_of l r) ≡ true → run T l (at (fresh l r o) (advance l lv r ∷ below) [] []) (events i (leave ∷ tail)) ≡ or_else (inside j l r [] i) (or_else (closing j l (kind_of l r) r o [] (child_rows l r i ++ []) []) on))
          → run T l (at (fresh l r o) (advance l lv r ∷ below) ats []) (events i (leave ∷ tail)) ≡ or_else (inside j l r [] i) (or_else (closing j l (kind_of l r) r o ats (child_rows l r i) (text_of i)) on)
      unfolding fresh
      part_run ih = kinds (kind_of l r)
          (λ y. ap (λ z. run T l (at (fresh l r o) (advance l lv r ∷ below) z []) (events i (leave ∷ tail))) (group_attrs j (kind_of l r) ats y op.attrs) ∙ ih y
          ∙ ap (λ z. or_else (inside j l r [] i) (or_else z on))
          (ap (λ z. closing j l (kind_of l r) r o [] z []) (append-nil (child_rows l r i)) ∙ closing_group (kind_of l r) r o [] ats (child_rows l r i) [] (text_of i) y))
          (λ f y. leaf_run i (fresh l r o) (advance l lv r ∷ below) ats (child_rows l r i) [] tail f its.first y)

    -- ---- what stands in a group, with its closing tag

    group_run : (i : Inside) (lv : Level) (below : List Level) (seen : List ℕ) (rest : List Event) → Stands lv seen → is_group (kind_of l lv.row) ≡ true
        → run T l (at lv below [] []) (events i (leave ∷ rest))
        ≡ or_else (inside j l lv.row seen i) (or_else (closing j l (kind_of l lv.row) lv.row lv.place [] (child_rows l lv.row i ++ seen) []) (run T l (pop below) rest))
    unfolding run inside open_test child_rows fresh advance
    group_run nothing_inside lv below seen rest s g = ap (λ x. or_else x (run T l (pop below) rest)) (close_same (kind_of l lv.row) lv seen [] [] [] [] g s)
    group_run (character o x k) lv below seen rest s g =
        let ih = group_run k lv below seen rest s g in
        let f = refuse (is_group (kind_of l lv.row) && not (is_blank x)) (table.text_in_group lv.row o) in
        let u = inside j l lv.row seen k in
        let v = or_else (closing j l (kind_of l lv.row) lv.row lv.place [] (child_rows l lv.row k ++ seen) []) (run T l (pop below) rest) in
        ap (λ b. or_else f (run T l (at lv below [] (cond b [] (x ∷ []))) (events k (leave ∷ rest)))) g
        ∙ ap (or_else f) ih ∙ sym (or_assoc f (or_else u (Ok tt)) v ∙ ap (or_else f) (or_assoc u (Ok tt) v))
    group_run (element o n ats i k) lv below seen rest s g =
        let p = lv.row in
        let r = child l p n in
        let open' = opening j l p seen r ats o in
        let tail = events k (leave ∷ rest) in
        let done = run T l (pop below) rest in
        let lv₂ = advance l lv r in
        let shut = closing j l (kind_of l r) r o ats (child_rows l r i) (text_of i) in
        let ended = closing j l (kind_of l p) p lv.place [] (r ∷ (child_rows l p k ++ seen)) [] in
        ap (λ a. or_else a (run T l (at (fresh l r o) (lv₂ ∷ below) ats []) (events i (leave ∷ tail))))
        (open_same (kind_of l p) (kind_of l r) p lv.last r o seen ats s.theirs s.top s.last ∙ sym (opening_is j l p seen r ats o))
        ∙ or_when open' (run T l (at (fresh l r o) (lv₂ ∷ below) ats []) (events i (leave ∷ tail))) (or_else (inside j l r [] i) (or_else shut (or_else (inside j l p (r ∷ seen) k) (or_else ended done))))
        (λ z. let op = opened j l (kind_of l p) (kind_of l r) p seen r ats o g (sym (opening_is j l p seen r ats o) ∙ z) in
        let its = (child_found l p n r refl op.row).its in
        part_run lv below seen rest s o ats i k r its op (λ y. group_run i (fresh l r o) (lv₂ ∷ below) [] tail (stands_fresh r o) y)
        ∙ ap (λ x. or_else (inside j l r [] i) (or_else shut x)) (rest_run lv below seen rest s o ats i k r its op (λ s₂. group_run k lv₂ below (r ∷ seen) rest s₂ g)))
        ∙ sym (regroup open' (inside j l r [] i) shut (inside j l p (r ∷ seen) k) (or_else ended done))

    -- the walk finds the first violation of every message
    pub walk_is : (m : Inside) → OneElement m → walk T l m ≡ first_violation j l m
    unfolding walk first_violation fresh run
    walk_is nothing_inside one = absurd one
    walk_is (character o x k) one = absurd one
    walk_is (element o n ats i k) one =
        let g : is_group (kind_of l 1) ≡ true = ap is_group w.root.1 in
        let c = child_rows l 1 i in
        let e : closing j l (kind_of l 1) 1 o [] (c ++ []) [] ≡ closing j l (kind_of l 1) 1 o ats c (text_of i) =
        ap (λ z. closing j l (kind_of l 1) 1 o [] z []) (append-nil c) ∙ closing_group (kind_of l 1) 1 o [] ats c [] (text_of i) g in
        ap (λ x. or_else (refuse (not (is_root l n ats)) (table.wrong_root o)) (run T l (at (fresh l 1 o) [] [] []) (events i (leave ∷ events x [])))) one
        ∙ ap (or_else (refuse (not (is_root l n ats)) (table.wrong_root o))) (group_run i (fresh l 1 o) [] [] [] (stands_fresh 1 o) g ∙ ap (λ x. or_else (inside j l 1 [] i) (or_else x (Ok tt))) e)
