-- The reader's turns: one answer whatever the tables say, and the defined one where they are sound. Assumes nothing.
use mathlib.Core.Path.{◌≡◌, refl, sym, ◌∙◌, ap, ap₂, subst}
use mathlib.Core.Logic.{◌≢◌, ◌⊎◌, inl, inr}
use mathlib.Core.Bool.{Bool, true, false, cond, true≢false}
use mathlib.Core.List.{List, [], ◌∷◌, ◌++◌, head-eq_of_cons-eq, tail-eq_of_cons-eq, nil≢cons}
use mathlib.Core.Option.{Option}
use Prim.Native.Nat.{ℕ, zero, suc, ◌+◌, ◌≤◌, ◌<◌}
use native.Mathlib.Omega.{arith}
use native.Mathlib.Numerals.{add-one}
use native.Mathlib.Decide.{dec_lt, ℕ_discrete}
use lib.Dec.{leb, eqb}
use lib.ListN.{length, get_or, drop, drop_of_length-le}
use lib.Seq.{drop-cons}
use borrow.Author.Tests.{eqb-true, eqb-false, leb-true, leb-false}
use Rattle.answer.specs.declared.Answer.{Answer}
use Rattle.answer.specs.Table.{accepted, broken_image}
use Rattle.list.specs.Listing.{Listing, size, row_at}
use Rattle.list.specs.WellFormed.{WellFormed}
use Rattle.image.specs.Image.{Values, Lawful, value_bytes}
use Rattle.image.specs.Place.{Holds, Breaks, Tells, held, broke}
use Rattle.image.specs.mirror.Follow.{Next, ItemOk}
use Rattle.image.specs.mirror.Reader.{Stuck, Open, Stops, Ends}
use Rattle.image.specs.mirror.Step.{follows, ended}
use Rattle.image.specs.Count.{Taken}
use Rattle.image.specs.mirror.Run.{Turn, stop, next, Comes, halts, moves, steps, closing, turn, Goes, Behind, rootless, rooted}
use Rattle.image.proofs.content.Rows.{next_in_lem, well}
use Rattle.image.proofs.content.Stops.{stops_on, stops_here, ends_on, ends_here, holds, breaks, breaks_root, ends_taken, stops_taken, root_taken}
use Rattle.image.proofs.next.Step.{Lines, follows_is, ended_is}

-- turn by turn there is one result only
pub comes_one : {A : Type 0} {f : ℕ → ℕ → Turn A} {a b : A} {q i : ℕ} → Comes f a q i → Comes f b q i → a ≡ b
comes_one (halts e) (halts d) = cc
comes_one (halts e) (moves x j d g) = let z : ◌≡◌ {A = ℕ} 0 1 = cc in absurd (omega arith)
comes_one (moves x j e g) (halts d) = let z : ◌≡◌ {A = ℕ} 0 1 = cc in absurd (omega arith)
comes_one {f = f} {b = b} (moves x j e g) (moves y k d h) =
    let ex : y ≡ x = cc in
    let ek : k ≡ j = cc in
    comes_one g (subst (λ (z : ℕ). Comes f b z j) ex (subst (λ (z : ℕ). Comes f b y z) ek h))

-- and one number of turns
steps_alike : {A : Type 0} {f : ℕ → ℕ → Turn A} {a b : A} {q i p o : ℕ} (g : Comes f a q i) (h : Comes f b p o) → q ≡ p → i ≡ o → steps g ≡ steps h
steps_alike (halts e) (halts d) u v = refl
steps_alike (halts e) (moves x j d g) u v = let z : ◌≡◌ {A = ℕ} 0 1 = cc in absurd (omega arith)
steps_alike (moves x j e g) (halts d) u v = let z : ◌≡◌ {A = ℕ} 0 1 = cc in absurd (omega arith)
steps_alike (moves x j e g) (moves y k d h) u v =
    let ex : x ≡ y = cc in
    let ej : j ≡ k = cc in
    ap suc (steps_alike g h ex ej)

module _ (t : List ℕ) (fin : ℕ → ℕ → ℕ) (s : List ℕ) where
  not_rooted : (from : ℕ) → (length s ≤ from) ⊎ (get_or s from 0 ≢ 1) → from < length s → get_or s from 0 ≡ 1 → ⊥
  not_rooted from (inl h) g e = omega arith
  not_rooted from (inr h) g e = h e

  pub behind_one : (from : ℕ) (a b : Answer) (m n : ℕ) → Behind t fin s from a m → Behind t fin s from b n → (a ≡ b) × (m ≡ n)
  behind_one from a b m n (rootless x e d) (rootless y f g) = (e ∙ sym f, d ∙ sym g)
  behind_one from a b m n (rootless x e d) (rooted y z f) = absurd (not_rooted from x y z)
  behind_one from a b m n (rooted x y e) (rootless z f g) = absurd (not_rooted from z x y)
  behind_one from a b m n (rooted x y e) (rooted z w f) =
      let d = comes_one e.goes f.goes in
      (d, e.many ∙ ap₂ (λ (k : ℕ) (c : Answer). suc k + closing c) (steps_alike e.goes f.goes refl refl) d ∙ sym f.many)

  -- what is asked of `fin`: it finds the value that stands there, or says that none does
  pub record Ending (vs : Values) (l : Listing) : Type 0 where
    pub none : (x i : ℕ) → 0 < x → x ≤ size l → 0 < i → i ≤ length s → fin x i ≡ 0 → (v : Option vs.Value) (u : List ℕ)
        → drop i s ≡ value_bytes vs l (row_at l x).kind v ++ u → ItemOk vs l x v → ⊥
    pub some : (x i : ℕ) → 0 < x → x ≤ size l → 0 < i → i ≤ length s → 0 < fin x i
        → (v : Option vs.Value) × ItemOk vs l x v × (drop i s ≡ value_bytes vs l (row_at l x).kind v ++ drop (fin x i) s) × (fin x i ≡ i + length (value_bytes vs l (row_at l x).kind v))

  module _ (vs : Values) (lw : Lawful vs) (l : Listing) (wf : WellFormed l) (ls : Lines t l) (en : Ending vs l) where
    -- where the turns stop, with which answer, and after how many
    data Halt (a : Answer) (m q i : ℕ) : Type 0 where
      refused : (n : ℕ) → Stops vs l q (drop i s) n m → a ≡ broken_image (i + n) → Halt a m q i
      ended' : (n : ℕ) → Ends vs l q (drop i s) n m → a ≡ accepted (i + n) → Halt a m q i

    here : (i : ℕ) → i < length s → drop i s ≡ get_or s i 0 ∷ drop (i + 1) s
    here i h = drop-cons s i 0 h ∙ ap (λ (z : ℕ). get_or s i 0 ∷ drop z s) (sym (add-one i))

    stops : (a : Answer) (q i : ℕ) → a ≡ broken_image i → Stuck vs l q (drop i s) → Open vs l q (drop i s) → Halt a 0 q i
    stops a q i e f g = let z : i + 0 ≡ i = omega arith in refused 0 (stops_here vs lw l wf q (drop i s) f g) (e ∙ ap broken_image (sym z))

    nothing : (i : ℕ) → length s ≤ i → drop i s ≡ []
    nothing i h = drop_of_length-le s h

    -- a turn, by its tests
    data Case (q i : ℕ) (r : Turn Answer) : Type 0 where
      out : length s ≤ i → r ≡ stop (broken_image i) → Case q i r
      shut : i < length s → get_or s i 0 ≡ 0 → ended t q ≡ true → r ≡ stop (accepted (i + 1)) → Case q i r
      due : i < length s → get_or s i 0 ≡ 0 → ended t q ≡ false → r ≡ stop (broken_image i) → Case q i r
      stray : i < length s → get_or s i 0 ≢ 0 → follows t q (get_or s i 0) ≡ false → r ≡ stop (broken_image i) → Case q i r
      bad : i < length s → get_or s i 0 ≢ 0 → follows t q (get_or s i 0) ≡ true → fin (get_or s i 0) (i + 1) ≡ 0 → r ≡ stop (broken_image i) → Case q i r
      item : i < length s → get_or s i 0 ≢ 0 → follows t q (get_or s i 0) ≡ true → 0 < fin (get_or s i 0) (i + 1) → r ≡ next (get_or s i 0) (fin (get_or s i 0) (i + 1)) → Case q i r

    case : (q i : ℕ) → Case q i (turn t fin s q i)
    unfolding turn
    case q i = go (leb (length s) i) refl (eqb (get_or s i 0) 0) refl (ended t q) refl (follows t q (get_or s i 0)) refl (eqb (fin (get_or s i 0) (i + 1)) 0) refl
      where
        x : ℕ
        x = get_or s i 0

        go : (a : Bool) → leb (length s) i ≡ a → (b : Bool) → eqb (get_or s i 0) 0 ≡ b → (c : Bool) → ended t q ≡ c → (d : Bool) → follows t q (get_or s i 0) ≡ d → (e : Bool) → eqb (fin (get_or s i 0) (i + 1)) 0 ≡ e
            → Case q i (cond a (stop (broken_image i)) (cond b (cond c (stop (accepted (i + 1))) (stop (broken_image i))) (cond d (cond e (stop (broken_image i)) (next (get_or s i 0) (fin (get_or s i 0) (i + 1)))) (stop (broken_image i)))))
        go true h b eb c ec d ed e ee = out (leb-true (length s) i h) refl
        go false h true eb true ec d ed e ee = shut (leb-false (length s) i h) (eqb-true (get_or s i 0) 0 eb) ec refl
        go false h true eb false ec d ed e ee = due (leb-false (length s) i h) (eqb-true (get_or s i 0) 0 eb) ec refl
        go false h false eb c ec false ed e ee = stray (leb-false (length s) i h) (eqb-false (get_or s i 0) 0 eb) ed refl
        go false h false eb c ec true ed true ee = bad (leb-false (length s) i h) (eqb-false (get_or s i 0) 0 eb) ed (eqb-true (fin (get_or s i 0) (i + 1)) 0 ee) refl
        go false h false eb c ec true ed false ee = item (leb-false (length s) i h) (eqb-false (get_or s i 0) 0 eb) ed (let z = eqb-false (fin (get_or s i 0) (i + 1)) 0 ee in positive (fin (get_or s i 0) (i + 1)) z) refl
          where
            positive : (n : ℕ) → n ≢ 0 → 0 < n
            positive zero f = absurd (f refl)
            positive (suc n) f = omega arith

    -- the case of an answer
    halt : (a : Answer) (q i : ℕ) → 0 < q → q ≤ size l → 0 < i → turn t fin s q i ≡ stop a → Case q i (turn t fin s q i) → Halt a 0 q i
    halt a q i p b z e (out h f) =
        let n = nothing i h in
        stops a q i (cc (e, f)) (λ x v u d. absurd (nil≢cons (sym n ∙ d))) (λ u d. absurd (nil≢cons (sym n ∙ d)))
    halt a q i p b z e (shut h x o f) =
        let k = (ended_is l (well l wf) t ls q p b).so o in
        let d : drop i s ≡ 0 ∷ drop (i + 1) s = here i h ∙ ap (λ (y : ℕ). y ∷ drop (i + 1) s) x in
        ended' 1 (subst (λ (y : List ℕ). Ends vs l q y 1 0) (sym d) (ends_here vs lw l wf q (drop (i + 1) s) k.0 k.1)) (cc (e, f))
    halt a q i p b z e (due h x o f) =
        let d : drop i s ≡ 0 ∷ drop (i + 1) s = here i h ∙ ap (λ (y : ℕ). y ∷ drop (i + 1) s) x in
        stops a q i (cc (e, f))
        (λ y v u g n k. omega (arith, head-eq_of_cons-eq (sym d ∙ g), (next_in_lem l n).0))
        (λ u g k m. true≢false (sym ((ended_is l (well l wf) t ls q p b).back (k, m)) ∙ o))
    halt a q i p b z e (stray h x o f) =
        stops a q i (cc (e, f))
        (λ y v u g n k. true≢false (sym ((follows_is l (well l wf) t ls q (get_or s i 0) p b).back (subst (λ (w : ℕ). Next l w q) (sym (head-eq_of_cons-eq (sym (here i h) ∙ g))) n)) ∙ o))
        (λ u g k m. x (head-eq_of_cons-eq (sym (here i h) ∙ g)))
    halt a q i p b z e (bad h x o m f) =
        let n = (follows_is l (well l wf) t ls q (get_or s i 0) p b).so o in
        let r = next_in_lem l n in
        stops a q i (cc (e, f))
        (λ y v u g k j.
        let w : get_or s i 0 ≡ y = head-eq_of_cons-eq (sym (here i h) ∙ g) in
        en.none (get_or s i 0) (i + 1) r.0 r.1 (omega arith) (omega arith) m v u
        (tail-eq_of_cons-eq (sym (here i h) ∙ g) ∙ ap (λ (c : ℕ). value_bytes vs l (row_at l c).kind v ++ u) (sym w)) (subst (λ (c : ℕ). ItemOk vs l c v) (sym w) j))
        (λ u g k m. x (head-eq_of_cons-eq (sym (here i h) ∙ g)))
    halt a q i p b z e (item h x o m f) = let c : ◌≡◌ {A = ℕ} 0 1 = cc (e, f) in absurd (omega arith)

    -- the case of an item
    pub record Onto (q i x j : ℕ) : Type 0 where
      pub here' : i < length s
      pub row : x ≡ get_or s i 0
      pub place : j ≡ fin x (i + 1)
      pub goes : follows t q x ≡ true
      pub some : 0 < j

    onto : (q i x j : ℕ) → turn t fin s q i ≡ next x j → Case q i (turn t fin s q i) → Onto q i x j
    onto q i x j e (out h f) = let c : ◌≡◌ {A = ℕ} 0 1 = cc (e, f) in absurd (omega arith)
    onto q i x j e (shut h y o f) = let c : ◌≡◌ {A = ℕ} 0 1 = cc (e, f) in absurd (omega arith)
    onto q i x j e (due h y o f) = let c : ◌≡◌ {A = ℕ} 0 1 = cc (e, f) in absurd (omega arith)
    onto q i x j e (stray h y o f) = let c : ◌≡◌ {A = ℕ} 0 1 = cc (e, f) in absurd (omega arith)
    onto q i x j e (bad h y o m f) = let c : ◌≡◌ {A = ℕ} 0 1 = cc (e, f) in absurd (omega arith)
    onto q i x j e (item h y o m f) =
        let ex : x ≡ get_or s i 0 = cc (e, f) in
        let ej : j ≡ fin (get_or s i 0) (i + 1) = cc (e, f) in
        record {
          here' = h;
          row = ex;
          place = ej ∙ ap (λ (z : ℕ). fin z (i + 1)) (sym ex);
          goes = subst (λ (z : ℕ). follows t q z ≡ true) (sym ex) o;
          some = subst (λ (z : ℕ). 0 < z) (sym ej) m;
        }

    abbrev vb : ℕ → Option vs.Value → List ℕ
    vb x v = value_bytes vs l (row_at l x).kind v

    carry : (a : Answer) (c q i x j : ℕ) (v : Option vs.Value) → Next l x q → ItemOk vs l x v → drop i s ≡ x ∷ (vb x v ++ drop j s) → j ≡ i + 1 + length (vb x v) → Halt a c x j → Halt a (suc c) q i
    carry a c q i x j v n k d e (refused m h f) =
        refused (1 + length (vb x v) + m) (subst (λ (y : List ℕ). Stops vs l q y (1 + length (vb x v) + m) (suc c)) (sym d) (stops_on vs lw l wf q x v (drop j s) m c n k h))
        (f ∙ ap broken_image (omega arith))
    carry a c q i x j v n k d e (ended' m h f) =
        ended' (1 + length (vb x v) + m) (subst (λ (y : List ℕ). Ends vs l q y (1 + length (vb x v) + m) (suc c)) (sym d) (ends_on vs lw l wf q x v (drop j s) m c n k h))
        (f ∙ ap accepted (omega arith))

    goes_halt : {a : Answer} {q i : ℕ} → 0 < q → q ≤ size l → 0 < i → (g : Goes t fin s a q i) → Halt a (steps g) q i
    goes_halt {a} {q} {i} p b z (halts e) = halt a q i p b z e (case q i)
    goes_halt {a} {q} {i} p b z (moves x j e g) =
        let o = onto q i x j e (case q i) in
        let n = (follows_is l (well l wf) t ls q x p b).so o.goes in
        let r = next_in_lem l n in
        let v = en.some x (i + 1) r.0 r.1 (omega arith) (omega (arith, o.here')) (subst (λ (y : ℕ). 0 < y) o.place o.some) in
        let d : drop i s ≡ x ∷ (vb x v.0 ++ drop j s) =
        here i o.here' ∙ ap₂ ◌∷◌ (sym o.row) (v.2 ∙ ap (λ (y : ℕ). vb x v.0 ++ drop y s) (sym o.place)) in
        carry a (steps g) q i x j v.0 n v.1 d (o.place ∙ v.3) (goes_halt r.0 r.1 o.some g)

    -- from a place on
    rooted_at : (from : ℕ) → from < length s → get_or s from 0 ≡ 1 → drop from s ≡ 1 ∷ drop (from + 1) s
    rooted_at from h e = here from h ∙ ap (λ (z : ℕ). z ∷ drop (from + 1) s) e

    halt_tells : (from : ℕ) (a : Answer) (m : ℕ) → from < length s → get_or s from 0 ≡ 1 → Halt a m 1 (from + 1) → Tells vs l (drop from s) from a
    halt_tells from a m g r (refused n k f) =
        broke (1 + n) (subst (λ (z : List ℕ). Breaks vs l z (1 + n)) (sym (rooted_at from g r)) (breaks vs lw l wf (drop (from + 1) s) n m k)) (f ∙ ap broken_image (omega arith))
    halt_tells from a m g r (ended' n k f) =
        held (1 + n) (subst (λ (z : List ℕ). Holds vs l z (1 + n)) (sym (rooted_at from g r)) (holds vs lw l wf (drop (from + 1) s) n m k)) (f ∙ ap accepted (omega arith))

    halt_taken : (from : ℕ) (a : Answer) (m : ℕ) → from < length s → get_or s from 0 ≡ 1 → Halt a m 1 (from + 1) → Taken vs l (drop from s) a (suc m + closing a)
    unfolding closing
    halt_taken from a m g r (refused n k f) =
        let e : suc m + closing a ≡ suc m = omega (arith, ap closing f) in
        subst (λ (z : List ℕ). Taken vs l z a (suc m + closing a)) (sym (rooted_at from g r))
        (subst (Taken vs l (1 ∷ drop (from + 1) s) a) (sym e) (stops_taken vs lw l wf (drop (from + 1) s) n m a k (ap (λ (z : Answer). z.code) f)))
    halt_taken from a m g r (ended' n k f) =
        let e : suc m + closing a ≡ suc (suc m) = omega (arith, ap closing f) in
        subst (λ (z : List ℕ). Taken vs l z a (suc m + closing a)) (sym (rooted_at from g r))
        (subst (Taken vs l (1 ∷ drop (from + 1) s) a) (sym e) (ends_taken vs lw l wf (drop (from + 1) s) n m a k (ap (λ (z : Answer). z.code) f)))

    not_root : (from : ℕ) → (length s ≤ from) ⊎ (get_or s from 0 ≢ 1) → (u : List ℕ) → drop from s ≡ 1 ∷ u → ⊥
    not_root from (inl h) u e = nil≢cons (sym (nothing from h) ∙ e)
    not_root from (inr h) u e = h (first (dec_lt from (length s)))
      where
        first : Dec (from < length s) → get_or s from 0 ≡ 1
        first (yes g) = head-eq_of_cons-eq (sym (drop-cons s from 0 g) ∙ e)
        first (no g) = absurd (nil≢cons (sym (nothing from (omega arith)) ∙ e))

    -- in sound tables the reader answers as defined, and takes the items that are defined
    pub behind_tells : (from : ℕ) (a : Answer) (m : ℕ) → Behind t fin s from a m → Tells vs l (drop from s) from a × Taken vs l (drop from s) a m
    behind_tells from a m (rootless z e d) =
        let n : from + 0 ≡ from = omega arith in (
          broke 0 (breaks_root vs lw l wf (drop from s) (not_root from z)) (e ∙ ap broken_image (sym n)),
          subst (Taken vs l (drop from s) a) (sym d) (root_taken vs lw l wf (drop from s) a (not_root from z) (ap (λ (x : Answer). x.code) e)),
        )
    behind_tells from a m (rooted y z g) =
        let h = goes_halt (omega arith) (well l wf).rows (omega arith) g.goes in
        (halt_tells from a (steps g.goes) y z h, subst (Taken vs l (drop from s) a) (sym g.many) (halt_taken from a (steps g.goes) y z h))

    -- some answer: each turn that goes on goes further
    turned : (q i : ℕ) → 0 < q → q ≤ size l → ((x j : ℕ) → 0 < x → x ≤ size l → i < j → i < length s → (a : Answer) × Goes t fin s a x j) → (r : Turn Answer) → turn t fin s q i ≡ r → (a : Answer) × Goes t fin s a q i
    turned q i p b rec (stop a) e = (a, halts e)
    turned q i p b rec (next x j) e =
        let o = onto q i x j e (case q i) in
        let r = next_in_lem l ((follows_is l (well l wf) t ls q x p b).so o.goes) in
        let v = en.some x (i + 1) r.0 r.1 (omega arith) (omega (arith, o.here')) (subst (λ (y : ℕ). 0 < y) o.place o.some) in
        let g = rec x j r.0 r.1 (omega (arith, o.place, v.3)) o.here' in
        (g.0, moves x j e g.1)

    turns_some : (f q i : ℕ) → 0 < q → q ≤ size l → length s ≤ i + f → (a : Answer) × Goes t fin s a q i
    turns_some zero q i p b h = turned q i p b (λ x j c d u k. absurd (omega arith)) (turn t fin s q i) refl
    turns_some (suc f) q i p b h = turned q i p b (λ x j c d u k. turns_some f x j c d (omega arith)) (turn t fin s q i) refl

    pub behind_some : (from : ℕ) → (a : Answer) × (n : ℕ) × Behind t fin s from a n
    behind_some from = go (dec_lt from (length s)) (ℕ_discrete (get_or s from 0) 1)
      where
        go : Dec (from < length s) → Dec (get_or s from 0 ≡ 1) → (a : Answer) × (n : ℕ) × Behind t fin s from a n
        go (no h) d = (broken_image from, 0, rootless (inl (omega arith)) refl refl)
        go (yes h) (no d) = (broken_image from, 0, rootless (inr d) refl refl)
        go (yes h) (yes d) =
            let o = turns_some (length s) 1 (from + 1) (omega arith) (well l wf).rows (omega arith) in
            (o.0, suc (steps o.1) + closing o.0, rooted h d (record { goes = o.1; many = refl }))
