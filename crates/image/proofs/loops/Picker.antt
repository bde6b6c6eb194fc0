-- The picker's turns: one answer and one part whatever the tables say, and the defined ones where they are sound. Assumes nothing.
use mathlib.Core.Path.{◌≡◌, refl, sym, ◌∙◌, ap, ap₂, subst}
use mathlib.Core.Logic.{◌≢◌, ◌⊎◌, inl, inr, ⊎_elim}
use mathlib.Core.Bool.{Bool, true, false, cond, not, true≢false, false≢true}
use mathlib.Core.List.{List, [], ◌∷◌, ◌++◌, append_assoc, append-nil, head-eq_of_cons-eq, tail-eq_of_cons-eq, nil≢cons}
use mathlib.Core.Option.{Option, none, some}
use Prim.Native.Nat.{ℕ, zero, suc, ◌+◌, ◌-◌, ◌≤◌, ◌<◌}
use native.Mathlib.Omega.{arith}
use native.Mathlib.Numerals.{add-one}
use lib.Dec.{leb}
use lib.ListN.{length, get_or, take, drop, length-drop, length-append, drop_of_length-le}
use lib.Seq.{drop-cons, drop-drop, drop-append-le, take_at, slice}
use borrow.Author.Tests.{eq-eqb, ne_eqb, le-leb, lt-leb}
use Rattle.answer.specs.declared.Answer.{Answer}
use Rattle.answer.specs.Table.{picked}
use Rattle.text.proofs.Parts.{part_take}
use Rattle.list.specs.Listing.{Leaf, Kind, group, choice, leaf, Row, Listing, size, row_at, is_group}
use Rattle.list.specs.WellFormed.{WellFormed}
use Rattle.list.specs.Content.{Content, items, Meets}
use Rattle.list.proofs.rows.Next.{row_past}
use Rattle.image.specs.Image.{Values, Lawful, Item, value_bytes, item_bytes, items_bytes}
use Rattle.image.specs.Place.{Holds}
use Rattle.image.specs.Pick.{Picked, Missing, Selects, none_such, one_such}
use Rattle.image.specs.mirror.Follow.{OfKind, ItemOk, Trail}
use Rattle.image.specs.mirror.Step.{is_leaf}
use Rattle.image.specs.mirror.Run.{Turn, stop, next, Comes, halts, moves, head_of, hunt, Finds, groups, leaves, Chooses, missing as no_leaf, found as leaf_at_lem}
use Rattle.image.proofs.content.Rows.{Cmp, less, same, more, cmp, clash, next_in_lem, well}
use Rattle.image.proofs.content.Begins.{content_whole}
use Rattle.image.proofs.content.Prefix.{value_cut, root_oks}
use Rattle.image.proofs.answers.One.{many, many_append}
use Rattle.image.proofs.next.Step.{Lines}
use Rattle.image.proofs.loops.Reader.{comes_one, Ending}

both_same : {A : Type 0} (b : Bool) (x : A) → cond b x x ≡ x
both_same true x = refl
both_same false x = refl

grouped : (b : Bool) → not b ≡ false → b ≡ true
grouped true e = refl
grouped false e = absurd (true≢false e)

leafed : (b : Bool) → not b ≡ true → b ≡ false
leafed true e = absurd (false≢true e)
leafed false e = refl

zero_row : (l : Listing) → is_group (row_at l 0).kind ≡ true
unfolding row_at
zero_row l = refl

-- an item of a leaf has a value of its type
module _ (vs : Values) (l : Listing) where
  pub leaf_value : (k : Kind) (v : Option vs.Value) → OfKind vs l k v → is_group k ≡ false → (f : Leaf) × (k ≡ leaf f) × ((w : vs.Value) × (v ≡ some w) × vs.Is f w)
  leaf_value group v h e = absurd (true≢false e)
  leaf_value choice v h e = absurd (true≢false e)
  leaf_value (leaf f) none h e = absurd (true≢false (sym h))
  leaf_value (leaf f) (some w) h e = (f, refl, (w, refl, h))

-- one turn, by its tests
module _ (t : List ℕ) (fin : ℕ → ℕ → ℕ) (s : List ℕ) (r n i : ℕ) where
  pub hunt_out : get_or s i 0 ≡ 0 → hunt t fin s r n i ≡ stop 0
  unfolding hunt
  hunt_out e = rw (eq-eqb (get_or s i 0) 0 e) (both_same (leb (length s) i) (stop 0))

  pub hunt_over : length s ≤ i → hunt t fin s r n i ≡ stop 0
  unfolding hunt
  hunt_over h = rw (le-leb (length s) i h)

  module _ (x j : ℕ) (h : i < length s) (ex : x ≡ get_or s i 0) (z : x ≢ 0) (ej : j ≡ fin x (i + 1)) where
    pub hunt_bad : j ≡ 0 → hunt t fin s r n i ≡ stop 0
    unfolding hunt
    hunt_bad y = rw (lt-leb (length s) i h, sym ex, ne_eqb x 0 z, sym ej, eq-eqb j 0 y)

    pub hunt_here : j ≢ 0 → x ≡ r → n ≡ 0 → hunt t fin s r n i ≡ stop (i + 1)
    unfolding hunt
    hunt_here y e f = rw (lt-leb (length s) i h, sym ex, ne_eqb x 0 z, sym ej, ne_eqb j 0 y, eq-eqb x r e, eq-eqb n 0 f)

    pub hunt_past : j ≢ 0 → x ≡ r → n ≢ 0 → hunt t fin s r n i ≡ next (n - 1) j
    unfolding hunt
    hunt_past y e f = rw (lt-leb (length s) i h, sym ex, ne_eqb x 0 z, sym ej, ne_eqb j 0 y, eq-eqb x r e, ne_eqb n 0 f)

    pub hunt_other : j ≢ 0 → x ≢ r → hunt t fin s r n i ≡ next n j
    unfolding hunt
    hunt_other y e = rw (lt-leb (length s) i h, sym ex, ne_eqb x 0 z, sym ej, ne_eqb j 0 y, ne_eqb x r e)

module _ (t : List ℕ) (fin : ℕ → ℕ → ℕ) (s : List ℕ) where
  finds_one : {from r n p q : ℕ} → Finds t fin s from r n p → Finds t fin s from r n q → p ≡ q
  finds_one (groups e f) (groups g h) = f ∙ sym h
  finds_one (groups e f) (leaves g h) = absurd (clash g e)
  finds_one (leaves e f) (groups g h) = absurd (clash e g)
  finds_one (leaves e f) (leaves g h) = comes_one f h

  -- one answer and one part only, whatever the tables say
  pub chooses_one : (from r n : ℕ) (a b : Answer) (u v : List ℕ) → Chooses t fin s from r n a u → Chooses t fin s from r n b v → (a ≡ b) × (u ≡ v)
  chooses_one from r n a b u v (no_leaf k g e) (no_leaf k' g' f) = (g ∙ sym g', e ∙ sym f)
  chooses_one from r n a b u v (no_leaf k g e) (leaf_at_lem p z k' g' f) = absurd (omega (arith, finds_one k k'))
  chooses_one from r n a b u v (leaf_at_lem p z k g e) (no_leaf k' g' f) = absurd (omega (arith, finds_one k k'))
  chooses_one from r n a b u v (leaf_at_lem p z k g e) (leaf_at_lem q z' k' g' f) =
      let w = finds_one k k' in
      (g ∙ ap (λ (m : ℕ). picked r (m + head_of t r)) w ∙ sym g', e ∙ ap (λ (m : ℕ). slice (m + head_of t r) (fin r m) s) w ∙ sym f)

  module _ (vs : Values) (lw : Lawful vs) (l : Listing) (wf : WellFormed l) (ls : Lines t l) (en : Ending t fin s vs l) where
    abbrev vb : ℕ → Option vs.Value → List ℕ
    vb x v = value_bytes vs l (row_at l x).kind v

    -- items of rows of the list, each good
    abbrev Goods : List (Item vs) → Type 0
    Goods [] = Unit {0}
    Goods (i ∷ is) = ((0 < i.0) × (i.0 ≤ size l)) × ItemOk vs l i.0 i.1 × Goods is

    trail_goods : (is : List (Item vs)) (q : ℕ) → Trail vs l q is → Goods is
    trail_goods [] q h = tt
    trail_goods (i ∷ is) q h = (next_in_lem l h.0, h.1, trail_goods is i.0 h.2)

    content_goods : (c : Content vs.Value) → Meets vs.Is l c → Goods (items c)
    content_goods c m =
        let w = content_whole vs lw l wf c m in
        subst Goods (sym w.is) ((omega arith, (well l wf).rows), (root_oks vs lw l wf w.inside w.trail).1, trail_goods w.inside 1 w.trail)

    -- a body from a place on: its content, and what follows it
    module _ (from : ℕ) (c : Content vs.Value) (rest : List ℕ) (r m : ℕ) where
      -- the n-th of the row is here
      pub record Spot (y p : ℕ) : Type 0 where
        pub before : List (Item vs)
        pub value : Option vs.Value
        pub behind : List (Item vs)
        pub at : items c ≡ before ++ ((y, value) ∷ behind)
        pub nth : many vs l r before ≡ m
        pub place : p ≡ from + length (items_bytes vs l before) + 1
        pub row : (0 < y) × (y ≤ size l)
        pub good : ItemOk vs l y value
        pub ends : fin y p ≡ p + length (vb y value)
        pub bytes' : drop p s ≡ vb y value ++ drop (fin y p) s

      abbrev Outcome : ℕ → Type 0
      Outcome p = ((p ≡ 0) × (many vs l r (items c) ≤ m)) ⊎ ((0 < p) × Spot r p)

      -- on the way: what is passed and what is to come
      record At (done todo : List (Item vs)) (n i : ℕ) : Type 0 where
        is : items c ≡ done ++ todo
        place : i ≡ from + length (items_bytes vs l done)
        here : drop i s ≡ items_bytes vs l todo ++ (0 ∷ rest)
        left : n + many vs l r done ≡ m
        goods : Goods todo

      bytes_append : (a b : List (Item vs)) → items_bytes vs l (a ++ b) ≡ items_bytes vs l a ++ items_bytes vs l b
      bytes_append [] b = refl
      bytes_append (i ∷ a) b = ap (λ (z : List ℕ). item_bytes vs l i ++ z) (bytes_append a b) ∙ sym (append_assoc (item_bytes vs l i) (items_bytes vs l a) (items_bytes vs l b))

      -- an item at i
      record Item' (x : ℕ) (v : Option vs.Value) (todo : List (Item vs)) (i j : ℕ) : Type 0 where
        inside : i < length s
        row : x ≡ get_or s i 0
        some : j ≢ 0
        ends : j ≡ i + 1 + length (vb x v)
        value : drop (i + 1) s ≡ vb x v ++ drop j s
        then : drop j s ≡ items_bytes vs l todo ++ (0 ∷ rest)

      first_at : (i x : ℕ) (u : List ℕ) → drop i s ≡ x ∷ u → (i < length s) × (x ≡ get_or s i 0) × (drop (i + 1) s ≡ u)
      first_at i x u e = go (cmp i (length s))
        where
          empty : length s ≤ i → (i < length s) × (x ≡ get_or s i 0) × (drop (i + 1) s ≡ u)
          empty h = absurd (nil≢cons (sym (drop_of_length-le s h) ∙ e))

          go : Cmp i (length s) → (i < length s) × (x ≡ get_or s i 0) × (drop (i + 1) s ≡ u)
          go (less h) =
              let d = sym (drop-cons s i 0 h) ∙ e in
              (h, sym (head-eq_of_cons-eq d), ap (λ (z : ℕ). drop z s) (add-one i) ∙ tail-eq_of_cons-eq d)
          go (same h) = empty (omega arith)
          go (more h) = empty (omega arith)

      positive : (n : ℕ) → (n ≡ 0 → ⊥) → 0 < n
      positive zero f = absurd (f refl)
      positive (suc n) f = omega arith

      item_at : (x : ℕ) (v : Option vs.Value) (todo : List (Item vs)) (i : ℕ) → (0 < x) × (x ≤ size l) → ItemOk vs l x v
          → drop i s ≡ items_bytes vs l ((x, v) ∷ todo) ++ (0 ∷ rest) → Item' x v todo i (fin x (i + 1))
      item_at x v todo i b g e =
          let f = first_at i x ((vb x v ++ items_bytes vs l todo) ++ (0 ∷ rest)) e in
          let d : drop (i + 1) s ≡ vb x v ++ (items_bytes vs l todo ++ (0 ∷ rest)) = f.2 ∙ append_assoc (vb x v) (items_bytes vs l todo) (0 ∷ rest) in
          let h = f.0 in
          let k : fin x (i + 1) ≢ 0 = λ z. en.none x (i + 1) b.0 b.1 (omega arith) (omega arith) z v (items_bytes vs l todo ++ (0 ∷ rest)) d g in
          let o = en.some x (i + 1) b.0 b.1 (omega arith) (omega arith) (positive (fin x (i + 1)) k) in
          let q = value_cut vs lw l wf x x o.0 v (drop (fin x (i + 1)) s) (items_bytes vs l todo ++ (0 ∷ rest)) refl o.1 g (sym o.2 ∙ d) in
          record {
            inside = h;
            row = f.1;
            some = k;
            ends = o.3 ∙ ap (λ (z : Option vs.Value). i + 1 + length (vb x z)) q.0;
            value = o.2 ∙ ap (λ (z : Option vs.Value). vb x z ++ drop (fin x (i + 1)) s) q.0;
            then = q.1;
          }

      -- past an item
      past : (done : List (Item vs)) (x : ℕ) (v : Option vs.Value) (todo : List (Item vs)) (n n' i j : ℕ) → At done ((x, v) ∷ todo) n i → Item' x v todo i j
          → n' + many vs l r ((x, v) ∷ []) ≡ n → At (done ++ ((x, v) ∷ [])) todo n' j
      past done x v todo n n' i j a k e = record {
        is = a.is ∙ sym (append_assoc done ((x, v) ∷ []) todo);
        place = omega (arith, k.ends, a.place, ap length (bytes_append done ((x, v) ∷ [])), length-append (items_bytes vs l done) (item_bytes vs l (x, v) ++ []), length-append (item_bytes vs l (x, v)) []);
        here = k.then;
        left = omega (arith, many_append vs l r done ((x, v) ∷ []), a.left);
        goods = a.goods.2;
      }

      many_other : (x : ℕ) (v : Option vs.Value) → x ≢ r → many vs l r ((x, v) ∷ []) ≡ 0
      many_other x v e = rw (ne_eqb x r e)

      many_this : (x : ℕ) (v : Option vs.Value) → x ≡ r → many vs l r ((x, v) ∷ []) ≡ 1
      many_this x v e = rw (eq-eqb x r e)

      -- the item that was sought
      spot : (done : List (Item vs)) (x : ℕ) (v : Option vs.Value) (todo : List (Item vs)) (n i : ℕ) → At done ((x, v) ∷ todo) n i → Item' x v todo i (fin x (i + 1)) → x ≡ r → n ≡ 0 → Spot r (i + 1)
      spot done x v todo n i a k e z =
          let f : Spot x (i + 1) = record { before = done; value = v; behind = todo; at = a.is; nth = omega (arith, a.left); place = omega (arith, a.place); row = a.goods.0; good = a.goods.1; ends = k.ends; bytes' = k.value } in
          subst (λ (y : ℕ). Spot y (i + 1)) e f

      -- a turn
      data Turned (done todo : List (Item vs)) (n i : ℕ) (y : Turn ℕ) : Type 0 where
        nowhere : y ≡ stop 0 → many vs l r (items c) ≤ m → Turned done todo n i y
        here' : y ≡ stop (i + 1) → Spot r (i + 1) → Turned done todo n i y
        onward : (n' j : ℕ) (done' todo' : List (Item vs)) → y ≡ next n' j → At done' todo' n' j → Turned done todo n i y

      turned : (done todo : List (Item vs)) (n i : ℕ) → At done todo n i → Turned done todo n i (hunt t fin s r n i)
      turned done [] n i a =
          let f = first_at i 0 rest a.here in
          nowhere (hunt_out t fin s r n i (sym f.1)) (omega (arith, a.left, ap (many vs l r) (a.is ∙ append-nil done)))
      turned done ((x, v) ∷ todo) n i a = go (cmp x r) (cmp 0 n)
        where
          k : Item' x v todo i (fin x (i + 1))
          k = item_at x v todo i a.goods.0 a.goods.1 a.here

          nz : x ≢ 0
          nz e = omega (arith, a.goods.0.0)

          other : x ≢ r → Turned done ((x, v) ∷ todo) n i (hunt t fin s r n i)
          other e = onward n (fin x (i + 1)) (done ++ ((x, v) ∷ [])) todo (hunt_other t fin s r n i x (fin x (i + 1)) k.inside k.row nz refl k.some e)
              (past done x v todo n n i (fin x (i + 1)) a k (omega (arith, many_other x v e)))

          go : Cmp x r → Cmp 0 n → Turned done ((x, v) ∷ todo) n i (hunt t fin s r n i)
          go (less e) d = other (λ z. omega arith)
          go (more e) d = other (λ z. omega arith)
          go (same e) (same d) = here' (hunt_here t fin s r n i x (fin x (i + 1)) k.inside k.row nz refl k.some e (sym d)) (spot done x v todo n i a k e (sym d))
          go (same e) (less d) = onward (n - 1) (fin x (i + 1)) (done ++ ((x, v) ∷ [])) todo (hunt_past t fin s r n i x (fin x (i + 1)) k.inside k.row nz refl k.some e (λ z. omega arith))
              (past done x v todo n (n - 1) i (fin x (i + 1)) a k (omega (arith, many_this x v e)))
          go (same e) (more d) = absurd (omega arith)

      result : {p n i : ℕ} (done todo : List (Item vs)) → hunt t fin s r n i ≡ stop p → Turned done todo n i (hunt t fin s r n i) → Outcome p
      result done todo e (nowhere f h) = inl (cc (e, f), h)
      result {p} {n} {i} done todo e (here' f h) = let z : i + 1 ≡ p = cc (e, f) in inr (omega arith, subst (Spot r) z h)
      result done todo e (onward n' j d u f h) = let z : ◌≡◌ {A = ℕ} 0 1 = cc (e, f) in absurd (omega arith)

      carry : {p n i : ℕ} (n' j : ℕ) (done todo : List (Item vs)) → hunt t fin s r n i ≡ next n' j → ((d u : List (Item vs)) → At d u n' j → Outcome p) → Turned done todo n i (hunt t fin s r n i) → Outcome p
      carry n' j done todo e rec (nowhere f h) = let z : ◌≡◌ {A = ℕ} 0 1 = cc (e, f) in absurd (omega arith)
      carry n' j done todo e rec (here' f h) = let z : ◌≡◌ {A = ℕ} 0 1 = cc (e, f) in absurd (omega arith)
      carry n' j done todo e rec (onward m' k d u f h) =
          let a : m' ≡ n' = cc (e, f) in
          let b : k ≡ j = cc (e, f) in
          rec d u (subst (λ (z : ℕ). At d u z j) a (subst (λ (z : ℕ). At d u m' z) b h))

      hunts : {p n i : ℕ} → Comes (hunt t fin s r) p n i → (done todo : List (Item vs)) → At done todo n i → Outcome p
      hunts {p} {n} {i} (halts e) done todo a = result done todo e (turned done todo n i a)
      hunts {p} {n} {i} (moves n' j e g) done todo a = carry n' j done todo e (λ d u b. hunts g d u b) (turned done todo n i a)

    module _ (from k : ℕ) (w : Holds vs l (drop from s) k) where
      start : (r n : ℕ) → At from w.content w.rest r n [] (items w.content) n from
      start r n = record {
        is = refl;
        place = omega arith;
        here = w.at ∙ append_assoc (items_bytes vs l (items w.content)) (0 ∷ []) w.rest;
        left = omega arith;
        goods = content_goods w.content w.meets;
      }

    -- a number that the tables have for no leaf is no leaf's row
    no_leaf_row : (r : ℕ) → is_leaf t r ≡ false → Cmp 0 r → Cmp r (size l) → is_group (row_at l r).kind ≡ true
    no_leaf_row r e (same a) c = subst (λ (z : ℕ). is_group (row_at l z).kind ≡ true) a (zero_row l)
    no_leaf_row r e (more a) c = absurd (omega arith)
    no_leaf_row r e (less a) (more c) = ap (λ (z : Row). is_group z.kind) (row_past l r c)
    no_leaf_row r e (less a) (less c) = grouped (is_group (row_at l r).kind) (sym (ls.line r a (omega arith)).leaf ∙ e)
    no_leaf_row r e (less a) (same c) = grouped (is_group (row_at l r).kind) (sym (ls.line r a (omega arith)).leaf ∙ e)

    module _ (from k : ℕ) (w : Holds vs l (drop from s) k) (r n : ℕ) where
      finds : (p : ℕ) → Finds t fin s from r n p → ((is_group (row_at l r).kind ≡ true) × (p ≡ 0)) ⊎ ((is_leaf t r ≡ true) × Outcome from w.content w.rest r n p)
      finds p (groups e f) = inl (no_leaf_row r e (cmp 0 r) (cmp r (size l)), f)
      finds p (leaves e f) = inr (e, hunts from w.content w.rest r n f [] (items w.content) (start from k w r n))

      none_there : Finds t fin s from r n 0 → Missing vs l w.content r n
      none_there f = ⊎_elim (λ h. inl h.0) (λ h. ⊎_elim (λ g. inr g.1) (λ g. absurd (omega (arith, g.0))) h.1) (finds 0 f)

    module _ (hd : (r : ℕ) (f : Leaf) → 0 < r → r ≤ size l → (row_at l r).kind ≡ leaf f → head_of t r ≡ vs.head f) where
      spot_picked : (from k : ℕ) (w : Holds vs l (drop from s) k) (r n p : ℕ) (part : List ℕ) → is_leaf t r ≡ true → Spot from w.content w.rest r n r p
          → part ≡ slice (p + head_of t r) (fin r p) s → Picked vs l from w.content r n (p + head_of t r) part
      spot_picked from k w r n p part e g f =
          let simple : is_group (row_at l r).kind ≡ false = leafed (is_group (row_at l r).kind) (sym (ls.line r g.row.0 g.row.1).leaf ∙ e) in
          let o = leaf_value vs l (row_at l r).kind g.value g.good simple in
          let h = hd r o.0 g.row.0 g.row.1 o.1 in
          let vb_is : vb r g.value ≡ vs.bytes o.0 o.2.0 = ap₂ (value_bytes vs l) o.1 o.2.1 in
          record {
            type = o.0;
            kind = o.1;
            before = g.before;
            value = o.2.0;
            after = g.behind;
            at = g.at ∙ ap (λ (v : Option vs.Value). g.before ++ ((r, v) ∷ g.behind)) o.2.1;
            nth = g.nth;
            starts = ap₂ ◌+◌ g.place h;
            holds = f ∙ ap₂ (λ (a b : ℕ). slice (p + a) b s) h (g.ends ∙ ap (λ (x : List ℕ). p + length x) vb_is)
                ∙ inner p (vs.head o.0) (vs.bytes o.0 o.2.0) (drop (fin r p) s) (g.bytes' ∙ ap (λ (x : List ℕ). x ++ drop (fin r p) s) vb_is) (lw.headed o.0 o.2.0 o.2.2);
          }
        where
          inner : (p h : ℕ) (x u : List ℕ) → drop p s ≡ x ++ u → h ≤ length x → slice (p + h) (p + length x) s ≡ drop h x
          inner p h x u d b =
              let e : p + h + (length x - h) ≡ p + length x = omega arith in
              ap (λ (z : ℕ). slice (p + h) z s) (sym e)
              ∙ part_take (p + h) (length x - h) s
              ∙ ap (take (length x - h)) (sym (drop-drop h p s) ∙ ap (drop h) d ∙ drop-append-le h x u b)
              ∙ take_at (drop h x) u (length x - h) (length-drop h x)

      -- in sound tables the picker answers and hands back as defined
      pub chooses_selects : (from k : ℕ) (w : Holds vs l (drop from s) k) (r n : ℕ) (a : Answer) (part : List ℕ) → Chooses t fin s from r n a part → Selects vs l from w.content r n a part
      chooses_selects from k w r n a part (no_leaf f g e) = none_such (none_there from k w r n f) g e
      chooses_selects from k w r n a part (leaf_at_lem p z f g e) =
          ⊎_elim (λ h. absurd (omega (arith, h.1)))
          (λ h. ⊎_elim (λ y. absurd (omega (arith, y.0))) (λ y. one_such (p + head_of t r) (spot_picked from k w r n p part h.0 y.1 e) g) h.1)
          (finds from k w r n p f)
