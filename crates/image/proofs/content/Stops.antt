-- The reader that goes item by item answers what is defined: an image, or the most whole items that begin some image. Assumes nothing.
use mathlib.Core.Path.{◌≡◌, refl, sym, ◌∙◌, ap, subst}
use mathlib.Core.List.{List, [], ◌∷◌, ◌++◌, append_assoc, append-nil, head-eq_of_cons-eq, tail-eq_of_cons-eq}
use mathlib.Core.Option.{Option, none}
use Prim.Native.Nat.{ℕ, suc, ◌+◌, ◌≤◌, ◌<◌}
use native.Mathlib.Omega.{arith}
use native.Mathlib.Decide.{dec_lt}
use lib.ListN.{length, length-append}
use Rattle.answer.specs.declared.Answer.{Answer}
use Rattle.list.specs.Listing.{Listing, row_at}
use Rattle.list.specs.WellFormed.{WellFormed}
use Rattle.list.specs.Content.{Content, items}
use Rattle.image.specs.Image.{Values, Lawful, Item, value_bytes, items_bytes, body}
use Rattle.image.specs.Place.{Holds, BeginsContent, Most, Breaks}
use Rattle.image.specs.Count.{Taken, closed, unclosed}
use Rattle.image.specs.mirror.Follow.{Simple, Next, Over, ItemOk, Trail, Trace, last_row}
use Rattle.image.specs.mirror.Reader.{Stuck, Open, Stops, Ends}
use Rattle.image.proofs.content.Rows.{well}
use Rattle.image.proofs.content.Begins.{content_whole, whole_content, begins_trace, trace_begins}
use Rattle.image.proofs.content.Prefix.{Oks, trail_oks, root_oks, bytes_first, body_prefix}

module _ (vs : Values) (lw : Lawful vs) (l : Listing) (wf : WellFormed l) where
  -- the root's item is its row byte
  root_bytes : (is : List (Item vs)) → items_bytes vs l ((1, none) ∷ is) ≡ 1 ∷ items_bytes vs l is
  root_bytes is = rw (well l wf).top

  -- the loop: one item on, or here
  item_is : (x : ℕ) (v u a b : List ℕ) → u ≡ a ++ b → x ∷ (v ++ u) ≡ (x ∷ (v ++ a)) ++ b
  item_is x v u a b e = ap (λ (z : List ℕ). x ∷ (v ++ z)) e ∙ ap (λ (z : List ℕ). x ∷ z) (sym (append_assoc v a b))

  pub stops_on : (q x : ℕ) (v : Option vs.Value) (s : List ℕ) (n m : ℕ) → Next l x q → ItemOk vs l x v → Stops vs l x s n m
      → Stops vs l q (x ∷ (value_bytes vs l (row_at l x).kind v ++ s)) (1 + length (value_bytes vs l (row_at l x).kind v) + n) (suc m)
  stops_on q x v s n m h i r = record {
    whole = (x, v) ∷ r.whole;
    rest = r.rest;
    at = item_is x (value_bytes vs l (row_at l x).kind v) s (items_bytes vs l r.whole) r.rest r.at;
    trail = (h, i, r.trail);
    stuck = r.stuck;
    open' = r.open';
    long = omega (arith, r.long, length-append (value_bytes vs l (row_at l x).kind v) (items_bytes vs l r.whole));
    many = ap suc r.many;
  }

  pub stops_here : (q : ℕ) (s : List ℕ) → Stuck vs l q s → Open vs l q s → Stops vs l q s 0 0
  stops_here q s h o = record { whole = []; rest = s; at = refl; trail = tt; stuck = h; open' = o; long = refl; many = refl }

  pub ends_on : (q x : ℕ) (v : Option vs.Value) (s : List ℕ) (n m : ℕ) → Next l x q → ItemOk vs l x v → Ends vs l x s n m
      → Ends vs l q (x ∷ (value_bytes vs l (row_at l x).kind v ++ s)) (1 + length (value_bytes vs l (row_at l x).kind v) + n) (suc m)
  ends_on q x v s n m h i r = record {
    whole = (x, v) ∷ r.whole;
    rest = r.rest;
    at = item_is x (value_bytes vs l (row_at l x).kind v) s (items_bytes vs l r.whole) (0 ∷ r.rest) r.at;
    trail = (h, i, r.trail);
    leaf = r.leaf;
    over = r.over;
    long = omega (arith, r.long, length-append (value_bytes vs l (row_at l x).kind v) (items_bytes vs l r.whole));
    many = ap suc r.many;
  }

  pub ends_here : (q : ℕ) (u : List ℕ) → Simple l q → Over l q → Ends vs l q (0 ∷ u) 1 0
  ends_here q u k o = record { whole = []; rest = u; at = refl; trail = tt; leaf = k; over = o; long = refl; many = refl }

  -- after a trail
  trail_behind : (is js : List (Item vs)) (q : ℕ) → Trail vs l q (is ++ js) → Trail vs l (last_row vs l q is) js
  trail_behind [] js q h = h
  trail_behind (i ∷ is) js q h = trail_behind is js i.0 h.2

  last_behind : (is js : List (Item vs)) (q : ℕ) → last_row vs l q (is ++ js) ≡ last_row vs l (last_row vs l q is) js
  last_behind [] js q = refl
  last_behind (i ∷ is) js q = last_behind is js i.0

  no_next : (q : ℕ) (rest u : List ℕ) (ks : List (Item vs)) → Stuck vs l q rest → Trail vs l q ks → rest ≡ items_bytes vs l ks ++ u → ks ≡ []
  no_next q rest u [] h t e = refl
  no_next q rest u (k ∷ ks) h t e = absurd (h k.0 k.1 (items_bytes vs l ks ++ u) (e ∙ ap (λ (z : List ℕ). k.0 ∷ z) (append_assoc (value_bytes vs l (row_at l k.0).kind k.1) (items_bytes vs l ks) u)) t.0 t.1)

  -- no trail goes beyond where the reader stops
  pub no_longer : (q : ℕ) (s : List ℕ) (n m : ℕ) (r : Stops vs l q s n m) (js : List (Item vs)) (u : List ℕ) → Trail vs l q js → s ≡ items_bytes vs l js ++ u → length js ≤ length r.whole
  no_longer q s n m r js u t e = go (dec_lt (length r.whole) (length js))
    where
      go : Dec (length r.whole < length js) → length js ≤ length r.whole
      go (no h) = omega arith
      go (yes h) =
          let f = bytes_first vs lw l wf r.whole js r.rest u (trail_oks vs lw l wf r.whole q r.trail) (trail_oks vs lw l wf js q t) (omega arith) (sym r.at ∙ e) in
          let z = no_next (last_row vs l q r.whole) r.rest u f.0 r.stuck (trail_behind r.whole f.0 q (subst (Trail vs l q) f.1 t)) f.2 in
          omega (arith, ap length f.1, length-append r.whole f.0, ap length z)

  zero_first : (ks : List (Item vs)) (u v : List ℕ) → Oks vs lw l wf ks → 0 ∷ u ≡ items_bytes vs l ks ++ v → ks ≡ []
  zero_first [] u v o e = refl
  zero_first (k ∷ ks) u v o e = absurd (omega (arith, head-eq_of_cons-eq e, o.0))

  oks_behind : (is js : List (Item vs)) → Oks vs lw l wf (is ++ js) → Oks vs lw l wf js
  oks_behind [] js o = o
  oks_behind (i ∷ is) js o = oks_behind is js o.2

  not_ends : (q : ℕ) (s : List ℕ) (n m k j : ℕ) → Stops vs l q s n m → Ends vs l q s k j → ⊥
  not_ends q s n m k j r d =
      let f = bytes_first vs lw l wf d.whole r.whole (0 ∷ d.rest) r.rest (trail_oks vs lw l wf d.whole q d.trail) (trail_oks vs lw l wf r.whole q r.trail)
      (no_longer q s n m r d.whole (0 ∷ d.rest) d.trail d.at) (sym d.at ∙ r.at) in
      let z : f.0 ≡ [] = zero_first f.0 d.rest r.rest (oks_behind d.whole f.0 (subst (Oks vs lw l wf) f.1 (trail_oks vs lw l wf r.whole q r.trail))) f.2 in
      let e : r.whole ≡ d.whole = f.1 ∙ ap (λ (k : List (Item vs)). d.whole ++ k) z ∙ append-nil d.whole in
      let g : r.rest ≡ 0 ∷ d.rest = sym (f.2 ∙ ap (λ (k : List (Item vs)). items_bytes vs l k ++ r.rest) z) in
      r.open' d.rest g (subst (λ (k : List (Item vs)). Simple l (last_row vs l q k)) (sym e) d.leaf) (subst (λ (k : List (Item vs)). Over l (last_row vs l q k)) (sym e) d.over)

  -- from the root on
  pub holds : (s : List ℕ) (n m : ℕ) → Ends vs l 1 s n m → Holds vs l (1 ∷ s) (1 + n)
  holds s n k d =
      let m = whole_content vs lw l wf ((1, none) ∷ d.whole) (record { inside = d.whole; is = refl; trail = d.trail; leaf = d.leaf; over = d.over }) in
      let x = items_bytes vs l (items m.content) in
      let root : items_bytes vs l ((1, none) ∷ d.whole) ≡ 1 ∷ items_bytes vs l d.whole = root_bytes d.whole in
      let e : 1 ∷ s ≡ (x ++ (0 ∷ [])) ++ d.rest =
      ap (λ (z : List ℕ). 1 ∷ z) d.at ∙ ap (λ (z : List ℕ). z ++ (0 ∷ d.rest)) (sym root) ∙ ap (λ (z : List (Item vs)). items_bytes vs l z ++ (0 ∷ d.rest)) (sym m.is) ∙ sym (append_assoc x (0 ∷ []) d.rest) in
      let h : length x ≡ suc (length (items_bytes vs l d.whole)) = ap (λ (z : List (Item vs)). length (items_bytes vs l z)) m.is ∙ ap length root in
      record {
        content = m.content;
        meets = m.meets;
        rest = d.rest;
        at = e;
        long = omega (arith, h, d.long, length-append x (0 ∷ []));
      }

  -- a body has the root's row first
  body_behind : (s : List ℕ) (n : ℕ) → Holds vs l s n → (t : List ℕ) × (s ≡ 1 ∷ t) × ((m : ℕ) × (j : ℕ) × Ends vs l 1 t m j)
  body_behind s n a =
      let h = content_whole vs lw l wf a.content a.meets in
      let x = items_bytes vs l (items a.content) in
      let e : s ≡ 1 ∷ (items_bytes vs l h.inside ++ (0 ∷ a.rest)) =
      a.at ∙ append_assoc x (0 ∷ []) a.rest ∙ ap (λ (z : List (Item vs)). items_bytes vs l z ++ (0 ∷ a.rest)) h.is ∙ ap (λ (z : List ℕ). z ++ (0 ∷ a.rest)) (root_bytes h.inside) in
      (items_bytes vs l h.inside ++ (0 ∷ a.rest), e, (length (items_bytes vs l h.inside) + 1, length h.inside, record { whole = h.inside; rest = a.rest; at = refl; trail = h.trail; leaf = h.leaf; over = h.over; long = refl; many = refl }))

  most_root : (is : List (Item vs)) (s u : List ℕ) (n m : ℕ) (r : Stops vs l 1 s n m) → 1 ∷ s ≡ items_bytes vs l is ++ u → BeginsContent vs l is → length is ≤ suc (length r.whole)
  most_root [] s u n m r e b = omega arith
  most_root (i ∷ is) s u n m r e b =
      let t = begins_trace vs lw l wf (i ∷ is) b in
      let f : 1 ∷ s ≡ 1 ∷ (items_bytes vs l is ++ u) = e ∙ ap (λ (z : Item vs). items_bytes vs l (z ∷ is) ++ u) t.0 ∙ ap (λ (z : List ℕ). z ++ u) (root_bytes is) in
      let k = no_longer 1 s n m r is u t.1 (tail-eq_of_cons-eq f) in omega arith

  pub breaks : (s : List ℕ) (n m : ℕ) → Stops vs l 1 s n m → Breaks vs l (1 ∷ s) (1 + n)
  breaks s n j r = record {
    none = λ m a. let i = body_behind (1 ∷ s) m a in not_ends 1 s n j i.2.0 i.2.1 r (subst (λ (z : List ℕ). Ends vs l 1 z i.2.0 i.2.1) (sym (tail-eq_of_cons-eq i.1)) i.2.2);
    most = record {
      whole = (1, none) ∷ r.whole;
      rest = r.rest;
      at = ap (λ (z : List ℕ). 1 ∷ z) r.at ∙ ap (λ (z : List ℕ). z ++ r.rest) (sym (root_bytes r.whole));
      begins = trace_begins vs lw l wf ((1, none) ∷ r.whole) (refl, r.trail);
      long = omega (arith, r.long, ap length (root_bytes r.whole));
      most = λ is u e b. most_root is s u n j r e b;
    };
  }

  -- a run that does not go on with the root's row
  no_root : (s : List ℕ) → ((t : List ℕ) → s ≡ 1 ∷ t → ⊥) → (is : List (Item vs)) (u : List ℕ) → s ≡ items_bytes vs l is ++ u → Trace vs l is → is ≡ []
  no_root s h [] u e t = refl
  no_root s h (i ∷ is) u e t = absurd (h (items_bytes vs l is ++ u) (e ∙ ap (λ (z : Item vs). items_bytes vs l (z ∷ is) ++ u) t.0 ∙ ap (λ (z : List ℕ). z ++ u) (root_bytes is)))

  pub breaks_root : (s : List ℕ) → ((t : List ℕ) → s ≡ 1 ∷ t → ⊥) → Breaks vs l s 0
  breaks_root s h = record {
    none = λ m a. let i = body_behind s m a in h i.0 i.1;
    most = record {
      whole = [];
      rest = s;
      at = refl;
      begins = trace_begins vs lw l wf [] tt;
      long = refl;
      most = λ is u e b. omega (arith, ap length (no_root s h is u e (begins_trace vs lw l wf is b)));
    };
  }

  -- and the items that are taken: those after the root, the root's, the closing 0
  module _ (s : List ℕ) (n m : ℕ) (a : Answer) where
    pub ends_taken : Ends vs l 1 s n m → a.code ≡ 0 → Taken vs l (1 ∷ s) a (suc (suc m))
    unfolding holds
    ends_taken d z =
        let w = whole_content vs lw l wf ((1, none) ∷ d.whole) (record { inside = d.whole; is = refl; trail = d.trail; leaf = d.leaf; over = d.over }) in
        closed (1 + n) (holds s n m d) z (omega (arith, d.many, ap length w.is))

    pub stops_taken : Stops vs l 1 s n m → a.code ≡ 17 → Taken vs l (1 ∷ s) a (suc m)
    unfolding breaks
    stops_taken r z = unclosed (1 + n) (breaks s n m r) z (ap suc r.many)

  -- without the root there is none
  pub root_taken : (s : List ℕ) (a : Answer) → ((t : List ℕ) → s ≡ 1 ∷ t → ⊥) → a.code ≡ 17 → Taken vs l s a 0
  unfolding breaks_root
  root_taken s a h z = unclosed 0 (breaks_root s h) z refl

  -- only one answer: the most items are the same
  pub most_whole : (s : List ℕ) (m n : ℕ) (a : Most vs l s m) (b : Most vs l s n) → a.whole ≡ b.whole
  most_whole s m n a b =
      let i = a.most b.whole b.rest b.at b.begins in
      let j = b.most a.whole a.rest a.at a.begins in
      let f = bytes_first vs lw l wf a.whole b.whole a.rest b.rest (oks a.whole a.begins) (oks b.whole b.begins) j (sym a.at ∙ b.at) in
      let z : f.0 ≡ [] = none f.0 (omega (arith, ap length f.1, length-append a.whole f.0)) in
      sym (f.1 ∙ ap (λ (k : List (Item vs)). a.whole ++ k) z ∙ append-nil a.whole)
    where
      none : (k : List (Item vs)) → length k ≡ 0 → k ≡ []
      none [] e = refl
      none (x ∷ k) e = absurd (omega arith)

      trace_oks : (is : List (Item vs)) → Trace vs l is → Oks vs lw l wf is
      trace_oks [] t = tt
      trace_oks (i ∷ is) t = subst (λ (z : Item vs). Oks vs lw l wf (z ∷ is)) (sym t.0) (root_oks vs lw l wf is t.1)

      oks : (is : List (Item vs)) → BeginsContent vs l is → Oks vs lw l wf is
      oks is b = trace_oks is (begins_trace vs lw l wf is b)

  pub most_one : (s : List ℕ) (m n : ℕ) → Most vs l s m → Most vs l s n → m ≡ n
  most_one s m n a b = a.long ∙ ap (λ (k : List (Item vs)). length (items_bytes vs l k)) (most_whole s m n a b) ∙ sym b.long

  pub holds_content : (s : List ℕ) (m n : ℕ) (a : Holds vs l s m) (b : Holds vs l s n) → a.content ≡ b.content
  holds_content s m n a b = (body_prefix vs lw l wf a.content b.content a.rest b.rest a.meets b.meets (sym a.at ∙ b.at)).0

  pub holds_one : (s : List ℕ) (m n : ℕ) → Holds vs l s m → Holds vs l s n → m ≡ n
  holds_one s m n a b = a.long ∙ ap (λ (z : Content vs.Value). length (body vs l z)) (holds_content s m n a b) ∙ sym b.long

  pub breaks_one : (s : List ℕ) (m n : ℕ) → Breaks vs l s m → Breaks vs l s n → m ≡ n
  breaks_one s m n a b = most_one s m n a.most b.most
