-- Items begin some content that meets the list exactly when each may come directly after the one before it. Assumes nothing.
use mathlib.Core.Path.{◌≡◌, refl, sym, ◌∙◌, subst}
use mathlib.Core.List.{List, [], ◌∷◌, ◌++◌, append-nil, head-eq_of_cons-eq, tail-eq_of_cons-eq, nil≢cons}
use mathlib.Core.Option.{none}
use Prim.Native.Nat.{ℕ, ◌≤◌, ◌<◌}
use native.Mathlib.Omega.{arith}
use Rattle.list.specs.Listing.{Listing, size, row_at}
use Rattle.list.specs.WellFormed.{WellFormed}
use Rattle.list.specs.Content.{Content, end, value, node, rows, items, Good, Meets}
use Rattle.image.specs.Image.{Values, Lawful, Item}
use Rattle.image.specs.Place.{BeginsContent}
use Rattle.image.specs.mirror.Follow.{Simple, Compound, Over, Trail, Trace, last_row, Whole}
use Rattle.image.proofs.content.Rows.{clash, value_is, next_in_lem, Well, well}
use Rattle.image.proofs.content.Derive.{After, Rest, root, more, Takes, after, inside, fwd, back, rest_over, over_rest}
use Rattle.image.proofs.content.Levels.{Chain, chain_children, children_chain}
use Rattle.image.proofs.content.Live.{live}

module _ (vs : Values) (l : Listing) (wf : WellFormed l) where
  -- what follows in order keeps to the list
  pub of_after : (c : Content vs.Value) (p q : ℕ) → After vs l p q c → Chain l p q (rows c) × Good vs.Is l c
  of_after end p q a = (a, tt)
  of_after (value r v k) p q a = let o = of_after k p r a.2 in ((a.0, o.0), (a.1, o.1))
  of_after (node r i k) p q a =
      let o = of_after k p r a.3 in
      let n = of_after i r 0 a.2 in
      ((a.0, o.0), ((a.1, chain_children l wf r (rows i) n.0), n.1, o.1))

module _ (vs : Values) (lw : Lawful vs) (l : Listing) (wf : WellFormed l) where
  abbrev w : Well l
  w = well l wf

  pub after_of : (c : Content vs.Value) (p q : ℕ) → Chain l p q (rows c) → Good vs.Is l c → After vs l p q c
  after_of end p q h m = h
  after_of (value r v k) p q h m = (h.0, m.0, after_of k p r h.1 m.1)
  after_of (node r i k) p q h m = (h.0, m.0.0, after_of i r 0 (children_chain l wf r (rows i) m.0.1) m.1, after_of k p r h.1 m.2)

  pub root_group : Compound l 1
  root_group = rw w.top

  -- a whole content is the root's item and what the root takes
  pub record Rooted (t : List (Item vs)) : Type 0 where
    pub inner : List (Item vs)
    pub is : t ≡ (1, none) ∷ inner
    pub takes : Takes vs l 1 inner

  pub no_more : (k : Content vs.Value) → rows k ≡ [] → k ≡ end
  no_more end e = refl
  no_more (value r v k) e = absurd (nil≢cons (sym e))
  no_more (node r i k) e = absurd (nil≢cons (sym e))

  pub rooted : (c : Content vs.Value) → Meets vs.Is l c → Rooted (items c)
  rooted end m = absurd (nil≢cons m.root)
  rooted (value r v k) m = absurd (clash (subst (λ (z : ℕ). Compound l z) (sym (head-eq_of_cons-eq m.root)) root_group) (value_is vs.Is l (row_at l r).kind v m.good.0))
  rooted (node r i k) m =
      let er : r ≡ 1 = head-eq_of_cons-eq m.root in
      let ek : k ≡ end = no_more k (tail-eq_of_cons-eq m.root) in
      let a : After vs l r 0 i = after_of i r 0 (children_chain l wf r (rows i) m.good.0.1) m.good.1 in
      record { inner = items i ++ []; is = cc; takes = inside root_group i (subst (λ (z : ℕ). After vs l z 0 i) er a) [] refl (root refl refl) }

  pub record Made (t : List (Item vs)) : Type 0 where
    pub content : Content vs.Value
    pub meets : Meets vs.Is l content
    pub is : items content ≡ t

  rest_one : {t : List (Item vs)} → Rest vs l 1 t → t ≡ []
  rest_one (root e n) = n
  rest_one (more h c a u e r) = absurd (omega arith)

  pub unrooted : (t : List (Item vs)) → Takes vs l 1 t → Made ((1, none) ∷ t)
  unrooted t (after k r) = absurd (clash root_group k)
  unrooted t (inside n i a u e r) =
      let o = of_after vs l wf i 1 0 a in
      record {
        content = node 1 i end;
        meets = record { root = refl; good = ((n, chain_children l wf 1 (rows i) o.0), o.1, tt) };
        is = cc (e, rest_one r);
      }

  -- along the items
  pub trail_of : (is : List (Item vs)) (q : ℕ) (t : List (Item vs)) → 0 < q → q ≤ size l → Takes vs l q (is ++ t) → Trail vs l q is × Takes vs l (last_row vs l q is) t
  trail_of [] q t a b k = (tt, k)
  trail_of (i ∷ is) q t a b k =
      let s = fwd vs l w a b k refl in
      let n = next_in_lem l s.next in
      let r = trail_of is i.0 t n.0 n.1 s.takes in
      ((s.next, s.item, r.0), r.1)

  pub of_trail : (is : List (Item vs)) (q : ℕ) (t : List (Item vs)) → 0 < q → q ≤ size l → Trail vs l q is → Takes vs l (last_row vs l q is) t → Takes vs l q (is ++ t)
  of_trail [] q t a b h k = k
  of_trail (i ∷ is) q t a b h k =
      let n = next_in_lem l h.0 in
      back vs l w a b h.0 h.1 (of_trail is i.0 t n.0 n.1 h.2 k)

  last_in : (is : List (Item vs)) (q : ℕ) → 0 < q → q ≤ size l → Trail vs l q is → (0 < last_row vs l q is) × (last_row vs l q is ≤ size l)
  last_in [] q a b h = (a, b)
  last_in (i ∷ is) q a b h = let n = next_in_lem l h.0 in last_in is i.0 n.0 n.1 h.2

  -- (c) the items that begin some content
  pub begins_trace : (is : List (Item vs)) → BeginsContent vs l is → Trace vs l is
  begins_trace [] b = tt
  begins_trace (i ∷ is) b =
      let r = rooted b.content b.meets in
      let e : i ∷ (is ++ b.rest) ≡ (1, none) ∷ r.inner = sym b.at ∙ r.is in
      let k : Takes vs l 1 (is ++ b.rest) = subst (Takes vs l 1) (sym (tail-eq_of_cons-eq e)) r.takes in
      (head-eq_of_cons-eq e, (trail_of is 1 b.rest (omega arith) w.rows k).0)

  begun : (is t : List (Item vs)) → Takes vs l 1 (is ++ t) → BeginsContent vs l ((1, none) ∷ is)
  begun is t k = let m = unrooted (is ++ t) k in record { content = m.content; meets = m.meets; rest = t; at = m.is }

  root_begins : (is : List (Item vs)) → Trail vs l 1 is → BeginsContent vs l ((1, none) ∷ is)
  root_begins is h =
      let n = last_in is 1 (omega arith) w.rows h in
      let v = live vs lw l w (last_row vs l 1 is) n.0 n.1 in
      begun is v.0 (of_trail is 1 v.0 (omega arith) w.rows h v.1)

  pub trace_begins : (is : List (Item vs)) → Trace vs l is → BeginsContent vs l is
  trace_begins [] h = let b = root_begins [] tt in record { content = b.content; meets = b.meets; rest = (1, none) ∷ b.rest; at = b.at }
  trace_begins (i ∷ is) h = subst (λ (z : Item vs). BeginsContent vs l (z ∷ is)) (sym h.0) (root_begins is h.1)

  -- (b) the items of a whole content
  takes_nil : {q : ℕ} {t : List (Item vs)} → q ≤ size l → Takes vs l q t → t ≡ [] → (Simple l q) × Over l q
  takes_nil b (after k r) e = (k, rest_over vs l w b r e)
  takes_nil b (inside n end a u i r) e = absurd (omega (arith, a.some))
  takes_nil b (inside n (value x v k) a u i r) e = absurd (nil≢cons (sym e ∙ i))
  takes_nil b (inside n (node x c k) a u i r) e = absurd (nil≢cons (sym e ∙ i))

  pub content_whole : (c : Content vs.Value) → Meets vs.Is l c → Whole vs l (items c)
  content_whole c m =
      let r = rooted c m in
      let k : Takes vs l 1 (r.inner ++ []) = rw append-nil r.takes in
      let t = trail_of r.inner 1 [] (omega arith) w.rows k in
      let n = last_in r.inner 1 (omega arith) w.rows t.0 in
      let o = takes_nil n.1 t.1 refl in
      record { inside = r.inner; is = r.is; trail = t.0; leaf = o.0; over = o.1 }

  pub whole_content : (is : List (Item vs)) → Whole vs l is → Made is
  whole_content is h =
      let k : Takes vs l 1 (h.inside ++ []) = of_trail h.inside 1 [] (omega arith) w.rows h.trail (after h.leaf (over_rest vs l w h.over)) in
      let m = unrooted h.inside (rw append-nil at k) in
      record { content = m.content; meets = m.meets; is = m.is ∙ sym h.is }
