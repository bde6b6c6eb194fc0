-- Images tell contents apart, and none is a shorter beginning of another. Assumes nothing.
use mathlib.Core.Path.{◌≡◌, refl, sym, ◌∙◌, ap, ap₂, subst}
use mathlib.Core.Bool.{false≢true}
use mathlib.Core.List.{List, [], ◌∷◌, ◌++◌, append_assoc, head-eq_of_cons-eq, tail-eq_of_cons-eq, nil≢cons}
use mathlib.Core.Option.{Option, none, some}
use Prim.Native.Nat.{ℕ, ◌≤◌, ◌<◌}
use native.Mathlib.Omega.{arith}
use lib.ListN.{length}
use Rattle.list.specs.Listing.{Kind, group, choice, leaf, Listing, row_at, Child}
use Rattle.list.specs.WellFormed.{KindOk, WellFormed}
use Rattle.list.specs.Content.{Content, end, value, node, rows, items, Meets}
use Rattle.image.specs.Image.{Values, Lawful, Item, header, value_bytes, item_bytes, items_bytes, body, image}
use Rattle.image.specs.mirror.Follow.{parent_of, Compound, OfKind, ItemOk, Trail, Whole}
use Rattle.image.proofs.content.Rows.{clash, value_is, next_in_lem, well}
use Rattle.image.proofs.content.Derive.{After, above}
use Rattle.image.proofs.content.Levels.{children_chain}
use Rattle.image.proofs.content.Begins.{after_of, content_whole, no_more, root_group}

pub cancel : (a u v : List ℕ) → a ++ u ≡ a ++ v → u ≡ v
cancel [] u v e = e
cancel (x ∷ a) u v e = cancel a u v (tail-eq_of_cons-eq e)

option_clash : {A : Type 0} {x : A} → some x ≡ none → ⊥
option_clash e = let z : ◌≡◌ {A = ℕ} 0 1 = cc in omega arith

module _ (vs : Values) (lw : Lawful vs) (l : Listing) (wf : WellFormed l) where
  abbrev pub Oks : List (Item vs) → Type 0
  Oks [] = Unit {0}
  Oks (i ∷ is) = (0 < i.0) × ItemOk vs l i.0 i.1 × Oks is

  pub trail_oks : (is : List (Item vs)) (q : ℕ) → Trail vs l q is → Oks is
  trail_oks [] q h = tt
  trail_oks (i ∷ is) q h = ((next_in_lem l h.0).0, h.1, trail_oks is i.0 h.2)

  pub root_oks : (is : List (Item vs)) → Trail vs l 1 is → Oks ((1, none) ∷ is)
  root_oks is h = (omega arith, root_group vs lw l wf, trail_oks is 1 h)

  kind_cut : (k : Kind) (v u : Option vs.Value) (a b : List ℕ) → KindOk k → OfKind vs l k v → OfKind vs l k u → value_bytes vs l k v ++ a ≡ value_bytes vs l k u ++ b → (v ≡ u) × (a ≡ b)
  kind_cut group none none a b o h g t = (refl, t)
  kind_cut group none (some u) a b o h g t = absurd g
  kind_cut group (some v) u a b o h g t = absurd h
  kind_cut choice none none a b o h g t = (refl, t)
  kind_cut choice none (some u) a b o h g t = absurd g
  kind_cut choice (some v) u a b o h g t = absurd h
  kind_cut (leaf k) none u a b o h g t = absurd (false≢true h)
  kind_cut (leaf k) (some v) none a b o h g t = absurd (false≢true g)
  kind_cut (leaf k) (some v) (some u) a b o h g t = let z = lw.prefix k v u a b o h g t in (ap some z.0, z.1)

  pub value_cut : (x y : ℕ) (v u : Option vs.Value) (a b : List ℕ) → x ≡ y → ItemOk vs l x v → ItemOk vs l y u
      → value_bytes vs l (row_at l x).kind v ++ a ≡ value_bytes vs l (row_at l y).kind u ++ b → (v ≡ u) × (a ≡ b)
  value_cut x y v u a b e h g t =
      kind_cut (row_at l x).kind v u a b ((well l wf).kinds x) h (subst (λ (z : ℕ). ItemOk vs l z u) (sym e) g) (subst (λ (z : ℕ). value_bytes vs l (row_at l x).kind v ++ a ≡ value_bytes vs l (row_at l z).kind u ++ b) (sym e) t)

  -- one item off both
  pub item_cut : (i j : Item vs) (a b u v : List ℕ) → ItemOk vs l i.0 i.1 → ItemOk vs l j.0 j.1 → (item_bytes vs l i ++ a) ++ u ≡ (item_bytes vs l j ++ b) ++ v → (i ≡ j) × (a ++ u ≡ b ++ v)
  item_cut i j a b u v oi oj e =
      let r : i.0 ≡ j.0 = head-eq_of_cons-eq e in
      let x = value_bytes vs l (row_at l i.0).kind i.1 in
      let y = value_bytes vs l (row_at l j.0).kind j.1 in
      let t : x ++ (a ++ u) ≡ y ++ (b ++ v) = sym (append_assoc x a u) ∙ tail-eq_of_cons-eq e ∙ append_assoc y b v in
      let z = value_cut i.0 j.0 i.1 j.1 (a ++ u) (b ++ v) r oi oj t in
      (ap₂ (λ (m : ℕ) (n : Option vs.Value). (m, n)) r z.0, z.1)

  pub bytes_whole : (is js : List (Item vs)) (u v : List ℕ) → Oks is → Oks js → items_bytes vs l is ++ (0 ∷ u) ≡ items_bytes vs l js ++ (0 ∷ v) → (is ≡ js) × (u ≡ v)
  bytes_whole [] [] u v a b e = (refl, tail-eq_of_cons-eq e)
  bytes_whole [] (j ∷ js) u v a b e = absurd (omega (arith, head-eq_of_cons-eq e, b.0))
  bytes_whole (i ∷ is) [] u v a b e = absurd (omega (arith, head-eq_of_cons-eq e, a.0))
  bytes_whole (i ∷ is) (j ∷ js) u v a b e =
      let z = item_cut i j (items_bytes vs l is) (items_bytes vs l js) (0 ∷ u) (0 ∷ v) a.1 b.1 e in
      let r = bytes_whole is js u v a.2 b.2 z.1 in
      (ap₂ ◌∷◌ z.0 r.0, r.1)

  -- the fewer items are the first of the more
  pub bytes_first : (is js : List (Item vs)) (u v : List ℕ) → Oks is → Oks js → length is ≤ length js → items_bytes vs l is ++ u ≡ items_bytes vs l js ++ v
      → (ks : List (Item vs)) × (js ≡ is ++ ks) × (u ≡ items_bytes vs l ks ++ v)
  bytes_first [] js u v a b h e = (js, refl, e)
  bytes_first (i ∷ is) [] u v a b h e = absurd (omega arith)
  bytes_first (i ∷ is) (j ∷ js) u v a b h e =
      let z = item_cut i j (items_bytes vs l is) (items_bytes vs l js) u v a.1 b.1 e in
      let r = bytes_first is js u v a.2 b.2 (omega arith) z.1 in
      (r.0, ap₂ ◌∷◌ (sym z.0) r.1, r.2)

  -- the content is told by its items: what follows a content of p begins with no child of p
  abbrev Stop : ℕ → List (Item vs) → Type 0
  Stop p [] = Unit {0}
  Stop p (i ∷ is) = parent_of l i.0 < p

  under : (p x : ℕ) → 0 < p → Child l p x → p < x
  under p x h c = omega (arith, ((well l wf).before x (above vs l (well l wf) h c) c.last).1, c.parent)

  stop_on : (p q r : ℕ) (k : Content vs.Value) (u : List (Item vs)) → p < r → After vs l p q k → Stop p u → Stop r (items k ++ u)
  stop_on p q r end [] h a s = tt
  stop_on p q r end (i ∷ u) h a s = omega arith
  stop_on p q r (value x v k) u h a s = omega (arith, a.0.child.parent)
  stop_on p q r (node x i k) u h a s = omega (arith, a.0.child.parent)

  no_child : (p x : ℕ) (v : Option vs.Value) (u t : List (Item vs)) → Stop p u → u ≡ (x, v) ∷ t → Child l p x → ⊥
  no_child p x v u t s e c = let h : parent_of l x < p = subst (λ (z : List (Item vs)). Stop p z) e s in omega (arith, c.parent)

  inj : (a b : Content vs.Value) (p q q' : ℕ) (u v : List (Item vs)) → 0 < p → After vs l p q a → After vs l p q' b → Stop p u → Stop p v → items a ++ u ≡ items b ++ v → (a ≡ b) × (u ≡ v)
  inj end end p q q' u v h fa fb su sv e = (refl, e)
  inj end (value r y k) p q q' u v h fa fb su sv e = absurd (no_child p r (some y) u (items k ++ v) su e fb.0.child)
  inj end (node r i k) p q q' u v h fa fb su sv e = absurd (no_child p r none u ((items i ++ items k) ++ v) su e fb.0.child)
  inj (value r y k) end p q q' u v h fa fb su sv e = absurd (no_child p r (some y) v (items k ++ u) sv (sym e) fa.0.child)
  inj (node r i k) end p q q' u v h fa fb su sv e = absurd (no_child p r none v ((items i ++ items k) ++ u) sv (sym e) fa.0.child)
  inj (value r y k) (node r' i' k') p q q' u v h fa fb su sv e = absurd (option_clash (ap (λ (z : Item vs). z.1) (head-eq_of_cons-eq e)))
  inj (node r i k) (value r' y' k') p q q' u v h fa fb su sv e = absurd (option_clash (sym (ap (λ (z : Item vs). z.1) (head-eq_of_cons-eq e))))
  inj (value r y k) (value r' y' k') p q q' u v h fa fb su sv e =
      let i = head-eq_of_cons-eq e in
      let er : r ≡ r' = ap (λ (z : Item vs). z.0) i in
      let ey : some y ≡ some y' = ap (λ (z : Item vs). z.1) i in
      let o = inj k k' p r r' u v h fa.2 fb.2 su sv (tail-eq_of_cons-eq e) in
      (cc (er, ey, o.0), o.1)
  inj (node r i k) (node r' i' k') p q q' u v h fa fb su sv e =
      let er : r ≡ r' = ap (λ (z : Item vs). z.0) (head-eq_of_cons-eq e) in
      let t : items i ++ (items k ++ u) ≡ items i' ++ (items k' ++ v) = sym (append_assoc (items i) (items k) u) ∙ tail-eq_of_cons-eq e ∙ append_assoc (items i') (items k') v in
      let lt = under p r h fa.0.child in
      let o = inj i i' r 0 0 (items k ++ u) (items k' ++ v) fa.0.child.first fa.2 (subst (λ (z : ℕ). After vs l z 0 i') (sym er) fb.2) (stop_on p r r k u lt fa.3 su) (stop_on p r' r k' v lt fb.3 sv) t in
      let n = inj k k' p r r' u v h fa.3 fb.3 su sv o.1 in
      (cc (er, o.0, n.0), n.1)

  pub record Top (c : Content vs.Value) : Type 0 where
    pub inner : Content vs.Value
    pub is : c ≡ node 1 inner end
    pub fits : After vs l 1 0 inner

  top_of : (c : Content vs.Value) → Meets vs.Is l c → Top c
  top_of end m = absurd (nil≢cons m.root)
  top_of (value r v k) m = absurd (clash (subst (λ (z : ℕ). Compound l z) (sym (head-eq_of_cons-eq m.root)) (root_group vs lw l wf)) (value_is vs.Is l (row_at l r).kind v m.good.0))
  top_of (node r i k) m =
      let er : r ≡ 1 = head-eq_of_cons-eq m.root in
      let ek : k ≡ end = no_more vs lw l wf k (tail-eq_of_cons-eq m.root) in
      record { inner = i; is = cc (er, ek); fits = subst (λ (z : ℕ). After vs l z 0 i) er (after_of vs lw l wf i r 0 (children_chain l wf r (rows i) m.good.0.1) m.good.1) }

  items_tell : (a b : Content vs.Value) → Meets vs.Is l a → Meets vs.Is l b → items a ≡ items b → a ≡ b
  items_tell a b ma mb e =
      let ta = top_of a ma in
      let tb = top_of b mb in
      let t : (1, none) ∷ (items ta.inner ++ []) ≡ (1, none) ∷ (items tb.inner ++ []) = cc (e, ta.is, tb.is) in
      cc ((inj ta.inner tb.inner 1 0 0 [] [] (omega arith) ta.fits tb.fits tt tt (tail-eq_of_cons-eq t)).0, ta.is, tb.is)

  pub whole_oks : (t : List (Item vs)) → Whole vs l t → Oks t
  whole_oks t h = subst Oks (sym h.is) (root_oks h.inside h.trail)

  -- bodies that begin one run are equal, and so are their contents
  pub body_prefix : (a b : Content vs.Value) (u v : List ℕ) → Meets vs.Is l a → Meets vs.Is l b → body vs l a ++ u ≡ body vs l b ++ v → (a ≡ b) × (u ≡ v)
  body_prefix a b u v ma mb e =
      let x = items_bytes vs l (items a) in
      let y = items_bytes vs l (items b) in
      let t : x ++ (0 ∷ u) ≡ y ++ (0 ∷ v) = sym (append_assoc x (0 ∷ []) u) ∙ e ∙ append_assoc y (0 ∷ []) v in
      let z = bytes_whole (items a) (items b) u v (whole_oks (items a) (content_whole vs lw l wf a ma)) (whole_oks (items b) (content_whole vs lw l wf b mb)) t in
      (items_tell a b ma mb z.0, z.1)

  -- and so are images
  pub image_prefix : (a b : Content vs.Value) (u v : List ℕ) → Meets vs.Is l a → Meets vs.Is l b → image vs l a ++ u ≡ image vs l b ++ v → (a ≡ b) × (u ≡ v)
  unfolding image
  image_prefix a b u v ma mb e =
      body_prefix a b u v ma mb (cancel (header l) (body vs l a ++ u) (body vs l b ++ v) (sym (append_assoc (header l) (body vs l a) u) ∙ e ∙ append_assoc (header l) (body vs l b) v))
