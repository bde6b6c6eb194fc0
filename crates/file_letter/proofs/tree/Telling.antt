-- What is told item by item is the rendering of the tree. Assumes nothing.
use mathlib.Core.Path.{◌≡◌, refl, sym, ◌∙◌, ap, subst}
use mathlib.Core.Bool.{Bool, true, false, cond}
use mathlib.Core.Logic.{◌≢◌}
use mathlib.Core.List.{List, [], ◌∷◌, ◌++◌, append_assoc, append-nil}
use mathlib.Core.Option.{Option, none, some}
use Prim.Native.Nat.{ℕ, zero, suc, ◌≤◌, ◌<◌}
use native.Mathlib.Omega.{arith}
use lib.Dec.{eqb}
use borrow.Author.Tests.{eq-eqb, ne_eqb}
use Rattle.text.specs.Bytes.{ascii}
use Rattle.text.specs.Lists.{Each}
use Rattle.list.specs.Listing.{Listing, row_at, Child, size, up}
use Rattle.list.specs.WellFormed.{WellFormed}
use Rattle.list.specs.Content.{Content, end, value, node, rows, items, Good, Meets}
use Rattle.value.specs.Value.{Value, IsValue}
use Rattle.xml.specs.House.{tag, render}
use Rattle.file_letter.proofs.tree.Trees.{letter_is}
use Rattle.file_letter.specs.Letter.{text_in, attr_of, tag_of, coin_of, words_in, tree_in, letter_of}
use Rattle.file_letter.specs.mirror.Tell.{opens, shuts, closes, tell}

module _ (l : Listing) (wf : WellFormed l) where
  -- how much fuel there is changes nothing, if it is enough
  enough : (k g p : ℕ) → up l k g ≡ 0 → closes l k g p ≡ closes l (suc k) g p
  unfolding closes
  enough zero g p e = go (eqb g p)
    where
      go : (b : Bool) → [] ≡ cond b [] (cond (eqb g 0) [] (shuts l g ++ []))
      go true = refl
      go false = sym (rw (eq-eqb g 0 e))
  enough (suc k) g p e = ap (λ (u : List ℕ). cond (eqb g p) [] (cond (eqb g 0) [] (shuts l g ++ u))) (enough k (row_at l g).parent p e)

  -- at that group nothing is closed, nor above the root
  pub same_group : (g : ℕ) → closes l 17 g g ≡ []
  unfolding closes
  same_group g = rw (eq-eqb g g refl)

  pub no_group_lem : (q : ℕ) → closes l 17 0 q ≡ []
  unfolding closes
  no_group_lem q = go (eqb 0 q)
    where
      go : (b : Bool) → ◌≡◌ {A = List ℕ} (cond b [] []) []
      go true = refl
      go false = refl

  -- one closing tag, where the group is not that one
  one_step : (g p q : ℕ) → g ≢ q → g ≢ 0 → (row_at l g).parent ≡ p → up l 16 p ≡ 0 → closes l 17 g q ≡ shuts l g ++ closes l 17 p q
  unfolding closes
  one_step g p q n z e u = rw (ne_eqb g q n, ne_eqb g 0 z) (ap (λ (x : ℕ). shuts l g ++ closes l 16 x q) e ∙ ap (λ (x : List ℕ). shuts l g ++ x) (enough 16 p q u))

  -- what follows begins with no child of p
  abbrev Stop : ℕ → List (ℕ × Option Value) → Type 0
  Stop p [] = Unit {0}
  Stop p (i ∷ is) = (row_at l i.0).parent < p

  pub one_up : (g p q : ℕ) → g ≢ q → g ≢ 0 → (row_at l g).parent ≡ p → p ≤ size l → closes l 17 g q ≡ shuts l g ++ closes l 17 p q
  one_up g p q n z e h = one_step g p q n z e (wf.levels p h)

  -- out of a group
  out : (r p : ℕ) (u : List (ℕ × Option Value)) → Child l p r → p ≤ size l → Stop r u → tell l r u ≡ shuts l r ++ tell l p u
  unfolding tell
  out r p [] c h s = one_up r p 0 (λ e. absurd (omega (arith, c.first, e))) (λ e. absurd (omega (arith, c.first, e))) c.parent h
  out r p ((x, none) ∷ u) c h s =
      ap (λ (z : List ℕ). z ++ (opens l x [] ++ tell l x u)) (one_up r p (row_at l x).parent (λ e. absurd (omega (arith, s, e))) (λ e. absurd (omega (arith, c.first, e))) c.parent h)
      ∙ append_assoc (shuts l r) (closes l 17 p (row_at l x).parent) (opens l x [] ++ tell l x u)
  out r p ((x, some v) ∷ u) c h s =
      let w = opens l x (coin_of v) ++ (render (text_in (words_in (row_at l x).kind v)) ++ (shuts l x ++ tell l (row_at l x).parent u)) in
      ap (λ (z : List ℕ). z ++ w) (one_up r p (row_at l x).parent (λ e. absurd (omega (arith, s, e))) (λ e. absurd (omega (arith, c.first, e))) c.parent h)
      ∙ append_assoc (shuts l r) (closes l 17 p (row_at l x).parent) w

  stop_on : (p r : ℕ) (k : Content Value) (u : List (ℕ × Option Value)) → p < r → Each (Child l p) (rows k) → Stop p u → Stop r (items k ++ u)
  stop_on p r end [] h a s = tt
  stop_on p r end (i ∷ u) h a s = omega arith
  stop_on p r (value x v k) u h a s = omega (arith, a.0.parent)
  stop_on p r (node x c k) u h a s = omega (arith, a.0.parent)

  element : (n t i k : List ℕ) (u : List ℕ) → (60 ∷ (t ++ (62 ∷ []))) ++ (i ++ ((60 ∷ 47 ∷ (n ++ (62 ∷ []))) ++ (k ++ u))) ≡ (60 ∷ (t ++ (62 ∷ (i ++ (60 ∷ 47 ∷ (n ++ (62 ∷ k))))))) ++ u
  element n t i k u = simp append_assoc

  pub told : (c : Content Value) (p : ℕ) (u : List (ℕ × Option Value)) → 0 < p → p ≤ size l → Each (Child l p) (rows c) → Good IsValue l c → Stop p u
      → tell l p (items c ++ u) ≡ render (tree_in l [] c) ++ tell l p u
  unfolding tell
  told end p u z h a g s = refl
  told (value r v k) p u z h a g s =
      let t = tag (tag_of (row_at l r).name (coin_of v)) in
      let i = render (text_in (words_in (row_at l r).kind v)) in
      let e : closes l 17 p (row_at l r).parent ≡ [] = ap (closes l 17 p) a.0.parent ∙ same_group p in
      let f = told k p u z h a.1 g.1 s in
      ap (λ (x : List ℕ). x ++ (opens l r (coin_of v) ++ (i ++ (shuts l r ++ tell l (row_at l r).parent (items k ++ u))))) e
      ∙ ap (λ (x : ℕ). opens l r (coin_of v) ++ (i ++ (shuts l r ++ tell l x (items k ++ u)))) a.0.parent
      ∙ ap (λ (x : List ℕ). opens l r (coin_of v) ++ (i ++ (shuts l r ++ x))) f
      ∙ element (row_at l r).name t i (render (tree_in l [] k)) (tell l p u)
  told (node r c k) p u z h a g s =
      let t = tag (tag_of (row_at l r).name []) in
      let lt : p < r = wf.before p r a.0 in
      let e : closes l 17 p (row_at l r).parent ≡ [] = ap (closes l 17 p) a.0.parent ∙ same_group p in
      let st = stop_on p r k u lt a.1 s in
      let f = told c r (items k ++ u) a.0.first a.0.last g.0.1.theirs g.1 st in
      let o = out r p (items k ++ u) a.0 h st in
      let j = told k p u z h a.1 g.2 s in
      ap (λ (x : List (ℕ × Option Value)). closes l 17 p (row_at l r).parent ++ (opens l r [] ++ tell l r x)) (append_assoc (items c) (items k) u)
      ∙ ap (λ (x : List ℕ). x ++ (opens l r [] ++ tell l r (items c ++ (items k ++ u)))) e
      ∙ ap (λ (x : List ℕ). opens l r [] ++ x) (f ∙ ap (λ (x : List ℕ). render (tree_in l [] c) ++ x) (o ∙ ap (λ (x : List ℕ). shuts l r ++ x) j))
      ∙ element (row_at l r).name t (render (tree_in l [] c)) (render (tree_in l [] k)) (tell l p u)

  -- the whole file: the root's tag, then what is told of the items after it
  pub letter_told : (c : Content Value) → Meets IsValue l c → (kids : Content Value) → c ≡ node 1 kids end
      → letter_of l c ≡ opens l 1 (attr_of (ascii "xmlns") l.space ∷ []) ++ tell l 1 (items kids)
  unfolding letter_of tell
  letter_told c m kids e =
      let g : Good IsValue l (node 1 kids end) = subst (Good IsValue l) e m.good in
      let t = tag (tag_of (row_at l 1).name (attr_of (ascii "xmlns") l.space ∷ [])) in
      let f : tell l 1 (items kids ++ []) ≡ render (tree_in l [] kids) ++ tell l 1 [] = told kids 1 [] (omega arith) wf.root.0 g.0.1.theirs g.1 tt in
      let z : tell l 1 [] ≡ shuts l 1 ++ closes l 17 0 0 = one_up 1 0 0 (omega arith) (omega arith) wf.root.2 (omega arith) in
      let n : closes l 17 0 0 ≡ [] = same_group 0 in
      ap (letter_of l) e
      ∙ letter_is l (node 1 kids end)
      ∙ sym (element (row_at l 1).name t (render (tree_in l [] kids)) [] [])
      ∙ ap (λ (u : List ℕ). opens l 1 (attr_of (ascii "xmlns") l.space ∷ []) ++ (render (tree_in l [] kids) ++ (shuts l 1 ++ u))) (sym n)
      ∙ ap (λ (u : List ℕ). opens l 1 (attr_of (ascii "xmlns") l.space ∷ []) ++ (render (tree_in l [] kids) ++ u)) (sym z)
      ∙ ap (λ (u : List ℕ). opens l 1 (attr_of (ascii "xmlns") l.space ∷ []) ++ u) (sym f ∙ ap (tell l 1) (append-nil (items kids)))
