-- What a stored content is to the list of files of its kind: without a row that is gone it meets it; a file has none; and the first one is of row 40. Assumes nothing.
use mathlib.Core.Path.{◌≡◌, refl, sym, ◌∙◌, ap, subst}
use mathlib.Core.Logic.{◌⊎◌, inl, inr}
use mathlib.Core.List.{List, [], ◌∷◌, ◌++◌, head-eq_of_cons-eq, tail-eq_of_cons-eq}
use Prim.Native.Nat.{ℕ, zero, suc, ◌+◌}
use native.Mathlib.Omega.{arith}
use lib.ListN.{length}
use Rattle.text.specs.Lists.{Each}
use Rattle.text_characters.specs.Pieces.{spell}
use Rattle.list.specs.Listing.{Listing, row_at, Child}
use Rattle.list.specs.Content.{Content, end, value, node, rows, items, Good, Meets}
use Rattle.list.specs.Within.{Among, Within}
use Rattle.list.specs.Changed.{Gone}
use Rattle.list.proofs.Within.{child_without}
use Rattle.list.proofs.Retired.{present_of}
use Rattle.list_house.specs.Lists.{asked_of, stored}
use Rattle.list_house.proofs.Lists.{kept_well}
use Rattle.list_house.proofs.Retired.{GoneRows, gone_rows, Narrowed, stored_narrowed}
use Rattle.value.specs.parts.Former.{present}
use Rattle.value.specs.Value.{Value, IsValue}
use Rattle.value.specs.Spelled.{Spelled}
use Rattle.xml.specs.House.{IsName, Markup as Tags, no_more as over, piece, empty_tag, full, render, tag, GoodMarkup, OneElement, Tree, GoodTree}
use Rattle.xml.specs.Message.{nothing_inside, attrs_of, parts_of, root_at, message_of}
use Rattle.file_walk.proofs.violation.Attrs.{root_tag}
use Rattle.file_walk.specs.Denotes.{Denotes, Has}
use Rattle.image.specs.Kinds.{values}
use Rattle.image.specs.Image.{Item}
use Rattle.file.specs.Instance.{house_types, house_kinds}
use Rattle.file.specs.File.{File}
use Rattle.file_letter.specs.Stale.{NoneOf, FirstAt, Withdrawn, Finer}
use Rattle.file_letter.proofs.Meeting.{both_each, each_last, none_finer}

-- ---- what an image may hold and a file may say

module _ (m : Listing) (i : Among m stored) (c : Content Value) (h : Meets IsValue m c) where
  abbrev l : Listing
  l = asked_of m.byte

  abbrev its : Narrowed m
  its = stored_narrowed m i

  -- a content without a row that is gone meets the list of files
  pub meets_present : NoneOf (Withdrawn l) (items c) → Meets IsValue l c
  meets_present q = present_of l m its.within its.retires IsValue c h q

  -- and without a finer date-time it is said by the present rules
  pub said_present : NoneOf (Withdrawn l) (items c) → NoneOf Finer (items c) → Meets (Spelled present) l c
  said_present q f = (none_finer l c (meets_present q)).0 f

-- ---- a tag has a name, so no row of a file is gone

module _ (l : Listing) where
  unnamed : (r : ℕ) (n : List ℕ) → (row_at l r).name ≡ n → IsName n → Gone l r → ⊥
  unnamed r n e i g = subst IsName (sym e ∙ g) i

  none_end : (p : ℕ) (c : Content Value) → Denotes house_types l p nothing_inside c → NoneOf (Withdrawn l) (items c)
  none_end p end h = tt
  none_end p (value r v c) h = absurd h
  none_end p (node r d c) h = absurd h

  node_named : (r : ℕ) (e c : Content Value) → (Gone l r → ⊥) → NoneOf (Withdrawn l) (items e) → NoneOf (Withdrawn l) (items c) → NoneOf (Withdrawn l) (items (node r e c))
  node_named r e c g a b = (g, both_each (λ (i : Item values). Withdrawn l i → ⊥) (items e) (items c) a b)

  named_in : (i : Tags) (d o p : ℕ) (c : Content Value) → GoodMarkup d i → Denotes house_types l p (parts_of o i) c → NoneOf (Withdrawn l) (items c)
  named_in over d o p c g h = none_end p c h
  named_in (piece x i) d o p c g h = named_in i d (o + length (spell x)) p c g.2 h.1
  named_in (empty_tag t i) zero o p c g h = absurd g
  named_in (empty_tag t i) (suc d) o p end g h = absurd h
  named_in (empty_tag t i) (suc d) o p (value r v c) g h =
      (unnamed r t.name h.0.1 g.0.name, named_in i (suc d) (o + length (render (empty_tag t over))) p c g.1 h.2)
  named_in (empty_tag t i) (suc d) o p (node r e c) g h =
      node_named r e c (unnamed r t.name h.0.1 g.0.name) (none_end r e h.2) (named_in i (suc d) (o + length (render (empty_tag t over))) p c g.1 h.3)
  named_in (full t j b i) zero o p c g h = absurd g
  named_in (full t j b i) (suc d) o p end g h = absurd h
  named_in (full t j b i) (suc d) o p (value r v c) g h =
      (unnamed r t.name h.0.1 g.0.name, named_in i (suc d) (o + length (render (full t j b over))) p c g.3 h.2)
  named_in (full t j b i) (suc d) o p (node r e c) g h =
      node_named r e c (unnamed r t.name h.0.1 g.0.name) (named_in j d (o + (length (tag t) + 2)) r e g.1 h.2)
      (named_in i (suc d) (o + length (render (full t j b over))) p c g.3 h.3)

  named_root : (i : Tags) (o : ℕ) (c : Content Value) → OneElement i → GoodMarkup 16 i → Has house_types l (parts_of o i) c → NoneOf (Withdrawn l) (items c)
  named_root over o c one g h = absurd one
  named_root (piece x i) o c one g h = absurd one
  named_root (empty_tag t i) o c one g h =
      subst (λ (z : Content Value). NoneOf (Withdrawn l) (items z)) (sym h.is) (node_named 1 h.kids end (unnamed 1 t.name ((root_tag l t.name (attrs_of t.attributes)).0 h.root).name g.0.name) (none_end 1 h.kids h.parts) tt)
  named_root (full t j b i) o c one g h =
      subst (λ (z : Content Value). NoneOf (Withdrawn l) (items z)) (sym h.is)
      (node_named 1 h.kids end (unnamed 1 t.name ((root_tag l t.name (attrs_of t.attributes)).0 h.root).name g.0.name) (named_in j 15 (o + (length (tag t) + 2)) 1 h.kids g.1 h.parts) tt)

  -- no content of a message, whatever its length, has a row that is gone
  pub named_message : (t : Tree) (c : Content Value) → GoodTree t → Has house_types l (message_of t) c → NoneOf (Withdrawn l) (items c)
  named_message t c g h = named_root t.root (root_at t) c g.one g.root h

  pub named_file : (s : List ℕ) (c : Content Value) → File house_kinds l s c → NoneOf (Withdrawn l) (items c)
  named_file s c f = named_message f.whole.xml.tree c f.whole.xml.good f.has

-- ---- a parent stands before its children

-- where an item stands among two parts
Where : (a b front : List (Item values)) (j : Item values) (rest : List (Item values)) → Type 0
Where a b front j rest = ((u : List (Item values)) × (a ≡ front ++ (j ∷ u))) ⊎ ((u : List (Item values)) × (front ≡ a ++ u) × (b ≡ u ++ (j ∷ rest)))

where_is : (a b front : List (Item values)) (j : Item values) (rest : List (Item values)) → a ++ b ≡ front ++ (j ∷ rest) → Where a b front j rest
unfolding Where
where_is [] b front j rest e = inr (front, refl, e)
where_is (x ∷ a) b [] j rest e = inl (a, ap (λ (z : Item values). z ∷ a) (head-eq_of_cons-eq e))
where_is (x ∷ a) b (y ∷ front) j rest e = go (where_is a b front j rest (tail-eq_of_cons-eq e))
  where
    h : x ≡ y
    h = head-eq_of_cons-eq e

    go : Where a b front j rest → Where (x ∷ a) b (y ∷ front) j rest
    go (inl (u, f)) = inl (u, ap (λ (z : List (Item values)). x ∷ z) f ∙ ap (λ (z : Item values). z ∷ (front ++ (j ∷ u))) h)
    go (inr (u, f, g)) = inr (u, ap (λ (z : Item values). z ∷ front) (sym h) ∙ ap (λ (z : List (Item values)). x ∷ z) f, g)

module _ (m : Listing) (q : ℕ) where
  abbrev Not : Item values → Type 0
  Not i = i.0 ≡ q → ⊥

  -- an item of a child of q, with no item of q before it: all stands in an element of q
  parent_first : (c : Content Value) (p : ℕ) → Each (Child m p) (rows c) → Good IsValue m c → (front : List (Item values)) (j : Item values) (rest : List (Item values))
      → items c ≡ front ++ (j ∷ rest) → (row_at m j.0).parent ≡ q → Each Not front → p ≡ q
  unfolding Where
  parent_first end p a g [] j rest e o n = absurd (omega (arith, ap length e))
  parent_first end p a g (x ∷ front) j rest e o n = absurd (omega (arith, ap length e))
  parent_first (value r v k) p a g [] j rest e o n = sym a.0.parent ∙ ap (λ (i : Item values). (row_at m i.0).parent) (head-eq_of_cons-eq e) ∙ o
  parent_first (value r v k) p a g (x ∷ front) j rest e o n = parent_first k p a.1 g.1 front j rest (tail-eq_of_cons-eq e) o n.1
  parent_first (node r c k) p a g [] j rest e o n = sym a.0.parent ∙ ap (λ (i : Item values). (row_at m i.0).parent) (head-eq_of_cons-eq e) ∙ o
  parent_first (node r c k) p a g (x ∷ front) j rest e o n =
      go (where_is (items c) (items k) front j rest (tail-eq_of_cons-eq e))
      (λ u f. parent_first c r g.0.1.theirs g.1 front j u f o n.1)
      (λ u f h. parent_first k p a.1 g.2 u j rest h o (each_last Not (items c) u (subst (Each Not) f n.1)))
    where
      go : Where (items c) (items k) front j rest → ((u : List (Item values)) → items c ≡ front ++ (j ∷ u) → r ≡ q)
          → ((u : List (Item values)) → front ≡ items c ++ u → items k ≡ u ++ (j ∷ rest) → p ≡ q) → p ≡ q
      go (inl (u, f)) one two = absurd (n.0 (sym (ap (λ (i : Item values). i.0) (head-eq_of_cons-eq e)) ∙ one u f))
      go (inr (u, f, h)) one two = two u f h

-- ---- the first row that is gone is row 40

each_on : (P Q : Item values → Type 0) → ((i : Item values) → P i → Q i) → (is : List (Item values)) → Each P is → Each Q is
each_on P Q f [] h = tt
each_on P Q f (i ∷ is) h = (f i h.0, each_on P Q f is h.1)

-- an item of a content is of a row of the list
abbrev Listed : Listing → Item values → Type 0
Listed m i = Child m (row_at m i.0).parent i.0

listed_in : (m : Listing) (c : Content Value) (p : ℕ) → Each (Child m p) (rows c) → Good IsValue m c → Each (Listed m) (items c)
listed_in m end p a g = tt
listed_in m (value r v k) p a g = (record { first = a.0.first; last = a.0.last; parent = refl }, listed_in m k p a.1 g.1)
listed_in m (node r c k) p a g =
    (record { first = a.0.first; last = a.0.last; parent = refl }, both_each (Listed m) (items c) (items k) (listed_in m c r g.0.1.theirs g.1) (listed_in m k p a.1 g.2))

module _ (m : Listing) (i : Among m stored) (c : Content Value) (h : Meets IsValue m c) where
  abbrev narrower : Listing
  narrower = asked_of m.byte

  abbrev within : Within narrower m
  within = (stored_narrowed m i).within

  abbrev gone : GoneRows narrower
  gone = gone_rows narrower (stored_narrowed m i).among

  under_none : Each (Child m 0) (rows c)
  under_none =
      let w = kept_well m i in
      subst (Each (Child m 0)) (sym h.root) (record { first = omega arith; last = w.root.0; parent = w.root.2 }, tt)

  pub retired_row : (from r p : ℕ) → FirstAt m (Withdrawn narrower) from (items c) r p → r ≡ 40
  retired_row from r p f = go (gone.only (row_at m f.item.0).parent f.item.0 (child_without narrower m within (row_at m f.item.0).parent f.item.0 listed) f.its)
    where
      listed : Listed m f.item
      listed = (each_last (Listed m) f.before (f.item ∷ f.rest) (subst (Each (Listed m)) f.at (listed_in m c 0 under_none h.good))).0

      go : (f.item.0 ≡ 40) ⊎ (f.item.0 ≡ 41) → r ≡ 40
      go (inl e) = f.own ∙ e
      go (inr e) =
          let o = ap (λ (x : ℕ). (row_at m x).parent) e ∙ sym (within.parents 41) ∙ gone.under in
          let n = each_on (λ j. Withdrawn narrower j → ⊥) (Not m 40) (λ j w z. w (ap (λ (x : ℕ). (row_at narrower x).name) z ∙ gone.group)) f.before f.clean in
          let z : ◌≡◌ {A = ℕ} 0 40 = parent_first m 40 c 0 under_none h.good f.before f.item f.rest f.at o n in
          absurd (omega arith)
