-- The walk hands out the items of the message's content, in order. Assumes nothing.
use mathlib.Core.Path.{◌≡◌, refl, sym, ◌∙◌, ap, ap₂}
use mathlib.Core.Bool.{true, false, false≢true}
use mathlib.Core.List.{List, [], ◌∷◌, ◌++◌, append_assoc, append-nil}
use mathlib.Core.Option.{Option}
use Prim.Native.Nat.{ℕ}
use Rattle.list.specs.Listing.{Leaf, Kind, group, choice, leaf, Listing, child, is_group}
use Rattle.list.specs.WellFormed.{KindOk, WellFormed}
use Rattle.list.specs.Content.{Content, end, value, node, items}
use Rattle.xml.specs.Message.{Attrs, Inside, nothing_inside, character, element}
use Rattle.xml_tags.specs.Story.{Event, leave, events}
use Rattle.file_walk.specs.declared.level.Level.{Level}
use Rattle.file_walk.specs.Types.{Types}
use Rattle.file_walk.specs.First.{text_of, currency_given, kind_of}
use Rattle.file_walk.specs.Denotes.{Denotes, Has}
use Rattle.file_walk.proofs.violation.Spells.{plain, Spells, spells_of}
use Rattle.file_walk.specs.mirror.Machine.{Speller, speller_of, Computes, before, at, pop, fresh, advance, opens, closes, emits}
use Rattle.list.proofs.rows.Child.{child_is}

-- a group's one item comes at its beginning
module _ (T : Speller) (l : Listing) where
  pub opens_group : (k : Kind) (r : ℕ) → is_group k ≡ true → opens T l k r ≡ (r, Option.none) ∷ []
  opens_group group r g = refl
  opens_group choice r g = refl
  opens_group (leaf k) r g = absurd (false≢true g)

  pub closes_group : (k : Kind) (r : ℕ) (ats : Attrs) (cs : List ℕ) → is_group k ≡ true → closes T l k r ats cs ≡ []
  closes_group group r ats cs g = refl
  closes_group choice r ats cs g = refl
  closes_group (leaf k) r ats cs g = absurd (false≢true g)

module _ (t : Types) (sp : Leaf → List ℕ → List ℕ → Option t.A) (y : Computes t sp) (l : Listing) (w : WellFormed l) where
  abbrev T : Speller
  T = speller_of t sp

  -- a leaf's one item comes at its end
  record Single (k : Kind) (r : ℕ) (ats : Attrs) (i : Inside) (v : t.A) : Type 0 where
    first : opens T l k r ≡ []
    then : closes T l k r ats (text_of i) ≡ (r, Option.some v) ∷ []
    no_group : is_group k ≡ false
    plainly : plain i ≡ true

  single : (k : Kind) (r : ℕ) (ats : Attrs) (i : Inside) (v : t.A) → KindOk k → Spells t l k ats i v → Single k r ats i v
  single group r ats i v h s = absurd s
  single choice r ats i v h s = absurd s
  single (leaf f) r ats i v h s = record { first = refl; then = rw (y.complete f (currency_given ats) (text_of i) v h s.2); no_group = refl; plainly = s.0 }

  leaf_emits : (i : Inside) (lv : Level) (below : List Level) (ats : Attrs) (cs : List ℕ) (rest : List Event) → is_group (kind_of l lv.row) ≡ false → plain i ≡ true
      → emits T l (at lv below ats cs) (events i (leave ∷ rest)) ≡ closes T l (kind_of l lv.row) lv.row ats (cs ++ text_of i) ++ emits T l (pop below) rest
  unfolding emits
  leaf_emits nothing_inside lv below ats cs rest g p = rw (append-nil cs)
  leaf_emits (character o x k) lv below ats cs rest g p =
      let a : cs ++ (x ∷ []) ++ text_of k ≡ cs ++ (x ∷ text_of k) = append_assoc cs (x ∷ []) (text_of k) in
      rw g (rw a at (leaf_emits k lv below ats (cs ++ (x ∷ [])) rest g p))
  leaf_emits (element o n ats' i k) lv below ats cs rest g p = absurd (false≢true p)

  group_emits : (i : Inside) (c : Content t.A) (lv : Level) (below : List Level) (rest : List Event) → is_group (kind_of l lv.row) ≡ true → Denotes t l lv.row i c
      → emits T l (at lv below [] []) (events i (leave ∷ rest)) ≡ items c ++ emits T l (pop below) rest
  unfolding emits fresh advance
  group_emits nothing_inside end lv below rest g d = ap (λ x. x ++ emits T l (pop below) rest) (closes_group T l (kind_of l lv.row) lv.row [] [] g)
  group_emits nothing_inside (value r v c) lv below rest g d = absurd d
  group_emits nothing_inside (node r e c) lv below rest g d = absurd d
  group_emits (character o x k) c lv below rest g d = rw g (group_emits k c lv below rest g d.1)
  group_emits (element o n ats i k) end lv below rest g d = absurd d
  group_emits (element o n ats i k) (value r v c) lv below rest g d =
      let e : child l lv.row n ≡ r = child_is l lv.row n w r (record { its = d.0.0; name = d.0.1 }) in
      let s = single (kind_of l r) r ats i v (w.kinds lv.row r d.0.0) (spells_of t l r ats i v d.1) in
      let lv₂ = advance l lv r in
      let tail = events k (leave ∷ rest) in
      ap (λ q. opens T l (kind_of l q) q ++ emits T l (at (fresh l q o) (advance l lv q ∷ below) ats []) (events i (leave ∷ tail))) e
      ∙ ap₂ ◌++◌ s.first (leaf_emits i (fresh l r o) (lv₂ ∷ below) ats [] tail s.no_group s.plainly)
      ∙ ap₂ ◌++◌ s.then (group_emits k c lv₂ below rest g d.2)
  group_emits (element o n ats i k) (node r f c) lv below rest g d =
      let e : child l lv.row n ≡ r = child_is l lv.row n w r (record { its = d.0.0; name = d.0.1 }) in
      let lv₂ = advance l lv r in
      let tail = events k (leave ∷ rest) in
      ap (λ q. opens T l (kind_of l q) q ++ emits T l (at (fresh l q o) (advance l lv q ∷ below) ats []) (events i (leave ∷ tail))) e
      ∙ ap₂ ◌++◌ (opens_group T l (kind_of l r) r d.1.0)
      (ap (λ as'. emits T l (at (fresh l r o) (lv₂ ∷ below) as' []) (events i (leave ∷ tail))) d.1.1
      ∙ group_emits i f (fresh l r o) (lv₂ ∷ below) tail d.1.0 d.2
      ∙ ap (λ x. items f ++ x) (group_emits k c lv₂ below rest g d.3)
      ∙ sym (append_assoc (items f) (items c) (emits T l (pop below) rest)))

  -- what the walk hands out over a message with a content is that content's items
  pub items_are : (m : Inside) (c : Content t.A) → Has t l m c → emits T l before (events m []) ≡ items c
  unfolding fresh emits
  items_are nothing_inside c h = absurd h
  items_are (character o x k) c h = absurd h
  items_are (element o n ats i k) c h =
      ap (λ z. (1, Option.none) ∷ emits T l (at (fresh l 1 o) [] [] []) (events i (leave ∷ events z []))) h.alone
      ∙ ap (λ x. (1, Option.none) ∷ x) (group_emits i h.kids (fresh l 1 o) [] [] (ap is_group w.root.1) h.parts)
      ∙ ap items (sym h.is)
