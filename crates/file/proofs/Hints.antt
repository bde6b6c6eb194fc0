-- Files that differ in schema hints alone have one content. Assumes nothing.
use mathlib.Core.Path.{◌≡◌, refl, sym, ◌∙◌, ap, subst}
use mathlib.Core.Bool.{Bool, true, false, cond}
use mathlib.Core.List.{List, [], ◌∷◌}
use Prim.Native.Nat.{ℕ, ◌+◌}
use native.Mathlib.Omega.{arith}
use lib.ListN.{length}
use Rattle.text_characters.specs.Pieces.{spell, resolved, resolved_all}
use Rattle.list.specs.Listing.{Kind, group, choice, leaf, Listing, row_at}
use Rattle.list.specs.Content.{Content, end, value, node}
use Rattle.xml.specs.House.{Attr, Tag, tag, Markup as Tags, no_more as over, piece, empty_tag, full, render, OneElement, Tree}
use Rattle.xml.specs.Message.{Attrs, Inside, attrs_of, parts_of, root_at}
use Rattle.file_walk.specs.Types.{Types}
use Rattle.file_walk.specs.First.{text_of, is_hint, unhinted, bound, currency_given, is_root}
use Rattle.file_walk.specs.Denotes.{Denotes, Has}
use Rattle.file_walk.proofs.violation.Attrs.{RootAttrs, root_tag}
use Rattle.file_walk.proofs.violation.Spells.{plain, Spells, Told, spells_of, of_spells}
use Rattle.file.specs.Instance.{Kinds}
use Rattle.file.specs.File.{Whole, message_in, root_of, File}
use Rattle.file.specs.Hints.{bare_attrs, bare_tag, bare_root, HintsAlone}

-- ---- at other places the same

plain_moved : (i : Tags) (o o' : ℕ) → plain (parts_of o i) ≡ plain (parts_of o' i)
plain_moved over o o' = refl
plain_moved (piece p i) o o' = plain_moved i (o + length (spell p)) (o' + length (spell p))
plain_moved (empty_tag t i) o o' = refl
plain_moved (full t j g i) o o' = refl

text_moved : (i : Tags) (o o' : ℕ) → text_of (parts_of o i) ≡ text_of (parts_of o' i)
text_moved over o o' = refl
text_moved (piece p i) o o' = ap (λ (cs : List ℕ). resolved p ∷ cs) (text_moved i (o + length (spell p)) (o' + length (spell p)))
text_moved (empty_tag t i) o o' = text_moved i (o + length (render (empty_tag t over))) (o' + length (render (empty_tag t over)))
text_moved (full t j g i) o o' = text_moved i (o + length (render (full t j g over))) (o' + length (render (full t j g over)))

module _ (t : Types) (l : Listing) where
  spells_moved : (k : Kind) (ats : Attrs) (i : Tags) (o o' : ℕ) (v : t.A) → Spells t l k ats (parts_of o i) v → Spells t l k ats (parts_of o' i) v
  spells_moved group ats i o o' v h = h
  spells_moved choice ats i o o' v h = h
  spells_moved (leaf f) ats i o o' v h = (plain_moved i o' o ∙ h.0, h.1, subst (λ (cs : List ℕ). t.Spelt f (currency_given ats) cs v) (text_moved i o o') h.2)

  told_moved : (r : ℕ) (ats : Attrs) (i : Tags) (o o' : ℕ) (v : t.A) → Told t l r ats (parts_of o i) v → Told t l r ats (parts_of o' i) v
  told_moved r ats i o o' v h = of_spells t l r ats (parts_of o' i) v (row_at l r).kind refl (spells_moved (row_at l r).kind ats i o o' v (spells_of t l r ats (parts_of o i) v h))

  denotes_moved : (i : Tags) (o o' p : ℕ) (c : Content t.A) → Denotes t l p (parts_of o i) c → Denotes t l p (parts_of o' i) c
  denotes_moved over o o' p c h = h
  denotes_moved (piece x i) o o' p c h = (h.0, denotes_moved i (o + length (spell x)) (o' + length (spell x)) p c h.1)
  denotes_moved (empty_tag g i) o o' p end h = absurd h
  denotes_moved (empty_tag g i) o o' p (value r v c) h =
      (h.0, h.1, denotes_moved i (o + length (render (empty_tag g over))) (o' + length (render (empty_tag g over))) p c h.2)
  denotes_moved (empty_tag g i) o o' p (node r d c) h =
      (h.0, h.1, h.2, denotes_moved i (o + length (render (empty_tag g over))) (o' + length (render (empty_tag g over))) p c h.3)
  denotes_moved (full g j b i) o o' p end h = absurd h
  denotes_moved (full g j b i) o o' p (value r v c) h = (
    h.0,
    told_moved r (attrs_of g.attributes) j (o + (length (tag g) + 2)) (o' + (length (tag g) + 2)) v h.1,
    denotes_moved i (o + length (render (full g j b over))) (o' + length (render (full g j b over))) p c h.2,
  )
  denotes_moved (full g j b i) o o' p (node r d c) h = (
    h.0,
    h.1,
    denotes_moved j (o + (length (tag g) + 2)) (o' + (length (tag g) + 2)) r d h.2,
    denotes_moved i (o + length (render (full g j b over))) (o' + length (render (full g j b over))) p c h.3,
  )

-- ---- attributes without hints

bare_is : (as' : List Attr) → unhinted (attrs_of as') ≡ attrs_of (bare_attrs as')
bare_is [] = refl
bare_is (a ∷ as') = go (is_hint a.name) (bare_is as')
  where
    go : (b : Bool) → unhinted (attrs_of as') ≡ attrs_of (bare_attrs as')
        → cond b (unhinted (attrs_of as')) ((a.name, resolved_all a.value) ∷ unhinted (attrs_of as')) ≡ attrs_of (cond b (bare_attrs as') (a ∷ bare_attrs as'))
    go true ih = ih
    go false ih = ap (λ (x : Attrs). (a.name, resolved_all a.value) ∷ x) ih

attrs_moved : (space : List ℕ) (g g' : Tag) → bare_tag g ≡ bare_tag g' → bound (attrs_of g'.attributes) ≡ true
    → RootAttrs space (attrs_of g.attributes) → RootAttrs space (attrs_of g'.attributes)
attrs_moved space g g' e b h =
    record { besides = bare_is g'.attributes ∙ ap (λ (x : Tag). attrs_of x.attributes) (sym e) ∙ sym (bare_is g.attributes) ∙ h.besides; tied = b }

-- ---- messages and files

empty_tag_lem : (g g' : Tag) (k k' : Tags) → empty_tag g k ≡ empty_tag g' k' → g ≡ g'
empty_tag_lem g g' k k' e = cc

full_tag : (g g' : Tag) (i i' : Tags) (b b' : List ℕ) (k k' : Tags) → full g i b k ≡ full g' i' b' k' → g ≡ g'
full_tag g g' i i' b b' k k' e = cc

full_inside : (g g' : Tag) (i i' : Tags) (b b' : List ℕ) (k k' : Tags) → full g i b k ≡ full g' i' b' k' → i ≡ i'
full_inside g g' i i' b b' k k' e = cc

module _ (t : Types) (l : Listing) where
  pub has_bound : (m : Inside) (c : Content t.A) → Has t l m c → bound (root_of m) ≡ true
  has_bound Inside.nothing_inside c h = absurd h
  has_bound (Inside.character o x k) c h = absurd h
  has_bound (Inside.element o n ats i k) c h = ((root_tag l n ats).0 h.root).attrs.tied

  root_moved : (g g' : Tag) → bare_tag g ≡ bare_tag g' → bound (attrs_of g'.attributes) ≡ true → is_root l g.name (attrs_of g.attributes) ≡ true → is_root l g'.name (attrs_of g'.attributes) ≡ true
  root_moved g g' z b e =
      let h = (root_tag l g.name (attrs_of g.attributes)).0 e in
      (root_tag l g'.name (attrs_of g'.attributes)).1 (record { name = h.name ∙ ap (λ (x : Tag). x.name) z; attrs = attrs_moved l.space g g' z b h.attrs })

  has_moved : (r r' : Tags) (o o' : ℕ) (c : Content t.A) → bare_root r ≡ bare_root r' → OneElement r' → bound (root_of (parts_of o' r')) ≡ true
      → Has t l (parts_of o r) c → Has t l (parts_of o' r') c
  has_moved over r' o o' c e one b h = absurd h
  has_moved (piece p k) r' o o' c e one b h = absurd h
  has_moved (empty_tag g k) over o o' c e one b h = absurd one
  has_moved (empty_tag g k) (piece p k') o o' c e one b h = absurd one
  has_moved (empty_tag g k) (full g' i' b' k') o o' c e one b h = let z : ◌≡◌ {A = ℕ} 0 1 = cc in absurd (omega arith)
  has_moved (empty_tag g k) (empty_tag g' k') o o' c e one b h =
      let z = empty_tag_lem (bare_tag g) (bare_tag g') k k' e in
      record { root = root_moved g g' z b h.root; alone = ap (parts_of _) one; kids = h.kids; is = h.is; parts = h.parts }
  has_moved (full g i d k) over o o' c e one b h = absurd one
  has_moved (full g i d k) (piece p k') o o' c e one b h = absurd one
  has_moved (full g i d k) (empty_tag g' k') o o' c e one b h = let z : ◌≡◌ {A = ℕ} 0 1 = cc in absurd (omega arith)
  has_moved (full g i d k) (full g' i' d' k') o o' c e one b h =
      let z = full_tag (bare_tag g) (bare_tag g') i i' d d' k k' e in
      let w = full_inside (bare_tag g) (bare_tag g') i i' d d' k k' e in
      record {
        root = root_moved g g' z b h.root;
        alone = ap (parts_of _) one;
        kids = h.kids;
        is = h.is;
        parts = subst (λ (j : Tags). Denotes t l 1 (parts_of (o' + (length (tag g') + 2)) j) h.kids) w (denotes_moved t l i (o + (length (tag g) + 2)) (o' + (length (tag g') + 2)) 1 h.kids h.parts);
      }

module _ (k : Kinds) (l : Listing) where
  -- a good file with other hints, none of them without its prefix, is a good file of the same content
  pub hints_kept : (s s' : List ℕ) (c : Content k.types.A) (f : File k l s c) (w : Whole s') → HintsAlone f.whole w → bound (root_of (message_in w)) ≡ true → File k l s' c
  hints_kept s s' c f w e b =
      let m = f.whole.xml.tree in
      let m' = w.xml.tree in
      record {
        whole = w;
        has = has_moved k.types l m.root m'.root (root_at m) (root_at m') c (ap (λ (x : Tree). x.root) e) w.xml.good.one b f.has;
        meets = f.meets;
      }
