-- An image is no longer than its file, over any types whose values have few bytes and any list whose NUM rows have names of two bytes. Assumes nothing.
use mathlib.Core.Path.{◌≡◌, refl, ap}
use mathlib.Core.Bool.{Bool, true, false, cond, false≢true}
use mathlib.Core.List.{List, [], ◌∷◌, ◌++◌, head-eq_of_cons-eq, nil≢cons}
use mathlib.Core.Option.{Option}
use Prim.Native.Nat.{ℕ, zero, suc, ◌+◌, ◌≤◌}
use native.Mathlib.Omega.{arith}
use lib.ListN.{length, length-append}
use Rattle.text.specs.Bytes.{ascii}
use Rattle.text_characters.specs.Pieces.{less, greater, solidus, equal, spell, resolved, resolved_all, spells, Spells}
use Rattle.text_characters.proofs.Spelling.{spells_none}
use Rattle.list.specs.Listing.{Leaf, ref, iban, ccy, bool, num, amt, date, dtm, txt, enum, Kind, group, choice, leaf, Listing, row_at}
use Rattle.list.specs.WellFormed.{LeafOk, KindOk, WellFormed}
use Rattle.list.specs.Content.{Content, end, value, node, items}
use Rattle.xml.specs.House.{IsName, mark, Attr, attr, attrs, Tag, tag, GoodTag, Markup as Tags, no_more as over, piece, empty_tag, full, render, GoodMarkup, OneElement, declaration}
use Rattle.xml.specs.Message.{Attrs, Inside, attrs_of, parts_of, root_at}
use Rattle.value.specs.Laws.{extra}
use Rattle.file_walk.specs.Types.{Spelling}
use Rattle.file_walk.specs.First.{text_of, is_hint, unhinted, currency_given}
use Rattle.file_walk.specs.Types.{LeafAttrs}
use Rattle.file_walk.specs.Denotes.{Denotes, Has}
use Rattle.file_walk.proofs.violation.Attrs.{priced_one, root_tag}
use Rattle.file_walk.proofs.violation.Spells.{plain, Spells as Holds, spells_of}
use Rattle.image.specs.Image.{Item, header, value_bytes, item_bytes, items_bytes, image}
use Rattle.image.proofs.answers.Heads.{header_length}
use Rattle.file.specs.Instance.{Kinds, values_of}
use Rattle.file.specs.File.{File, image_of}

-- "a NUM item has nine bytes, `<a>1</a>` eight": what is asked of the names of a list
abbrev pub NumNames : Listing → Type 0
NumNames l = (r : ℕ) → (row_at l r).kind ≡ leaf num → 2 ≤ length (row_at l r).name

-- ---- what tags have at least

name_some : (n : List ℕ) → IsName n → 1 ≤ length n
name_some [] h = absurd h
name_some (x ∷ n) h = omega arith

attr_long : (a : Attr) → length a.name + 3 ≤ length (attr a)
attr_long a =
    let q = mark a.quote in
    let v = spells a.value ++ (q ∷ []) in
    let u = a.after ++ (q ∷ v) in
    omega (
      arith,
      length-append a.gap (a.name ++ (a.before ++ (equal ∷ u))),
      length-append a.name (a.before ++ (equal ∷ u)),
      length-append a.before (equal ∷ u),
      length-append a.after (q ∷ v),
      length-append (spells a.value) (q ∷ []),
    )

tag_long : (t : Tag) → length t.name + length (attrs t.attributes) ≤ length (tag t)
tag_long t = omega (arith, length-append t.name (attrs t.attributes ++ t.gap), length-append (attrs t.attributes) t.gap)

empty_long : (t : Tag) (k : Tags) → length (render (empty_tag t k)) ≡ length (tag t) + 3 + length (render k)
empty_long t k = omega (arith, length-append (tag t) (solidus ∷ greater ∷ render k))

full_long : (t : Tag) (i : Tags) (g : List ℕ) (k : Tags) → length (tag t) + length t.name + length (render i) + length (render k) + 5 ≤ length (render (full t i g k))
full_long t i g k =
    let z = g ++ (greater ∷ render k) in
    let e = less ∷ solidus ∷ (t.name ++ z) in
    omega (arith, length-append (tag t) (greater ∷ (render i ++ e)), length-append (render i) e, length-append t.name z, length-append g (greater ∷ render k))

-- ---- attributes

-- besides hints a sole attribute of a name
sole : (as' : List Attr) (n v : List ℕ) → unhinted (attrs_of as') ≡ (n, v) ∷ [] → length n + 3 ≤ length (attrs as')
sole [] n v e = absurd (nil≢cons e)
sole (a ∷ as') n v e = go (is_hint a.name) e (sole as' n v)
  where
    go : (b : Bool) → cond b (unhinted (attrs_of as')) ((a.name, resolved_all a.value) ∷ unhinted (attrs_of as')) ≡ (n, v) ∷ []
        → (unhinted (attrs_of as') ≡ (n, v) ∷ [] → length n + 3 ≤ length (attrs as')) → length n + 3 ≤ length (attrs (a ∷ as'))
    go true f ih = omega (arith, ih f, length-append (attr a) (attrs as'))
    go false f ih =
        let h : a.name ≡ n = ap (λ (x : List ℕ × List ℕ). x.0) (head-eq_of_cons-eq f) in
        omega (arith, attr_long a, length-append (attr a) (attrs as'), ap length h)

-- ---- a leaf's text

leaf_text : (i : Tags) (d o : ℕ) → GoodMarkup d i → plain (parts_of o i) ≡ true → Spells (render i) (text_of (parts_of o i))
leaf_text over d o g p = spells_none
leaf_text (piece x i) d o g p =
    let w = leaf_text i d (o + length (spell x)) g.2 p in
    record {
      pieces = x ∷ w.pieces;
      good = (g.0, w.good);
      is = ap (λ (u : List ℕ). spell x ++ u) w.is;
      chars = ap (λ (u : List ℕ). resolved x ∷ u) w.chars;
    }
leaf_text (empty_tag t k) d o g p = absurd (false≢true p)
leaf_text (full t j e k) d o g p = absurd (false≢true p)

module _ (k : Kinds) (y : Spelling k.types) (l : Listing) (wf : WellFormed l) (nums : NumNames l)
    (short : (f : Leaf) (w s cs : List ℕ) (v : k.types.A) → LeafOk f → Spells s cs → k.types.Spelt f w cs v → length (k.bytes f v) ≤ length s + extra f) where
  -- how many bytes items have
  abbrev many : List (Item (values_of k)) → ℕ
  many is = length (items_bytes (values_of k) l is)

  many_append : (a b : List (Item (values_of k))) → many (a ++ b) ≡ many a + many b
  many_append [] b = omega arith
  many_append (i ∷ a) b =
      let x = item_bytes (values_of k) l i in
      omega (arith, many_append a b, length-append x (items_bytes (values_of k) l (a ++ b)), length-append x (items_bytes (values_of k) l a))

  no_value : (d : Kind) → value_bytes (values_of k) l d Option.none ≡ []
  no_value group = refl
  no_value choice = refl
  no_value (leaf f) = refl

  node_many : (r : ℕ) (c e : Content k.types.A) → many (items (node r c e)) ≡ 1 + many (items c) + many (items e)
  node_many r c e =
      let x = value_bytes (values_of k) l (row_at l r).kind Option.none in
      let z = items_bytes (values_of k) l (items c ++ items e) in
      omega (arith, length-append x z, ap length (no_value (row_at l r).kind), many_append (items c) (items e))

  value_many : (r : ℕ) (v : k.types.A) (e : Content k.types.A) → many (items (value r v e)) ≡ 1 + length (value_bytes (values_of k) l (row_at l r).kind (Option.some v)) + many (items e)
  value_many r v e = omega (arith, length-append (value_bytes (values_of k) l (row_at l r).kind (Option.some v)) (items_bytes (values_of k) l (items e)))

  -- an amount has its attribute
  currency_long : (as' : List Attr) → LeafAttrs k.types amt (attrs_of as') → 6 ≤ length (attrs as')
  currency_long [] g = absurd (nil≢cons (priced_one k.types [] g).2)
  currency_long (a ∷ as') g =
      let h : a.name ≡ ascii "Ccy" = ap (λ (p : List ℕ × List ℕ). p.0) (head-eq_of_cons-eq (priced_one k.types (attrs_of (a ∷ as')) g).2) in
      omega (arith, attr_long a, ap length h, length-append (attr a) (attrs as'))

  -- what the tags of a leaf have more than its text covers what its value has more
  covered : (f : Leaf) (t : Tag) → (f ≡ num → 2 ≤ length t.name) → GoodTag t → LeafAttrs k.types f (attrs_of t.attributes)
      → 1 + extra f ≤ length (tag t) + length t.name + 5
  covered ref t n g e = omega arith
  covered iban t n g e = omega arith
  covered ccy t n g e = omega arith
  covered bool t n g e = omega arith
  covered num t n g e = omega (arith, n refl, tag_long t)
  covered amt t n g e = omega (arith, currency_long t.attributes e, tag_long t, name_some t.name g.name)
  covered date t n g e = omega arith
  covered dtm t n g e = omega arith
  covered (txt m) t n g e = omega arith
  covered (enum ws) t n g e = omega arith

  leaf_short : (d : Kind) (t : Tag) (i : Tags) (m o : ℕ) (v : k.types.A) → KindOk d → (d ≡ leaf num → 2 ≤ length t.name) → GoodTag t → GoodMarkup m i
      → Holds k.types l d (attrs_of t.attributes) (parts_of o i) v → 1 + length (value_bytes (values_of k) l d (Option.some v)) ≤ length (tag t) + length t.name + length (render i) + 5
  leaf_short group t i m o v ok n g h s = absurd s
  leaf_short choice t i m o v ok n g h s = absurd s
  leaf_short (leaf f) t i m o v ok n g h s =
      omega (
        arith,
        covered f t (λ e. n (ap leaf e)) g s.1,
        short f (currency_given (attrs_of t.attributes)) (render i) (text_of (parts_of o i)) v ok (leaf_text i m o h s.0) s.2,
      )

  -- the empty element spells no value
  no_empty : (d : Kind) (ats : Attrs) (v : k.types.A) → KindOk d → Holds k.types l d ats Inside.nothing_inside v → ⊥
  no_empty group ats v ok s = s
  no_empty choice ats v ok s = s
  no_empty (leaf f) ats v ok s = y.none f (currency_given ats) v ok s.2

  none_end : (p : ℕ) (c : Content k.types.A) → Denotes k.types l p Inside.nothing_inside c → many (items c) ≡ 0
  none_end p end h = refl
  none_end p (value r v c) h = absurd h
  none_end p (node r d c) h = absurd h

  num_name : (r : ℕ) (n : List ℕ) → (row_at l r).name ≡ n → (row_at l r).kind ≡ leaf num → 2 ≤ length n
  num_name r n e h = omega (arith, nums r h, ap length e)

  -- what stands in an element has no fewer bytes than the items that it is
  weigh : (i : Tags) (d o p : ℕ) (c : Content k.types.A) → GoodMarkup d i → Denotes k.types l p (parts_of o i) c → many (items c) ≤ length (render i)
  weigh over d o p c g h = omega (arith, none_end p c h)
  weigh (piece x i) d o p c g h = omega (arith, weigh i d (o + length (spell x)) p c g.2 h.1, length-append (spell x) (render i))
  weigh (empty_tag t i) zero o p c g h = absurd g
  weigh (empty_tag t i) (suc d) o p end g h = absurd h
  weigh (empty_tag t i) (suc d) o p (value r v c) g h = absurd (no_empty (row_at l r).kind (attrs_of t.attributes) v (wf.kinds p r h.0.0) (spells_of k.types l r (attrs_of t.attributes) Inside.nothing_inside v h.1))
  weigh (empty_tag t i) (suc d) o p (node r e c) g h =
      omega (arith, node_many r e c, none_end r e h.2, weigh i (suc d) (o + length (render (empty_tag t over))) p c g.1 h.3, empty_long t i)
  weigh (full t j b i) zero o p c g h = absurd g
  weigh (full t j b i) (suc d) o p end g h = absurd h
  weigh (full t j b i) (suc d) o p (value r v c) g h =
      omega (
        arith,
        value_many r v c,
        weigh i (suc d) (o + length (render (full t j b over))) p c g.3 h.2,
        full_long t j b i,
        leaf_short (row_at l r).kind t j d (o + (length (tag t) + 2)) v (wf.kinds p r h.0.0) (num_name r t.name h.0.1) g.0 g.1 (spells_of k.types l r (attrs_of t.attributes) (parts_of (o + (length (tag t) + 2)) j) v h.1),
      )
  weigh (full t j b i) (suc d) o p (node r e c) g h =
      omega (
        arith,
        node_many r e c,
        weigh i (suc d) (o + length (render (full t j b over))) p c g.3 h.3,
        full_long t j b i,
        weigh j d (o + (length (tag t) + 2)) r e g.1 h.2,
      )

  image_many : (c e : Content k.types.A) → c ≡ node 1 e end → length (image_of k l c) ≡ 8 + many (items e)
  unfolding image
  image_many c e h =
      let x = items_bytes (values_of k) l (items c) in
      omega (arith, length-append (header l) (x ++ (0 ∷ [])), length-append x (0 ∷ []), header_length l, ap (λ (z : Content k.types.A). many (items z)) h, node_many 1 e end)

  root_short : (i : Tags) (o : ℕ) (c : Content k.types.A) → OneElement i → GoodMarkup 16 i → Has k.types l (parts_of o i) c → length (image_of k l c) ≤ length (render i)
  root_short over o c one g h = absurd one
  root_short (piece x i) o c one g h = absurd one
  root_short (empty_tag t i) o c one g h =
      omega (arith, image_many c h.kids h.is, none_end 1 h.kids h.parts, empty_long t i, tag_long t, sole t.attributes (ascii "xmlns") l.space ((root_tag l t.name (attrs_of t.attributes)).0 h.root).attrs.besides)
  root_short (full t j b i) o c one g h =
      omega (
        arith,
        image_many c h.kids h.is,
        weigh j 15 (o + (length (tag t) + 2)) 1 h.kids g.1 h.parts,
        full_long t j b i,
        tag_long t,
        sole t.attributes (ascii "xmlns") l.space ((root_tag l t.name (attrs_of t.attributes)).0 h.root).attrs.besides,
      )

  -- an image is no longer than its file
  pub image_short : (s : List ℕ) (c : Content k.types.A) → File k l s c → length (image_of k l c) ≤ length s
  image_short s c f =
      let t = f.whole.xml.tree in
      let b = t.before ++ (render t.root ++ t.after) in
      omega (
        arith,
        root_short t.root (root_at t) c f.whole.xml.good.one f.whole.xml.good.root f.has,
        ap length f.whole.xml.is,
        length-append (declaration t.declared) b,
        length-append t.before (render t.root ++ t.after),
        length-append (render t.root) t.after,
      )
