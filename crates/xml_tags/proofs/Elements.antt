-- A text, an element, an end tag at a place of s, known by `drop o s ≡ ..`: what the cursor answers there, and what stands after. Assumes nothing.
use mathlib.Core.Path.{◌≡◌, refl, sym, ◌∙◌, ap, subst}
use mathlib.Core.List.{List, [], ◌∷◌, ◌++◌, append_assoc}
use Prim.Native.Nat.{ℕ, zero, suc, ◌+◌}
use native.Mathlib.Omega.{arith}
use lib.ListN.{length, drop, length-append}
use lib.Seq.{slice}
use Rattle.text.specs.Bytes.{is_blank}
use Rattle.text.specs.Lists.{Each, span, All}
use Rattle.text_characters.specs.Pieces.{Piece, spell, spells, resolved_all, GoodPiece, Spells}
use Rattle.xml.specs.House.{IsName, Quote, mark, GoodValue, Attr, attr, attrs, GoodAttrs, Tag, tag, GoodTag, Markup, no_more, piece, empty_tag, full, render}
use Rattle.xml.specs.Message.{attrs_of}
use Rattle.xml.proofs.Lang.{end_on}
use Rattle.xml_tags.specs.declared.attribute.Attribute.{Attribute}
use Rattle.xml_tags.specs.declared.token.Kind.{Kind}
use Rattle.xml_tags.specs.declared.token.Kind.TheVariants.{Open, Empty, Close}
use Rattle.xml_tags.specs.mirror.Passing.{in_name}
use Rattle.xml_tags.specs.mirror.Attributes.{attribute_at}
use Rattle.xml_tags.specs.mirror.Tokens.{bare, token_at}
use Rattle.xml_tags.specs.Places.{name_of, value_of, attribute_of, tag_of}
use Rattle.xml_tags.specs.Story.{token_in, Finds, Tagged}
use Rattle.xml_tags.proofs.Passing.{stops}
use Rattle.xml_tags.proofs.Slices.{slice_is, drop_is}
use Rattle.xml_tags.proofs.Attributes.{attr_shape, attribute_is, attribute_end, first_is}
use Rattle.xml_tags.proofs.Tokens.{token_text, token_open, token_empty, token_close}

module _ (s : List ℕ) where
  -- ---- attributes

  -- the two parts of an attribute
  pub record Parts (o : ℕ) (a : Attr) : Type 0 where
    pub name : slice (name_of o a) (name_of o a + length a.name) s ≡ a.name
    pub value : slice (value_of o a) (value_of o a + length (spells a.value)) s ≡ spells a.value

  pub attribute_parts : (o : ℕ) (a : Attr) (w : List ℕ) → drop o s ≡ attr a ++ w → Parts o a
  attribute_parts o a w e =
      let q = mark a.quote in
      let v = spells a.value ++ (q ∷ w) in
      let equals = a.before ++ (61 ∷ a.after) in
      let d0 = drop_is o (name_of o a) s a.gap (a.name ++ (equals ++ (q ∷ v))) (e ∙ attr_shape a.gap a.name a.before a.after (spells a.value) w q) refl in
      let d1 = drop_is (name_of o a) (name_of o a + length a.name) s a.name (equals ++ (q ∷ v)) d0 refl in
      let d2 = drop_is (name_of o a + length a.name) (name_of o a + length a.name + length equals) s equals (q ∷ v) d1 refl in
      let d3 = drop_is (name_of o a + length a.name + length equals) (value_of o a) s (q ∷ []) v d2 (omega (arith, length-append a.before (61 ∷ a.after))) in
      record { name = slice_is (name_of o a) _ s a.name _ d0 refl; value = slice_is (value_of o a) _ s (spells a.value) _ d3 refl }

  value_good : (q : Quote) (v : List Piece) → GoodValue q v → Each GoodPiece v
  value_good q [] g = tt
  value_good q (p ∷ v) g = (g.0.0, value_good q v g.1)

  pub finds : (l : List Attr) (k : ℕ) (ss : List (List ℕ)) (o : ℕ) (w : List ℕ) → GoodAttrs k ss l → drop o s ≡ attrs l ++ w
      → Finds s o (attrs_of l)
  finds [] k ss o w g e = tt
  finds (a ∷ l) zero ss o w g e = absurd g
  finds (a ∷ l) (suc k) ss o w g e =
      let d = e ∙ append_assoc (attr a) (attrs l) w in
      let ps = attribute_parts o a (attrs l ++ w) d in
      subst
      (λ (r : Attribute). (slice r.name r.stop s ≡ a.name) × Spells (slice r.value r.quote s) (resolved_all a.value) × Finds s r.end (attrs_of l))
      (sym (ap (attribute_at o) d ∙ attribute_is o a (attrs l ++ w) g.0)) (
        ps.name,
        record { pieces = a.value; good = value_good a.quote a.value g.0.value; is = ps.value; chars = refl },
        finds l k (a.name ∷ ss) (attribute_of o a).end w g.2 (drop_is o (attribute_of o a).end s (attr a) (attrs l ++ w) d (attribute_end o a)),
      )

  count_is : (l : List Attr) → length l ≡ length (attrs_of l)
  count_is [] = refl
  count_is (a ∷ l) = ap suc (count_is l)

  -- ---- tags

  tag_at : (k : Kind) (o : ℕ) (t : Tag) (z : ℕ) (w : List ℕ) → GoodTag t → span is_blank w ≡ 0 → span in_name w ≡ 0
      → drop o s ≡ 60 ∷ (tag t ++ w) → Tagged s (tag_of k o t z) t.name (attrs_of t.attributes)
  tag_at k o t z w g b n e =
      let shape = ap (λ (l : List ℕ). 60 ∷ l) (append_assoc t.name (attrs t.attributes ++ t.gap) w) in
      let d0 = drop_is o (o + 1) s (60 ∷ []) (t.name ++ ((attrs t.attributes ++ t.gap) ++ w)) (e ∙ shape) refl in
      let d1 = drop_is (o + 1) (o + 1 + length t.name) s t.name _ d0 refl in
      let d2 = d1 ∙ append_assoc (attrs t.attributes) t.gap w in
      record {
        name = slice_is (o + 1) _ s t.name _ d0 refl;
        count = count_is t.attributes;
        attributes = finds t.attributes 4 [] (o + 1 + length t.name) (t.gap ++ w) g.attributes d2;
        first =
            sym
            (ap (attribute_at (o + 1 + length t.name)) d2
            ∙ first_is t.gap w g.gap b n (o + 1 + length t.name) t.attributes g.attributes);
      }

  -- ---- texts

  -- from a to b stand these pieces, and then w
  pub record TextAt (a b : ℕ) (ps : List Piece) (w : List ℕ) : Type 0 where
    pub token : token_in s a ≡ token_in s b
    pub part : slice a b s ≡ spells ps
    pub behind : drop b s ≡ w

  pub text_at : (a b : ℕ) (ps : List Piece) (w : List ℕ) → Each GoodPiece ps → drop a s ≡ spells ps ++ w → b ≡ a + length (spells ps)
      → TextAt a b ps w
  text_at a b ps w g e h =
      let d = drop_is a b s (spells ps) w e h in
      record {
        token = ap (token_at a) e ∙ token_text a ps w g ∙ ap (λ (n : ℕ). token_at n w) (sym h) ∙ ap (token_at b) (sym d);
        part = slice_is a b s (spells ps) w e h;
        behind = d;
      }

  -- ---- `<a ../>`

  pub record EmptyAt (o : ℕ) (t : Tag) (w : List ℕ) : Type 0 where
    pub token : token_in s o ≡ tag_of Empty o t (o + length (render (empty_tag t no_more)))
    pub tagged : Tagged s (tag_of Empty o t (o + length (render (empty_tag t no_more)))) t.name (attrs_of t.attributes)
    pub behind : drop (o + length (render (empty_tag t no_more))) s ≡ w

  pub empty_at : (o : ℕ) (t : Tag) (w : List ℕ) → GoodTag t → drop o s ≡ 60 ∷ (tag t ++ (47 ∷ 62 ∷ w)) → EmptyAt o t w
  unfolding is_blank in_name
  empty_at o t w g e =
      let n = length-append (tag t) (47 ∷ 62 ∷ []) in
      let m : o + (length (tag t) + 3) ≡ o + length (render (empty_tag t no_more)) = omega arith in
      let r = ap (token_at o) e ∙ token_empty o t w g ∙ ap (tag_of Empty o t) m in
      record {
        token = r;
        tagged = tag_at Empty o t _ (47 ∷ 62 ∷ w) g (stops is_blank 47 (62 ∷ w) refl) (stops in_name 47 (62 ∷ w) refl) e;
        behind =
            drop_is o _ s (render (empty_tag t no_more)) w (e ∙ ap (λ (l : List ℕ). 60 ∷ l) (sym (append_assoc (tag t) (47 ∷ 62 ∷ []) w))) refl;
      }

  -- ---- `<a ..>` and `</a>`

  pub record OpenAt (o : ℕ) (t : Tag) (w : List ℕ) : Type 0 where
    pub token : token_in s o ≡ tag_of Open o t (o + (length (tag t) + 2))
    pub tagged : Tagged s (tag_of Open o t (o + (length (tag t) + 2))) t.name (attrs_of t.attributes)
    pub behind : drop (o + (length (tag t) + 2)) s ≡ w

  pub open_at_lem : (o : ℕ) (t : Tag) (w : List ℕ) → GoodTag t → drop o s ≡ 60 ∷ (tag t ++ (62 ∷ w)) → OpenAt o t w
  unfolding is_blank in_name
  open_at_lem o t w g e =
      let n = length-append (tag t) (62 ∷ []) in
      let r = ap (token_at o) e ∙ token_open o t w g in
      record {
        token = r;
        tagged = tag_at Open o t _ (62 ∷ w) g (stops is_blank 62 w refl) (stops in_name 62 w refl) e;
        behind =
            drop_is o (o + (length (tag t) + 2)) s (60 ∷ (tag t ++ (62 ∷ []))) w (e ∙ ap (λ (l : List ℕ). 60 ∷ l) (sym (append_assoc (tag t) (62 ∷ []) w))) (omega arith);
      }

  pub record CloseAt (o : ℕ) (n g w : List ℕ) : Type 0 where
    pub token : token_in s o ≡ bare Close o (o + (length n + length g + 3))
    pub behind : drop (o + (length n + length g + 3)) s ≡ w

  pub close_at : (o : ℕ) (n g w : List ℕ) → IsName n → All is_blank g → drop o s ≡ end_on n g w → CloseAt o n g w
  close_at o n g w i b e =
      let d = drop_is o (o + 2) s (60 ∷ 47 ∷ []) (n ++ (g ++ (62 ∷ w))) e refl in
      let d1 = drop_is (o + 2) (o + 2 + length n) s n (g ++ (62 ∷ w)) d refl in
      let d2 = drop_is (o + 2 + length n) (o + 2 + length n + length g) s g (62 ∷ w) d1 refl in
      record {
        token = ap (token_at o) e ∙ token_close o n g w i b;
        behind = drop_is (o + 2 + length n + length g) (o + (length n + length g + 3)) s (62 ∷ []) w d2 (omega arith);
      }

-- ---- content, spread out: what stands at an element's tags

pub piece_shape : (p : Piece) (k : Markup) (u : List ℕ) → render (piece p k) ++ u ≡ spell p ++ (render k ++ u)
piece_shape p k u = append_assoc (spell p) (render k) u

pub empty_shape : (t : Tag) (k : Markup) (u : List ℕ) → render (empty_tag t k) ++ u ≡ 60 ∷ (tag t ++ (47 ∷ 62 ∷ (render k ++ u)))
empty_shape t k u = ap (λ (l : List ℕ). 60 ∷ l) (append_assoc (tag t) (47 ∷ 62 ∷ render k) u)

spread : (t i n g k u : List ℕ)
    → (60 ∷ (t ++ (62 ∷ (i ++ (60 ∷ 47 ∷ (n ++ (g ++ (62 ∷ k)))))))) ++ u ≡ 60 ∷ (t ++ (62 ∷ (i ++ end_on n g (k ++ u))))
spread t i n g k u = simp append_assoc

pub full_shape : (t : Tag) (i : Markup) (g : List ℕ) (k : Markup) (u : List ℕ)
    → render (full t i g k) ++ u ≡ 60 ∷ (tag t ++ (62 ∷ (render i ++ end_on t.name g (render k ++ u))))
full_shape t i g k u = spread (tag t) (render i) t.name g (render k) u

full_lengths : (t i n g k : List ℕ)
    → length (60 ∷ (t ++ (62 ∷ (i ++ (60 ∷ 47 ∷ (n ++ (g ++ (62 ∷ k)))))))) ≡ length t + 2 + length i + (length n + length g + 3) + length k
full_lengths t i n g k = simp length-append (omega arith)

-- how long an element and what follows it is
pub full_length : (t : Tag) (i : Markup) (g : List ℕ) (k : Markup)
    → length (render (full t i g k)) ≡ length (tag t) + 2 + length (render i) + (length t.name + length g + 3) + length (render k)
full_length t i g k = full_lengths (tag t) (render i) t.name g (render k)

pub empty_length : (t : Tag) (k : Markup) → length (render (empty_tag t k)) ≡ length (tag t) + 3 + length (render k)
empty_length t k = omega (arith, length-append (tag t) (47 ∷ 62 ∷ render k))
