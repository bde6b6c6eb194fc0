-- What is left of a message from a place on, and that each turn of the lane puts one tag or leaf before it. Assumes nothing.
use mathlib.Core.Path.{◌≡◌, refl, sym, ◌∙◌, ap, subst}
use mathlib.Core.Bool.{true, false}
use mathlib.Core.List.{List, [], ◌∷◌, ◌++◌, append_assoc, append-nil}
use Prim.Native.Nat.{ℕ, suc, ◌+◌, ◌<◌}
use native.Mathlib.Omega.{arith}
use lib.ListN.{length}
use Rattle.text.specs.Bytes.{is_blank}
use Rattle.text.specs.Lists.{All}
use Rattle.text_characters.specs.Pieces.{less, greater, solidus, Piece, GoodPiece, spell, spells, resolved, resolved_all, Spells}
use Rattle.text_characters.specs.Pieces as pieces
use Rattle.text_characters.proofs.Decoding.{encode1}
use Rattle.text_characters.proofs.Resolving.{XmlChar, xml_char_yes}
use mathlib.Core.Option.{Option, none}
use Rattle.list.specs.Listing.{Leaf, Kind, group, choice, leaf, Listing, row_at, Child, is_group}
use Rattle.list.specs.Content.{Content, end, value, node, items, ValueOf}
use Rattle.xml.specs.House.{IsName, Tag, tag, GoodTag, render, GoodMarkup}
use Rattle.xml.specs.House as X
use Rattle.xml.specs.Message.{parts_of, attrs_of}
use Rattle.xml.proofs.Basics.{by_blank}
use Rattle.xml.proofs.Cuts.{is_cut, no_cut}
use Rattle.file_walk.specs.Types.{LeafAttrs}
use Rattle.file_walk.specs.Denotes.{Denotes}
use Rattle.file_walk.specs.First.{text_of, currency_given}
use Rattle.file_walk.proofs.violation.Spells.{plain, plain_rows}
use Rattle.image.specs.Image.{items_bytes, value_bytes}
use Rattle.image.specs.mirror.Follow.{Fits, Shut, parent_of}
use Rattle.image.proofs.content.Derive.{After}
use Rattle.file.specs.Instance.{Kinds, values_of}

-- ---- blanks as pieces of text

abbrev pub blankly : List ℕ → X.Markup → X.Markup
blankly [] x = x
blankly (b ∷ bs) x = X.piece (pieces.char b) (blankly bs x)

blank_byte : (b : ℕ) → is_blank b ≡ true → (b < 0x80) × GoodPiece (pieces.char b)
blank_byte b h = by_blank (λ (x : ℕ). (x < 0x80) × GoodPiece (pieces.char x)) b h
    (omega arith, (xml_char_yes 0x20 (XmlChar.low (omega arith) (omega arith)), (λ z. omega arith), (λ z. omega arith)))
    (omega arith, (xml_char_yes 0x9 (XmlChar.tab refl), (λ z. omega arith), (λ z. omega arith)))
    (omega arith, (xml_char_yes 0xA (XmlChar.line refl), (λ z. omega arith), (λ z. omega arith)))
    (omega arith, (xml_char_yes 0xD (XmlChar.return refl), (λ z. omega arith), (λ z. omega arith)))

blankly_is : (bs : List ℕ) (x : X.Markup) → All is_blank bs → render (blankly bs x) ≡ bs ++ render x
blankly_is [] x h = refl
blankly_is (b ∷ bs) x h = rw (encode1 b (blank_byte b h.0).0, blankly_is bs x h.1)

blank_cut : (b : ℕ) (x : X.Markup) → is_blank b ≡ true → is_cut (X.piece (pieces.char b) x) ≡ false
blank_cut b x h = by_blank (λ (c : ℕ). is_cut (X.piece (pieces.char c) x) ≡ false) b h refl refl refl refl

blankly_good : (d : ℕ) (bs : List ℕ) (x : X.Markup) → All is_blank bs → GoodMarkup d x → GoodMarkup d (blankly bs x)
blankly_good d [] x h g = g
blankly_good d (b ∷ bs) x h g = ((blank_byte b h.0).1, no_cut (blankly (b ∷ bs) x) (blank_cut b (blankly bs x) h.0), blankly_good d bs x h.1 g)

-- ---- the text of a leaf

abbrev pub textly : List Piece → X.Markup
textly [] = X.no_more
textly (p ∷ ps) = X.piece p (textly ps)

textly_is : (ps : List Piece) → render (textly ps) ≡ spells ps
textly_is [] = refl
textly_is (p ∷ ps) = ap (λ (z : List ℕ). spell p ++ z) (textly_is ps)

textly_plain : (ps : List Piece) (o : ℕ) → plain (parts_of o (textly ps)) ≡ true
textly_plain [] o = refl
textly_plain (p ∷ ps) o = textly_plain ps _

textly_text : (ps : List Piece) (o : ℕ) → text_of (parts_of o (textly ps)) ≡ resolved_all ps
textly_text [] o = refl
textly_text (p ∷ ps) o = ap (λ (z : List ℕ). resolved p ∷ z) (textly_text ps _)

module _ (k : Kinds) (l : Listing) where
  blankly_denotes : (p : ℕ) (bs : List ℕ) (x : X.Markup) (c : Content k.types.A) → All is_blank bs
      → ((o : ℕ) → Denotes k.types l p (parts_of o x) c) → (o : ℕ) → Denotes k.types l p (parts_of o (blankly bs x)) c
  blankly_denotes p [] x c h f o = f o
  blankly_denotes p (b ∷ bs) x c h f o = (h.0, blankly_denotes p bs x c h.1 f _)

  -- the closing and the opening tag of a row, as the lane takes them
  abbrev pub shut_tag : ℕ → List ℕ → List ℕ
  shut_tag p u = less ∷ solidus ∷ ((row_at l p).name ++ (greater ∷ u))

  abbrev pub open_tag : ℕ → List ℕ → List ℕ
  open_tag r u = less ∷ ((row_at l r).name ++ (greater ∷ u))

  -- the bytes of a content's items
  abbrev pub put : Content k.types.A → List ℕ
  put c = items_bytes (values_of k) l (items c)

  bytes_append : (a b : List (ℕ × Option k.types.A)) → items_bytes (values_of k) l (a ++ b) ≡ items_bytes (values_of k) l a ++ items_bytes (values_of k) l b
  bytes_append [] b = refl
  bytes_append (i ∷ a) b = rw (bytes_append a b) (simp append_assoc)

  no_value : (f : Kind) → value_bytes (values_of k) l f none ≡ []
  no_value group = refl
  no_value choice = refl
  no_value (leaf f) = refl

  pub put_node : (r : ℕ) (i c : Content k.types.A) → put (node r i c) ≡ r ∷ (put i ++ put c)
  put_node r i c = rw (no_value (row_at l r).kind, bytes_append (items i) (items c))

  put_value : (r : ℕ) (f : Leaf) (v : k.types.A) (c : Content k.types.A) → (row_at l r).kind ≡ leaf f → put (value r v c) ≡ r ∷ (k.bytes f v ++ put c)
  put_value r f v c e = rw e

  -- an item before what is left
  before : (r : ℕ) (a b n m x : List ℕ) → m ≡ b ++ n → x ≡ r ∷ (a ++ b) → r ∷ (a ++ m) ≡ x ++ n
  before r a b n m x e i = ap (λ (z : List ℕ). r ∷ (a ++ z)) e ∙ ap (λ (z : List ℕ). r ∷ z) (sym (append_assoc a b n)) ∙ ap (λ (z : List ℕ). z ++ n) (sym i)

  module _ (room : ℕ → ℕ) where
    -- what stands in p after its child q
    pub record Stands (p q : ℕ) (x : X.Markup) (c : Content k.types.A) : Type 0 where
      pub good : GoodMarkup (room p) x
      pub denotes : (o : ℕ) → Denotes k.types l p (parts_of o x) c
      pub after : After (values_of k) l p q c

    -- q's closing tag is passed: the bytes that are left, and those of the image
    pub data Up : ℕ → List ℕ → List ℕ → Type 0 where
      root : {q : ℕ} {t m : List ℕ} → q ≡ 1 → All is_blank t → m ≡ 0 ∷ [] → Up q t m
      more : {q : ℕ} {t m : List ℕ} → 1 < q → (x : X.Markup) (c : Content k.types.A) → Stands (parent_of l q) q x c
          → (u n : List ℕ) → t ≡ render x ++ shut_tag (parent_of l q) u → Up (parent_of l q) u n → m ≡ put c ++ n → Up q t m

    -- in p, after its child q
    pub record Left (p q : ℕ) (t m : List ℕ) : Type 0 where
      pub tree : X.Markup
      pub content : Content k.types.A
      pub stands : Stands p q tree content
      pub rest : List ℕ
      pub few : List ℕ
      pub is : t ≡ render tree ++ shut_tag p rest
      pub up : Up p rest few
      pub size : m ≡ put content ++ few

    -- a closing tag
    pub shut : (p q : ℕ) (m b t u : List ℕ) → Shut l p q → All is_blank b → t ≡ b ++ shut_tag p u → Up p u m → Left p q t m
    shut p q m b t u h g e up = record {
      tree = blankly b X.no_more;
      content = end;
      stands = record { good = blankly_good (room p) b X.no_more g tt; denotes = blankly_denotes p b X.no_more end g (λ o. tt); after = h };
      rest = u;
      few = m;
      is = e ∙ rw (blankly_is b X.no_more g, append-nil b);
      up = up;
      size = refl;
    }

    -- blanks before anything
    pub blanked : (p q : ℕ) (m b t u : List ℕ) → All is_blank b → t ≡ b ++ u → Left p q u m → Left p q t m
    blanked p q m b t u g e f = record {
      tree = blankly b f.tree;
      content = f.content;
      stands = record { good = blankly_good (room p) b f.tree g f.stands.good; denotes = blankly_denotes p b f.tree f.content g f.stands.denotes; after = f.stands.after };
      rest = f.rest;
      few = f.few;
      is = e ∙ rw (f.is, blankly_is b f.tree g) (simp append_assoc);
      up = f.up;
      size = f.size;
    }

    -- what is left above r, taken apart
    pub record Above (p r : ℕ) (t m : List ℕ) : Type 0 where
      pub tree : X.Markup
      pub content : Content k.types.A
      pub stands : Stands p r tree content
      pub rest : List ℕ
      pub few : List ℕ
      pub is : t ≡ render tree ++ shut_tag p rest
      pub up : Up p rest few
      pub size : m ≡ put content ++ few

    pub above : {r : ℕ} {t m : List ℕ} → 1 < r → Up r t m → Above (parent_of l r) r t m
    above h (root e b z) = absurd (omega arith)
    above h (more g x c s u n e up z) = record { tree = x; content = c; stands = s; rest = u; few = n; is = e; up = up; size = z }

    -- the parent goes on after it
    pub climb : (p : ℕ) (m t : List ℕ) → 1 < p → Left (parent_of l p) p t m → Up p t m
    climb p m t h f = more h f.tree f.content f.stands f.rest f.few f.is f.up f.size

    -- the opening tag of a group: what is left in it, then in its parent
    module _ (deep : (p r : ℕ) → Child l p r → is_group (row_at l r).kind ≡ true → room p ≡ suc (room r)) where
      abbrev tag_of : ℕ → Tag
      tag_of r = record { name = (row_at l r).name; attributes = []; gap = [] }

      pub opened : (p q r : ℕ) (m b t u : List ℕ) → Fits l p q r → IsName (row_at l r).name → 1 < r → is_group (row_at l r).kind ≡ true → All is_blank b
          → (f : Left r 0 u m) → (x : X.Markup) (c : Content k.types.A) → Stands p r x c → (v n : List ℕ)
          → f.rest ≡ render x ++ shut_tag p v → Up p v n → f.few ≡ put c ++ n → t ≡ b ++ open_tag r u → Left p q t (r ∷ m)
      opened p q r m b t u h i₀ g y w f x c s v n e up j i = record {
        tree = blankly b (X.full (tag_of r) f.tree [] x);
        content = node r f.content c;
        stands = record {
          good = blankly_good (room p) b (X.full (tag_of r) f.tree [] x) w
              (subst (λ (d : ℕ). GoodMarkup d (X.full (tag_of r) f.tree [] x)) (sym (deep p r h.child y))
              (record { name = i₀; attributes = tt; gap = tt }, f.stands.good, tt, subst (λ (d : ℕ). GoodMarkup d x) (deep p r h.child y) s.good));
          denotes = blankly_denotes p b (X.full (tag_of r) f.tree [] x) (node r f.content c) w
              (λ o. ((h.child, refl), (y, refl), f.stands.denotes _, s.denotes _));
          after = (h, y, f.stands.after, s.after);
        };
        rest = v;
        few = n;
        is = i ∙ rw (f.is, e, blankly_is b (X.full (tag_of r) f.tree [] x) w) (simp (append_assoc, append-nil));
        up = up;
        size = ap (λ (z : List ℕ). r ∷ z) f.size ∙ before r (put f.content) (put c) n f.few (put (node r f.content c)) j (put_node r f.content c);
      }

    -- a leaf, from its opening tag to its closing one
    module _ (deep : (p r : ℕ) → Child l p r → (d : ℕ) × (room p ≡ suc d)) where
      pub told : (p q r : ℕ) (m b t u raw : List ℕ) (g : Tag) (f : Leaf) (cs : List ℕ) (v : k.types.A) → Fits l p q r → (row_at l r).kind ≡ leaf f → (row_at l r).name ≡ g.name → GoodTag g
          → LeafAttrs k.types f (attrs_of g.attributes) → (sp : Spells raw cs) → ((d : ℕ) → GoodMarkup d (textly sp.pieces))
          → k.types.Spelt f (currency_given (attrs_of g.attributes)) cs v → k.types.Is f v → All is_blank b
          → (h : Left p r u m) → t ≡ b ++ (less ∷ (tag g ++ (greater ∷ (raw ++ shut_tag r u)))) → Left p q t (r ∷ (k.bytes f v ++ m))
      told p q r m b t u raw g f cs v fits kind name good ats sp uncut spelt is w h e =
          let dp = deep p r fits.child in
          record {
            tree = blankly b (X.full g (textly sp.pieces) [] h.tree);
            content = value r v h.content;
            stands = record {
              good = blankly_good (room p) b (X.full g (textly sp.pieces) [] h.tree) w
                  (subst (λ (d : ℕ). GoodMarkup d (X.full g (textly sp.pieces) [] h.tree)) (sym dp.1)
                  (good, uncut dp.0, tt, subst (λ (d : ℕ). GoodMarkup d h.tree) dp.1 h.stands.good));
              denotes = blankly_denotes p b (X.full g (textly sp.pieces) [] h.tree) (value r v h.content) w
                  (λ o. (
                    (fits.child, name),
                    (
                      f,
                      kind,
                      ats,
                      plain_rows l (parts_of (o + (length (tag g) + 2)) (textly sp.pieces)) r (textly_plain sp.pieces (o + (length (tag g) + 2))),
                      subst (λ (z : List ℕ). k.types.Spelt f (currency_given (attrs_of g.attributes)) z v) (sp.chars ∙ sym (textly_text sp.pieces (o + (length (tag g) + 2)))) spelt,
                    ),
                    h.stands.denotes _,
                  ));
              after = (fits, subst (λ (z : Kind). ValueOf k.types.Is l z v) (sym kind) is, h.stands.after);
            };
            rest = h.rest;
            few = h.few;
            is = e ∙ rw (h.is, sp.is, name, blankly_is b (X.full g (textly sp.pieces) [] h.tree) w, textly_is sp.pieces) (simp append_assoc);
            up = h.up;
            size = before r (k.bytes f v) (put h.content) h.few m (put (value r v h.content)) h.size (put_value r f v h.content kind);
          }
