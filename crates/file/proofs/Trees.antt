-- A computed test for good trees, enough for examples: ASCII names, at most one attribute, characters up to U+D7FF. Assumes nothing.
use mathlib.Core.Path.{◌≡◌, refl, ap}
use mathlib.Core.Logic.{◌≢◌}
use mathlib.Core.Bool.{Bool, true, false, ◌&&◌, not, false≢true}
use mathlib.Core.List.{List, [], ◌∷◌}
use Prim.Native.Nat.{ℕ, zero, suc, ◌<◌}
use native.Mathlib.Omega.{arith}
use lib.Dec.{eqb, leb, ltb}
use borrow.Author.Tests.{eq-eqb, leb-true, ltb-true}
use Rattle.text.specs.Bytes.{is_blank, is_name_start, is_name_part, in_range}
use Rattle.text.specs.Lists.{Each}
use Rattle.text_characters.proofs.Resolving.{low, xml_char_yes}
use Rattle.text_characters.specs.Utf8.{Scalar, encode, encode_all, Utf8}
use Rattle.text_characters.specs.Pieces.{less, ampersand, Piece, char, entity, GoodPiece}
use Rattle.text.proofs.Classes.{and_is}
use Rattle.list.specs.tables.Test.{every, begins}
use Rattle.list.proofs.sound.Tests.{clash}
use Rattle.list.proofs.sound.Sound.{every_is, begins_is}
use Rattle.xml.proofs.Cuts.{is_cut, no_cut}
use Rattle.xml.specs.House.{Quote, mark, GoodValue, IsAttrName, Attr, GoodAttr, GoodAttrs, Tag, GoodTag, Markup, no_more, piece, empty_tag, full, GoodMarkup, OneElement, Tree, GoodTree}

pub not_is : (b : Bool) → not b ≡ true → b ≡ false
not_is true e = absurd (false≢true e)
not_is false e = refl

-- ---- pieces

abbrev pub piece_test : Piece → Bool
piece_test (char c) = in_range 32 55295 c && (not (eqb c less) && not (eqb c ampersand))
piece_test (entity e) = true

other : (a b : ℕ) → not (eqb a b) ≡ true → a ≢ b
other a b t e = clash (eqb a b) (eq-eqb a b e) (not_is (eqb a b) t)

piece_good : (p : Piece) → piece_test p ≡ true → GoodPiece p
piece_good (char c) e =
    let a = and_is (in_range 32 55295 c) (not (eqb c less) && not (eqb c ampersand)) e in
    let r = and_is (leb 32 c) (leb c 55295) a.0 in
    let n = and_is (not (eqb c less)) (not (eqb c ampersand)) a.1 in
    (xml_char_yes c (low (leb-true 32 c r.0) (leb-true c 55295 r.1)), other c less n.0, other c ampersand n.1)
piece_good (entity x) e = tt

-- ---- attributes

abbrev pub value_test : Quote → List Piece → Bool
value_test q [] = true
value_test q (char c ∷ ps) = piece_test (char c) && (not (eqb c (mark q)) && value_test q ps)
value_test q (entity e ∷ ps) = false

char_is : (c x : ℕ) → char c ≡ char x → c ≡ x
char_is c x e = cc

value_good : (q : Quote) (ps : List Piece) → value_test q ps ≡ true → GoodValue q ps
value_good q [] e = tt
value_good q (char c ∷ ps) e =
    let a = and_is (piece_test (char c)) (not (eqb c (mark q)) && value_test q ps) e in
    let b = and_is (not (eqb c (mark q))) (value_test q ps) a.1 in
    ((piece_good (char c) a.0, (λ z. other c (mark q) b.0 (char_is c (mark q) z))), value_good q ps b.1)
value_good q (entity x ∷ ps) e = absurd (false≢true e)

abbrev pub attr_test : Attr → Bool
attr_test a =
    begins is_blank is_blank a.gap && (begins is_name_start is_name_part a.name && (every is_blank a.before && (every is_blank a.after && value_test a.quote a.value)))

attr_good : (a : Attr) → attr_test a ≡ true → GoodAttr a
attr_good a e =
    let p = and_is (begins is_blank is_blank a.gap) (begins is_name_start is_name_part a.name && (every is_blank a.before && (every is_blank a.after && value_test a.quote a.value))) e in
    let q = and_is (begins is_name_start is_name_part a.name) (every is_blank a.before && (every is_blank a.after && value_test a.quote a.value)) p.1 in
    let r = and_is (every is_blank a.before) (every is_blank a.after && value_test a.quote a.value) q.1 in
    let s = and_is (every is_blank a.after) (value_test a.quote a.value) r.1 in
    record {
      gap = begins_is is_blank is_blank a.gap p.0;
      name = IsAttrName.unprefixed (begins_is is_name_start is_name_part a.name q.0);
      before = every_is is_blank a.before r.0;
      after = every_is is_blank a.after s.0;
      value = value_good a.quote a.value s.1;
    }

abbrev pub attrs_test : List Attr → Bool
attrs_test [] = true
attrs_test (a ∷ []) = attr_test a
attrs_test (a ∷ b ∷ as') = false

attrs_good : (as' : List Attr) → attrs_test as' ≡ true → GoodAttrs 4 [] as'
attrs_good [] e = tt
attrs_good (a ∷ []) e = (attr_good a e, tt, tt)
attrs_good (a ∷ b ∷ as') e = absurd (false≢true e)

-- ---- tags and trees

abbrev pub tag_test : Tag → Bool
tag_test t = begins is_name_start is_name_part t.name && (attrs_test t.attributes && every is_blank t.gap)

tag_good : (t : Tag) → tag_test t ≡ true → GoodTag t
tag_good t e =
    let p = and_is (begins is_name_start is_name_part t.name) (attrs_test t.attributes && every is_blank t.gap) e in
    let q = and_is (attrs_test t.attributes) (every is_blank t.gap) p.1 in
    record { name = begins_is is_name_start is_name_part t.name p.0; attributes = attrs_good t.attributes q.0; gap = every_is is_blank t.gap q.1 }

abbrev pub content_test : ℕ → Markup → Bool
content_test d no_more = true
content_test d (piece p k) = piece_test p && (not (is_cut (piece p k)) && content_test d k)
content_test zero (empty_tag t k) = false
content_test (suc d) (empty_tag t k) = tag_test t && content_test (suc d) k
content_test zero (full t i g k) = false
content_test (suc d) (full t i g k) = tag_test t && (content_test d i && (every is_blank g && content_test (suc d) k))

content_good : (i : Markup) (d : ℕ) → content_test d i ≡ true → GoodMarkup d i
content_good no_more d e = tt
content_good (piece p k) d e =
    let a = and_is (piece_test p) (not (is_cut (piece p k)) && content_test d k) e in
    let b = and_is (not (is_cut (piece p k))) (content_test d k) a.1 in
    (piece_good p a.0, no_cut (piece p k) (not_is (is_cut (piece p k)) b.0), content_good k d b.1)
content_good (empty_tag t k) zero e = absurd (false≢true e)
content_good (empty_tag t k) (suc d) e = let a = and_is (tag_test t) (content_test (suc d) k) e in (tag_good t a.0, content_good k (suc d) a.1)
content_good (full t i g k) zero e = absurd (false≢true e)
content_good (full t i g k) (suc d) e =
    let a = and_is (tag_test t) (content_test d i && (every is_blank g && content_test (suc d) k)) e in
    let b = and_is (content_test d i) (every is_blank g && content_test (suc d) k) a.1 in
    let c = and_is (every is_blank g) (content_test (suc d) k) b.1 in
    (tag_good t a.0, content_good i d b.0, every_is is_blank g c.0, content_good k (suc d) c.1)

-- one element, with nothing around it
abbrev pub root_tree : Markup → Tree
root_tree i = record { declared = false; before = []; root = i; after = [] }

pub tree_good : (i : Markup) → content_test 16 i ≡ true → OneElement i → GoodTree (root_tree i)
tree_good i e one = record { before = tt; one = one; root = content_good i 16 e; after = tt }

-- ---- ASCII is UTF-8

abbrev pub ascii_test : List ℕ → Bool
ascii_test s = every (λ x. ltb x 128) s

ascii_self : (s : List ℕ) → ascii_test s ≡ true → Each Scalar s × (s ≡ encode_all s)
unfolding every encode
ascii_self [] e = (tt, refl)
ascii_self (x ∷ s) e =
    let a = and_is (ltb x 128) (ascii_test s) e in
    let h : x < 128 = ltb-true x 128 a.0 in
    let r = ascii_self s a.1 in
    ((record { below = omega arith; outside = λ i j. omega arith }, r.0), rw a.0 (ap (λ (u : List ℕ). x ∷ u) r.1))

pub ascii_utf8 : (s : List ℕ) → ascii_test s ≡ true → Utf8 s
ascii_utf8 s e = let r = ascii_self s e in record { chars = s; scalars = r.0; is = r.1 }
