-- House XML is UTF-8: its names, blanks and marks are ASCII, and its characters are written by their encodings. Assumes nothing.
use mathlib.Core.Path.{◌≡◌, refl, sym, ap, subst}
use mathlib.Core.Bool.{Bool, true, false, ◌&&◌, ◌||◌}
use mathlib.Core.Logic.{inl, inr}
use mathlib.Core.List.{List, [], ◌∷◌, ◌++◌, append_assoc, append-nil}
use Prim.Native.Nat.{ℕ, zero, suc, ◌<◌}
use native.Mathlib.Omega.{arith}
use lib.Dec.{ltb, eqb}
use borrow.Author.Tests.{ltb-true, eqb-true}
use Rattle.text.specs.Bytes.{is_name_start, is_name_part, is_blank}
use Rattle.text.specs.Lists.{Each, All, Begins}
use Rattle.text.proofs.Classes.{name_part, name_start, blank, is_in, and_is}
use Rattle.text_characters.specs.Pieces.{Entity, amp, lt, gt, quot, apos, Piece, spell, spells, GoodPiece, less, greater, solidus, equal}
use Rattle.text_characters.specs.Pieces as pieces
use Rattle.text_characters.specs.Utf8.{Scalar, encode, encode_all, Utf8}
use Rattle.text_characters.proofs.Decoding.{encode1}
use Rattle.text_characters.proofs.Resolving.{xml_char_is, xml_scalar}
use Rattle.xml.specs.House.{Quote, mark, GoodValue, Attr, attr, attrs, GoodAttr, GoodAttrs, Tag, tag, GoodTag, render, GoodMarkup, declaration, Tree, whole, GoodTree, HouseXml}
use Rattle.xml.specs.House as X
use Rattle.xml.proofs.Basics.{is_full_part, name_full, full_name}

utf8_none : Utf8 []
utf8_none = record { chars = []; scalars = tt; is = refl }

utf8_first : (c : ℕ) {s : List ℕ} → Scalar c → Utf8 s → Utf8 (encode c ++ s)
utf8_first c h g = record { chars = c ∷ g.chars; scalars = (h, g.scalars); is = ap (λ (z : List ℕ). encode c ++ z) g.is }

encoded_then : (cs : List ℕ) {s : List ℕ} → Each Scalar cs → Utf8 s → Utf8 (encode_all cs ++ s)
encoded_then [] h g = g
encoded_then (c ∷ cs) {s} h g = subst Utf8 (sym (append_assoc (encode c) (encode_all cs) s)) (utf8_first c h.0 (encoded_then cs h.1 g))

utf8_append : {a b : List ℕ} → Utf8 a → Utf8 b → Utf8 (a ++ b)
utf8_append {a} {b} h g = subst (λ (z : List ℕ). Utf8 (z ++ b)) (sym h.is) (encoded_then h.chars h.scalars g)

utf8_char : (c : ℕ) → Scalar c → Utf8 (encode c)
utf8_char c h = subst Utf8 (append-nil (encode c)) (utf8_first c h utf8_none)

utf8_ascii : (x : ℕ) {s : List ℕ} → x < 128 → Utf8 s → Utf8 (x ∷ s)
utf8_ascii x {s} h g = subst (λ (z : List ℕ). Utf8 (z ++ s)) (encode1 x h) (utf8_first x (record { below = omega arith; outside = λ i j. omega arith }) g)

abbrev lows : List ℕ → Bool
lows [] = true
lows (x ∷ s) = ltb x 128 && lows s

utf8_low : (s : List ℕ) → lows s ≡ true → Utf8 s
utf8_low [] h = utf8_none
utf8_low (x ∷ s) h = let e = and_is (ltb x 128) (lows s) h in utf8_ascii x (ltb-true x 128 e.0) (utf8_low s e.1)

utf8_blanks : (s : List ℕ) → All is_blank s → Utf8 s
utf8_blanks [] h = utf8_none
utf8_blanks (x ∷ s) h = utf8_ascii x (elim (is_in blank x h.0) [ inl (inl (inl e)) ↦ omega arith | inl (inl (inr e)) ↦ omega arith | inl (inr e) ↦ omega arith | inr e ↦ omega arith ]) (utf8_blanks s h.1)

part_low : (x : ℕ) → is_name_part x ≡ true → x < 128
part_low x h = elim (is_in name_part x h) [
  | inl (inl (inl (inl (inl e)))) ↦ omega arith
  | inl (inl (inl (inl (inr e)))) ↦ omega arith
  | inl (inl (inl (inr e))) ↦ omega arith
  | inl (inl (inr e)) ↦ omega arith
  | inl (inr e) ↦ omega arith
  | inr e ↦ omega arith
]

start_low : (x : ℕ) → is_name_start x ≡ true → x < 128
start_low x h = elim (is_in name_start x h) [ inl (inl e) ↦ omega arith | inl (inr e) ↦ omega arith | inr e ↦ omega arith ]

full_low : (x : ℕ) → is_full_part x ≡ true → x < 128
full_low x h = go (is_name_part x) refl h
  where
    go : (b : Bool) → is_name_part x ≡ b → (b || eqb x 58) ≡ true → x < 128
    go true e f = part_low x e
    go false e f = omega (arith, eqb-true x 58 f)

utf8_parts : (s : List ℕ) → All is_full_part s → Utf8 s
utf8_parts [] h = utf8_none
utf8_parts (x ∷ s) h = utf8_ascii x (full_low x h.0) (utf8_parts s h.1)

utf8_name : (s : List ℕ) → Begins is_name_start is_full_part s → Utf8 s
utf8_name [] h = absurd h
utf8_name (x ∷ s) h = utf8_ascii x (start_low x h.0) (utf8_parts s h.1)

utf8_some : (s : List ℕ) → Begins is_blank is_blank s → Utf8 s
utf8_some [] h = absurd h
utf8_some (x ∷ s) h = utf8_blanks (x ∷ s) h

utf8_word : (e : Entity) → Utf8 (spell (pieces.entity e))
utf8_word amp = utf8_low (spell (pieces.entity amp)) refl
utf8_word lt = utf8_low (spell (pieces.entity lt)) refl
utf8_word gt = utf8_low (spell (pieces.entity gt)) refl
utf8_word quot = utf8_low (spell (pieces.entity quot)) refl
utf8_word apos = utf8_low (spell (pieces.entity apos)) refl

utf8_piece : (p : Piece) → GoodPiece p → Utf8 (spell p)
utf8_piece (pieces.char c) h = utf8_char c (xml_scalar c (xml_char_is c h.0))
utf8_piece (pieces.entity e) h = utf8_word e

utf8_value : (q : Quote) (ps : List Piece) → GoodValue q ps → Utf8 (spells ps)
utf8_value q [] h = utf8_none
utf8_value q (p ∷ ps) h = utf8_append (utf8_piece p h.0.0) (utf8_value q ps h.1)

mark_low : (q : Quote) → mark q < 128
mark_low X.single_quote = omega arith
mark_low X.double = omega arith

utf8_attr : (a : Attr) → GoodAttr a → Utf8 (attr a)
utf8_attr a g =
    utf8_append (utf8_some a.gap g.gap) (utf8_append (utf8_name a.name (full_name a.name g.name)) (utf8_append (utf8_blanks a.before g.before) (utf8_ascii equal (omega arith)
    (utf8_append (utf8_blanks a.after g.after) (utf8_ascii (mark a.quote) (mark_low a.quote) (utf8_append (utf8_value a.quote a.value g.value) (utf8_ascii (mark a.quote) (mark_low a.quote) utf8_none)))))))

utf8_attrs : (n : ℕ) (seen : List (List ℕ)) (more : List Attr) → GoodAttrs n seen more → Utf8 (attrs more)
utf8_attrs n seen [] h = utf8_none
utf8_attrs zero seen (a ∷ more) h = absurd h
utf8_attrs (suc n) seen (a ∷ more) h = utf8_append (utf8_attr a h.0) (utf8_attrs n (a.name ∷ seen) more h.2)

utf8_tag : (t : Tag) → GoodTag t → Utf8 (tag t)
utf8_tag t g = utf8_append (utf8_name t.name (name_full t.name g.name)) (utf8_append (utf8_attrs 4 [] t.attributes g.attributes) (utf8_blanks t.gap g.gap))

utf8_content : (d : ℕ) (x : X.Markup) → GoodMarkup d x → Utf8 (render x)
utf8_content d X.no_more h = utf8_none
utf8_content d (X.piece p x) h = utf8_append (utf8_piece p h.0) (utf8_content d x h.2)
utf8_content zero (X.empty_tag t x) h = absurd h
utf8_content (suc d) (X.empty_tag t x) h = utf8_ascii less (omega arith) (utf8_append (utf8_tag t h.0) (utf8_ascii solidus (omega arith) (utf8_ascii greater (omega arith) (utf8_content (suc d) x h.1))))
utf8_content zero (X.full t i g x) h = absurd h
utf8_content (suc d) (X.full t i g x) h =
    utf8_ascii less (omega arith) (utf8_append (utf8_tag t h.0) (utf8_ascii greater (omega arith) (utf8_append (utf8_content d i h.1) (utf8_ascii less (omega arith) (utf8_ascii solidus (omega arith)
    (utf8_append (utf8_name t.name (name_full t.name h.0.name)) (utf8_append (utf8_blanks g h.2) (utf8_ascii greater (omega arith) (utf8_content (suc d) x h.3)))))))))

utf8_declared : (d : Bool) → Utf8 (declaration d)
utf8_declared false = utf8_none
utf8_declared true = utf8_low (declaration true) refl

utf8_tree : (t : Tree) → GoodTree t → Utf8 (whole t)
utf8_tree t g = utf8_append (utf8_declared t.declared) (utf8_append (utf8_blanks t.before g.before) (utf8_append (utf8_content 16 t.root g.root) (utf8_blanks t.after g.after)))

pub house_utf8 : {s : List ℕ} → HouseXml s → Utf8 s
house_utf8 x = subst Utf8 (sym x.is) (utf8_tree x.tree x.good)
