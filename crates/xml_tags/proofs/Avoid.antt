-- A good piece spells no `<`, and none of a value's pieces spells the quote used. Assumes nothing.
use mathlib.Core.Path.{◌≡◌, refl, ap}
use mathlib.Core.Logic.{◌≢◌}
use mathlib.Core.Bool.{Bool, true, ◌&&◌}
use mathlib.Core.List.{List, [], ◌∷◌}
use Prim.Native.Nat.{ℕ, ◌≤◌, ◌<◌}
use native.Mathlib.Omega.{arith}
use Rattle.text.specs.Lists.{All, Each}
use Rattle.text_characters.specs.Utf8.{encode}
use Rattle.text_characters.specs.Pieces.{less, Entity, amp, lt, gt, quot, apos, word, Piece, char, entity, spell, spells, GoodPiece}
use Rattle.text.proofs.Classes.{and_is}
use Rattle.text_characters.proofs.Decoding.{by_length}
use Rattle.xml.specs.House.{Quote, single_quote, double, mark, GoodValue}
use Rattle.xml.proofs.Basics.{all_append}
use Rattle.xml_tags.specs.Marks.{but}
use Rattle.xml_tags.proofs.Passing.{but_other}

-- a test of each, computed
abbrev pub passed : (ℕ → Bool) → List ℕ → Bool
passed p [] = true
passed p (x ∷ l) = p x && passed p l

pub all_passed : (p : ℕ → Bool) (l : List ℕ) → passed p l ≡ true → All p l
all_passed p [] e = tt
all_passed p (x ∷ l) e = let w = and_is (p x) (passed p l) e in (w.0, all_passed p l w.1)

-- of the bytes of a character none is another ASCII character
encode_avoids : (x c : ℕ) → x < 128 → c ≢ x → All (but x) (encode c)
encode_avoids x c h n =
    let high : (y : ℕ) → 128 ≤ y → but x y ≡ true = λ y k. but_other x y (λ e. omega arith) in
    by_length (All (but x)) c
    (λ k. (but_other x c n, tt))
    (λ k m. (high _ (omega arith), (high _ (omega arith), tt)))
    (λ k m. (high _ (omega arith), (high _ (omega arith), (high _ (omega arith), tt))))
    (λ k. (high _ (omega arith), (high _ (omega arith), (high _ (omega arith), (high _ (omega arith), tt)))))

-- an ASCII character that no entity's word holds
record Apart (x : ℕ) : Type 0 where
  ascii : x < 128
  words : (e : Entity) → passed (but x) (word e) ≡ true

spell_avoids : (x : ℕ) (p : Piece) → Apart x → p ≢ char x → All (but x) (spell p)
spell_avoids x (char c) a n = encode_avoids x c a.ascii (λ e. n (ap char e))
spell_avoids x (entity e) a n = all_passed (but x) (word e) (a.words e)

less_apart : Apart less
less_apart = record { ascii = omega arith; words = λ e. elim e as (λ z. passed (but less) (word z) ≡ true) [ amp ↦ refl | lt ↦ refl | gt ↦ refl | quot ↦ refl | apos ↦ refl ] }

mark_apart : (q : Quote) → Apart (mark q)
mark_apart single_quote = record { ascii = omega arith; words = λ e. elim e as (λ z. passed (but (mark single_quote)) (word z) ≡ true) [ amp ↦ refl | lt ↦ refl | gt ↦ refl | quot ↦ refl | apos ↦ refl ] }
mark_apart double = record { ascii = omega arith; words = λ e. elim e as (λ z. passed (but (mark double)) (word z) ≡ true) [ amp ↦ refl | lt ↦ refl | gt ↦ refl | quot ↦ refl | apos ↦ refl ] }

no_less : (p : Piece) → GoodPiece p → p ≢ char less
no_less (char c) g e = g.1 (cc)
no_less (entity n) g e = let z : ◌≡◌ {A = ℕ} 0 1 = cc in omega arith

pub piece_avoids : (p : Piece) → GoodPiece p → All (but less) (spell p)
piece_avoids p g = spell_avoids less p less_apart (no_less p g)

pub text_avoids : (ps : List Piece) → Each GoodPiece ps → All (but less) (spells ps)
text_avoids [] g = tt
text_avoids (p ∷ ps) g = all_append (but less) (spell p) (spells ps) (piece_avoids p g.0) (text_avoids ps g.1)

pub value_avoids : (q : Quote) (v : List Piece) → GoodValue q v → All (but (mark q)) (spells v)
value_avoids q [] g = tt
value_avoids q (p ∷ v) g =
    all_append (but (mark q)) (spell p) (spells v) (spell_avoids (mark q) p (mark_apart q) g.0.1) (value_avoids q v g.1)
