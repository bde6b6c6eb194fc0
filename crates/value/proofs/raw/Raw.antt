-- A text of characters that no entity stands for is its own raw text, and spells at least as many bytes as its characters have. Assumes nothing.
use mathlib.Core.Path.{◌≡◌, refl, sym, ◌∙◌, ap, subst}
use mathlib.Core.Bool.{true}
use mathlib.Core.List.{List, [], ◌∷◌, ◌++◌}
use mathlib.Core.Logic.{◌≢◌, ⊎_elim}
use Prim.Native.Nat.{ℕ, ◌≤◌, ◌<◌}
use native.Mathlib.Omega.{arith}
use lib.ListN.{length, length-append}
use Rattle.text.specs.Bytes.{is_blank}
use Rattle.text.specs.Lists.{Each}
use Rattle.text_characters.proofs.Resolving.{XmlChar, xml_char_yes}
use Rattle.text_characters.specs.Utf8.{encode, encode_all}
use Rattle.text_characters.specs.Pieces.{is_xml_char, amp, lt, gt, quot, apos, Piece, char, entity, spells, resolved_all, Spells}
use Rattle.value.proofs.classes.Classes.{Solid}
use Rattle.text.proofs.Classes.{is_in, blank}
use Rattle.text_characters.proofs.Decoding.{encode1}
use Rattle.value.proofs.raw.Encoding.{encoded_long}

-- a character that stands for itself alone
pub record Tame (x : ℕ) : Type 0 where
  pub below : x < 128
  pub known : is_xml_char x ≡ true
  pub amp : x ≢ 38
  pub less : x ≢ 60
  pub greater : x ≢ 62
  pub quotes : (x ≢ 34) × (x ≢ 39)

pub solid_tame : (x : ℕ) → Solid x → Tame x
solid_tame x s = record { below = omega (arith, s.high); known = xml_char_yes x (XmlChar.low (omega (arith, s.low)) (omega (arith, s.high))); amp = omega (arith, s.low); less = s.less; greater = s.greater; quotes = (omega (arith, s.low), omega (arith, s.low)) }

pub blank_tame : (x : ℕ) → is_blank x ≡ true → Tame x
blank_tame x e =
    ⊎_elim
    (⊎_elim
    (⊎_elim (λ a. record { below = omega arith; known = xml_char_yes x (XmlChar.low (omega arith) (omega arith)); amp = omega arith; less = omega arith; greater = omega arith; quotes = omega arith })
    (λ a. record { below = omega arith; known = xml_char_yes x (XmlChar.tab a); amp = omega arith; less = omega arith; greater = omega arith; quotes = omega arith }))
    (λ a. record { below = omega arith; known = xml_char_yes x (XmlChar.line a); amp = omega arith; less = omega arith; greater = omega arith; quotes = omega arith }))
    (λ a. record { below = omega arith; known = xml_char_yes x (XmlChar.return a); amp = omega arith; less = omega arith; greater = omega arith; quotes = omega arith })
    (is_in blank x e)

pub raw_to : (s : List ℕ) → Each Tame s → Spells s s
raw_to [] t = record { pieces = []; good = tt; is = refl; chars = refl }
raw_to (x ∷ s) t =
    let w = raw_to s t.1 in
    let h = t.0 in
    record {
      pieces = char x ∷ w.pieces;
      good = ((h.known, h.less, h.amp), w.good);
      is = rw (encode1 x h.below) (ap (λ (u : List ℕ). x ∷ u) w.is);
      chars = ap (λ (u : List ℕ). x ∷ u) w.chars;
    }

raw_go : (ps : List Piece) → Each Tame (resolved_all ps) → spells ps ≡ resolved_all ps
raw_go [] t = refl
raw_go (char x ∷ ps) t = rw (encode1 x t.0.below) (ap (λ (u : List ℕ). x ∷ u) (raw_go ps t.1))
raw_go (entity amp ∷ ps) t = absurd (t.0.amp refl)
raw_go (entity lt ∷ ps) t = absurd (t.0.less refl)
raw_go (entity gt ∷ ps) t = absurd (t.0.greater refl)
raw_go (entity quot ∷ ps) t = absurd (t.0.quotes.0 refl)
raw_go (entity apos ∷ ps) t = absurd (t.0.quotes.1 refl)

pub raw_from : (s cs : List ℕ) → Spells s cs → Each Tame cs → s ≡ cs
raw_from s cs w t = w.is ∙ raw_go w.pieces (subst (λ (l : List ℕ). Each Tame l) w.chars t) ∙ sym w.chars

-- an entity has more bytes than its character
fewer : (ps : List Piece) → length (encode_all (resolved_all ps)) ≤ length (spells ps)
unfolding encode
fewer [] = omega arith
fewer (char x ∷ ps) = omega (arith, fewer ps, length-append (encode x) (encode_all (resolved_all ps)), length-append (encode x) (spells ps))
fewer (entity amp ∷ ps) = omega (arith, fewer ps)
fewer (entity lt ∷ ps) = omega (arith, fewer ps)
fewer (entity gt ∷ ps) = omega (arith, fewer ps)
fewer (entity quot ∷ ps) = omega (arith, fewer ps)
fewer (entity apos ∷ ps) = omega (arith, fewer ps)

pub encoded_short : (s cs : List ℕ) → Spells s cs → length (encode_all cs) ≤ length s
encoded_short s cs w = omega (arith, fewer w.pieces, ap (λ (l : List ℕ). length (encode_all l)) w.chars, ap length w.is)

pub spelt_long : (s cs : List ℕ) → Spells s cs → length cs ≤ length s
spelt_long s cs w = omega (arith, encoded_short s cs w, encoded_long cs)

-- and its bytes are its characters
pub plain_encode : (cs : List ℕ) → Each Solid cs → encode_all cs ≡ cs
plain_encode [] h = refl
plain_encode (c ∷ cs) h = ap (λ (u : List ℕ). u ++ encode_all cs) (encode1 c (omega (arith, h.0.high))) ∙ ap (λ (u : List ℕ). c ∷ u) (plain_encode cs h.1)
