-- `char_at` is right: it finds every good piece, and nothing else. Assumes nothing.
use mathlib.Core.Path.{◌≡◌, refl, sym, ◌∙◌, ap, subst}
use mathlib.Core.Bool.{true, false, true≢false}
use mathlib.Core.List.{List, [], ◌∷◌, ◌++◌}
use mathlib.Core.Logic.{◌⊎◌, inl, inr, ⊎_elim, ◌≢◌}
use Prim.Native.Nat.{ℕ, suc, ◌+◌, ◌*◌, ◌/◌, ◌%◌, ◌≤◌, ◌<◌, zero-le, suc-le-suc}
use native.Mathlib.Omega.{arith}
use native.Mathlib.Decide.{dec_lt}
use lib.Dec.{eqb}
use lib.ListN.{length, drop, get_or, drop_of_length-le}
use lib.Seq.{drop-cons}
use borrow.Author.Tests.{ne_eqb, eqb-false}
use Rattle.text.specs.Lists.{same}
use Rattle.text.specs.Words.{starts}
use Rattle.text_characters.specs.Utf8.{Scalar, encode}
use Rattle.text_characters.specs.Pieces.{less, ampersand, is_xml_char, Entity, amp, lt, gt, quot, apos, word, stands, Piece, char, entity, spell, resolved, GoodPiece}
use Rattle.text_characters.specs.Chars.{char_of, Begun, begun, none, NextChar, NextEntity, EntityNumber, EntityLen, Decoded}
use Rattle.text_characters.specs.mirror.Decoding.{decoded}
use Rattle.text_characters.specs.mirror.Resolving.{or_else, entity_at, plain_at, char_at}
use Rattle.text_characters.specs.declared.utf8.Char.{Char}
use Rattle.text.proofs.Classes.{Named, only, from, ◌or◌, yes_in, is_in}
use Rattle.text.proofs.Parts.{starts_is, starts_not}
use Rattle.text_characters.proofs.Chars as chars
use Rattle.text_characters.proofs.Decoding as decoding

-- ---- XML characters

-- `is_xml_char` case by case
pub data XmlChar (c : ℕ) : Type 0 where
  tab : c ≡ 0x9 → XmlChar c
  line : c ≡ 0xA → XmlChar c
  return : c ≡ 0xD → XmlChar c
  low : 0x20 ≤ c → c ≤ 0xD7FF → XmlChar c
  middle : 0xE000 ≤ c → c ≤ 0xFFFD → XmlChar c
  high : 0x10000 ≤ c → c ≤ 0x10FFFF → XmlChar c

pub xml_char : Named is_xml_char (only 0x9 or only 0xA or only 0xD or from 0x20 0xD7FF or from 0xE000 0xFFFD or from 0x10000 0x10FFFF)
unfolding is_xml_char
xml_char = record { is = λ x. refl }

pub xml_char_yes : (c : ℕ) → XmlChar c → is_xml_char c ≡ true
xml_char_yes c (tab e) = sym (yes_in xml_char (inl (inl (inl (inl (inl e))))))
xml_char_yes c (line e) = sym (yes_in xml_char (inl (inl (inl (inl (inr e))))))
xml_char_yes c (return e) = sym (yes_in xml_char (inl (inl (inl (inr e)))))
xml_char_yes c (low h k) = sym (yes_in xml_char (inl (inl (inr (h, k)))))
xml_char_yes c (middle h k) = sym (yes_in xml_char (inl (inr (h, k))))
xml_char_yes c (high h k) = sym (yes_in xml_char (inr (h, k)))

pub xml_char_is : (c : ℕ) → is_xml_char c ≡ true → XmlChar c
xml_char_is c e =
    ⊎_elim (⊎_elim (⊎_elim (⊎_elim (⊎_elim tab line) return) (λ w. low w.0 w.1)) (λ w. middle w.0 w.1))
    (λ w. high w.0 w.1) (is_in xml_char c e)

pub xml_scalar : (c : ℕ) → XmlChar c → Scalar c
xml_scalar c (tab e) = record { below = omega arith; outside = omega arith }
xml_scalar c (line e) = record { below = omega arith; outside = omega arith }
xml_scalar c (return e) = record { below = omega arith; outside = omega arith }
xml_scalar c (low h k) = record { below = omega arith; outside = omega arith }
xml_scalar c (middle h k) = record { below = omega arith; outside = omega arith }
xml_scalar c (high h k) = record { below = omega arith; outside = omega arith }

-- ---- the first byte of an encoding: the character itself, or none of ASCII

pub record Head (c : ℕ) (l : List ℕ) : Type 0 where
  pub first : ℕ
  pub more : List ℕ
  pub is : l ≡ first ∷ more
  pub ascii : c < 0x80 → first ≡ c
  pub beyond : 0x80 ≤ c → 0x80 ≤ first

pub head_of_lem : (c : ℕ) → Head c (encode c)
head_of_lem c =
    decoding.by_length (Head c) c
    (λ h. record { first = c; more = []; is = refl; ascii = λ k. refl; beyond = λ k. k })
    (λ h k. record { first = 0xC0 + c / 64; more = (0x80 + c % 64) ∷ []; is = refl; ascii = omega arith; beyond = omega arith })
    (λ h k. record { first = 0xE0 + c / 4096; more = (0x80 + c / 64 % 64) ∷ (0x80 + c % 64) ∷ []; is = refl; ascii = omega arith; beyond = omega arith })
    (λ h. record { first = 0xF0 + c / 262144; more = (0x80 + c / 4096 % 64) ∷ (0x80 + c / 64 % 64) ∷ (0x80 + c % 64) ∷ []; is = refl; ascii = omega arith; beyond = omega arith })

head_is_lem : (c x : ℕ) (t u : List ℕ) → x ∷ t ≡ encode c ++ u → x ≡ (head_of_lem c).first
head_is_lem c x t u e =
    let f : x ∷ t ≡ (head_of_lem c).first ∷ ((head_of_lem c).more ++ u) = e ∙ ap (λ (l : List ℕ). l ++ u) (head_of_lem c).is in
    cc

-- a byte of ASCII is first in its own encoding alone
pub head_ascii : (c x : ℕ) (t u : List ℕ) → x < 0x80 → x ∷ t ≡ encode c ++ u → c ≡ x
head_ascii c x t u h e = go (dec_lt c 0x80)
  where
    go : Dec (c < 0x80) → c ≡ x
    go (yes k) = sym (head_is_lem c x t u e ∙ (head_of_lem c).ascii k)
    go (no k) = absurd (omega (arith, head_is_lem c x t u e, (head_of_lem c).beyond (omega arith)))

pub head_own : (c x : ℕ) (t u : List ℕ) → c < 0x80 → x ∷ t ≡ encode c ++ u → x ≡ c
head_own c x t u h e = head_is_lem c x t u e ∙ (head_of_lem c).ascii h

-- ---- every good piece is found

char_plain : (x : ℕ) (t : List ℕ) → x ≢ ampersand → x ≢ less → char_at (x ∷ t) ≡ plain_at (decoded (x ∷ t))
unfolding char_at
char_plain x t p q = rw (ne_eqb x ampersand p, ne_eqb x less q)

plain_yes : (r : Char) (n c : ℕ) → r ≡ char_of n c → XmlChar c → plain_at r ≡ char_of n c
unfolding plain_at
plain_yes r n c e x = rw (e, xml_char_yes c x)

char_complete : (c : ℕ) (t : List ℕ) → XmlChar c → c ≢ less → c ≢ ampersand → char_at (encode c ++ t) ≡ char_of (length (encode c)) c
char_complete c t x p q =
    let w = head_of_lem c in
    let e : w.first ∷ (w.more ++ t) ≡ encode c ++ t = sym (ap (λ (l : List ℕ). l ++ t) w.is) in
    sym (ap char_at e)
    ∙ char_plain w.first (w.more ++ t) (λ z. q (head_ascii c w.first (w.more ++ t) t (omega arith) e ∙ z))
    (λ z. p (head_ascii c w.first (w.more ++ t) t (omega arith) e ∙ z))
    ∙ plain_yes (decoded (w.first ∷ (w.more ++ t))) (length (encode c)) c (ap decoded e ∙ decoding.complete c t (xml_scalar c x)) x

pub complete : (p : Piece) (t : List ℕ) → GoodPiece p → char_at (spell p ++ t) ≡ char_of (length (spell p)) (resolved p)
unfolding char_at entity_at starts same
complete (char c) t g = char_complete c t (xml_char_is c g.0) g.1 g.2
complete (entity amp) t g = refl
complete (entity lt) t g = refl
complete (entity gt) t g = refl
complete (entity quot) t g = refl
complete (entity apos) t g = refl

-- an entity stands for a character of one byte
pub stands_low : (e : Entity) → stands e < 128
stands_low amp = omega arith
stands_low lt = omega arith
stands_low gt = omega arith
stands_low quot = omega arith
stands_low apos = omega arith

pub stands_one : (e : Entity) → encode (stands e) ≡ stands e ∷ []
stands_one e = decoding.encode1 (stands e) (stands_low e)

-- ---- and what is found is one

pub piece_some : (p : Piece) → 0 < length (spell p)
piece_some (char c) = decoding.encode_some c
piece_some (entity amp) = suc-le-suc zero-le
piece_some (entity lt) = suc-le-suc zero-le
piece_some (entity gt) = suc-le-suc zero-le
piece_some (entity quot) = suc-le-suc zero-le
piece_some (entity apos) = suc-le-suc zero-le

abbrev Begins : List ℕ → Char → Type 0
Begins = Begun GoodPiece spell resolved

abbrev Found : List ℕ → Char → Type 0
Found s r = (r ≡ char_of 0 0) ⊎ Begins s r

abbrev Any : Entity → Type 0
Any e = Unit {0}

abbrev Spelt : List ℕ → Char → Type 0
Spelt = Begun Any word stands

abbrev Read : List ℕ → Char → Type 0
Read s r = (r ≡ char_of 0 0) ⊎ Spelt s r

word_found : (e : Entity) (s : List ℕ) (r : Char) → Read s r → Read s (or_else e s r)
word_found e s r f =
    chars.choose (Read s) (starts (word e) s) (char_of (length (word e)) (stands e)) r
    (λ h. inr (record { sign = e; good = tt; rest = drop (length (word e)) s; is = starts_is (word e) s h; found = refl }))
    (λ h. f)

entity_read : (s : List ℕ) → Read s (entity_at s)
unfolding entity_at
entity_read s =
    word_found amp s _ (word_found lt s _ (word_found gt s _ (word_found quot s _ (word_found apos s _ (inl refl)))))

-- an entity is a piece
entity_begins : (s : List ℕ) (r : Char) → Spelt s r → Begins s r
entity_begins s r b = record { sign = entity b.sign; good = tt; rest = b.rest; is = b.is; found = b.found }

entity_found : (s : List ℕ) → Found s (entity_at s)
entity_found s = ⊎_elim inl (λ b. inr (entity_begins s (entity_at s) b)) (entity_read s)

zero_no : is_xml_char 0 ≡ true → ⊥
unfolding is_xml_char
zero_no e = true≢false (sym e)

plain_found : (x : ℕ) (t : List ℕ) → x ≢ ampersand → x ≢ less → Found (x ∷ t) (plain_at (decoded (x ∷ t)))
unfolding plain_at
plain_found x t p q =
    chars.choose (Found (x ∷ t)) (is_xml_char (decoded (x ∷ t)).code) (decoded (x ∷ t)) (char_of 0 0)
    (λ e. inr (go e (decoding.sound (x ∷ t)))) (λ e. inl refl)
  where
    go : is_xml_char (decoded (x ∷ t)).code ≡ true
        → (decoded (x ∷ t) ≡ char_of 0 0) ⊎ Begun Scalar encode (λ (c : ℕ). c) (x ∷ t) (decoded (x ∷ t)) → Begins (x ∷ t) (decoded (x ∷ t))
    go e (inl z) = absurd (zero_no (ap (λ (r : Char). is_xml_char r.code) (sym z) ∙ e))
    go e (inr b) =
        let k : (decoded (x ∷ t)).code ≡ b.sign = ap (λ (r : Char). r.code) b.found in
        record {
          sign = char b.sign;
          good =
              (ap is_xml_char (sym k) ∙ e, first_not b.sign b.rest b.is less (omega arith) q, first_not b.sign b.rest b.is ampersand (omega arith) p);
          rest = b.rest;
          is = b.is;
          found = b.found;
        }
      where
        first_not : (c : ℕ) (u : List ℕ) → x ∷ t ≡ encode c ++ u → (y : ℕ) → y < 0x80 → x ≢ y → c ≢ y
        first_not c u i y h ne z = ne (head_own c x t u (omega arith) i ∙ z)

pub sound : (s : List ℕ) → Found s (char_at s)
unfolding char_at
sound [] = inl refl
sound (x ∷ t) =
    chars.choose (Found (x ∷ t)) (eqb x ampersand) _ _ (λ e. entity_found (x ∷ t))
    (λ e. chars.choose (Found (x ∷ t)) (eqb x less) _ _ (λ f. inl refl) (λ f. plain_found x t (eqb-false x ampersand e) (eqb-false x less f)))

-- ---- the promise of `next_char`

pub next_is : (s : List ℕ) → NextChar s (char_at s)
next_is = chars.first_is GoodPiece spell resolved char_at complete sound piece_some

pub next_of : (s : List ℕ) (r : Char) → r ≡ char_at s → NextChar s r
next_of s r e = subst (NextChar s) (sym e) (next_is s)

-- only one character fits
pub next_one : (s : List ℕ) (r : Char) → NextChar s r → r ≡ char_at s
next_one = chars.first_one GoodPiece spell resolved char_at complete sound piece_some

pub next_char_one : (s : List ℕ) (q r : Char) → NextChar s q → NextChar s r → q ≡ r
next_char_one s q r a b = next_one s q a ∙ sym (next_one s r b)

-- ---- entities alone

entity_complete : (e : Entity) (t : List ℕ) → Any e → entity_at (word e ++ t) ≡ char_of (length (word e)) (stands e)
unfolding entity_at starts same
entity_complete amp t g = refl
entity_complete lt t g = refl
entity_complete gt t g = refl
entity_complete quot t g = refl
entity_complete apos t g = refl

entity_is : (s : List ℕ) → NextEntity s (entity_at s)
entity_is = chars.first_is Any word stands entity_at entity_complete entity_read (λ e. piece_some (entity e))

pub entity_one : (s : List ℕ) (q r : Char) → NextEntity s q → NextEntity s r → q ≡ r
entity_one s q r a b =
    let one = chars.first_one Any word stands entity_at entity_complete entity_read (λ e. piece_some (entity e)) s in
    one q a ∙ sym (one r b)

pub entity_number_one : (s : List ℕ) (m n : ℕ) → EntityNumber s m → EntityNumber s n → m ≡ n
entity_number_one s m n a b =
    let e = entity_one s (char_of (m / 256) (m % 256)) (char_of (n / 256) (n % 256)) a b in
    omega (arith, ap (λ (r : Char). r.len) e, ap (λ (r : Char). r.code) e)

pub entity_len_one : (s : List ℕ) (m n : ℕ) → EntityLen s m → EntityLen s n → m ≡ n
entity_len_one s m n a b = ap (λ (r : Char). r.len) (entity_one s (char_of m a.0) (char_of n b.0) a.1 b.1)

-- where one stands it is the character there
pub entity_next : (s : List ℕ) (n : ℕ) → EntityLen s n → n ≢ 0 → (e : Entity) × NextChar s (char_of n (stands e))
entity_next s n (c, begun b) z =
    (b.sign, begun (subst (λ (x : ℕ). Begins s (char_of n x)) (chars.begun_code Any word stands s (char_of n c) b) (entity_begins s (char_of n c) b)))
entity_next s n (c, none e never) z = absurd (z (ap (λ (r : Char). r.len) e))

-- ---- an entity as one number

abbrev number_of : Entity → ℕ
number_of e = length (word e) * 256 + stands e

parted : (e : Entity) → char_of (number_of e / 256) (number_of e % 256) ≡ char_of (length (word e)) (stands e)
parted amp = refl
parted lt = refl
parted gt = refl
parted quot = refl
parted apos = refl

pub number_of_lem : (e : Entity) (s : List ℕ) → starts (word e) s ≡ true → EntityNumber s (number_of e)
number_of_lem e s h = begun (record { sign = e; good = tt; rest = drop (length (word e)) s; is = starts_is (word e) s h; found = parted e })

pub number_none : (s : List ℕ) → starts (word amp) s ≡ false → starts (word lt) s ≡ false → starts (word gt) s ≡ false → starts (word quot) s ≡ false
    → starts (word apos) s ≡ false → EntityNumber s 0
number_none s a b c d f = none refl (λ e t g. starts_not (word e) s t (go e))
  where
    go : (e : Entity) → starts (word e) s ≡ false
    go amp = a
    go lt = b
    go gt = c
    go quot = d
    go apos = f

pub number_char : (s : List ℕ) (n : ℕ) → EntityNumber s n → char_of (n / 256) (n % 256) ≡ entity_at s
number_char s n f = entity_one s (char_of (n / 256) (n % 256)) (entity_at s) f (entity_is s)

-- ---- what the code reads at a place

-- every character of two bytes is one of XML
pub two_xml : (c : ℕ) {A : Type 0} → A × ((0x80 ≤ c) × (c ≤ 0x7FF)) → is_xml_char c ≡ true
two_xml c w = let h = w.1.0 in let k = w.1.1 in xml_char_yes c (low (omega arith) (omega arith))

pub next_end : (s : List ℕ) (i : ℕ) (r : Char) → length s ≤ i → r ≡ char_of 0 0 → NextChar (drop i s) r
unfolding char_at
next_end s i r h e = next_of (drop i s) r (e ∙ rw (drop_of_length-le s h))

module _ (s : List ℕ) (i : ℕ) (h : i < length s) (r : Char) where
  pub next_entity : get_or s i 0 ≡ ampersand → r ≡ entity_at (drop i s) → NextChar (drop i s) r
  unfolding char_at
  next_entity e f = next_of (drop i s) r (f ∙ rw (drop-cons s i 0, e))

  pub next_less : get_or s i 0 ≡ less → r ≡ char_of 0 0 → NextChar (drop i s) r
  unfolding char_at
  next_less e f = next_of (drop i s) r (f ∙ rw (drop-cons s i 0, e))

  module _ (p : get_or s i 0 ≢ ampersand) (q : get_or s i 0 ≢ less) where
    next_plain : r ≡ plain_at (decoded (drop i s)) → NextChar (drop i s) r
    unfolding char_at
    next_plain f =
        next_of (drop i s) r (f ∙ rw (drop-cons s i 0, ne_eqb (get_or s i 0) ampersand p, ne_eqb (get_or s i 0) less q))

    pub next_low : get_or s i 0 < 0x80 → r ≡ plain_at (char_of 1 (get_or s i 0)) → NextChar (drop i s) r
    next_low b f =
        next_plain (f ∙ ap plain_at (sym (ap decoded (drop-cons s i 0 h) ∙ decoding.decoded_ascii (get_or s i 0) (drop (suc i) s) b)))

    module _ (c : Char) (d : Decoded (drop i s) c) where
      pub next_char : is_xml_char c.code ≡ true → r ≡ c → NextChar (drop i s) r
      unfolding plain_at
      next_char x f = next_plain (f ∙ rw (← decoding.decoded_one (drop i s) c d, x))

      pub next_none : is_xml_char c.code ≡ false → r ≡ char_of 0 0 → NextChar (drop i s) r
      unfolding plain_at
      next_none x f = next_plain (f ∙ rw (← decoding.decoded_one (drop i s) c d, x))

  -- a byte of ASCII that stands for itself
  pub next_ascii : 0x20 ≤ get_or s i 0 → get_or s i 0 < 0x80 → get_or s i 0 ≢ ampersand → get_or s i 0 ≢ less → r ≡ char_of 1 (get_or s i 0)
      → NextChar (drop i s) r
  next_ascii a b p q f =
      next_plain p q
      (f
      ∙ sym (plain_yes (decoded (drop i s)) 1 (get_or s i 0) (ap decoded (drop-cons s i 0 h) ∙ decoding.decoded_ascii (get_or s i 0) (drop (suc i) s) b) (low a (omega arith))))
