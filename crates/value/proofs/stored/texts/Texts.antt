-- REF, TXTk, IBAN and CCY: exactly the bytes of their values, the length first. Assumes nothing.
use mathlib.Core.Path.{◌≡◌, refl, sym, ◌∙◌, ap, ap₂, subst}
use mathlib.Core.Bool.{Bool, true, false}
use mathlib.Core.List.{List, [], ◌∷◌, ◌++◌, append_assoc}
use Prim.Native.Nat.{ℕ, ◌+◌, ◌≤◌, ◌<◌}
use native.Mathlib.Omega.{arith}
use lib.Dec.{leb}
use lib.ListN.{length, take, drop, length-append, length-drop, take-append-drop}
use lib.Seq.{take_at, drop_at}
use borrow.Author.Tests.{leb-true, le-leb}
use Rattle.text.specs.Bytes.{is_capital}
use Rattle.text.specs.Lists.{Each}
use Rattle.text.specs.Numbers.{big_endian, number}
use Rattle.text_characters.specs.Utf8.{Scalar, encode_all}
use Rattle.text.proofs.Classes.{and_is}
use Rattle.text.proofs.Numbers.{Byte, number_big, big_length, big_bytes}
use Rattle.list.specs.Listing.{Leaf, ref, txt, iban, ccy}
use Rattle.value.specs.types.Text.{Ref, Chars, is_ref, is_txt}
use Rattle.value.specs.mirror.Tests.{not_space}
use Rattle.value.specs.types.Code.{Iban, Ccy}
use Rattle.value.specs.Value.{Value, text, IsValue}
use Rattle.value.proofs.classes.Classes.{each_all, each_map, each_append, digit_range, capital_range, solid_either}
use Rattle.value.proofs.raw.Encoding.{encoded_most}
use Rattle.text_characters.proofs.Decoding.{encode1}
use Rattle.value.specs.mirror.Tests.{every, some, apart}
use Rattle.value.specs.mirror.Chars.{chars}
use Rattle.value.specs.mirror.Judges.{text_from, is_reference, is_writing, is_account, is_currency}
use Rattle.value.proofs.stored.Listed.{every_all, all_every, some_any, any_some}
use Rattle.value.proofs.stored.Exactly.{Stored, Passes, Exact, number_at}
use Rattle.value.proofs.classes.Codes.{iban_each}
use Rattle.value.proofs.stored.texts.Codes.{currency_exactly, account_exactly}
use Rattle.value.proofs.stored.texts.Slashes.{apart_to, apart_from}
use Rattle.value.proofs.stored.texts.Classes.{txt_scalar}
use Rattle.value.proofs.classes.Computed.{ref_low}
use Rattle.value.proofs.classes.Ink.{some_ink, ink_not, not_ink}
use Rattle.value.proofs.stored.texts.Decoded.{chars_encoded, encoded_bytes, chars_back}

-- ---- a text's bytes, whatever its kind

-- b encodes the characters of a value
pub record Spelt (f : Leaf) (b : List ℕ) : Type 0 where
  pub chars : List ℕ
  pub is : IsValue f (text chars)
  pub same : b ≡ encode_all chars

-- and a value is characters whose encoding passes
pub record Body (judge : List ℕ → Bool) (v : Value) : Type 0 where
  pub chars : List ℕ
  pub is : v ≡ text chars
  pub good : judge (encode_all chars) ≡ true
  pub scalars : Each Scalar chars
  pub few : length chars ≤ 140

module _ (f : Leaf) (judge : List ℕ → Bool) (to : (b : List ℕ) → judge b ≡ true → Spelt f b) (from : (v : Value) → IsValue f v → Body judge v) where
  text_sound : (u : List ℕ) → Each Byte u → length u ≡ 2 + number (take 2 u) → judge (drop 2 u) ≡ true → Stored f u
  text_sound u b e j =
      let s = to (drop 2 u) j in
      let n : length (encode_all s.chars) ≡ number (take 2 u) = omega (arith, ap length s.same, length-drop 2 u) in
      record {
        value = text s.chars;
        is = s.is;
        same =
            sym (ap (λ (k : ℕ). big_endian 2 k ++ encode_all s.chars) n
            ∙ ap₂ (λ (x y : List ℕ). x ++ y) (number_at u 0 2 b (omega arith)) (sym s.same)
            ∙ take-append-drop 2 u);
      }

  text_passes : (cs : List ℕ) → judge (encode_all cs) ≡ true → Each Scalar cs → length cs ≤ 140 → Passes 2 (λ t. 2 + number (take 2 t)) judge (text cs)
  text_passes cs j s l =
      let m = encoded_most cs in
      let n = length (encode_all cs) in
      let g = big_length 2 (length (encode_all cs)) in
      record {
        good = rw (drop_at (big_endian 2 (length (encode_all cs))) (encode_all cs) 2 g) j;
        long = λ t.
            ap (λ (x : List ℕ). 2 + number (take 2 x)) (append_assoc (big_endian 2 (length (encode_all cs))) (encode_all cs) t)
            ∙ ap (λ (x : List ℕ). 2 + number x) (take_at (big_endian 2 (length (encode_all cs))) (encode_all cs ++ t) 2 g)
            ∙ ap (λ (x : ℕ). 2 + x) (number_big 2 (length (encode_all cs)) (omega arith))
            ∙ omega (arith, length-append (big_endian 2 (length (encode_all cs))) (encode_all cs));
        small = each_append Byte (big_endian 2 (length (encode_all cs))) (encode_all cs) (big_bytes 2 (length (encode_all cs))) (encoded_bytes cs s);
        some = omega (arith, length-append (big_endian 2 (length (encode_all cs))) (encode_all cs));
      }

  pub text_exact : Exact f 2 (λ t. 2 + number (take 2 t)) judge
  text_exact =
      record {
        sound = text_sound;
        complete = λ v i. let b = from v i in subst (Passes 2 (λ t. 2 + number (take 2 t)) judge) (sym b.is) (text_passes b.chars b.good b.scalars b.few);
      }

-- ---- ASCII: the characters are their bytes

abbrev Low : ℕ → Type 0
Low x = x < 128

low_encoded : (cs : List ℕ) → Each Low cs → encode_all cs ≡ cs
low_encoded [] h = refl
low_encoded (c ∷ cs) h = rw (encode1 c h.0) (ap (λ (l : List ℕ). c ∷ l) (low_encoded cs h.1))

low_scalars : (cs : List ℕ) → Each Low cs → Each Scalar cs
low_scalars = each_map Low Scalar (λ x h. record { below = omega arith; outside = omega arith })

low_spelt : (f : Leaf) (b : List ℕ) → Each Low b → IsValue f (text b) → Spelt f b
low_spelt f b l i = record { chars = b; is = i; same = sym (low_encoded b l) }

low_body : (judge : List ℕ → Bool) (cs : List ℕ) → Each Low cs → judge cs ≡ true → length cs ≤ 140 → Body judge (text cs)
low_body judge cs l j n = record { chars = cs; is = refl; good = rw (low_encoded cs l) j; scalars = low_scalars cs l; few = n }

-- ---- REF

reference_to : (b : List ℕ) → is_reference b ≡ true → Ref b
unfolding is_reference
reference_to b e =
    let l = and_is (leb (length b) 35) _ e in
    let c = and_is (every is_ref b) _ l.1 in
    let i = and_is (some not_space b) (apart true b) c.1 in
    let a = apart_to b i.1 in
    let k = some_any not_space b i.0 in
    record {
      chars = record { some = some_ink b k; most = leb-true (length b) 35 l.0; class = every_all is_ref b c.0; ink = ink_not b k };
      first = a.first refl;
      last = a.last;
      twice = a.twice;
    }

reference_from : (b : List ℕ) → Ref b → is_reference b ≡ true
unfolding is_reference
reference_from b r =
    rw (le-leb (length b) 35 r.chars.most, all_every is_ref b r.chars.class, any_some not_space b (not_ink b r.chars.ink))
    (apart_from true b (λ _ z. omega (arith, r.chars.some, ap length z)) (record { first = λ _. r.first; last = r.last; twice = r.twice }))

ref_lows : (b : List ℕ) → Ref b → Each Low b
ref_lows b r = each_all is_ref Low ref_low b r.chars.class

reference_body : (v : Value) → IsValue ref v → Body is_reference v
reference_body v (IsValue.reference {cs = cs} r) = low_body is_reference cs (ref_lows cs r) (reference_from cs r) (omega (arith, r.chars.most))

pub reference_exact : Exact ref 2 (λ t. 2 + number (take 2 t)) is_reference
reference_exact =
    text_exact ref is_reference (λ b j. let r = reference_to b j in low_spelt ref b (ref_lows b r) (IsValue.reference r)) reference_body

-- ---- CCY

ccy_lows : (b : List ℕ) → Ccy b → Each Low b
ccy_lows b c = each_all is_capital Low (λ x e. let r = capital_range x e in omega arith) b c.capitals

currency_body : (v : Value) → IsValue ccy v → Body is_currency v
currency_body v (IsValue.currency {cs = cs} c) = low_body is_currency cs (ccy_lows cs c) ((currency_exactly cs).1 c) (omega (arith, c.three))

pub currency_exact : Exact ccy 2 (λ t. 2 + number (take 2 t)) is_currency
currency_exact =
    text_exact ccy is_currency (λ b j. let c = (currency_exactly b).0 j in low_spelt ccy b (ccy_lows b c) (IsValue.currency c)) currency_body

-- ---- IBAN

iban_lows : (b : List ℕ) → Iban b → Each Low b
iban_lows = iban_each Low (λ x e. let r = capital_range x e in omega arith) (λ x e. let r = digit_range x e in omega arith) (λ x e. omega (arith, (solid_either x e).high))

account_body : (v : Value) → IsValue iban v → Body is_account v
account_body v (IsValue.account {cs = cs} i) = low_body is_account cs (iban_lows cs i) ((account_exactly cs).1 i) (omega (arith, i.lengths.1))

pub account_exact : Exact iban 2 (λ t. 2 + number (take 2 t)) is_account
account_exact =
    text_exact iban is_account (λ b j. let i = (account_exactly b).0 j in low_spelt iban b (iban_lows b i) (IsValue.account i)) account_body

-- ---- TXTk

zero_txt : is_txt 0 ≡ false
unfolding is_txt
zero_txt = refl

writing_to : (k : ℕ) (b : List ℕ) → is_writing k b ≡ true → Spelt (txt k) b
unfolding is_writing text_from
writing_to k b e =
    let l = and_is (leb (0 + length (chars b)) k) _ e in
    let c = and_is (every is_txt (chars b)) (some not_space (chars b)) l.1 in
    let a = every_all is_txt (chars b) c.0 in
    let i = some_any not_space (chars b) c.1 in
    record {
      chars = chars b;
      is = IsValue.writing {k = k} {cs = chars b} (record { some = some_ink (chars b) i; most = omega (arith, leb-true (0 + length (chars b)) k l.0); class = a; ink = ink_not (chars b) i });
      same = sym (chars_back is_txt zero_txt b a);
    }

writing_from : (k : ℕ) (cs : List ℕ) → Chars is_txt k cs → is_writing k (encode_all cs) ≡ true
unfolding is_writing text_from
writing_from k cs t =
    rw (chars_encoded cs (each_all is_txt Scalar txt_scalar cs t.class), le-leb (0 + length cs) k (omega (arith, t.most)), all_every is_txt cs t.class) (any_some not_space cs (not_ink cs t.ink))

writing_body : (k : ℕ) → k ≤ 140 → (v : Value) → IsValue (txt k) v → Body (is_writing k) v
writing_body k h v (IsValue.writing {cs = cs} t) =
    record { chars = cs; is = refl; good = writing_from k cs t; scalars = each_all is_txt Scalar txt_scalar cs t.class; few = omega (arith, t.most) }

pub writing_exact : (k : ℕ) → k ≤ 140 → Exact (txt k) 2 (λ t. 2 + number (take 2 t)) (is_writing k)
writing_exact k h = text_exact (txt k) (is_writing k) (writing_to k) (writing_body k h)
