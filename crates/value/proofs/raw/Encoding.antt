-- Texts by their bytes: how many they have, and that a length with its bytes tells the text and ends where it ends. Assumes nothing.
use mathlib.Core.Path.{◌≡◌, refl, sym, ◌∙◌, ap}
use mathlib.Core.List.{List, [], ◌∷◌, ◌++◌, append_assoc}
use Prim.Native.Nat.{ℕ, ◌*◌, ◌≤◌, ◌<◌}
use native.Mathlib.Omega.{arith}
use lib.ListN.{length, length-append, take, drop}
use lib.Seq.{take_at, drop_at}
use Rattle.text.specs.Lists.{Each}
use Rattle.text_characters.specs.Utf8.{Scalar, encode, encode_all}
use Rattle.text.specs.Numbers.{big_endian}
use Rattle.text.proofs.Numbers.{big_prefix}
use Rattle.text_characters.proofs.Decoding.{by_length, encode_some, encode_prefix}

-- a character has four bytes at most
four_bytes : (c : ℕ) → length (encode c) ≤ 4
four_bytes c = by_length (λ (l : List ℕ). length l ≤ 4) c (λ h. omega arith) (λ h k. omega arith) (λ h k. omega arith) (λ h. omega arith)

pub encoded_most : (cs : List ℕ) → length (encode_all cs) ≤ 4 * length cs
encoded_most [] = omega arith
encoded_most (c ∷ cs) = omega (arith, encoded_most cs, four_bytes c, length-append (encode c) (encode_all cs))

pub encoded_long : (cs : List ℕ) → length cs ≤ length (encode_all cs)
encoded_long [] = omega arith
encoded_long (c ∷ cs) = omega (arith, encoded_long cs, encode_some c, length-append (encode c) (encode_all cs))

-- lists of one length that begin one list
pub same_front : (s t a b : List ℕ) → length s ≡ length t → s ++ a ≡ t ++ b → (s ≡ t) × (a ≡ b)
same_front s t a b h e = (sym (take_at s a (length t) h) ∙ ap (take (length t)) e ∙ take_at t b (length t) refl, sym (drop_at s a (length t) h) ∙ ap (drop (length t)) e ∙ drop_at t b (length t) refl)

no_bytes : {A : Type 0} (d : ℕ) (l : List ℕ) → [] ≡ encode d ++ l → A
no_bytes d l e = absurd (omega (arith, encode_some d, ap length e, length-append (encode d) l))

same_chars : (cs ds : List ℕ) → Each Scalar cs → Each Scalar ds → encode_all cs ≡ encode_all ds → cs ≡ ds
same_chars [] [] v w e = refl
same_chars [] (d ∷ ds) v w e = no_bytes d (encode_all ds) e
same_chars (c ∷ cs) [] v w e = no_bytes c (encode_all cs) (sym e)
same_chars (c ∷ cs) (d ∷ ds) v w e =
    let s = encode_prefix c d (encode_all cs) (encode_all ds) v.0 w.0 e in
    let p = s.0 in
    let q = same_chars cs ds v.1 w.1 s.1 in
    cc

-- length first, then the bytes
pub same_text : (cs ds a b : List ℕ) → Each Scalar cs → Each Scalar ds → length (encode_all cs) < 65536 → length (encode_all ds) < 65536
    → (big_endian 2 (length (encode_all cs)) ++ encode_all cs) ++ a ≡ (big_endian 2 (length (encode_all ds)) ++ encode_all ds) ++ b → (cs ≡ ds) × (a ≡ b)
same_text cs ds a b v w h k e =
    let s = big_prefix 2 (length (encode_all cs)) (length (encode_all ds)) (encode_all cs ++ a) (encode_all ds ++ b) h k
    (sym (append_assoc (big_endian 2 (length (encode_all cs))) (encode_all cs) a) ∙ e ∙ append_assoc (big_endian 2 (length (encode_all ds))) (encode_all ds) b) in
    let t = same_front (encode_all cs) (encode_all ds) a b s.0 s.1 in
    (same_chars cs ds v w t.0, t.1)
