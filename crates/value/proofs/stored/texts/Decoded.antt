-- Bytes as the characters that they encode: there and back. Assumes nothing.
use mathlib.Core.Path.{◌≡◌, refl, sym, ◌∙◌, ap, subst}
use mathlib.Core.Bool.{Bool, true, false, true≢false}
use mathlib.Core.Logic.{◌⊎◌, inl, inr, ◌≢◌}
use mathlib.Core.List.{List, [], ◌∷◌, ◌++◌}
use Prim.Native.Nat.{ℕ, zero, suc, ◌-◌, ◌<◌, zero-le, suc-le-suc}
use native.Mathlib.Omega.{arith}
use lib.ListN.{length, drop, length-drop, length-append}
use lib.Seq.{drop-append_seam}
use Rattle.text.specs.Lists.{Each, All}
use Rattle.text_characters.specs.Utf8.{Scalar, encode, encode_all}
use Rattle.text_characters.specs.Chars.{char_of, Begun}
use Rattle.text_characters.specs.mirror.Decoding.{decoded}
use Rattle.text_characters.specs.declared.utf8.Char.{Char}
use Rattle.text.proofs.Numbers.{Byte}
use Rattle.text_characters.proofs.Chars.{rest_is, begun_code}
use Rattle.text_characters.proofs.Decoding.{complete, sound, by_length, encode_some, decoded_ascii}
use Rattle.value.proofs.classes.Classes.{each_append}
use Rattle.value.specs.mirror.Chars.{chars_from, chars}

skip : (k : ℕ) (t : List ℕ) → chars_from k t ≡ chars (drop k t)
unfolding chars_from
skip zero t = refl
skip (suc k) [] = refl
skip (suc k) (x ∷ t) = skip k t

-- the first character, where there is one, and the others
pub chars_step : (t : List ℕ) → 0 < length t → (decoded t).len ≢ 0 → chars t ≡ (decoded t).code ∷ chars (drop (decoded t).len t)
unfolding chars_from
chars_step [] h e = absurd (omega arith)
chars_step (x ∷ t) h e = ap (λ (l : List ℕ). (decoded (x ∷ t)).code ∷ l) (skip ((decoded (x ∷ t)).len - 1) t ∙ ap chars (go (decoded (x ∷ t)).len e))
  where
    go : (n : ℕ) → n ≢ 0 → drop (n - 1) t ≡ drop n (x ∷ t)
    go zero e = absurd (e refl)
    go (suc n) e = ap (λ (k : ℕ). drop k t) (let z : suc n - 1 ≡ n = omega arith in z)

-- the first character, whether there is one or not
pub chars_first : (t : List ℕ) → 0 < length t → (l : List ℕ) × (chars t ≡ (decoded t).code ∷ l)
unfolding chars_from
chars_first [] h = absurd (omega arith)
chars_first (x ∷ t) h = (chars_from ((decoded (x ∷ t)).len - 1) t, refl)

-- ---- there

pub chars_encoded : (cs : List ℕ) → Each Scalar cs → chars (encode_all cs) ≡ cs
unfolding chars_from
chars_encoded [] h = refl
chars_encoded (c ∷ cs) h =
    let e = complete c (encode_all cs) h.0 in
    let s = encode_some c in
    let n : (decoded (encode c ++ encode_all cs)).len ≡ length (encode c) = ap (λ (r : Char). r.len) e in
    chars_step (encode c ++ encode_all cs) (omega (arith, length-append (encode c) (encode_all cs))) (omega arith)
    ∙ ap (λ (r : Char). r.code ∷ chars (drop r.len (encode c ++ encode_all cs))) e
    ∙ ap (λ (l : List ℕ). c ∷ chars l) (drop-append_seam (encode c) (encode_all cs))
    ∙ ap (λ (l : List ℕ). c ∷ l) (chars_encoded cs h.1)

pub encode_bytes : (c : ℕ) → Scalar c → Each Byte (encode c)
encode_bytes c s =
    let b = s.below in
    by_length (λ (l : List ℕ). Each Byte l) c
    (λ h. (omega arith, tt))
    (λ h k. (omega arith, (omega arith, tt)))
    (λ h k. (omega arith, (omega arith, (omega arith, tt))))
    (λ h. (omega arith, (omega arith, (omega arith, (omega arith, tt)))))

pub encoded_bytes : (cs : List ℕ) → Each Scalar cs → Each Byte (encode_all cs)
encoded_bytes [] h = tt
encoded_bytes (c ∷ cs) h = each_append Byte (encode c) (encode_all cs) (encode_bytes c h.0) (encoded_bytes cs h.1)

-- ---- and back, where every character passes a test that 0 does not

module _ (p : ℕ → Bool) (no : p 0 ≡ false) where
  -- a character that passes begins there
  pub begun : (t : List ℕ) → p (decoded t).code ≡ true → Begun Scalar encode (λ (c : ℕ). c) t (decoded t)
  begun t e = go (sound t)
    where
      go : (decoded t ≡ char_of 0 0) ⊎ Begun Scalar encode (λ (c : ℕ). c) t (decoded t) → Begun Scalar encode (λ (c : ℕ). c) t (decoded t)
      go (inl z) = absurd (true≢false (sym e ∙ ap (λ (r : Char). p r.code) z ∙ no))
      go (inr b) = b

  pub begun_some : (t : List ℕ) → p (decoded t).code ≡ true → 0 < (decoded t).len
  begun_some t e = let b = begun t e in let z = encode_some b.sign in let y = ap (λ (r : Char). r.len) b.found in omega arith

  back_go : (n : ℕ) (t : List ℕ) → length t < n → All p (chars t) → encode_all (chars t) ≡ t
  unfolding chars_from
  back_go zero t h a = absurd (omega arith)
  back_go (suc n) [] h a = refl
  back_go (suc n) (x ∷ t) h a =
      let b = begun (x ∷ t) a.0 in
      let m = begun_some (x ∷ t) a.0 in
      let s = chars_step (x ∷ t) (suc-le-suc zero-le) (omega arith) in
      let d : drop (decoded (x ∷ t)).len (x ∷ t) ≡ b.rest = rest_is Scalar encode (λ (c : ℕ). c) (x ∷ t) (decoded (x ∷ t)) b in
      let i = back_go n b.rest (omega (arith, ap length d, length-drop (decoded (x ∷ t)).len (x ∷ t))) (subst (λ (l : List ℕ). All p l) (ap chars d) (subst (All p) s a).1) in
      ap encode_all (s ∙ ap (λ (l : List ℕ). (decoded (x ∷ t)).code ∷ chars l) d)
      ∙ ap (λ (c : ℕ). encode c ++ encode_all (chars b.rest)) (begun_code Scalar encode (λ (c : ℕ). c) (x ∷ t) (decoded (x ∷ t)) b)
      ∙ ap (λ (l : List ℕ). encode b.sign ++ l) i
      ∙ sym b.is

  pub chars_back : (t : List ℕ) → All p (chars t) → encode_all (chars t) ≡ t
  chars_back t a = back_go (suc (length t)) t (omega arith) a

-- ---- ASCII: one byte a character

pub chars_low : (x : ℕ) (t : List ℕ) → x < 128 → chars (x ∷ t) ≡ x ∷ chars t
unfolding chars_from
chars_low x t h = ap (λ (r : Char). r.code ∷ chars_from (r.len - 1) t) (decoded_ascii x t h)

pub chars_ascii : (t : List ℕ) → Each (λ x. x < 128) t → chars t ≡ t
unfolding chars_from
chars_ascii [] h = refl
chars_ascii (x ∷ t) h = chars_low x t h.0 ∙ ap (λ (l : List ℕ). x ∷ l) (chars_ascii t h.1)
