-- The longest beginning that is UTF-8: one character after the other, as far as they go. Assumes nothing.
use mathlib.Core.Path.{◌≡◌, refl, sym, ◌∙◌, ap, ap₂, subst}
use mathlib.Core.Bool.{Bool, true, false, cond}
use mathlib.Core.List.{List, [], ◌∷◌, ◌++◌, append_assoc}
use mathlib.Core.Logic.{◌⊎◌, inl, inr, ⊎_elim}
use Prim.Native.Nat.{ℕ, zero, suc, ◌+◌, ◌-◌, ◌≤◌, ◌<◌, zero-le}
use native.Mathlib.Omega.{arith}
use native.Mathlib.Nat.{zero-add, add-zero, add_assoc, suc-add}
use lib.ListN.{length, take, drop, take-append-drop, length-append, length-drop}
use lib.Seq.{length-take-le, take-length, drop-append_seam, take-append_seam, take-add, drop-drop}
use borrow.Author.Tests.{ltb-true}
use Rattle.text.specs.Bytes.{is_ascii}
use Rattle.text.specs.Lists.{Each, span, LongestBeginning}
use Rattle.text_characters.specs.Utf8.{Scalar, encode, encode_all, Utf8}
use Rattle.text_characters.specs.Chars.{Begun}
use Rattle.text_characters.specs.mirror.Decoding.{decoded}
use Rattle.text_characters.specs.declared.utf8.Char.{Char}
use Rattle.text_characters.proofs.Chars as chars
use Rattle.text.proofs.Spans.{span_le}
use Rattle.text_characters.proofs.Decoding.{complete, sound, decoded_end, decoded_ascii, encode_some}

-- the longest is all of it exactly where all of it is UTF-8
pub utf8_whole : (s : List ℕ) → LongestBeginning Utf8 s (length s) → Utf8 s
utf8_whole s l = subst Utf8 (take-length s) l.begins

pub whole_utf8 : (s : List ℕ) (n : ℕ) → LongestBeginning Utf8 s n → Utf8 s → n ≡ length s
whole_utf8 s n l u = omega (arith, l.within, l.most (length s) (omega arith) (subst Utf8 (sym (take-length s)) u))

-- ---- by the first character

-- the first character of a text of which k bytes are UTF-8, n bytes long
record Next (l : List ℕ) (k n : ℕ) : Type 0 where
  some : 0 < n
  within : n ≤ k
  rest : Utf8 (take (k - n) (drop n l))

module _ (l : List ℕ) (k : ℕ) (h : k ≤ length l) where
  by_first : (cs : List ℕ) → Each Scalar cs → take k l ≡ encode_all cs → (k ≡ 0) ⊎ Next l k (decoded l).len
  by_first [] sc e = inl (sym (length-take-le k l h) ∙ ap length e)
  by_first (c ∷ cs) sc e =
      let whole : l ≡ encode c ++ (encode_all cs ++ drop k l) =
      sym (take-append-drop k l) ∙ ap (λ (u : List ℕ). u ++ drop k l) e ∙ append_assoc (encode c) (encode_all cs) (drop k l) in
      let n : (decoded l).len ≡ length (encode c) =
      ap (λ (u : List ℕ). (decoded u).len) whole ∙ ap (λ (r : Char). r.len) (complete c (encode_all cs ++ drop k l) sc.0) in
      let lk : k ≡ length (encode c) + length (encode_all cs) =
      sym (length-take-le k l h) ∙ ap length e ∙ length-append (encode c) (encode_all cs) in
      let d : drop (decoded l).len l ≡ encode_all cs ++ drop k l =
      ap (λ (m : ℕ). drop m l) n ∙ ap (drop (length (encode c))) whole ∙ drop-append_seam (encode c) (encode_all cs ++ drop k l) in
      let j : k - (decoded l).len ≡ length (encode_all cs) = omega arith in
      inr (record { some = rw n (encode_some c); within = omega arith; rest = record { chars = cs; scalars = sc.1; is = rw (j, d) (take-append_seam (encode_all cs) (drop k l)) } })

  next_of : Utf8 (take k l) → (k ≡ 0) ⊎ Next l k (decoded l).len
  next_of u = by_first u.chars u.scalars u.is

pub stop : (l : List ℕ) → (decoded l).len ≡ 0 → LongestBeginning Utf8 l 0
stop l e =
    record {
      within = zero-le;
      begins = record { chars = []; scalars = tt; is = refl };
      most = λ k h u. ⊎_elim (λ z. omega arith) (λ w. omega (arith, w.some, w.within)) (next_of l k h u);
    }

begins_of : (l : List ℕ) → 0 < (decoded l).len → Begun Scalar encode (λ (c : ℕ). c) l (decoded l)
begins_of l h = ⊎_elim (λ e. absurd (let z : (decoded l).len ≡ 0 = ap (λ (r : Char). r.len) e in omega arith)) (λ b. b) (sound l)

pub more : (l : List ℕ) (m : ℕ) → 0 < (decoded l).len → LongestBeginning Utf8 (drop (decoded l).len l) m → LongestBeginning Utf8 l ((decoded l).len + m)
more l m p o =
    let b = begins_of l p in
    let n : (decoded l).len ≡ length (encode b.sign) = ap (λ (r : Char). r.len) b.found in
    let t : take (decoded l).len l ≡ encode b.sign = ap₂ take n b.is ∙ take-append_seam (encode b.sign) b.rest in
    record {
      within = omega (arith, o.within, length-drop (decoded l).len l, chars.begun_within Scalar encode (λ (c : ℕ). c) l (decoded l) b);
      begins =
          record { chars = b.sign ∷ o.begins.chars; scalars = (b.good, o.begins.scalars); is = take-add (decoded l).len m l ∙ ap₂ ◌++◌ t o.begins.is };
      most =
          λ k h u. ⊎_elim (λ z. omega arith)
          (λ w. omega (arith, w.within, o.most (k - (decoded l).len) (omega (arith, length-drop (decoded l).len l)) w.rest))
          (next_of l k h u);
    }

ascii_one : (x : ℕ) (l : List ℕ) (n : ℕ) → is_ascii x ≡ true → LongestBeginning Utf8 l n → LongestBeginning Utf8 (x ∷ l) (suc n)
unfolding is_ascii
ascii_one x l n e o =
    let d : (decoded (x ∷ l)).len ≡ 1 = ap (λ (r : Char). r.len) (decoded_ascii x l (ltb-true x 0x80 e)) in
    let k : (decoded (x ∷ l)).len + n ≡ suc n = omega arith in
    subst (LongestBeginning Utf8 (x ∷ l)) k (more (x ∷ l) n (omega arith) (subst (λ (j : ℕ). LongestBeginning Utf8 (drop j (x ∷ l)) n) (sym d) o))

pub ascii_more : (l : List ℕ) (m : ℕ) → LongestBeginning Utf8 (drop (span is_ascii l) l) m → LongestBeginning Utf8 l (span is_ascii l + m)
unfolding span
ascii_more [] m o = rw zero-add o
ascii_more (x ∷ l) m o = go (is_ascii x) refl (ascii_more l m) o
  where
    go : (b : Bool) → is_ascii x ≡ b → (LongestBeginning Utf8 (drop (span is_ascii l) l) m → LongestBeginning Utf8 l (span is_ascii l + m))
        → LongestBeginning Utf8 (drop (cond b (suc (span is_ascii l)) zero) (x ∷ l)) m → LongestBeginning Utf8 (x ∷ l) (cond b (suc (span is_ascii l)) zero + m)
    go true e ih o = rw suc-add (ascii_one x l (span is_ascii l + m) e (ih o))
    go false e ih o = rw zero-add o

-- ---- the loop: what is right of the rest gives what is right of the whole

pub record Left (s : List ℕ) (i : ℕ) : Type 0 where
  pub within : i ≤ length s
  pub then : (m : ℕ) → LongestBeginning Utf8 (drop i s) m → LongestBeginning Utf8 s (i + m)

pub left_start : (s : List ℕ) → Left s 0
left_start s = record { within = zero-le; then = λ m o. rw zero-add o }

module _ (s : List ℕ) (i : ℕ) (w : Left s i) where
  -- over a run of ASCII
  pub left_ascii : (j : ℕ) → j ≡ i + span is_ascii (drop i s) → Left s j
  left_ascii j e =
      record {
        within = omega (arith, w.within, span_le is_ascii (drop i s), length-drop i s);
        then = λ m o. rw (e, add_assoc) (w.then (span is_ascii (drop i s) + m) (ascii_more (drop i s) m (rw drop-drop (rw e at o))));
      }

  module _ (n : ℕ) (len_is : n ≡ (decoded (drop i s)).len) where
    pub left_room : (n ≡ 0 → ⊥) → i + n ≤ length s
    left_room h =
        omega (arith, w.within, length-drop i s, len_is, chars.begun_within Scalar encode (λ (c : ℕ). c) (drop i s) (decoded (drop i s)) (begins_of (drop i s) (omega (arith, len_is))))

    -- over one character
    pub left_char : (n ≡ 0 → ⊥) → Left s (i + n)
    left_char h =
        record {
          within = left_room h;
          then =
              λ m o. rw (len_is, add_assoc)
              (w.then ((decoded (drop i s)).len + m) (more (drop i s) m (omega (arith, len_is)) (rw drop-drop (rw len_is at o))));
        }

    pub left_stop : n ≡ 0 → LongestBeginning Utf8 s i
    left_stop z = rw add-zero at (w.then 0 (stop (drop i s) (sym len_is ∙ z)))

  pub left_end : length s ≤ i → LongestBeginning Utf8 s i
  left_end h = rw add-zero at (w.then 0 (stop (drop i s) (ap (λ (x : Char). x.len) (decoded_end s i h))))
