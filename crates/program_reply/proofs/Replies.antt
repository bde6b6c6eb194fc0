-- A line, written from the start of a buffer on, piece by piece; where it fits and where it does not. Assumes nothing.
use mathlib.Core.Path.{◌≡◌, refl, sym, ◌∙◌, ap, ap₂, subst}
use mathlib.Core.Bool.{Bool}
use mathlib.Core.List.{List, [], ◌∷◌, ◌++◌, append_assoc}
use Prim.Native.Nat.{ℕ, ◌+◌, ◌≤◌, ◌<◌}
use native.Mathlib.Omega.{arith}
use lib.ListN.{length, take, length-append}
use borrow.Author.Tests.{le-leb, lt-leb}
use Rattle.std.specs.Prelude.{Option, Some, None, IsSome, leb, unwrap_or}
use Rattle.std.specs.Bool.{then_some}
use Rattle.text.specs.Bytes.{ascii}
use Rattle.text.specs.Digits.{in_digits}
use Rattle.text.specs.Pasting.{pasted}
use Rattle.text.proofs.Pasting.{pasted_no, length_pasted}
use Rattle.answer.specs.declared.Answer.{Answer}
use Rattle.program_line.specs.Line.{numbers}
use Rattle.program_line.specs.Hex.{hexadecimal}
use Rattle.program_line.proofs.Hexadecimal.{length_hex}
use Rattle.program_line.proofs.Lines.{list_behind, taken_out}
use Rattle.program_reply.specs.Reply.{answer_line, pair_line, broken_line, Put}

-- ---- an answer with what it hands back

module _ (a : Answer) (p : List ℕ) where
  pub length_answer : length (answer_line a p) ≡ length (numbers a) + 1 + (length p + length p) + 1
  unfolding answer_line
  length_answer = simp (length-append, length_hex) (omega arith)

  pub answer_most : length (numbers a) ≤ 62 → length (answer_line a p) ≤ 64 + (length p + length p)
  answer_most h = omega (arith, length_answer)

  pub answered : (d : List ℕ) (n m end : ℕ) → n ≡ length (numbers a) → m ≡ length p → end ≡ n + 1 + m + m → end + 1 ≤ length d →
      pasted (pasted (pasted (pasted d 0 (numbers a)) n (32 ∷ [])) (n + 1) (hexadecimal p)) end (10 ∷ []) ≡ pasted d 0 (answer_line a p)
  unfolding answer_line
  answered d n m end e f g h =
      let u = numbers a in
      let us = u ++ (32 ∷ []) in
      let ush = us ++ hexadecimal p in
      let ls : n + 1 ≡ length us = omega (arith, length-append u (32 ∷ [])) in
      let lh : end ≡ length ush = omega (arith, length-append us (hexadecimal p), length_hex p) in
      ap (λ (l : List ℕ). pasted (pasted l (n + 1) (hexadecimal p)) end (10 ∷ [])) (list_behind d u n e (32 ∷ []) (omega arith))
      ∙ ap (λ (l : List ℕ). pasted l end (10 ∷ [])) (list_behind d us (n + 1) ls (hexadecimal p) (omega (arith, length_hex p)))
      ∙ list_behind d ush end lh (10 ∷ []) h
      ∙ ap (pasted d 0) (simp append_assoc)

-- ---- an answer with two parts

module _ (a : Answer) (p q : List ℕ) where
  pub length_pair : length (pair_line a p q) ≡ length (numbers a) + 1 + (length p + length p) + 1 + (length q + length q) + 1
  unfolding pair_line
  length_pair = simp (length-append, length_hex) (omega arith)

  pub pair_most : length (numbers a) ≤ 62 → length (pair_line a p q) ≤ 65 + (length p + length p) + (length q + length q)
  pair_most h = omega (arith, length_pair)

  -- the first part and the mark, then the second and the line end
  pub paired : (d : List ℕ) (n k end : ℕ) → n ≡ length (numbers a) → k ≡ n + 1 + length p + length p → end ≡ k + 1 + length q + length q → end + 1 ≤ length d →
      pasted (pasted (pasted (pasted (pasted (pasted d 0 (numbers a)) n (32 ∷ [])) (n + 1) (hexadecimal p)) k (47 ∷ [])) (k + 1) (hexadecimal q)) end (10 ∷ []) ≡ pasted d 0 (pair_line a p q)
  unfolding pair_line
  paired d n k end e f g h =
      let u = numbers a in
      let us = u ++ (32 ∷ []) in
      let up = us ++ hexadecimal p in
      let um = up ++ (47 ∷ []) in
      let uq = um ++ hexadecimal q in
      let ls : n + 1 ≡ length us = omega (arith, length-append u (32 ∷ [])) in
      let lp : k ≡ length up = omega (arith, length-append us (hexadecimal p), length_hex p) in
      let lm : k + 1 ≡ length um = omega (arith, length-append up (47 ∷ [])) in
      let lq : end ≡ length uq = omega (arith, length-append um (hexadecimal q), length_hex q) in
      ap (λ (l : List ℕ). pasted (pasted (pasted (pasted l (n + 1) (hexadecimal p)) k (47 ∷ [])) (k + 1) (hexadecimal q)) end (10 ∷ [])) (list_behind d u n e (32 ∷ []) (omega arith))
      ∙ ap (λ (l : List ℕ). pasted (pasted (pasted l k (47 ∷ [])) (k + 1) (hexadecimal q)) end (10 ∷ [])) (list_behind d us (n + 1) ls (hexadecimal p) (omega (arith, length_hex p)))
      ∙ ap (λ (l : List ℕ). pasted (pasted l (k + 1) (hexadecimal q)) end (10 ∷ [])) (list_behind d up k lp (47 ∷ []) (omega arith))
      ∙ ap (λ (l : List ℕ). pasted l end (10 ∷ [])) (list_behind d um (k + 1) lm (hexadecimal q) (omega (arith, length_hex q)))
      ∙ list_behind d uq end lq (10 ∷ []) h
      ∙ ap (pasted d 0) (simp append_assoc)

-- ---- a feed that is broken

pub length_broken : (n : ℕ) → length (broken_line n) ≡ 20 + length (in_digits n) + 1
unfolding broken_line
length_broken n = simp length-append (omega arith)

pub broken : (n : ℕ) (d : List ℕ) (end : ℕ) → end ≡ 20 + length (in_digits n) → end + 1 ≤ length d →
    pasted (pasted (pasted d 0 (ascii "feed broken at case ")) 20 (in_digits n)) end (10 ∷ []) ≡ pasted d 0 (broken_line n)
unfolding broken_line
broken n d end e h =
    let w = ascii "feed broken at case " in
    let l : end ≡ length (w ++ in_digits n) = omega (arith, length-append w (in_digits n)) in
    ap (λ (k : List ℕ). pasted k end (10 ∷ [])) (list_behind d w 20 refl (in_digits n) (omega arith))
    ∙ list_behind d (w ++ in_digits n) end l (10 ∷ []) h
    ∙ ap (pasted d 0) (append_assoc w (in_digits n) (10 ∷ []))

-- ---- where a line fits, and where it does not

module _ (l d : List ℕ) where
  abbrev length_where : Bool → Option ℕ
  length_where b = then_some b (length l)

  pub put_whole : (r : ℕ) (after : List ℕ) → length l ≤ length d → r ≡ length l → after ≡ pasted d 0 l → Put l d (Some r) after
  put_whole r after h e f =
      record { length' = ap Some e ∙ sym (ap length_where (le-leb (length l) (length d) h)); buffer = f }

  pub put_none : length d < length l → Put l d None d
  put_none h =
      record { length' = sym (ap length_where (lt-leb (length l) (length d) h)); buffer = sym (pasted_no d 0 l (omega arith)) }

  -- by the length of the line, asked of the buffer afterwards
  pub put_where : (n : ℕ) (r : Option ℕ) (after : List ℕ) → n ≡ length l → r ≡ then_some (leb n (length after)) n → after ≡ pasted d 0 l → Put l d r after
  put_where n r after e f g =
      record {
        length' = f ∙ ap₂ (λ (m k : ℕ). then_some (leb m k) m) e (ap length g ∙ length_pasted d 0 l);
        buffer = g;
      }

-- a line that fits stands at the start, and its length is told
module _ (l d : List ℕ) (r : Option ℕ) (after : List ℕ) (h : length l ≤ length d) (p : Put l d r after) where
  pub put_fits : r ≡ Some (length l)
  put_fits = p.length' ∙ ap (λ b. then_some b (length l)) (le-leb (length l) (length d) h)

  pub put_told : IsSome r
  put_told = subst IsSome (sym put_fits) refl

  pub put_length : (n : ℕ) → r ≡ Some n → n ≡ length l
  put_length n e = ap (λ (o : Option ℕ). unwrap_or o 0) (sym e ∙ put_fits)

  pub put_taken : (n : ℕ) → r ≡ Some n → take n after ≡ l
  put_taken n e = ap (take n) p.buffer ∙ taken_out d l n (put_length n e) (omega (arith, put_length n e))

-- only one result and one buffer fit
pub put_one : (l d : List ℕ) (r r' : Option ℕ) (a a' : List ℕ) → Put l d r a → Put l d r' a' → (r ≡ r') × (a ≡ a')
put_one l d r r' a a' p q = (p.length' ∙ sym q.length', p.buffer ∙ sym q.buffer)
