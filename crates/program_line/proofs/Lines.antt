-- An answer's line, written from the start of a buffer on, piece by piece. Assumes nothing.
use mathlib.Core.Path.{◌≡◌, refl, sym, ◌∙◌, ap}
use mathlib.Core.List.{List, [], ◌∷◌, ◌++◌, append_assoc}
use Prim.Native.Nat.{ℕ, ◌+◌, ◌≤◌}
use native.Mathlib.Nat.{zero-add}
use native.Mathlib.Omega.{arith}
use lib.ListN.{length, length-append, take}
use lib.Seq.{slice, length-take-le}
use Rattle.text.specs.Bytes.{ascii}
use Rattle.text.specs.Digits.{in_digits}
use Rattle.text.specs.Pasting.{pasted}
use Rattle.text.proofs.Pasting.{pasted_then, slice_pasted, length_pasted}
use Rattle.answer.specs.declared.Answer.{Answer}
use Rattle.program_line.specs.Line.{numbers, refusal}

module _ (d u : List ℕ) (n : ℕ) (e : n ≡ length u) where
  pub list_behind : (v : List ℕ) → n + length v ≤ length d → pasted (pasted d 0 u) n v ≡ pasted d 0 (u ++ v)
  list_behind v h = ap (λ (k : ℕ). pasted (pasted d 0 u) k v) (e ∙ sym (zero-add (length u))) ∙ pasted_then d 0 u v (omega arith)

-- the three numbers of an answer
module _ (a : Answer) where
  abbrev c : List ℕ
  c = in_digits a.code

  abbrev r : List ℕ
  r = in_digits a.row

  abbrev p : List ℕ
  p = in_digits a.place

  pub length_numbers : length (numbers a) ≡ length c + 1 + length r + 1 + length p
  unfolding numbers
  length_numbers = simp length-append (omega arith)

  pub written : (d : List ℕ) (m n : ℕ) → m ≡ length c → n ≡ m + (1 + length r) → n + (1 + length p) ≤ length d →
      pasted (pasted (pasted d 0 c) m (32 ∷ r)) n (32 ∷ p) ≡ pasted d 0 (numbers a)
  unfolding numbers
  written d m n e f h =
      let l : n ≡ length (c ++ (32 ∷ r)) = omega (arith, length-append c (32 ∷ r)) in
      ap (λ (k : List ℕ). pasted k n (32 ∷ p)) (list_behind d c m e (32 ∷ r) (omega arith))
      ∙ list_behind d (c ++ (32 ∷ r)) n l (32 ∷ p) (omega arith)
      ∙ ap (pasted d 0) (append_assoc c (32 ∷ r) (32 ∷ p))

-- a blank, and the bytes after it
pub blank_then : (d v : List ℕ) (n : ℕ) → n + (1 + length v) ≤ length d → pasted (pasted d n (32 ∷ [])) (n + 1) v ≡ pasted d n (32 ∷ v)
blank_then d v n h = pasted_then d n (32 ∷ []) v (omega arith)

-- what was written from the start on, taken out again
pub taken_out : (d vs : List ℕ) (n : ℕ) → n ≡ length vs → n ≤ length d → slice 0 n (pasted d 0 vs) ≡ vs
taken_out d vs n e h =
    ap (λ (k : ℕ). slice 0 k (pasted d 0 vs)) (e ∙ sym (zero-add (length vs))) ∙ slice_pasted d 0 vs (omega arith)

-- how many bytes of a buffer a program writes: as many are there, which is what io's contracts say of a count
pub counts : (n : ℕ) (xs : List ℕ) → n ≤ length xs → (n ≤ length xs) × (n ≡ length (take n xs))
counts n xs h = (h, sym (length-take-le n xs h))

-- the line of a refusal: the word, the numbers, the line end
module _ (a : Answer) where
  pub length_refusal : length (refusal a) ≡ 8 + length (numbers a) + 1
  unfolding refusal
  length_refusal = simp length-append (omega arith)

  pub refused : (d : List ℕ) (n : ℕ) → n ≡ 8 + length (numbers a) → n + 1 ≤ length d →
      pasted (pasted (pasted d 0 (ascii "refused ")) 8 (numbers a)) n (10 ∷ []) ≡ pasted d 0 (refusal a)
  unfolding refusal
  refused d n e h =
      let w = ascii "refused " in
      let l : n ≡ length (w ++ numbers a) = omega (arith, length-append w (numbers a)) in
      ap (λ (k : List ℕ). pasted k n (10 ∷ [])) (list_behind d w 8 refl (numbers a) (omega arith))
      ∙ list_behind d (w ++ numbers a) n l (10 ∷ []) (omega arith)
      ∙ ap (pasted d 0) (append_assoc w (numbers a) (10 ∷ []))

  -- put to the start of a buffer, it is what the buffer begins with, and it counts bytes of that buffer
  module _ (d d' : List ℕ) (r : ℕ) (h : r ≤ length d) (f : d' ≡ pasted d 0 (refusal a)) where
    pub line_taken : r ≡ length (refusal a) → take r d' ≡ refusal a
    line_taken e = ap (take r) f ∙ taken_out d (refusal a) r e h

    pub line_counts : (r ≤ length d') × (r ≡ length (take r d'))
    line_counts = counts r d' (omega (arith, ap length f, length_pasted d 0 (refusal a)))
