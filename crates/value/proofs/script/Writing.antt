-- What is written, kind by kind. Assumes nothing.
use mathlib.Core.Path.{◌≡◌, refl, sym, ◌∙◌, ap, ap₂}
use mathlib.Core.Bool.{Bool, true, false, cond, not}
use mathlib.Core.Logic.{◌≢◌}
use mathlib.Core.List.{List, [], ◌∷◌}
use Prim.Native.Nat.{ℕ, zero, suc, ◌+◌, ◌-◌, ◌≤◌, zero-le}
use native.Mathlib.Nat.{lt_of_not-le}
use native.Mathlib.Omega.{arith}
use native.Mathlib.Decide.{dec_lt}
use lib.Dec.{eqb}
use lib.ListN.{length, get_or, take, drop, length-take, get_or-eq_default}
use lib.Seq.{slice, take-length}
use borrow.Author.Tests.{eq-eqb, ne_eqb}
use Rattle.text.specs.Numbers.{number}
use Rattle.text.specs.Pasting.{pasted}
use Rattle.text.proofs.Parts.{part_take, part_length}
use Rattle.text.proofs.Pasting.{pasted_none}
use Rattle.list.specs.tables.Table.{cell, words, longer, words_in}
use Rattle.list.proofs.words.Split.{nth_words}
use Rattle.value.specs.mirror.Stored.{truth_text}
use Rattle.value.specs.script.Raw.{escaped}
use Rattle.value.specs.mirror.Stored.{text_raw, word_raw, raws, raw_text}

-- what was written, under another name: r bytes, at most so many
module _ (d d' : List ℕ) (at r m n : ℕ) (u v : List ℕ) (e : v ≡ u) (l : m ≤ n) where
  pub wrote_as : (r ≡ length u) × ((r ≤ m) × (d' ≡ pasted d at u)) → (r ≡ length v) × ((r ≤ n) × (d' ≡ pasted d at v))
  wrote_as w = (w.0 ∙ ap length (sym e), (omega (arith, w.1.0), w.1.1 ∙ ap (pasted d at) (sym e)))

-- nothing
pub wrote_none : (d : List ℕ) (at n : ℕ) (v : List ℕ) → v ≡ [] → (0 ≡ length v) × ((0 ≤ n) × (d ≡ pasted d at v))
wrote_none d at n v e = wrote_as d d at 0 0 n [] v e zero-le (refl, (zero-le, sym (pasted_none d at)))

-- ---- a text, as long as its first two bytes say

pub text_part : (b t : List ℕ) (n : ℕ) → n ≡ number (take 2 b) → t ≡ slice 2 (2 + n) b → text_raw b ≡ escaped t
unfolding text_raw
text_part b t n e f = ap (λ (k : ℕ). escaped (take k (drop 2 b))) (sym e) ∙ ap escaped (sym (part_take 2 n b) ∙ sym f)

pub part_most : (b t : List ℕ) (n : ℕ) → t ≡ slice 2 (2 + n) b → length t ≤ n
part_most b t n f = omega (arith, ap length (f ∙ part_take 2 n b), length-take n (drop 2 b))

-- ---- a word

pub word_none : (ws : List (List ℕ)) (b : List ℕ) (n : ℕ) → n ≡ get_or b 0 0 → n ≡ 0 → word_raw ws b ≡ []
unfolding word_raw
word_none ws b n e z = rw (eq-eqb (get_or b 0 0) 0 (sym e ∙ z)) refl

pub word_some : (ws : List (List ℕ)) (b : List ℕ) (n : ℕ) (w : List ℕ) → n ≡ get_or b 0 0 → n ≢ 0 → w ≡ get_or ws (n - 1) [] → word_raw ws b ≡ w
unfolding word_raw
word_some ws b n w e z f = rw (ne_eqb (get_or b 0 0) 0 (λ q. z (e ∙ q))) (ap (λ (k : ℕ). get_or ws (k - 1) []) (sym e) ∙ sym f)

-- a word of a text is no longer than the text
longer_most : (x : ℕ) (ws : List (List ℕ)) (n m : ℕ) → ((k : ℕ) → length (get_or ws k []) ≤ m) → length (get_or (longer x ws) n []) ≤ suc m
longer_most x [] n m h = omega (arith, h n)
longer_most x (w ∷ ws) zero m h = omega (arith, h 0)
longer_most x (w ∷ ws) (suc n) m h = omega (arith, h (suc n))

words_most : (s : List ℕ) (n : ℕ) → length (get_or (words s) n []) ≤ length s
unfolding words
words_most [] zero = zero-le
words_most [] (suc n) = zero-le
words_most (x ∷ s) n = go (eqb x 32) n (words_most s)
  where
    go : (b : Bool) (n : ℕ) → ((k : ℕ) → length (get_or (words s) k []) ≤ length s) → length (get_or (cond b ([] ∷ words s) (longer x (words s))) n []) ≤ suc (length s)
    go true zero h = zero-le
    go true (suc n) h = omega (arith, h n)
    go false n h = longer_most x (words s) n (length s) h

pub word_most : (t pool : List ℕ) (r n : ℕ) (w : List ℕ) → w ≡ get_or (words_in t pool r) n [] → length w ≤ length pool
word_most t pool r n w e =
    let a = cell t r 6 in
    let b = cell t r 7 in
    omega (arith, ap length (e ∙ sym (nth_words (slice a b pool) n)), words_most (slice a b pool) n, part_length a b pool)

-- ---- yes or no

pub truth_no : (b : List ℕ) (n : ℕ) → n ≡ get_or b 0 0 → n ≡ 0 → truth_text (not (eqb (get_or b 0 0) 0)) ≡ truth_text (not (eqb 0 0))
truth_no b n e z = ap (λ (k : ℕ). truth_text (not (eqb k 0))) (sym e ∙ z)

pub truth_yes : (b : List ℕ) (n : ℕ) → n ≡ get_or b 0 0 → n ≢ 0 → truth_text (not (eqb (get_or b 0 0) 0)) ≡ truth_text (not (eqb 1 0))
truth_yes b n e z = ap (λ (k : Bool). truth_text (not k)) (ne_eqb (get_or b 0 0) 0 (λ q. z (e ∙ q)))

-- ---- by the number of a kind

other_kind : (c : ℕ) (ws : List (List ℕ)) (b : List ℕ) → (2 ≤ c → c ≤ 11 → ⊥) → raw_text c ws b ≡ []
unfolding raw_text
other_kind c ws b f = elim (dec_lt c 1) [
  | yes h ↦ let e : c ≡ 0 = omega arith in ap (λ (m : ℕ). raw_text m ws b) e
  | no h ↦ elim (dec_lt c 2) [
    | yes k ↦ let e : c ≡ 1 = omega arith in ap (λ (m : ℕ). raw_text m ws b) e
    | no k ↦ get_or-eq_default (raws ws b) [] (lt_of_not-le (λ (m : c ≤ 11). f (omega arith) m))
  ]
]

-- the value at a place of a run, b being the run from there on; k is the kind's number c
module _ (s b : List ℕ) (i k c : ℕ) (ws : List (List ℕ)) (eb : b ≡ slice i (length s) s) (ek : k ≡ c) where
  behind : drop i s ≡ b
  behind = ap (drop i) (sym (take-length s)) ∙ sym eb

  pub by_key : (n : ℕ) → k ≡ n → raw_text c ws (drop i s) ≡ raw_text n ws b
  by_key n e = ap₂ (λ (m : ℕ) (l : List ℕ). raw_text m ws l) (sym ek ∙ e) behind

  pub by_text : 2 ≤ k → k ≤ 5 → raw_text c ws (drop i s) ≡ text_raw b
  unfolding raw_text
  by_text l m = elim (dec_lt k 3) [
    | yes h ↦ by_key 2 (omega arith)
    | no h ↦ elim (dec_lt k 4) [ yes g ↦ by_key 3 (omega arith) | no g ↦ elim (dec_lt k 5) [ yes f ↦ by_key 4 (omega arith) | no f ↦ by_key 5 (omega arith) ] ]
  ]

  pub by_none : (2 ≤ k → k ≤ 11 → ⊥) → raw_text c ws (drop i s) ≡ []
  by_none f = by_key k refl ∙ other_kind k ws b f
