-- A text's words, one after the other. Assumes nothing.
use mathlib.Core.Path.{◌≡◌, refl, sym, ◌∙◌, ap, ap₂}
use mathlib.Core.Bool.{Bool, true, false, cond}
use mathlib.Core.List.{List, [], ◌∷◌}
use Prim.Native.Nat.{ℕ, zero, suc, ◌+◌, ◌<◌}
use native.Mathlib.Numerals.{add-one}
use native.Mathlib.Omega.{arith}
use lib.Dec.{eqb, ltb}
use lib.ListN.{length, get_or}
use Rattle.std.proofs.Common.{Option, Some, None, MatchOption, Bor}
use Rattle.std.specs.List.{slice_split, onto_first, slice_get, position_from, position_or_len}
use Rattle.std.specs.Option.{option_map, unwrap_or}
use Rattle.std.proofs.lemmas.List.Splits.{slice_split-cons_yes, slice_split-cons_no}
use Rattle.std.proofs.lemmas.Option.{unwrap_or-slice_get}
use Rattle.std.proofs.lemmas.Iterator.Adapters.{position_from-zero}
use Rattle.text.specs.Lists.{same}
use Rattle.list.specs.tables.Table.{words, words_of, longer, place_from, place_in}
use Rattle.list.proofs.sound.Tests.{by_cases}
use Rattle.list.proofs.words.Places.{place_here, place_on}

-- ---- the words of a text are its parts between spaces

abbrev is_space : ℕ → Bool
is_space x = eqb x 32

-- a part grows as a word does, since there is one
longer_first : (x : ℕ) (s : List ℕ) → longer x (slice_split is_space s) ≡ onto_first x (slice_split is_space s)
longer_first x [] = refl
longer_first x (y ∷ s) = by_cases (is_space y)
    (λ e. rw (slice_split-cons_yes is_space y s e))
    (λ n. rw (slice_split-cons_no is_space y s n) (some (slice_split is_space s)))
  where
    some : (l : List (List ℕ)) → longer x (onto_first y l) ≡ onto_first x (onto_first y l)
    some [] = refl
    some (p ∷ ps) = refl

words_space : (x : ℕ) (xs : List ℕ) → eqb x 32 ≡ true → words (x ∷ xs) ≡ [] ∷ words xs
unfolding words
words_space x xs e = rw e refl

words_other : (x : ℕ) (xs : List ℕ) → eqb x 32 ≡ false → words (x ∷ xs) ≡ longer x (words xs)
unfolding words
words_other x xs e = rw e refl

words_split : (s : List ℕ) → words s ≡ slice_split is_space s
unfolding words
words_split [] = refl
words_split (x ∷ s) = by_cases (is_space x)
    (λ e. words_space x s e ∙ ap (λ ws. [] ∷ ws) (words_split s) ∙ sym (slice_split-cons_yes is_space x s e))
    (λ n. words_other x s n ∙ ap (longer x) (words_split s) ∙ longer_first x s ∙ sym (slice_split-cons_no is_space x s n))

-- a text with a byte has these words; as the n-th word, one without has no other than none
some_words : (s : List ℕ) → 0 < length s → words s ≡ words_of s
some_words [] h = absurd (omega arith)
some_words (x ∷ xs) h = refl

pub nth_words : (s : List ℕ) (n : ℕ) → get_or (words s) n [] ≡ get_or (words_of s) n []
unfolding words
nth_words [] zero = refl
nth_words [] (suc n) = refl
nth_words (x ∷ xs) n = refl

-- ---- the n-th word

unwrapped : (o : Option (Bor (List ℕ))) (d : Bor (List ℕ)) → (unwrap_or o d).now ≡ unwrap_or (option_map (λ w. w.now) o) d.now
unwrapped None d = refl
unwrapped (Some w) d = refl

pub nth_is : (s t : List ℕ) (n : ℕ) (o : Option (Bor (List ℕ))) (d : Bor (List ℕ)) → s ≡ t → d.now ≡ []
    → option_map (λ w. w.now) o ≡ slice_get (slice_split is_space s) n → (unwrap_or o d).now ≡ get_or (words_of t) n []
nth_is s t n o d e z f =
    unwrapped o d ∙ ap₂ (λ (r : Option (List ℕ)) (v : List ℕ). unwrap_or r v) f z ∙ unwrap_or-slice_get (slice_split is_space s) n []
    ∙ ap (λ ws. get_or ws n []) (sym (words_split s)) ∙ nth_words s n ∙ ap (λ p. get_or (words_of p) n []) e

-- ---- the place of a word

module _ (w : List ℕ) where
  abbrev is_word : List ℕ → Bool
  is_word v = same v w

  -- a place from i on, counted from 1
  abbrev Placed : Option ℕ → ℕ → Type 0
  Placed o n = MatchOption o (n ≡ 0) (λ i. n ≡ i + 1)

  place_from_is : (ws : List (List ℕ)) (i n : ℕ) → Placed (position_from is_word i ws) n → n ≡ place_from (suc i) ws w
  unfolding place_from
  place_from_is [] i n p = p
  place_from_is (v ∷ ws) i n p = by_cases (is_word v)
      (λ e. (let q = rw e at p in q ∙ omega arith) ∙ sym (place_here w (suc i) v ws e))
      (λ d. (let q = rw (d, add-one i) at p in place_from_is ws (suc i) n q) ∙ sym (place_on w (suc i) v ws d))

  pub no_place : (s t : List ℕ) → s ≡ t → length s ≡ 0 → 0 ≡ place_in (words_of t) w
  unfolding place_from
  no_place [] t e z = ap (λ p. place_from 1 (words_of p) w) e
  no_place (x ∷ s) t e z = absurd (omega arith)

  pub place_by : (s t : List ℕ) (o : Option ℕ) (n : ℕ) → s ≡ t → 0 < length s
      → o ≡ cond (ltb (position_or_len is_word (slice_split is_space s)) (length (slice_split is_space s))) (Some (position_or_len is_word (slice_split is_space s))) None
      → Placed o n → n ≡ place_in (words_of t) w
  place_by s t o n e h f p =
      let q = rw (f ∙ position_from-zero is_word (slice_split is_space s)) at p in
      place_from_is (slice_split is_space s) 0 n q
      ∙ ap (λ ws. place_from 1 ws w) (sym (words_split s) ∙ some_words s h) ∙ ap (λ p. place_in (words_of p) w) e
