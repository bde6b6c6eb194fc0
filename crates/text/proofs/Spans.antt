-- How far a class reaches from a place of a list. Assumes nothing.
use Rattle.std.proofs.Common.{◌≡◌, ℕ, zero, suc, ◌+◌, ◌<◌, ◌≤◌, Bool, true, false, cond, not, List, [], ◌∷◌, ◌++◌, length, get_or, take, drop, sym, refl, ap, ◌∙◌, suc-le-suc, zero-le, suc-add, zero-add, add-one, one-add, arith, length-drop, drop_of_length-le, get_or-drop, drop-cons, drop-drop}
use borrow.Author.Tests.{not-true, not-false}
use Rattle.text.specs.Lists.{All, span}

module _ (p : ℕ → Bool) where
  -- ---- by the element at a place

  pub span_end : (s : List ℕ) (i : ℕ) → length s ≤ i → span p (drop i s) ≡ 0
  unfolding span
  span_end s i h = rw (drop_of_length-le s h)

  pub span_stop : (s : List ℕ) (i : ℕ) → i < length s → p (get_or s i 0) ≡ false → span p (drop i s) ≡ 0
  unfolding span
  span_stop s i h e = rw (drop-cons s i 0, e)

  pub span_go : (s : List ℕ) (i : ℕ) → i < length s → p (get_or s i 0) ≡ true → span p (drop i s) ≡ 1 + span p (drop (i + 1) s)
  unfolding span
  span_go s i h e = rw (add-one i, drop-cons s i 0, e, one-add)

  -- ---- what stands in a span, and after it

  pub span_le : (s : List ℕ) → span p s ≤ length s
  unfolding span
  span_le [] = zero-le
  span_le (x ∷ s) = go (p x) (span_le s)
    where
      go : (b : Bool) → span p s ≤ length s → cond b (suc (span p s)) zero ≤ suc (length s)
      go true h = suc-le-suc h
      go false h = zero-le

  pub span_all : (s : List ℕ) → All p (take (span p s) s)
  unfolding span
  span_all [] = tt
  span_all (x ∷ s) = go (p x) refl (span_all s)
    where
      go : (b : Bool) → p x ≡ b → All p (take (span p s) s) → All p (take (cond b (suc (span p s)) zero) (x ∷ s))
      go true e h = (e, h)
      go false e h = tt

  pub span_next : (s : List ℕ) → span p s < length s → p (get_or s (span p s) 0) ≡ false
  unfolding span
  span_next [] h = absurd (omega arith)
  span_next (x ∷ s) h = go (p x) refl (span_next s) h
    where
      go : (b : Bool) → p x ≡ b → (span p s < length s → p (get_or s (span p s) 0) ≡ false)
          → cond b (suc (span p s)) zero < suc (length s) → p (get_or (x ∷ s) (cond b (suc (span p s)) zero) 0) ≡ false
      go true e f k = f (omega arith)
      go false e f k = e

  -- what passes, and then an end or what does not
  pub span_of : (a t : List ℕ) → All p a → span p t ≡ 0 → span p (a ++ t) ≡ length a
  unfolding span
  span_of [] t h e = e
  span_of (x ∷ a) t h e = rw h.0 (ap suc (span_of a t h.1 e))

  -- n that pass, one after the other
  pub span_many : (n : ℕ) (l : List ℕ) → n ≤ length l → ((k : ℕ) → k < n → p (get_or l k 0) ≡ true) → span p l ≡ n + span p (drop n l)
  unfolding span
  span_many zero l h f = sym (zero-add (span p l))
  span_many (suc n) [] h f = absurd (omega arith)
  span_many (suc n) (x ∷ l) h f =
      rw (f 0 (suc-le-suc zero-le), suc-add) (ap suc (span_many n l (omega arith) (λ k j. f (suc k) (suc-le-suc j))))

  pub span_jump : (n : ℕ) (s : List ℕ) (i : ℕ) → i + n ≤ length s → ((k : ℕ) → k < n → p (get_or s (i + k) 0) ≡ true)
      → i + n + span p (drop (i + n) s) ≡ i + span p (drop i s)
  span_jump n s i h f =
      omega
      (arith, span_many n (drop i s) (omega (arith, length-drop i s)) (λ k j. rw (get_or-drop i s k 0) (f k j)), ap (span p) (drop-drop n i s))

  -- over a list that passes
  pub span_append : (a w : List ℕ) → All p a → span p (a ++ w) ≡ length a + span p w
  unfolding span
  span_append [] w h = sym (zero-add (span p w))
  span_append (x ∷ a) w h = rw (h.0, suc-add) (ap suc (span_append a w h.1))

  -- ---- a loop that has come to i: what is still to come makes up the answer n

  module _ (s : List ℕ) (i n : ℕ) (w : i + span p (drop i s) ≡ n) where
    pub span_over : length s ≤ i → i ≡ n
    span_over h = omega (arith, span_end s i h)

    module _ (h : i < length s) {r : Bool} (e : r ≡ p (get_or s i 0)) where
      pub span_found : not r ≡ true → i ≡ n
      span_found f = omega (arith, span_stop s i h (sym e ∙ not-true r f))

      pub span_again : not r ≡ false → i + 1 + span p (drop (i + 1) s) ≡ n
      span_again f = omega (arith, span_go s i h (sym e ∙ not-false r f))

    -- over a byte that is known, and known to pass
    pub span_byte : (b : ℕ) → p b ≡ true → i < length s → get_or s i 0 ≡ b → i + 1 + span p (drop (i + 1) s) ≡ n
    span_byte b t h e = span_again h (sym (ap p e ∙ t)) refl
