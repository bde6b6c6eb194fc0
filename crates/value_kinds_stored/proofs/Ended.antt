-- The end of a value by its kind is where its bytes end by the kind's test. Assumes nothing.
use Rattle.std.proofs.Common.{◌≡◌, refl, ◌∙◌, sym, ap, Bool, true, false, cond, ◌&&◌, if◌then◌else◌, Option, Some, None, List, [], ◌∷◌, ℕ, ◌+◌, ◌<◌, ◌≤◌, get_or, take, drop, drop_of_length-le, arith, w16}
use Rattle.std.specs.Option.{unwrap_or}
use Rattle.std.specs.Int.{from_be_bytes}
use Rattle.std.proofs.lemmas.Option.{none-some, same_Some}
use mathlib.Core.Bool.{and-false}
use borrow.Author.Tests.{leb-true}
use lib.Dec.{leb}
use lib.ListN.{length}
use Rattle.text.specs.Numbers.{number, number_from}
use Rattle.text.proofs.Classes.{and_is}
use Rattle.value.specs.mirror.Tests.{is_byte, every}
use Rattle.value.specs.mirror.Ends.{head, width, is_value, begins, value_end}
use Rattle.value.proofs.stored.Listed.{each_byte, bytes_at, bytes_take}
use Rattle.value.proofs.stored.Numbered.{by_kind}
use Rattle.value_kinds_stored.specs.Ended.{ended}

-- the first two bytes as a number
pub number_two : (t b : List ℕ) (n : ℕ) → 2 ≤ length t → b ≡ take 2 t → n ≡ from_be_bytes w16 b → n ≡ number (take 2 t)
unfolding number_from
number_two [] b n l s e = absurd (omega arith)
number_two (x ∷ []) b n l s e = absurd (omega arith)
number_two (x ∷ y ∷ u) b n l s e = e ∙ ap (from_be_bytes w16) s ∙ omega arith

module _ (c k n : ℕ) (t : List ℕ) where
  -- how many bytes the value of kind c has that these begin with
  abbrev pub long : Option ℕ
  long = if begins c k n t then Some (width c t) else None

  -- by the kind's number
  pub long_of : (d : ℕ) → c ≡ d → ((i : ℕ) → get_or t i 0 < 256) → (o : Option ℕ) → o ≡ ended (head d) (width d t) (is_value d k n) t 0 → o ≡ long
  unfolding begins
  long_of d e b o f =
      let z : 0 + width d t ≡ width d t = omega arith in
      let g = f ∙ ap (λ (w : ℕ). if leb (width d t) (length t) && is_value d k n (drop (head d) (take (width d t) t)) then Some w else None) z in
      rw (e, each_byte (take (width d t) t) (bytes_take (width d t) t (bytes_at t b))) g

  -- no kind
  pub long_none : ((b : List ℕ) → is_value c k n b ≡ false) → None ≡ long
  unfolding begins
  long_none f =
      rw (f (drop (head c) (take (width c t) t)), and-false (every is_byte (take (width c t) t)), and-false (leb (width c t) (length t)))

  -- they are there
  pub long_fits : (o : Option ℕ) (w : ℕ) → o ≡ long → o ≡ Some w → w ≤ length t
  unfolding begins
  long_fits o w f g = go (begins c k n t) refl (sym g ∙ f)
    where
      go : (b : Bool) → begins c k n t ≡ b → Some w ≡ (if b then Some (width c t) else None) → w ≤ length t
      go true e h = let l = leb-true (width c t) (length t) (and_is (leb (width c t) (length t)) _ e).0 in omega (arith, same_Some _ _ h, l)
      go false e h = absurd (none-some _ (sym h))

-- no value of any kind begins where nothing stands
begins_nothing : (c k n : ℕ) → begins c k n [] ≡ false
unfolding begins width is_value every number_from
begins_nothing c k n = by_kind (λ c. begins c k n [] ≡ false) refl refl refl refl refl refl refl refl refl refl refl refl (λ c. refl) c

module _ (c k n : ℕ) (s : List ℕ) (at : ℕ) where
  -- the place after the value of kind c that stands there
  abbrev pub found : Option ℕ
  found = if begins c k n (drop at s) then Some (at + width c (drop at s)) else None

  -- past the end
  pub found_past : length s < at → None ≡ found
  found_past h = let e : drop at s ≡ [] = drop_of_length-le s (omega arith) in rw (ap (begins c k n) e ∙ begins_nothing c k n)

  pub end_is : (o : Option ℕ) (r : ℕ) → o ≡ found → r ≡ unwrap_or o 0 → r ≡ value_end c k n s at
  unfolding value_end
  end_is o r e f = f ∙ rw e (unwrapped (begins c k n (drop at s)) (at + width c (drop at s)))
    where
      unwrapped : (b : Bool) (w : ℕ) → unwrap_or (if b then Some w else None) 0 ≡ cond b w 0
      unwrapped true w = refl
      unwrapped false w = refl
