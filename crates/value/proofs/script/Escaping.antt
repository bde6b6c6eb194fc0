-- Bytes of a text, three of them by entities: runs of the others stand as they are. Assumes nothing.
use mathlib.Core.Path.{◌≡◌, refl, sym, ◌∙◌, ap, ap₂}
use mathlib.Core.Bool.{Bool, true, false, cond, not, true≢false}
use mathlib.Core.Logic.{◌≢◌, inl, inr}
use mathlib.Core.List.{List, [], ◌∷◌, ◌++◌, append-nil}
use Prim.Native.Nat.{ℕ, zero, suc, ◌+◌, ◌-◌, ◌*◌, ◌≤◌, ◌<◌, zero-le}
use native.Mathlib.Numerals.{add-one}
use native.Mathlib.Omega.{arith}
use lib.Dec.{eqb}
use lib.ListN.{length, get_or, take, drop, length-append, length-drop, length-take, drop_of_length-le}
use lib.Seq.{slice, drop-cons, drop-drop, get_or-drop}
use borrow.Author.Tests.{ne_eqb}
use Rattle.std.specs.List.{sum_by}
use Rattle.std.proofs.lemmas.List.Sums.{sum_by-cons}
use Rattle.text.specs.Lists.{span}
use Rattle.text.specs.Pasting.{pasted}
use Rattle.text.proofs.Classes.{Named, only, ◌or◌, is_in}
use Rattle.text.proofs.Parts.{part_take}
use Rattle.text.proofs.Pasting.{length_pasted, pasted_then}
use Rattle.text.proofs.Spans.{span_le, span_next}
use Rattle.text_characters.specs.Pieces.{amp, lt, gt, word}
use Rattle.value.specs.script.Raw.{is_marked, is_plain, escape, escaped}

-- ---- a byte

pub marked : Named is_marked (only 38 or only 60 or only 62)
unfolding is_marked
marked = record { is = λ x. refl }

pub escape_amp : (x : ℕ) → x ≡ 38 → escape x ≡ word amp
unfolding escape
escape_amp x e = ap escape e

pub escape_lt : (x : ℕ) → x ≡ 60 → escape x ≡ word lt
unfolding escape
escape_lt x e = ap escape e

pub escape_gt : (x : ℕ) → x ≡ 62 → escape x ≡ word gt
unfolding escape
escape_gt x e = ap escape e

pub escape_other : (x : ℕ) → x ≢ 38 → x ≢ 60 → x ≢ 62 → escape x ≡ x ∷ []
unfolding escape
escape_other x a b c = rw (ne_eqb x 38 a, ne_eqb x 60 b, ne_eqb x 62 c)

pub escape_plain : (x : ℕ) → is_marked x ≡ false → escape x ≡ x ∷ []
unfolding is_marked
escape_plain x e =
    escape_other x (λ q. true≢false (sym (ap is_marked q) ∙ e)) (λ q. true≢false (sym (ap is_marked q) ∙ e)) (λ q. true≢false (sym (ap is_marked q) ∙ e))

-- marked, and none of the first two
pub last_mark : (x : ℕ) → is_marked x ≡ true → x ≢ 38 → x ≢ 60 → x ≡ 62
last_mark x e a b = elim (is_in marked x e) [ inl (inl q) ↦ absurd (a q) | inl (inr q) ↦ absurd (b q) | inr q ↦ q ]

pub not_plain : (b : Bool) → not b ≡ false → b ≡ true
not_plain true e = refl
not_plain false e = absurd (true≢false e)

-- what was pasted, under another name
pub pasted_as : (d d' : List ℕ) (at : ℕ) (u v : List ℕ) → u ≡ v → d' ≡ pasted d at v → d' ≡ pasted d at u
pasted_as d d' at u v e f = f ∙ ap (pasted d at) (sym e)

-- ---- a run

run_split : (l : List ℕ) → escaped l ≡ take (span is_plain l) l ++ escaped (drop (span is_plain l) l)
unfolding escaped span
run_split [] = refl
run_split (x ∷ l) = go (is_marked x) refl (run_split l)
  where
    go : (b : Bool) → is_marked x ≡ b → escaped l ≡ take (span is_plain l) l ++ escaped (drop (span is_plain l) l)
        → escaped (x ∷ l) ≡ take (cond (not b) (suc (span is_plain l)) zero) (x ∷ l) ++ escaped (drop (cond (not b) (suc (span is_plain l)) zero) (x ∷ l))
    go true e h = refl
    go false e h = ap₂ (λ (u v : List ℕ). u ++ v) (escape_plain x e) h

module _ (t : List ℕ) (i end : ℕ) (e : end ≡ i + span is_plain (drop i t)) where
  pub run_part : escaped (drop i t) ≡ slice i end t ++ escaped (drop end t)
  run_part =
      let n = span is_plain (drop i t) in
      run_split (drop i t)
      ∙ ap₂ (λ (u v : List ℕ). u ++ escaped v)
      (sym (part_take i n t) ∙ ap (λ (m : ℕ). slice i m t) (sym e))
      (drop-drop n i t ∙ ap (λ (m : ℕ). drop m t) (sym e))

  pub run_long : i ≤ length t → length (slice i end t) ≡ end - i
  run_long h =
      let n = span is_plain (drop i t) in
      ap length (ap (λ (m : ℕ). slice i m t) e ∙ part_take i n t) ∙ omega (arith, length-take n (drop i t), span_le is_plain (drop i t))

  -- a run that ends before the text does ends at a mark
  pub run_mark : end < length t → is_marked (get_or t end 0) ≡ true
  run_mark h =
      let n = span is_plain (drop i t) in
      not_plain (is_marked (get_or t end 0))
      (ap (λ (x : ℕ). is_plain x) (ap (λ (m : ℕ). get_or t m 0) e ∙ sym (get_or-drop i t n 0)) ∙ span_next is_plain (drop i t) (omega (arith, length-drop i t)))

-- a byte, and what is after it
pub escaped_at : (t : List ℕ) (i : ℕ) → i < length t → escaped (drop i t) ≡ escape (get_or t i 0) ++ escaped (drop (i + 1) t)
unfolding escaped
escaped_at t i h = rw (add-one i) (ap escaped (drop-cons t i 0 h))

pub escaped_end : (t : List ℕ) (i : ℕ) → length t ≤ i → escaped (drop i t) ≡ []
unfolding escaped
escaped_end t i h = ap escaped (drop_of_length-le t h)

-- no byte is written by more than five
escape_most : (x : ℕ) → length (escape x) ≤ 5
unfolding escape
escape_most x = go (eqb x 38) (eqb x 60) (eqb x 62)
  where
    go : (a b c : Bool) → length (cond a (word amp) (cond b (word lt) (cond c (word gt) (x ∷ [])))) ≤ 5
    go true b c = omega arith
    go false true c = omega arith
    go false false true = omega arith
    go false false false = omega arith

pub escaped_most : (t : List ℕ) → length (escaped t) ≤ 5 * length t
unfolding escaped
escaped_most [] = omega arith
escaped_most (x ∷ t) = omega (arith, length-append (escape x) (escaped t), escape_most x, escaped_most t)

-- how many bytes more than one are written for a byte, and for all
abbrev pub more : ℕ → ℕ
more x = length (escape x) - 1

pub escape_some : (x : ℕ) → 1 ≤ length (escape x)
unfolding escape
escape_some x = go (eqb x 38) (eqb x 60) (eqb x 62)
  where
    go : (a b c : Bool) → 1 ≤ length (cond a (word amp) (cond b (word lt) (cond c (word gt) (x ∷ []))))
    go true b c = omega arith
    go false true c = omega arith
    go false false true = omega arith
    go false false false = omega arith

pub escaped_more : (t : List ℕ) → length t + sum_by more t ≡ length (escaped t)
unfolding escaped
escaped_more [] = refl
escaped_more (x ∷ t) = omega (arith, length-append (escape x) (escaped t), escape_some x, sum_by-cons more x t, escaped_more t)

-- ---- a loop that has put all up to i, and is to go on at `to`

pub record Spreading (t d₀ : List ℕ) (at : ℕ) (d : List ℕ) (i to : ℕ) : Type 0 where
  pub within : i ≤ length t
  pub room : to + length (escaped (drop i t)) ≤ length d
  pub long : length d ≡ length d₀
  pub sum : to + length (escaped (drop i t)) ≡ at + length (escaped t)
  pub here : pasted d to (escaped (drop i t)) ≡ pasted d₀ at (escaped t)

pub spread_start : (t d : List ℕ) (at : ℕ) → at + length (escaped t) ≤ length d → Spreading t d at d 0 at
spread_start t d at h = record { within = zero-le; room = h; long = refl; sum = refl; here = refl }

module _ (t d₀ : List ℕ) (at : ℕ) (d : List ℕ) (i to end : ℕ) (s : Spreading t d₀ at d i to) (e : end ≡ i + span is_plain (drop i t)) where
  part : List ℕ
  part = slice i end t

  part_long : length (slice i end t) ≡ end - i
  part_long = run_long t i end e s.within

  rest_long : length (escaped (drop i t)) ≡ (end - i) + length (escaped (drop end t))
  rest_long = ap length (run_part t i end e) ∙ omega (arith, length-append (slice i end t) (escaped (drop end t)), part_long)

  -- where the run ends
  pub spread_within : to + (end - i) ≤ length d
  spread_within = omega (arith, s.room, rest_long)

  pub spread_room : end < length t → to + (end - i) + length (escape (get_or t end 0)) ≤ length d
  spread_room h =
      omega
      (arith, s.room, rest_long, ap length (escaped_at t end h), length-append (escape (get_or t end 0)) (escaped (drop (end + 1) t)))

  pub spread_sum : length t ≤ end → to + (end - i) ≡ at + length (escaped t)
  spread_sum h = omega (arith, s.sum, rest_long, ap length (escaped_end t end h))

  pub spread_end : length t ≤ end → pasted d to (slice i end t) ≡ pasted d₀ at (escaped t)
  spread_end h =
      sym (ap (pasted d to) (run_part t i end e ∙ ap (λ (v : List ℕ). slice i end t ++ v) (escaped_end t end h) ∙ append-nil (slice i end t)))
      ∙ s.here

  module _ (d₁ d₂ : List ℕ) (next : ℕ) (h : end < length t) (f : d₁ ≡ pasted d to (slice i end t))
      (g : (next ≡ to + (end - i) + length (escape (get_or t end 0))) × (d₂ ≡ pasted d₁ (to + (end - i)) (escape (get_or t end 0)))) where
    pub spread_again : Spreading t d₀ at d₂ (end + 1) next
    spread_again =
        let x = escape (get_or t end 0) in
        let u = slice i end t in
        let v = escaped (drop (end + 1) t) in
        let w : escaped (drop i t) ≡ u ++ (x ++ v) = run_part t i end e ∙ ap (λ (z : List ℕ). u ++ z) (escaped_at t end h) in
        let l : length (escaped (drop i t)) ≡ length u + (length x + length v) = ap length w ∙ omega (arith, length-append u (x ++ v), length-append x v) in
        let a : length d₁ ≡ length d = ap length f ∙ length_pasted d to u in
        let b : length d₂ ≡ length d = ap length g.1 ∙ length_pasted d₁ (to + (end - i)) x ∙ a in
        let p : to + (end - i) ≡ to + length u = omega (arith, part_long) in
        record {
          within = omega arith;
          room = omega (arith, s.room, l, b, g.0, part_long);
          long = b ∙ s.long;
          sum = omega (arith, s.sum, l, g.0, part_long);
          here =
              ap₂ (λ (z : List ℕ) (m : ℕ). pasted z m v) g.1 g.0
              ∙ pasted_then d₁ (to + (end - i)) x v (omega (arith, s.room, l, a, part_long))
              ∙ ap₂ (λ (z : List ℕ) (m : ℕ). pasted z m (x ++ v)) f p
              ∙ pasted_then d to u (x ++ v) (omega (arith, s.room, l, length-append x v))
              ∙ ap (pasted d to) (sym w)
              ∙ s.here;
        }
