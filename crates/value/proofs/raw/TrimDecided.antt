-- Blanks at both ends: the decision takes all of them, and nothing else. Assumes nothing.
use mathlib.Core.Path.{◌≡◌, refl, ◌∙◌, ap, subst}
use mathlib.Core.Bool.{Bool, true, false, cond}
use mathlib.Core.List.{List, [], ◌∷◌, ◌++◌}
use Prim.Native.Nat.{ℕ}
use native.Mathlib.Omega.{arith}
use lib.ListN.{length, length-append}
use Rattle.text.specs.Bytes.{is_blank}
use Rattle.text.specs.Lists.{All}
use Rattle.value.specs.decided.Trim.{Trim}
use Rattle.value.specs.decided.Spell.{front_off, before, back_off, trim}

-- t is s without the blanks at its front
record Front (s t : List ℕ) : Type 0 where
  lead : List ℕ
  blanks : All is_blank lead
  is : s ≡ lead ++ t
  first : (x : ℕ) (u : List ℕ) → t ≡ x ∷ u → is_blank x ≡ false

front_is : (s : List ℕ) → Front s (front_off s)
unfolding front_off
front_is [] = record { lead = []; blanks = tt; is = refl; first = λ x u e. absurd (omega (arith, ap length e)) }
front_is (x ∷ s) = go (is_blank x) refl (front_is s)
  where
    go : (b : Bool) → is_blank x ≡ b → Front s (front_off s) → Front (x ∷ s) (cond b (front_off s) (x ∷ s))
    go true e w = record { lead = x ∷ w.lead; blanks = (e, w.blanks); is = ap (λ (u : List ℕ). x ∷ u) w.is; first = w.first }
    go false e w = record { lead = []; blanks = tt; is = refl; first = λ y u f. let q : x ≡ y = cc in subst (λ (n : ℕ). is_blank n ≡ false) q e }

-- t is s without the blanks at its end
record Back (s t : List ℕ) : Type 0 where
  tail : List ℕ
  blanks : All is_blank tail
  is : s ≡ t ++ tail
  last : (u : List ℕ) (x : ℕ) → t ≡ u ++ (x ∷ []) → is_blank x ≡ false

last_one : (x : ℕ) → is_blank x ≡ false → (u : List ℕ) (y : ℕ) → x ∷ [] ≡ u ++ (y ∷ []) → is_blank y ≡ false
last_one x h [] y e = let q : x ≡ y = cc in subst (λ (n : ℕ). is_blank n ≡ false) q h
last_one x h (z ∷ u) y e = absurd (omega (arith, ap length e, length-append u (y ∷ [])))

last_more : (x y : ℕ) (t : List ℕ) → ((u : List ℕ) (z : ℕ) → y ∷ t ≡ u ++ (z ∷ []) → is_blank z ≡ false) → (u : List ℕ) (z : ℕ) → x ∷ y ∷ t ≡ u ++ (z ∷ []) → is_blank z ≡ false
last_more x y t f [] z e = absurd (omega (arith, ap length e))
last_more x y t f (a ∷ u) z e = f u z (cc)

back_is : (s : List ℕ) → Back s (back_off s)
unfolding back_off
back_is [] = record { tail = []; blanks = tt; is = refl; last = λ u x e. absurd (omega (arith, ap length e, length-append u (x ∷ []))) }
back_is (x ∷ s) = go (back_off s) (back_is s)
  where
    none_left : (b : Bool) → is_blank x ≡ b → Back s [] → Back (x ∷ s) (cond b [] (x ∷ []))
    none_left true e w = record { tail = x ∷ w.tail; blanks = (e, w.blanks); is = ap (λ (u : List ℕ). x ∷ u) w.is; last = λ u y f. absurd (omega (arith, ap length f, length-append u (y ∷ []))) }
    none_left false e w = record { tail = w.tail; blanks = w.blanks; is = ap (λ (u : List ℕ). x ∷ u) w.is; last = last_one x e }

    go : (t : List ℕ) → Back s t → Back (x ∷ s) (before x t)
    go [] w = none_left (is_blank x) refl w
    go (y ∷ t) w = record { tail = w.tail; blanks = w.blanks; is = ap (λ (u : List ℕ). x ∷ u) w.is; last = last_more x y t w.last }

pub trim_trims : (s : List ℕ) → Trim s (trim s)
trim_trims s =
    let f = front_is s in
    let b = back_is (front_off s) in
    record {
      is = record { lead = f.lead; tail = b.tail; blanks = (f.blanks, b.blanks); is = f.is ∙ ap (λ (u : List ℕ). f.lead ++ u) b.is };
      first = λ x u e. f.first x (u ++ b.tail) (b.is ∙ ap (λ (v : List ℕ). v ++ b.tail) e);
      last = b.last;
    }
