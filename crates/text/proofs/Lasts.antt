-- What a number writes, made of what one less writes and a last element (bytes, digits), put into a buffer from the last one on. Assumes nothing.
use Rattle.std.proofs.Common.{◌≡◌, ℕ, zero, ◌+◌, ◌-◌, ◌<◌, ◌≤◌, List, [], ◌∷◌, ◌++◌, length, set, sym, refl, ap, ◌∙◌, arith, length-set}
use Rattle.text.specs.Pasting.{pasted}
use Rattle.text.proofs.Pasting.{pasted_none, pasted_last, pasted_no}

-- w elements of n: those of what is left of n, and a last one
pub record Made (writing : ℕ → ℕ → List ℕ) (rest last : ℕ → ℕ) : Type 0 where
  pub none : (n : ℕ) → writing zero n ≡ []
  pub long : (w n : ℕ) → length (writing w n) ≡ w
  pub more : (w n : ℕ) → 0 < w → writing w n ≡ writing (w - 1) (rest n) ++ (last n ∷ [])

-- a loop that has yet to put k elements of what is left
pub record Putting (writing : ℕ → ℕ → List ℕ) (d₀ : List ℕ) (at w n : ℕ) (d : List ℕ) (k left : ℕ) : Type 0 where
  pub upto : k ≤ w
  pub room : at + w ≤ length d
  pub long : length d ≡ length d₀
  pub here : pasted d at (writing k left) ≡ pasted d₀ at (writing w n)

module _ {writing : ℕ → ℕ → List ℕ} {rest last : ℕ → ℕ} (m : Made writing rest last) (d₀ : List ℕ) (at w n : ℕ) where
  pub put_not : length d₀ < at + w → d₀ ≡ pasted d₀ at (writing w n)
  put_not h = sym (pasted_no d₀ at (writing w n) (omega (arith, m.long w n)))

  pub put_start : at + w ≤ length d₀ → Putting writing d₀ at w n d₀ w n
  put_start h = record { upto = omega arith; room = h; long = refl; here = refl }

  module _ (d : List ℕ) (k left : ℕ) (p : Putting writing d₀ at w n d k left) where
    pub put_end : k ≤ 0 → d ≡ pasted d₀ at (writing w n)
    put_end h =
        let z : k ≡ 0 = omega arith in
        sym (pasted_none d at)
        ∙ ap (pasted d at) (sym (m.none left))
        ∙ ap (λ (j : ℕ). pasted d at (writing j left)) (sym z)
        ∙ p.here

    pub put_again : 0 < k → Putting writing d₀ at w n (set d (at + (k - 1)) (last left)) (k - 1) (rest left)
    put_again h =
        let e : length (writing (k - 1) (rest left)) ≡ k - 1 = m.long (k - 1) (rest left) in
        record {
          upto = omega (arith, p.upto);
          room = omega (arith, p.room, length-set d (at + (k - 1)) (last left));
          long = length-set d (at + (k - 1)) (last left) ∙ p.long;
          here =
              ap (λ (j : ℕ). pasted (set d (at + j) (last left)) at (writing (k - 1) (rest left))) (sym e)
              ∙ pasted_last d at (writing (k - 1) (rest left)) (last left) (omega (arith, p.room, p.upto))
              ∙ ap (pasted d at) (sym (m.more k left h))
              ∙ p.here;
        }
