-- Bytes put one after the other into a buffer. Assumes nothing.
use Rattle.std.proofs.Common.{◌≡◌, ℕ, ◌+◌, List, [], ◌∷◌, ◌++◌, length, sym, refl, ap, ◌∙◌, subst, arith, length-append}
use Rattle.text.specs.Pasting.{pasted}
use Rattle.text.specs.Puts.{Puts}
use Rattle.text.proofs.Pasting.{pasted_none, pasted_then, length_pasted}

-- nothing
pub puts_none : (d : List ℕ) (at : ℕ) → Puts d at [] at d
puts_none d at = record { behind = omega arith; long = refl; is = λ h. sym (pasted_none d at) }

-- a list pasted
pub puts_pasted : (d : List ℕ) (at : ℕ) (bs : List ℕ) (n : ℕ) (d' : List ℕ) → n ≡ length bs → d' ≡ pasted d at bs → Puts d at bs (at + n) d'
puts_pasted d at bs n d' e f = record { behind = ap (λ (m : ℕ). at + m) e; long = ap length f ∙ length_pasted d at bs; is = λ h. f }

-- one after the other
pub puts_then : (d : List ℕ) (at : ℕ) (u : List ℕ) (r : ℕ) (d' v : List ℕ) (q : ℕ) (d'' : List ℕ)
    → Puts d at u r d' → Puts d' r v q d'' → Puts d at (u ++ v) q d''
puts_then d at u r d' v q d'' x y = record {
  behind = omega (arith, x.behind, y.behind, length-append u v);
  long = y.long ∙ x.long;
  is = λ h.
      y.is (omega (arith, h, x.behind, x.long, length-append u v))
      ∙ ap (λ (z : List ℕ). pasted z r v) (x.is (omega (arith, h, length-append u v)))
      ∙ ap (λ (n : ℕ). pasted (pasted d at u) n v) x.behind
      ∙ pasted_then d at u v (omega (arith, h, length-append u v));
}

-- the same bytes under another name
pub puts_as : (d : List ℕ) (at : ℕ) (u v : List ℕ) (r : ℕ) (d' : List ℕ) → u ≡ v → Puts d at u r d' → Puts d at v r d'
puts_as d at u v r d' e x = subst (λ (z : List ℕ). Puts d at z r d') e x

-- ---- into no buffer

empty_of : (d : List ℕ) → length d ≡ 0 → [] ≡ d
empty_of [] e = refl
empty_of (x ∷ d) e = absurd (omega arith)

pub pasted_nowhere : (at : ℕ) (bs : List ℕ) → [] ≡ pasted [] at bs
pasted_nowhere at bs = empty_of (pasted [] at bs) (length_pasted [] at bs)
