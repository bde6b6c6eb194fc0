-- AMT: as it stands (`Amount`), and by parts (`Numeral`), the same. Assumes nothing.
use mathlib.Core.Path.{◌≡◌, refl, sym, ◌∙◌, ap, subst}
use mathlib.Core.Bool.{Bool}
use mathlib.Core.Logic.{◌⊎◌, inl, inr, ⊎_elim}
use mathlib.Core.List.{List, [], ◌∷◌, ◌++◌, append-nil}
use Prim.Native.Nat.{ℕ, ◌*◌, ◌^◌, ◌≤◌}
use native.Mathlib.Omega.{arith}
use lib.ListN.{length}
use Rattle.text.specs.Bytes.{ascii, is_digit}
use Rattle.text.specs.Lists.{All}
use Rattle.value.specs.types.Amount.{Bounded, Amount}
use Rattle.value.specs.parts.Numeral.{Sign, unsigned, plus, minus, sign_text, Places, no_point, point, places_of, places_text, Price, decimal}

pub all_append : (p : ℕ → Bool) (a b : List ℕ) → All p a → All p b → All p (a ++ b)
all_append p [] b h k = k
all_append p (x ∷ a) b h k = (h.0, all_append p a b h.1 k)

all_apart : (p : ℕ → Bool) (a b : List ℕ) → All p (a ++ b) → All p a × All p b
all_apart p [] b h = (tt, h)
all_apart p (x ∷ a) b h = let r = all_apart p a b h.1 in ((h.0, r.0), r.1)

-- ---- by parts

sign_of : (s : List ℕ) → (s ≡ []) ⊎ ((s ≡ ascii "+") ⊎ (s ≡ ascii "-")) → (x : Sign) × (s ≡ sign_text x)
sign_of s (inl e) = (unsigned, e)
sign_of s (inr (inl e)) = (plus, e)
sign_of s (inr (inr e)) = (minus, e)

price_by : (t : List ℕ) (c k : ℕ) (a : Amount t c k) → Bounded c k → (x : Sign) → a.text.sign ≡ sign_text x → (ps : Places) → places_of ps ≡ a.text.places → t ≡ sign_text x ++ (a.text.whole ++ places_text ps) → Price t c k
price_by t c k a b x q ps r e =
    let w = a.text in
    let d = all_apart is_digit w.whole w.places w.digits in
    record {
      spells = record {
        text = record {
          sign = x;
          whole = w.whole;
          places = ps;
          is = e;
          digits = (d.0, subst (All is_digit) (sym r) d.1);
          some = subst (λ (l : List ℕ). 1 ≤ length (w.whole ++ l)) (sym r) w.some;
        };
        same = subst (λ (l : List ℕ). decimal (w.whole ++ l) * 10 ^ k ≡ c * 10 ^ length l) (sym r) a.same;
        least = b.least;
      };
      bounds = b;
      sign = λ m. a.sign (q ∙ ap sign_text m);
    }

pub price_of : (t : List ℕ) (c k : ℕ) → Amount t c k → Bounded c k → Price t c k
price_of t c k a b =
    let w = a.text in
    let g = sign_of w.sign w.signed in
    ⊎_elim (λ e. price_by t c k a b g.0 g.1 (point w.places) refl (e ∙ ap (λ (l : List ℕ). l ++ (w.whole ++ (46 ∷ w.places))) g.1))
    (λ e. price_by t c k a b g.0 g.1 no_point (sym e.1) (e.0 ∙ ap (λ (l : List ℕ). l ++ w.whole) g.1 ∙ ap (λ (l : List ℕ). sign_text g.0 ++ l) (sym (append-nil w.whole))))
    w.is

-- ---- as it stands

signed : (x : Sign) → (sign_text x ≡ []) ⊎ ((sign_text x ≡ ascii "+") ⊎ (sign_text x ≡ ascii "-"))
signed unsigned = inl refl
signed plus = inr (inl refl)
signed minus = inr (inr refl)

stands : (t s w : List ℕ) (ps : Places) → t ≡ s ++ (w ++ places_text ps) → (t ≡ s ++ (w ++ (46 ∷ places_of ps))) ⊎ ((t ≡ s ++ w) × (places_of ps ≡ []))
stands t s w no_point e = inr (e ∙ ap (λ (l : List ℕ). s ++ l) (append-nil w), refl)
stands t s w (point ds) e = inl e

minus_of : (x : Sign) (c : ℕ) → (x ≡ minus → c ≡ 0) → sign_text x ≡ ascii "-" → c ≡ 0
minus_of unsigned c f e = absurd (omega (arith, ap length e))
minus_of plus c f e = let q : ◌≡◌ {A = ℕ} 43 45 = cc in absurd (omega arith)
minus_of minus c f e = f refl

pub amount_of : (t : List ℕ) (c k : ℕ) → Price t c k → Amount t c k
amount_of t c k p =
    let n = p.spells.text in
    record {
      text = record {
        sign = sign_text n.sign;
        whole = n.whole;
        places = places_of n.places;
        signed = signed n.sign;
        digits = all_append is_digit n.whole (places_of n.places) n.digits.0 n.digits.1;
        some = n.some;
        is = stands t (sign_text n.sign) n.whole n.places n.is;
      };
      same = p.spells.same;
      sign = minus_of n.sign c p.sign;
    }
