-- Types by their numbers. Assumes nothing.
use mathlib.Core.Path.{◌≡◌, refl, sym, ◌∙◌, ap, subst}
use mathlib.Core.Bool.{cond}
use mathlib.Core.List.{List, []}
use Prim.Native.Nat.{ℕ, ◌≤◌}
use native.Mathlib.Omega.{arith}
use lib.Dec.{eqb}
use Rattle.list.specs.Listing.{Leaf, ref, iban, ccy, bool, num, amt, date, dtm, txt, enum}
use Rattle.value.specs.Kind.{code}

abbrev k_of : Leaf → ℕ
k_of ref = 0
k_of (txt m) = m
k_of iban = 0
k_of ccy = 0
k_of (enum ws) = 0
k_of bool = 0
k_of num = 0
k_of amt = 0
k_of date = 0
k_of dtm = 0

abbrev words_of : Leaf → List (List ℕ)
words_of ref = []
words_of (txt m) = []
words_of iban = []
words_of ccy = []
words_of (enum ws) = ws
words_of bool = []
words_of num = []
words_of amt = []
words_of date = []
words_of dtm = []

abbrev pub leaf_of : ℕ → ℕ → List (List ℕ) → Leaf
leaf_of n k ws = cond (eqb n 2) ref (cond (eqb n 3) (txt k) (cond (eqb n 4) iban (cond (eqb n 5) ccy (cond (eqb n 6) (enum ws) (cond (eqb n 7) bool (cond (eqb n 8) num (cond (eqb n 9) amt (cond (eqb n 10) date dtm))))))))

leaf_back : (l : Leaf) → l ≡ leaf_of (code l) (k_of l) (words_of l)
leaf_back ref = refl
leaf_back (txt m) = refl
leaf_back iban = refl
leaf_back ccy = refl
leaf_back (enum ws) = refl
leaf_back bool = refl
leaf_back num = refl
leaf_back amt = refl
leaf_back date = refl
leaf_back dtm = refl

-- what holds of the type with that number holds of l
pub by_code : (P : Leaf → Type 0) (n : ℕ) → ((k : ℕ) (ws : List (List ℕ)) → P (leaf_of n k ws)) → (l : Leaf) → code l ≡ n → P l
by_code P n f l e = subst P (sym (leaf_back l ∙ ap (λ (m : ℕ). leaf_of m (k_of l) (words_of l)) e)) (f (k_of l) (words_of l))

code_range : (l : Leaf) → (2 ≤ code l) × (code l ≤ 11)
code_range ref = omega arith
code_range (txt m) = omega arith
code_range iban = omega arith
code_range ccy = omega arith
code_range (enum ws) = omega arith
code_range bool = omega arith
code_range num = omega arith
code_range amt = omega arith
code_range date = omega arith
code_range dtm = omega arith

pub code_low : (l : Leaf) → 2 ≤ code l
code_low l = (code_range l).0

pub code_high : (l : Leaf) → code l ≤ 11
code_high l = (code_range l).1
