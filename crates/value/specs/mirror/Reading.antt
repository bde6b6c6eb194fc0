-- A mirror: how an amount without blanks around it is read, character by character. Assumes nothing.
use Rattle.std.specs.Prelude.{Bool, true, false, cond, ◌&&◌, not, List, [], ◌∷◌, ℕ, suc, ◌+◌, ◌*◌, ◌-◌, ◌^◌, leb, ltb, eqb, Option, Some, None}
use Prim.Native.Char.{code}
use Rattle.text.specs.Bytes.{is_digit}
use Rattle.value.specs.declared.judged.Judged.{Judged}
use Rattle.value.specs.declared.judged.Judged.TheVariants.{Amount}

-- whether there was a minus, the coefficient, the scale
pub data Found : Type 0 where
  bad : Found
  found : Bool → ℕ → ℕ → Found

-- after the point: a over 10^f was read; c over 10^k is the same without the zeros at its end
unfoldable pub frac_of : Bool → ℕ → ℕ → ℕ → ℕ → List ℕ → Found
frac_of n a f c k [] = found n c k
frac_of n a f c k (x ∷ t) =
    cond (is_digit x)
    (cond (eqb x (code "0")) (frac_of n (a * 10) (suc f) c k t) (frac_of n (a * 10 + (x - code "0")) (suc f) (a * 10 + (x - code "0")) (suc f) t))
    bad

-- before the point, after a digit
unfoldable pub whole_of : Bool → ℕ → List ℕ → Found
whole_of n a [] = found n a 0
whole_of n a (x ∷ t) = cond (is_digit x) (whole_of n (a * 10 + (x - code "0")) t) (cond (eqb x (code ".")) (frac_of n a 0 a 0 t) bad)

-- after a point that no digit stands before
unfoldable pub point_of : Bool → List ℕ → Found
point_of n [] = bad
point_of n (x ∷ t) = frac_of n 0 0 0 0 (x ∷ t)

-- after the sign
unfoldable pub signed_of : Bool → List ℕ → Found
signed_of n [] = bad
signed_of n (x ∷ t) = cond (is_digit x) (whole_of n 0 (x ∷ t)) (cond (eqb x (code ".")) (point_of n t) bad)

unfoldable pub read_of : List ℕ → Found
read_of [] = bad
read_of (x ∷ t) = cond (eqb x (code "+")) (signed_of false t) (cond (eqb x (code "-")) (signed_of true t) (signed_of false (x ∷ t)))

-- what is no amount for its scale, its coefficient or its sign is refused
unfoldable pub answer : Found → Option Judged
answer bad = None
answer (found n c k) = cond (leb k 5) (cond (ltb c (10 ^ 18)) (cond (n && not (eqb c 0)) None (Some (Amount c k))) None) None
