-- ENUM, BOOL and NUM: exactly the bytes of their values. Assumes nothing.
use mathlib.Core.Path.{◌≡◌, refl, sym, ◌∙◌, ap}
use mathlib.Core.Bool.{Bool, true, false, cond}
use mathlib.Core.List.{List, [], ◌∷◌}
use Prim.Native.Nat.{ℕ, zero, suc, ◌^◌, ◌≤◌}
use native.Mathlib.Omega.{arith}
use lib.ListN.{length, take}
use lib.Seq.{take_all}
use borrow.Author.Tests.{leb-true, ltb-true, lt-ltb}
use Rattle.text.specs.Lists.{Each}
use Rattle.text.specs.Numbers.{big_endian, number}
use Rattle.text.proofs.Classes.{in_range_lem, in_range_is}
use Rattle.text.proofs.Numbers.{Byte, number_big, big_length, big_bytes}
use Rattle.list.specs.Listing.{enum, bool, num}
use Rattle.value.specs.Value.{Value, place, truth, natural, IsValue}
use Rattle.value.specs.mirror.Judges.{is_place, is_truth, is_natural}
use Rattle.value.proofs.stored.Exactly.{Stored, Passes, Exact, number_at}

-- ---- ENUM

place_sound : (ws : List (List ℕ)) (u : List ℕ) → length u ≡ 1 → is_place (length ws) u ≡ true → Stored (enum ws) u
unfolding is_place
place_sound ws [] e j = absurd (omega arith)
place_sound ws (x ∷ y ∷ u) e j = absurd (omega arith)
place_sound ws (x ∷ []) e j =
    let w = in_range_is 1 (length ws) x j in
    record { value = place x; is = IsValue.listed w.0 w.1; same = refl }

place_complete : (ws : List (List ℕ)) (v : Value) → length ws ≤ 255 → IsValue (enum ws) v → Passes 0 (λ _. 1) (is_place (length ws)) v
unfolding is_place
place_complete ws v l (IsValue.listed {n = n} a b) =
    record { good = in_range_lem 1 (length ws) n a b; long = λ t. refl; small = (omega arith, tt); some = omega arith }

pub place_exact : (ws : List (List ℕ)) → length ws ≤ 255 → Exact (enum ws) 0 (λ _. 1) (is_place (length ws))
place_exact ws l = record { sound = λ u b e j. place_sound ws u e j; complete = λ v i. place_complete ws v l i }

-- ---- BOOL

truth_of_lem : (x : ℕ) → x ≤ 1 → (b : Bool) × (x ≡ cond b 1 0)
truth_of_lem zero h = (false, refl)
truth_of_lem (suc zero) h = (true, refl)
truth_of_lem (suc (suc x)) h = absurd (omega arith)

truth_sound : (u : List ℕ) → length u ≡ 1 → is_truth u ≡ true → Stored bool u
unfolding is_truth
truth_sound [] e j = absurd (omega arith)
truth_sound (x ∷ y ∷ u) e j = absurd (omega arith)
truth_sound (x ∷ []) e j =
    let w = truth_of_lem x (leb-true x 1 j) in
    record { value = truth w.0; is = IsValue.either; same = ap (λ (y : ℕ). y ∷ []) w.1 }

truth_passes : (b : Bool) → Passes 0 (λ _. 1) is_truth (truth b)
unfolding is_truth
truth_passes true = record { good = refl; long = λ t. refl; small = (omega arith, tt); some = omega arith }
truth_passes false = record { good = refl; long = λ t. refl; small = (omega arith, tt); some = omega arith }

truth_complete : (v : Value) → IsValue bool v → Passes 0 (λ _. 1) is_truth v
truth_complete v (IsValue.either {b = b}) = truth_passes b

pub truth_exact : Exact bool 0 (λ _. 1) is_truth
truth_exact = record { sound = λ u b e j. truth_sound u e j; complete = truth_complete }

-- ---- NUM

natural_sound : (u : List ℕ) → Each Byte u → length u ≡ 8 → is_natural u ≡ true → Stored num u
unfolding is_natural
natural_sound u b e j =
    record {
      value = natural (number (take 8 u));
      is = IsValue.count (ltb-true (number (take 8 u)) (10 ^ 18) j);
      same = sym (number_at u 0 8 b (omega arith) ∙ take_all 8 u (omega arith));
    }

natural_complete : (v : Value) → IsValue num v → Passes 0 (λ _. 8) is_natural v
unfolding is_natural
natural_complete v (IsValue.count {n = n} h) =
    let l = big_length 8 n in
    let e : number (take 8 (big_endian 8 n)) ≡ n = ap number (take_all 8 (big_endian 8 n) (omega arith)) ∙ number_big 8 n (omega arith) in
    record { good = rw e (lt-ltb n (10 ^ 18) h); long = λ t. sym l; small = big_bytes 8 n; some = omega arith }

pub natural_exact : Exact num 0 (λ _. 8) is_natural
natural_exact = record { sound = natural_sound; complete = natural_complete }
