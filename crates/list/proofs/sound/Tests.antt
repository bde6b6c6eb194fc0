-- Tests taken apart. Assumes nothing.
use mathlib.Core.Path.{◌≡◌, refl, sym, ◌∙◌}
use mathlib.Core.Bool.{Bool, true, false, true≢false}
use mathlib.Core.List.{List, [], ◌∷◌}
use Prim.Native.Nat.{ℕ, zero, suc}
use lib.ListN.{get_or}
use Rattle.text.proofs.Classes.{and_is}
use Rattle.list.specs.tables.Test.{all_of}

-- a test is true or false
pub by_cases : {P : Type 0} (b : Bool) → (b ≡ true → P) → (b ≡ false → P) → P
by_cases true f g = f refl
by_cases false f g = g refl

-- and not both
pub clash : {P : Type 0} (b : Bool) → b ≡ true → b ≡ false → P
clash b e f = absurd (true≢false (sym e ∙ f))

-- each of a list of tests that all pass, by its place
pub passed : (bs : List Bool) → all_of bs ≡ true → (k : ℕ) → get_or bs k true ≡ true
passed [] e k = refl
passed (b ∷ bs) e zero = (and_is b (all_of bs) e).0
passed (b ∷ bs) e (suc k) = passed bs (and_is b (all_of bs) e).1 k
