-- No value that a text is weighed by has many bytes. Assumes nothing.
use mathlib.Core.List.{List}
use Prim.Native.Nat.{ℕ, ◌≤◌}
use native.Mathlib.Omega.{arith}
use native.Mathlib.Decide.{ℕ_discrete}
use Rattle.value.proofs.given.Unique.{euro, euro_is}
use Rattle.value_leaf.specs.Leafed.{Weighs}
use Rattle.file_measure.proofs.Value.{gives_few}

pub weighs_few : (kind k : ℕ) (s : List ℕ) (n : ℕ) → Weighs kind k s n → n ≤ 65537
weighs_few kind k s n w = elim (ℕ_discrete n 0) [
  | yes e ↦ omega arith
  | no h ↦
      let x = w.whole (record { nowhere = λ a b i. h (w.cut (λ u. u.nowhere a b i)) }) euro euro_is in
      omega (arith, x.count, gives_few kind k euro s x.found x.gives)
]
