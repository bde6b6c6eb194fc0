-- Only one result of the reader over a body fits. Assumes nothing.
use mathlib.Core.Path.{◌≡◌, sym, ap, ap₂}
use mathlib.Core.List.{List}
use Prim.Native.Nat.{ℕ}
use native.Mathlib.Omega.{arith}
use Rattle.std.specs.Prelude.{Result, Ok, Err}
use Rattle.answer.specs.declared.Answer.{Answer}
use Rattle.image.specs.mirror.Run.{Behind}
use Rattle.image.proofs.loops.Reader.{behind_one}
use Rattle.image_reader.specs.declared.Items.{Items}
use Rattle.image_reader.specs.declared.Broken.{Broken}
use Rattle.image_reader.specs.Taken.{answer_of, count_of}

module _ (t : List ℕ) (fin : ℕ → ℕ → ℕ) (s : List ℕ) (from : ℕ) where
  -- only one result keeps the promise of `body`: where items end the code is 0, where they break 17
  pub behind_result_one : (q r : Result Items Broken) → Behind t fin s from (answer_of q) (count_of q) → Behind t fin s from (answer_of r) (count_of r) → q ≡ r
  behind_result_one q r b c = go q r (behind_one t fin s from (answer_of q) (answer_of r) (count_of q) (count_of r) b c)
    where
      go : (q r : Result Items Broken) → (answer_of q ≡ answer_of r) × (count_of q ≡ count_of r) → q ≡ r
      go (Ok v) (Ok w) e = ap₂ (λ (a : Answer) (n : ℕ). Ok (record { end = a.place; count = n })) e.0 e.1
      go (Ok v) (Err d) e = absurd (omega (arith, ap (λ (a : Answer). a.code) e.0))
      go (Err b) (Ok w) e = absurd (omega (arith, ap (λ (a : Answer). a.code) (sym e.0)))
      go (Err b) (Err d) e = ap₂ (λ (a : Answer) (n : ℕ). Err (record { at = a.place; count = n })) e.0 e.1
