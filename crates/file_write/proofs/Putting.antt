-- Words and parts put one after the other, and how many bytes they are at most. Assumes nothing.
use mathlib.Core.Path.{◌∙◌}
use mathlib.Core.List.{List, ◌++◌}
use Prim.Native.Nat.{ℕ, ◌+◌, ◌≤◌}
use native.Mathlib.Omega.{arith}
use lib.ListN.{length}
use lib.Seq.{slice}
use Rattle.text.proofs.Parts.{part_length}
use Rattle.list.specs.tables.Table.{cell}
use Rattle.text.specs.Puts.{Puts}
use Rattle.file_write.specs.mirror.Tags.{start_in}
use Rattle.file_write.specs.declared.put.Writer.{Writer}
use Rattle.file_write.specs.mirror.Writer.{Put}
use Rattle.text.proofs.Puts.{puts_then}

-- one after the other
pub put_then : (w w₁ w₂ : Writer) (u v : List ℕ) → Put w u w₁ → Put w₁ v w₂ → Put w (u ++ v) w₂
put_then w w₁ w₂ u v x y = (puts_then w.out.now w.at u w₁.at w₁.out.now v w₂.at w₂.out.now x.0 y.0, y.1 ∙ x.1)

-- a part is no longer than what it is a part of
pub part_most : (a b : ℕ) (s : List ℕ) → length (slice a b s) ≤ length s
part_most a b s = omega (arith, part_length a b s)

pub part_end : (d : List ℕ) (at a b : ℕ) (s : List ℕ) (q : ℕ) (d' : List ℕ) → Puts d at (slice a b s) q d' → q ≤ at + length s
part_end d at a b s q d' p = omega (arith, p.behind, part_most a b s)

pub start_end : (t pool d : List ℕ) (at r q : ℕ) (d' : List ℕ) → Puts d at (start_in t pool r) q d' → q ≤ at + 1 + length pool
start_end t pool d at r q d' p = omega (arith, p.behind, part_most (cell t r 4) (cell t r 5) pool)
