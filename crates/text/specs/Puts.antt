-- Bytes put one after the other into a lent buffer. Assumes nothing.
use Rattle.std.specs.Prelude.{◌≡◌, ℕ, ◌+◌, ◌*◌, ◌^◌, ◌≤◌, List, length}
use Rattle.text.specs.Pasting.{pasted}

-- places and sums that are bounded by these do not overflow; no file, image or line comes near them. Each leaves room for what a caller adds
abbrev pub near : ℕ
near = 10 ^ 12

abbrev pub far : ℕ
far = 10 ^ 13

abbrev pub farther : ℕ
farther = 9 * 10 ^ 13

abbrev pub farthest : ℕ
farthest = 10 ^ 14

-- bs stand in the buffer from `at` on where they fit in, and r is the place after them; the buffer keeps its length
pub record Puts (d : List ℕ) (at : ℕ) (bs : List ℕ) (r : ℕ) (d' : List ℕ) : Type 0 where
  pub behind : r ≡ at + length bs
  pub long : length d' ≡ length d
  pub is : at + length bs ≤ length d → d' ≡ pasted d at bs
