-- Where bytes at a place end, by a test of them. Assumes nothing.
use Rattle.std.specs.Prelude.{Bool, ◌&&◌, if◌then◌else◌, Option, Some, None, List, ℕ, ◌+◌, leb, length, take, drop}

-- the place after w bytes that stand at a place of s, where there are so many and those after the first h pass
abbrev pub ended : ℕ → ℕ → (List ℕ → Bool) → List ℕ → ℕ → Option ℕ
ended h w p s at = if leb w (length (drop at s)) && p (drop h (take w (drop at s))) then Some (at + w) else None
