-- Bytes in lower-case hexadecimal. Assumes nothing.
use Rattle.std.specs.Prelude.{cond, List, [], ◌∷◌, ℕ, ◌+◌, ◌-◌, ◌/◌, ◌%◌, ltb}
use Prim.Native.Char.{code}

-- 0 to 9, then a to f
unfoldable pub hex_digit : ℕ → ℕ
hex_digit n = cond (ltb n 10) (code "0" + n) (code "a" - 10 + n)

-- "in lower-case hexadecimal": each byte two digits, the more significant first
unfoldable pub hexadecimal : List ℕ → List ℕ
hexadecimal [] = []
hexadecimal (x ∷ xs) = hex_digit (x / 16) ∷ hex_digit (x % 16) ∷ hexadecimal xs
