-- A mirror: how a character of UTF-8 is decoded, by its first byte. Assumes nothing.
use Rattle.std.specs.Prelude.{◌≡◌, Bool, cond, ◌&&◌, ◌||◌, List, [], ◌∷◌, ℕ, ◌+◌, ◌*◌, ◌%◌, ◌≤◌, ltb, leb, get_or}
use Rattle.text.specs.Bytes.{in_range}
use Rattle.text_characters.specs.Chars.{char_of, Decoded}
use Rattle.text_characters.specs.declared.utf8.Char.{Char}

-- a byte of a sequence that is not its first
unfoldable pub is_tail : ℕ → Bool
is_tail x = in_range 0x80 0xBF x

unfoldable pub is_scalar : ℕ → Bool
is_scalar c = in_range 0 0xD7FF c || in_range 0xE000 0x10FFFF c

-- n bytes that spell c: in the shortest form, and a scalar value
unfoldable pub kept : ℕ → ℕ → ℕ → Char
kept n low c = cond (leb low c && is_scalar c) (char_of n c) (char_of 0 0)

unfoldable pub two : ℕ → ℕ → Char
two x y = cond (is_tail y) (kept 2 0x80 (x % 0x20 * 0x40 + y % 0x40)) (char_of 0 0)

unfoldable pub three : ℕ → ℕ → ℕ → Char
three x y z = cond (is_tail y && is_tail z) (kept 3 0x800 (x % 0x10 * 0x1000 + y % 0x40 * 0x40 + z % 0x40)) (char_of 0 0)

unfoldable pub four : ℕ → ℕ → ℕ → ℕ → Char
four x y z w =
    cond (is_tail y && is_tail z && is_tail w) (kept 4 0x10000 (x % 0x8 * 0x40000 + y % 0x40 * 0x1000 + z % 0x40 * 0x40 + w % 0x40))
    (char_of 0 0)

-- by the first byte; a byte past the end counts as 0, which is no tail
abbrev pub by_first : ℕ → ℕ → ℕ → ℕ → Char
by_first x y z w =
    cond (ltb x 0x80) (char_of 1 x)
    (cond (ltb x 0xC0) (char_of 0 0)
    (cond (ltb x 0xE0) (two x y)
    (cond (ltb x 0xF0) (three x y z)
    (cond (ltb x 0xF8) (four x y z w)
    (char_of 0 0)))))

unfoldable pub decoded : List ℕ → Char
decoded [] = char_of 0 0
decoded (x ∷ t) = by_first x (get_or t 0 0) (get_or t 1 0) (get_or t 2 0)

-- a number that, if it is not 0, is a character of two bytes that s begins with
abbrev pub Paired : List ℕ → ℕ → Type 0
Paired s r = (r ≡ 0 → ⊥) → Decoded s (char_of 2 r) × ((0x80 ≤ r) × (r ≤ 0x7FF))
