-- A mirror: the table of classes by which runs of bytes are jumped over. Assumes nothing.
use Rattle.std.specs.Prelude.{◌≡◌, Bool, cond, ◌||◌, List, ℕ, eqb, ltb, get_or}
use Prim.Native.Char.{code}
use Rattle.text.specs.Bytes.{in_range, is_blank, is_name_part}

-- a byte that stands in text for itself, whatever stands beside it: 0x20 to 0x7F without `&`, `<`, `>` and `]`
unfoldable pub is_plain : ℕ → Bool
is_plain x = in_range (code " ") (code "%") x || in_range (code "'") (code ";") x || eqb x (code "=") || in_range (code "?") (code "\\") x || in_range (code "^") 0x7F x

-- 2: a part of a name; 1: any other byte that stands in text for itself; 0: every other byte
unfoldable pub class_of : ℕ → ℕ
class_of x = cond (is_name_part x) 2 (cond (is_plain x || is_blank x) 1 0)

abbrev pub above : ℕ → ℕ → Bool
above level x = ltb level (class_of x)

pub record Classed (table : List ℕ) : Type 0 where
  pub is : (x : ℕ) → get_or table x 0 ≡ class_of x
