-- Bytes by class, and texts of the definitions as bytes. Assumes nothing.
use Rattle.std.specs.Prelude.{ℕ, Bool, ◌&&◌, ◌||◌, List, [], ◌∷◌, ◌==◌, nat_le, nat_lt}
pub use Prim.Native.Char.{code}
use Prim.Native.String.{String}

-- an ASCII text's bytes
abbrev pub ascii : String → List ℕ
ascii Prim.Native.String.[] = []
ascii (Prim.Native.String.◌∷◌ c s) = code c ∷ ascii s

-- from `a` to `b`, both counted
abbrev pub in_range : ℕ → ℕ → ℕ → Bool
in_range a b x = nat_le a x && nat_le x b

-- a byte that is a character of UTF-8 by itself
unfoldable pub is_ascii : ℕ → Bool
is_ascii x = nat_lt x 0x80

-- "blanks (space, tab, LF, CR)"
unfoldable pub is_blank : ℕ → Bool
is_blank x = x == (code " ") || x == (code "\t") || x == (code "\n") || x == (code "\r")

-- "Letters, capitals and digits are ASCII"
unfoldable pub is_capital : ℕ → Bool
is_capital x = in_range (code "A") (code "Z") x

unfoldable pub is_letter : ℕ → Bool
is_letter x = in_range (code "A") (code "Z") x || in_range (code "a") (code "z") x

unfoldable pub is_digit : ℕ → Bool
is_digit x = in_range (code "0") (code "9") x

-- "A name is a letter or `_` .. (ASCII)"
unfoldable pub is_name_start : ℕ → Bool
is_name_start x = in_range (code "A") (code "Z") x || in_range (code "a") (code "z") x || x == (code "_")

-- ".. then letters, digits, `.`, `-`, `_`"
unfoldable pub is_name_part : ℕ → Bool
is_name_part x = in_range (code "A") (code "Z") x || in_range (code "a") (code "z") x || in_range (code "0") (code "9") x || x == (code ".") || x == (code "-") || x == (code "_")

-- an ASCII character that is written in one way only: no blank, and none that an entity stands for
unfoldable pub is_unmarked : ℕ → Bool
is_unmarked x = x == (code "!") || in_range (code "#") (code "%") x || in_range (code "(") (code ";") x || x == (code "=") || in_range (code "?") (code "~") x
