-- REF and TXTk: of which characters they are, and which texts there are. Assumes nothing.
use Rattle.std.specs.Prelude.{◌≡◌, Bool, ◌||◌, List, [], ◌∷◌, ◌++◌, ℕ, ◌≤◌, eqb, length}
use Prim.Native.Char.{code}
use Rattle.text.specs.Bytes.{in_range}
use Rattle.text.specs.Lists.{All}

-- "1 to k from ..; at least one not a space"
pub record Chars (is_one : ℕ → Bool) (k : ℕ) (cs : List ℕ) : Type 0 where
  pub some : 1 ≤ length cs
  pub most : length cs ≤ k
  pub class : All is_one cs
  pub ink : All (eqb (code " ")) cs → ⊥

-- TXTk: "letters, digits, space, `- + / ? : ( ) . , ' & > < " | $ % ! = # ~ ; * { } [ ] @ \ _ ^`": 0x20 to 0x7E without the backtick;
-- "and ä ö ü ß Ä Ö Ü € § °"
unfoldable pub is_txt : ℕ → Bool
is_txt x =
    in_range (code " ") (code "_") x || in_range (code "a") (code "~") x || eqb x (code "§") || eqb x (code "°") || eqb x (code "Ä") || eqb x (code "Ö") || eqb x (code "Ü") || eqb x (code "ß") || eqb x (code "ä") || eqb x (code "ö") || eqb x (code "ü") || eqb x (code "€")

-- "letters, digits, space and `- + ? : ( ) . , ' /`"
unfoldable pub is_ref : ℕ → Bool
is_ref x = eqb x (code " ") || in_range (code "'") (code ")") x || in_range (code "+") (code ":") x || eqb x (code "?") || in_range (code "A") (code "Z") x || in_range (code "a") (code "z") x

-- "REF: 1 to 35 of ..; no `/` first or last, no `//`"
pub record Ref (cs : List ℕ) : Type 0 where
  pub chars : Chars is_ref 35 cs
  pub first : (t : List ℕ) → cs ≡ code "/" ∷ t → ⊥
  pub last : (t : List ℕ) → cs ≡ t ++ (code "/" ∷ []) → ⊥
  pub twice : (t u : List ℕ) → cs ≡ t ++ (code "/" ∷ code "/" ∷ u) → ⊥
