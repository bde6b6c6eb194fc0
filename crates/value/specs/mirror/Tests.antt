-- A mirror: tests of lists. Assumes nothing.
use Rattle.std.specs.Prelude.{Bool, true, false, ◌&&◌, ◌||◌, not, List, [], ◌∷◌, ℕ, eqb, ltb}
use Prim.Native.Char.{code}

unfoldable pub is_byte : ℕ → Bool
is_byte x = ltb x 256

abbrev pub not_space : ℕ → Bool
not_space x = not (eqb x (code " "))

-- every one passes
unfoldable pub every : (ℕ → Bool) → List ℕ → Bool
every p [] = true
every p (x ∷ xs) = p x && every p xs

-- one at least passes
unfoldable pub some : (ℕ → Bool) → List ℕ → Bool
some p [] = false
some p (x ∷ xs) = p x || some p xs

-- no slash beside another, none last, and none first where `slash` says that one would be the second
unfoldable pub apart : Bool → List ℕ → Bool
apart slash [] = not slash
apart slash (x ∷ xs) = not (slash && eqb x (code "/")) && apart (eqb x (code "/")) xs
