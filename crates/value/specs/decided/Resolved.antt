-- A decision: which characters a raw text spells, computed; `Spells` of `text_characters` says what is right, and proofs/Resolved that this is it. Assumes nothing.
use Rattle.std.specs.Prelude.{cond, List, [], ◌∷◌, ℕ, zero, suc, eqb, length, drop}
use Rattle.std.proofs.Math.Option.{Option, some, none}
use Rattle.text_characters.specs.mirror.Resolving.{char_at}

-- c before what was read after it
abbrev pub ahead : ℕ → Option (List ℕ) → Option (List ℕ)
ahead c none = none
ahead c (some cs) = some (c ∷ cs)

-- in n steps at most; a character of no byte is none
unfoldable pub chars_within : ℕ → List ℕ → Option (List ℕ)
chars_within zero [] = some []
chars_within zero (x ∷ s) = none
chars_within (suc n) [] = some []
chars_within (suc n) (x ∷ s) =
    cond (eqb (char_at (x ∷ s)).len 0) none (ahead (char_at (x ∷ s)).code (chars_within n (drop (char_at (x ∷ s)).len (x ∷ s))))

abbrev pub chars_of : List ℕ → Option (List ℕ)
chars_of s = chars_within (length s) s
