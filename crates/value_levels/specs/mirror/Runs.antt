-- A mirror: the bytes of a class, and of a text those that stand for themselves, where nothing is judged. Assumes nothing.
use Rattle.std.specs.Prelude.{◌≡◌, Bool, not, ◌&&◌, List, ℕ, ◌+◌, ◌≤◌, eqb, drop}
use Rattle.text.specs.Lists.{span}
use Rattle.text_characters.specs.Pieces.{less, ampersand}

-- a byte that stands for itself: neither `<`, which ends a text, nor `&`
unfoldable pub is_plain : ℕ → Bool
is_plain x = not (eqb x less) && not (eqb x ampersand)

-- from i to j there are bytes of the class p alone: it is no matter from where one goes on
pub record Over (p : ℕ → Bool) (s : List ℕ) (i j : ℕ) : Type 0 where
  pub from : i ≤ j
  pub rest : j + span p (drop j s) ≡ i + span p (drop i s)
