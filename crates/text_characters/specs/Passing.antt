-- Texts whose characters pass a test. Assumes nothing.
use Rattle.std.specs.Prelude.{◌≡◌, Bool, true, List, ℕ}
use Rattle.text_characters.specs.Pieces.{Spells}

-- s spells characters that pass the test g
pub record Passes (g : List ℕ → Bool) (s : List ℕ) : Type 0 where
  pub chars : List ℕ
  pub spells : Spells s chars
  pub passes : g chars ≡ true
