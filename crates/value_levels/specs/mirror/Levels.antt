-- A mirror: classes of bytes as levels, each within the one below it. Assumes nothing.
use Rattle.std.specs.Prelude.{◌≡◌, Bool, cond, ◌&&◌, not, List, ℕ, ◌+◌, ◌≤◌, leb, eqb, get_or, drop}
use Rattle.text.specs.Bytes.{is_digit}
use Rattle.text.specs.Lists.{span}
use Rattle.text_characters.specs.Pieces.{greater}
use Rattle.value.specs.types.Code.{is_letter_or_digit}
use Rattle.value.specs.mirror.Texts.{quiet_txt, quiet_ref}

-- so many bytes are passed at a turn, and so many of a text at once
abbrev pub turn : ℕ
turn = 4

abbrev pub block : ℕ
block = 16

-- the levels above a text's and a reference's: letters and digits, digits alone
abbrev pub coded : ℕ
coded = 3

abbrev pub figures : ℕ
figures = 4

-- digits; letters; the other bytes of a reference, but for `/`; those of a text that stand for themselves, but for `>`; all others
unfoldable pub level_of : ℕ → ℕ
level_of x = cond (is_digit x) figures (cond (is_letter_or_digit x) coded (cond (quiet_ref x) 2 (cond (quiet_txt x && not (eqb x greater)) 1 0)))

abbrev pub reaches : ℕ → ℕ → Bool
reaches m x = leb m (level_of x)

-- a table that has the level of each byte
pub record Leveled (table : List ℕ) : Type 0 where
  pub is : (x : ℕ) → get_or table x 0 ≡ level_of x

-- s has bytes of level m and above from i to j, and it is no matter from where one goes on
pub record Ran (m : ℕ) (s : List ℕ) (i j : ℕ) : Type 0 where
  pub from : i ≤ j
  pub rest : j + span (reaches m) (drop j s) ≡ i + span (reaches m) (drop i s)
