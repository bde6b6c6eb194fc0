-- A mirror: how an account number begins. Assumes nothing.
use Rattle.std.specs.Prelude.{◌≡◌, true, List, ℕ, ◌+◌, get_or}
use Rattle.text.specs.Bytes.{is_capital, is_digit}

-- so many bytes
abbrev pub head : ℕ
head = 4

-- the last of them
abbrev pub last : ℕ
last = 3

-- two capitals and two digits stand in s from `at` on
pub record Headed (s : List ℕ) (at : ℕ) : Type 0 where
  pub c0 : is_capital (get_or s at 0) ≡ true
  pub c1 : is_capital (get_or s (at + 1) 0) ≡ true
  pub d2 : is_digit (get_or s (at + 2) 0) ≡ true
  pub d3 : is_digit (get_or s (at + last) 0) ≡ true
