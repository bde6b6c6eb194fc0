-- IBAN, CCY and ENUM, and the types side by side. Assumes nothing.
use Rattle.std.specs.Prelude.{◌≡◌, Bool, ◌||◌, List, [], ℕ, ◌+◌, ◌≤◌, length, take, drop}
use Rattle.text.specs.Bytes.{is_capital, is_letter, is_digit}
use Rattle.text.specs.Lists.{All}
use Rattle.list.specs.Listing.{Leaf, ref, iban, ccy, bool, num, amt, date, dtm, txt, enum}

unfoldable pub is_letter_or_digit : ℕ → Bool
is_letter_or_digit x = is_letter x || is_digit x

-- "IBAN: two capitals, two digits, 1 to 30 ASCII letters or digits"
pub record Iban (cs : List ℕ) : Type 0 where
  pub lengths : (2 + 2 + 1 ≤ length cs) × (length cs ≤ 2 + 2 + 30)
  pub capitals : All is_capital (take 2 cs)
  pub digits : All is_digit (take 2 (drop 2 cs))
  pub class : All is_letter_or_digit (drop (2 + 2) cs)

-- "CCY: three capitals"
pub record Ccy (cs : List ℕ) : Type 0 where
  pub three : length cs ≡ 3
  pub capitals : All is_capital cs

-- of each type: how many bytes stand before a value's own ("REF, TXT, IBAN, CCY: 16-bit byte length"), and its words, which ENUM alone has
abbrev pub traits : Leaf → ℕ × List (List ℕ)
traits ref = (2, [])
traits iban = (2, [])
traits ccy = (2, [])
traits bool = (0, [])
traits num = (0, [])
traits amt = (0, [])
traits date = (0, [])
traits dtm = (0, [])
traits (txt k) = (2, [])
traits (enum ws) = (0, ws)

abbrev pub words_of : Leaf → List (List ℕ)
words_of k = (traits k).1
