-- A mirror: where a value ends, by the number of its kind in a table (list's column KIND). Assumes nothing.
use Rattle.std.specs.Prelude.{Bool, false, cond, ◌&&◌, List, [], ◌∷◌, ℕ, ◌+◌, leb, length, get_or, take, drop}
use Rattle.text.specs.Numbers.{number}
use Rattle.value.specs.mirror.Tests.{is_byte, every}
use Rattle.value.specs.mirror.Judges.{is_reference, is_writing, is_account, is_currency, is_place, is_truth, is_natural, is_amount, is_day, is_moment}
use Rattle.value.specs.Places.{number_size, amount_size, date_size, moment_size}

-- how many bytes of a value are its length
unfoldable pub head : ℕ → ℕ
head c = get_or (0 ∷ 0 ∷ 2 ∷ 2 ∷ 2 ∷ 2 ∷ []) c 0

-- how many bytes a value has that t begins with
unfoldable pub width : ℕ → List ℕ → ℕ
width c t =
    get_or
    (0 ∷ 0 ∷ (2 + number (take 2 t)) ∷ (2 + number (take 2 t)) ∷ (2 + number (take 2 t)) ∷ (2 + number (take 2 t)) ∷ 1 ∷ 1 ∷ number_size ∷ amount_size ∷ date_size ∷ moment_size ∷ [])
    c 0

-- these bytes, without their length, are a value of kind c; k is that of TXTk, n the number of an ENUM's words
unfoldable pub is_value : ℕ → ℕ → ℕ → List ℕ → Bool
is_value c k n b =
    get_or
    (false ∷ false ∷ is_reference b ∷ is_writing k b ∷ is_account b ∷ is_currency b ∷ is_place n b ∷ is_truth b ∷ is_natural b ∷ is_amount b ∷ is_day b ∷ is_moment b ∷ [])
    c false

-- t begins with a value of kind c
unfoldable pub begins : ℕ → ℕ → ℕ → List ℕ → Bool
begins c k n t =
    leb (width c t) (length t) && (every is_byte (take (width c t) t) && is_value c k n (drop (head c) (take (width c t) t)))

-- after the value of kind c that stands at a place of s; 0 where none does
unfoldable pub value_end : ℕ → ℕ → ℕ → List ℕ → ℕ → ℕ
value_end c k n s at = cond (begins c k n (drop at s)) (at + width c (drop at s)) 0
