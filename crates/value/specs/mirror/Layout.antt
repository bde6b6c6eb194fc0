-- A mirror: which byte may stand where in an account number. Assumes nothing.
use Rattle.std.specs.Prelude.{Bool, cond, ℕ, ◌+◌, ltb}
use Rattle.text.specs.Bytes.{is_capital, is_digit}
use Rattle.value.specs.types.Code.{is_letter_or_digit}

unfoldable pub iban_at : ℕ → ℕ → Bool
iban_at i b = cond (ltb i 2) (is_capital b) (cond (ltb i (2 + 2)) (is_digit b) (is_letter_or_digit b))
