-- A mirror: which bytes are those of a value, kind by kind; of a text, the bytes after its length. Assumes nothing.
use Rattle.std.specs.Prelude.{Bool, true, false, if◌then◌else◌, Option, Some, None, ◌&&◌, ◌||◌, not, List, ℕ, ◌+◌, ◌%◌, ◌^◌, eqb, ltb, leb, length, get_or, take, drop}
use Rattle.text.specs.Bytes.{in_range, is_capital, is_digit}
use Rattle.text.specs.Numbers.{number}
use Rattle.text_characters.specs.mirror.Decoding.{decoded}
use Rattle.value.specs.types.Text.{is_txt, is_ref}
use Rattle.value.specs.mirror.Tests.{not_space}
use Rattle.value.specs.types.Code.{is_letter_or_digit}
unfoldable pub use Rattle.value.specs.types.Day.{is_real}
use Rattle.value.specs.mirror.Tests.{every, some, apart}
use Rattle.value.specs.mirror.Chars.{chars}
use Rattle.value.specs.Places.{number_size, stored_scale, stored_coefficient, stored_month, stored_day, stored_hour, stored_minute, stored_second, stored_micros, stored_offset}

unfoldable pub is_reference : List ℕ → Bool
is_reference b = leb (length b) 35 && (every is_ref b && (some not_space b && apart true b))

-- characters of TXTk of which n were read before, one of them no space if ink says so
unfoldable pub text_from : ℕ → ℕ → Bool → List ℕ → Bool
text_from k n ink cs = leb (n + length cs) k && (every is_txt cs && (ink || some not_space cs))

-- how many bytes the character of TXTk has that t begins with; none where it begins with none
unfoldable pub txt_len : List ℕ → Option ℕ
txt_len t = if is_txt (decoded t).code then Some (decoded t).len else None

unfoldable pub is_writing : ℕ → List ℕ → Bool
is_writing k b = text_from k 0 false (chars b)

unfoldable pub is_account : List ℕ → Bool
is_account b =
    in_range (2 + 2 + 1) (2 + 2 + 30) (length b) && (every is_capital (take 2 b) && (every is_digit (take 2 (drop 2 b)) && every is_letter_or_digit (drop (2 + 2) b)))

unfoldable pub is_currency : List ℕ → Bool
is_currency b = eqb (length b) 3 && every is_capital b

unfoldable pub is_place : ℕ → List ℕ → Bool
is_place n b = in_range 1 n (get_or b 0 0)

unfoldable pub is_truth : List ℕ → Bool
is_truth b = leb (get_or b 0 0) 1

unfoldable pub is_natural : List ℕ → Bool
is_natural b = ltb (number (take number_size b)) (10 ^ 18)

-- the scale is the smallest: it is 0, or the last digit is none
unfoldable pub is_amount : List ℕ → Bool
is_amount b =
    is_currency (take 3 b) && (leb (get_or b stored_scale 0) 5 && (ltb (number (take number_size (drop stored_coefficient b))) (10 ^ 18) && (eqb (get_or b stored_scale 0) 0 || not (eqb (number (take number_size (drop stored_coefficient b)) % 10) 0))))

unfoldable pub is_day : List ℕ → Bool
is_day b = is_real (number (take 2 b)) (get_or b stored_month 0) (get_or b stored_day 0)

unfoldable pub is_moment : List ℕ → Bool
is_moment b =
    is_day b && (leb (get_or b stored_hour 0) 23 && (leb (get_or b stored_minute 0) 59 && (leb (get_or b stored_second 0) 59 && (ltb (number (take 4 (drop stored_micros b))) (10 ^ 6) && leb (number (take 2 (drop stored_offset b))) (840 + 840)))))
