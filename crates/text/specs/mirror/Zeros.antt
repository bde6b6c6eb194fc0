-- A mirror: the zeros at the end of a number, by bytes. Assumes nothing.
use Rattle.std.specs.Prelude.{◌≡◌, ℕ, Bool, true, ◌+◌, ◌*◌, ◌/◌, ◌^◌, ◌<◌, ◌≤◌, List, get_or, length}
use Rattle.std.specs.Int.Count.{count_trailing_zeros}

-- how many bits a byte has, and a number of eight bytes
abbrev pub byte_bits : ℕ
byte_bits = 8

abbrev pub number_bits : ℕ
number_bits = 64

-- how many bytes of such a number are 0, from its first on
abbrev pub zero_bytes : ℕ → ℕ
zero_bytes d = count_trailing_zeros number_bits d / byte_bits

-- n is so many times m
pub record Multiple (m n : ℕ) : Type 0 where
  pub times : ℕ
  pub is : n ≡ times * m

-- where d is a multiple of 256 to the q, the first q of the eight bytes at i pass
pub record Tells (p : ℕ → Bool) (s : List ℕ) (i d : ℕ) : Type 0 where
  pub room : i + 8 ≤ length s
  pub passing : (q : ℕ) → q ≤ 8 → Multiple (256 ^ q) d → (k : ℕ) → k < q → p (get_or s (i + k) 0) ≡ true
