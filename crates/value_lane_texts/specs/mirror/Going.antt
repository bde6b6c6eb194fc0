-- A mirror: what was read of a text from a place on. Assumes nothing.
use Rattle.std.specs.Prelude.{◌≡◌, Bool, true, false, ◌&&◌, List, ◌++◌, ℕ, ◌+◌, ◌≤◌, ◌<◌, length, get_or, drop}
use Rattle.text.specs.Bytes.{in_range}
use Rattle.text.specs.Lists.{Each, All}
use Rattle.text_characters.specs.Utf8.{encode_all}
use Rattle.text_characters.specs.Pieces.{Spells}
use Rattle.value.specs.types.Text.{is_txt, is_ref}
use Rattle.value.specs.mirror.Texts.{text_from}
use Rattle.value_leaf.specs.mirror.Calm.{Calm}

-- g bytes of a raw text are entities' and not the value's; t bytes of the value are more than its characters
pub record Sofar (raw : List ℕ) (g t : ℕ) : Type 0 where
  pub chars : List ℕ
  pub spells : Spells raw chars
  pub class : All is_txt chars
  pub gone : length raw ≡ length (encode_all chars) + g
  pub tails : length (encode_all chars) ≡ length chars + t
  pub calm : Each Calm raw

-- that is so of what stands in s from `at` to i
pub record Going (s : List ℕ) (at i g t : ℕ) : Type 0 where
  pub raw : List ℕ
  pub is : drop at s ≡ raw ++ drop i s
  pub long : at + length raw ≡ i
  pub sofar : Sofar raw g t

-- the second byte of a character of TXT whose first is 0xC3
unfoldable pub is_second : ℕ → Bool
is_second y = is_txt (y + 0x40) && in_range 0x80 0xBF y

-- one of these stands in s at i
pub record Umlaut (s : List ℕ) (i : ℕ) : Type 0 where
  pub room : i + 1 < length s
  pub first : get_or s i 0 ≡ 0xC3
  pub second : is_second (get_or s (i + 1) 0) ≡ true

-- "REF: 1 to 35"
abbrev pub most_ref : ℕ
most_ref = 35

-- what stands in s from `at` to i is of a reference's characters, with no slash first or last and no two of them: a reference, or more of one
pub record Slashed (s : List ℕ) (at i : ℕ) : Type 0 where
  pub raw : List ℕ
  pub is : drop at s ≡ raw ++ drop i s
  pub long : at + length raw ≡ i
  pub some : 0 < length raw
  pub class : All is_ref raw
  pub goes : (cs : List ℕ) → length raw ≤ most_ref → text_from true most_ref 0 true true (raw ++ cs) ≡ text_from true most_ref (length raw) true false cs
