-- How many bytes a value has, kind by kind. Assumes nothing.
use mathlib.Core.Path.{◌≡◌, refl}
use mathlib.Core.Bool.{Bool}
use mathlib.Core.List.{List}
use Prim.Native.Nat.{ℕ, ◌+◌}
use lib.ListN.{length}
use Rattle.text.specs.Numbers.{big_endian}
use Rattle.text_characters.specs.Utf8.{encode_all}
use Rattle.list.specs.Listing.{amt}
use Rattle.value.proofs.types.Values.{text_bytes_lem, money_bytes, day_bytes, moment_bytes}
use Rattle.value.specs.Value.{Value, text, place, truth, natural, day, moment, IsValue, money, bytes}

-- a text's own bytes stand after the two of its length; the other kinds have as many bytes as docs/IMAGE.md says, whatever the value
pub record Sizes : Type 0 where
  pub of_text : (cs : List ℕ) → length (bytes (text cs)) ≡ 2 + length (encode_all cs)
  pub of_enum : (n : ℕ) → length (bytes (place n)) ≡ 1
  pub of_bool : (b : Bool) → length (bytes (truth b)) ≡ 1
  pub of_num : (n : ℕ) → length (bytes (natural n)) ≡ 8
  pub of_amt : (v : Value) → IsValue amt v → length (bytes v) ≡ 12
  pub of_date : (y m d : ℕ) → length (bytes (day y m d)) ≡ 4
  pub of_dtm : (y mo d h mi s u z : ℕ) → length (bytes (moment y mo d h mi s u z)) ≡ 13

eight : (n : ℕ) → length (big_endian 8 n) ≡ 8
unfolding big_endian
eight n = refl

amounts : (v : Value) → IsValue amt v → length (bytes v) ≡ 12
amounts v (money {w} {k} {c} h b) = money_bytes w k c h

pub sizes : Sizes
sizes = record {
  of_text = text_bytes_lem;
  of_enum = λ n. refl;
  of_bool = λ b. refl;
  of_num = eight;
  of_amt = amounts;
  of_date = day_bytes;
  of_dtm = moment_bytes;
}
