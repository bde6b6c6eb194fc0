-- Document 01's values keep the laws that images ask of values. Assumes nothing.
use mathlib.Core.List.{List}
use Prim.Native.Nat.{ℕ, ◌≤◌}
use native.Mathlib.Omega.{arith}
use lib.ListN.{length, length-append}
use Rattle.text.specs.Numbers.{big_endian}
use Rattle.text_characters.specs.Utf8.{encode_all}
use Rattle.list.specs.Listing.{Leaf, ref, iban, ccy, bool, num, amt, date, dtm, txt, enum}
use Rattle.value.specs.Value.{Value, text, IsValue, reference, writing, account, currency, bytes}
use Rattle.value.proofs.types.Values.{value_laws}
use Rattle.image.specs.Image.{Lawful}
use Rattle.image.specs.Kinds.{length_bytes, values}

two : (cs : List ℕ) → 2 ≤ length (bytes (text cs))
unfolding big_endian
two cs = omega (arith, length-append (big_endian 2 (length (encode_all cs))) (encode_all cs))

text_head : (k : Leaf) (v : Value) → IsValue k v → length_bytes k ≤ length (bytes v)
text_head ref v (reference {cs} h) = two cs
text_head iban v (account {cs} h) = two cs
text_head ccy v (currency {cs} h) = two cs
text_head bool v h = omega arith
text_head num v h = omega arith
text_head amt v h = omega arith
text_head date v h = omega arith
text_head dtm v h = omega arith
text_head (txt k) v (writing {cs} h) = two cs
text_head (enum ws) v h = omega arith

pub lawful : Lawful values
lawful = record { has = value_laws.some; prefix = value_laws.prefix; headed = text_head }
