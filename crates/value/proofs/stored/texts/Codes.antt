-- CCY and IBAN as tests of their characters. Assumes nothing.
use mathlib.Core.Path.{◌≡◌}
use mathlib.Core.Bool.{true}
use mathlib.Core.List.{List}
use Prim.Native.Nat.{ℕ}
use lib.Dec.{eqb}
use lib.ListN.{length, take, drop}
use borrow.Author.Tests.{eqb-true, eq-eqb}
use Rattle.text.specs.Bytes.{in_range, is_capital, is_digit}
use Rattle.text.proofs.Classes.{and_is, in_range_lem, in_range_is}
use Rattle.value.specs.types.Code.{Iban, Ccy, is_letter_or_digit}
use Rattle.value.specs.Judged.{Exactly}
use Rattle.value.specs.mirror.Tests.{every}
use Rattle.value.specs.mirror.Judges.{is_account, is_currency}
use Rattle.value.proofs.stored.Listed.{every_all, all_every}

pub currency_exactly : (b : List ℕ) → Exactly (is_currency b) (Ccy b)
unfolding is_currency
currency_exactly b = (
  λ e. let w = and_is (eqb (length b) 3) (every is_capital b) e in record { three = eqb-true (length b) 3 w.0; capitals = every_all is_capital b w.1 },
  λ c. rw (eq-eqb (length b) 3 c.three) (all_every is_capital b c.capitals),
)

account_to : (b : List ℕ) → is_account b ≡ true → Iban b
unfolding is_account
account_to b e =
    let l = and_is (in_range 5 34 (length b)) _ e in
    let n = in_range_is 5 34 (length b) l.0 in
    let c = and_is (every is_capital (take 2 b)) _ l.1 in
    let d = and_is (every is_digit (take 2 (drop 2 b))) _ c.1 in
    record {
      lengths = n;
      capitals = every_all is_capital (take 2 b) c.0;
      digits = every_all is_digit (take 2 (drop 2 b)) d.0;
      class = every_all is_letter_or_digit (drop 4 b) d.1;
    }

account_from : (b : List ℕ) → Iban b → is_account b ≡ true
unfolding is_account
account_from b i =
    rw (in_range_lem 5 34 (length b) i.lengths.0 i.lengths.1, all_every is_capital (take 2 b) i.capitals, all_every is_digit (take 2 (drop 2 b)) i.digits) (all_every is_letter_or_digit (drop 4 b) i.class)

pub account_exactly : (b : List ℕ) → Exactly (is_account b) (Iban b)
account_exactly b = (account_to b, account_from b)
