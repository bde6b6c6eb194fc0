-- A currency by its raw bytes, with document 01's types: three capitals spell themselves. Assumes nothing.
use mathlib.Core.Path.{◌≡◌, refl, sym, subst}
use mathlib.Core.List.{List, []}
use Prim.Native.Nat.{ℕ}
use Rattle.list.specs.Listing.{ccy}
use Rattle.value.specs.types.Code.{Ccy}
use Rattle.value.specs.Value.{Value, text, IsValue, currency, Wording}
use Rattle.value.specs.mirror.Judges.{is_currency}
use Rattle.value.proofs.stored.texts.Codes.{currency_exactly}
use Rattle.file_walk.proofs.violation.Answers.{iff_same}
use Rattle.file_walk.proofs.bytes.Own.{Coins, coins_of}
use Rattle.file.proofs.answers.House.{house_judge, deciding}

spelt_ccy : (w cs : List ℕ) (v : Value) → IsValue ccy v → Wording ccy w cs v → Ccy cs
spelt_ccy w cs v (currency c) e = subst Ccy (sym e) c

-- judged by the relation: a text of the type CCY is three capitals
coin_by : (w : List ℕ) → is_currency w ≡ house_judge.value ccy [] w
coin_by w = iff_same (is_currency w) (house_judge.value ccy [] w)
    (λ e. (deciding.value ccy [] w).1 (text w, record { is = currency ((currency_exactly w).0 e); wording = refl }))
    (λ e.
    let v = (deciding.value ccy [] w).0 e in
    (currency_exactly w).1 (spelt_ccy [] w v.0 v.1.is v.1.wording))

pub coins : Coins house_judge
coins = coins_of house_judge coin_by
