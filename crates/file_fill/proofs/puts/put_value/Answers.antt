-- `puts::put_value` meets its contract. Assumes nothing.
use native.Mathlib.Omega.{arith}
use Rattle.file_fill.proofs.Laying.{asked_at, asked_to, text_asked, text_laid, word_done, past_word, day_done, coin_told, no_coin_told, coin_laid, other_laid}
use Rattle.file_fill.proofs.puts.put_value.Goals as goal

pub put_text-requires : goal.put_text-requires
put_text-requires c =
    let pre = c.requires in
    text_asked _ _ _ _ _ c.if-kind-lt-ENUM.true _ _ pre

pub returns-then-kind-lt-ENUM : goal.returns-then-kind-lt-ENUM
returns-then-kind-lt-ENUM c = text_laid _ _ _ _ _ c.if-kind-lt-ENUM.true _ _ _ _ _ c.put_text.ensures

pub word-requires : goal.word-requires
word-requires c =
    let pre = c.requires in
    (pre.table, omega (arith, asked_at _ _ _ _ _ _ _ pre, pre.small))

pub overflow_add-result : goal.overflow_add-result
overflow_add-result c =
    omega (arith, asked_to _ _ _ _ _ _ _ c.requires, c.well_formed.1.1.1.1.1.0.0)

pub overflow_add-result-then-kind-eq-ENUM : goal.overflow_add-result-then-kind-eq-ENUM
overflow_add-result-then-kind-eq-ENUM c =
    let pre = c.requires in
    omega (arith, asked_at _ _ _ _ _ _ _ pre, pre.small)

pub returns-then-kind-eq-ENUM : goal.returns-then-kind-eq-ENUM
returns-then-kind-eq-ENUM c = word_done _ _ _ _ _ _ _ c.requires c.if-kind-eq-ENUM.true _ c.word.ensures _ c.place.ensures

pub put_day-requires : goal.put_day-requires
put_day-requires c =
    let pre = c.requires in
    (omega (arith, asked_at _ _ _ _ _ _ _ pre, pre.small), omega (arith, asked_to _ _ _ _ _ _ _ pre))

pub returns-then-kind-eq-DATE : goal.returns-then-kind-eq-DATE
returns-then-kind-eq-DATE c =
    let told = c.put_day.ensures in
    day_done _ _ _ _ _ _ _ _ _ _ c.if-kind-eq-DATE.true told

pub overflow_add-at : goal.overflow_add-at
overflow_add-at c =
    let pre = c.requires in
    omega (arith, asked_at _ _ _ _ _ _ _ pre, pre.small)

pub put_other-requires : goal.put_other-requires
put_other-requires c =
    let pre = c.requires in
    (omega (arith, asked_at _ _ _ _ _ _ _ pre, pre.small), omega (arith, asked_to _ _ _ _ _ _ _ pre))

pub returns-then-kind : goal.returns-then-kind
returns-then-kind c =
    let told = c.put_other.ensures in
    let quoted = coin_told _ c.if-kind.true in
    coin_laid _ _ _ _ _ _ _ _ _ _ _ told.1.1 quoted.0 quoted.1 told.0 told.1.2

pub put_other-requires-2 : goal.put_other-requires-2
put_other-requires-2 c =
    let pre = c.requires in
    (omega (arith, asked_at _ _ _ _ _ _ _ pre, pre.small), omega (arith, asked_to _ _ _ _ _ _ _ pre))

pub returns : goal.returns
returns c =
    let told = c.put_other-2.ensures in
    let high = past_word _ c.if-kind-lt-ENUM.false c.if-kind-eq-ENUM.false in
    let bare = no_coin_told _ c.if-kind.false in
    other_laid _ _ _ _ _ _ _ _ _ _ _ told.1.1 high bare.0 bare.1 told.0 _ told.1.2
