-- `end::length_of` meets its contract: each kind has its test. Assumes nothing.
use Rattle.std.proofs.Common.{sym, arith, rules}
use Rattle.value.specs.mirror.Ends.{head, width, is_value}
use Rattle.value.specs.mirror.Judges.{is_reference, is_writing, is_account, is_currency, is_place, is_truth, is_natural, is_amount, is_day, is_moment}
use Rattle.value.proofs.types.Ones.{exactly_one}
use Rattle.value.proofs.stored.Numbered.{other_value}
use Rattle.value.proofs.stored.texts.Codes.{account_exactly, currency_exactly}
use Rattle.value_kinds_stored.proofs.Ended.{long_of, long_none}
use Rattle.value_kinds_stored.proofs.end.length_of.Goals as goal

pub returns-in-2 : goal.returns-in-2
unfolding head width is_value
returns-in-2 c =
    let g = c.args in
    long_of g.kind g.k g.words g.there.now 2 c.in-2.is (λ i. omega (arith, c.type_inv.there i)) c.text_end.result (c.text_end.ensures is_reference (λ b r h. search rules))

pub returns-in-3 : goal.returns-in-3
unfolding head width is_value
returns-in-3 c =
    let g = c.args in
    long_of g.kind g.k g.words g.there.now 3 c.in-3.is (λ i. omega (arith, c.type_inv.there i)) c.text_end-in-3.result (c.text_end-in-3.ensures (is_writing c.args.k) (λ b r h. search rules))

pub returns-in-4 : goal.returns-in-4
unfolding head width is_value
returns-in-4 c =
    let g = c.args in
    long_of g.kind g.k g.words g.there.now 4 c.in-4.is (λ i. omega (arith, c.type_inv.there i)) c.text_end-in-4.result (c.text_end-in-4.ensures is_account (λ b r h. exactly_one _ _ h (account_exactly _)))

pub returns-in-5 : goal.returns-in-5
unfolding head width is_value
returns-in-5 c =
    let g = c.args in
    long_of g.kind g.k g.words g.there.now 5 c.in-5.is (λ i. omega (arith, c.type_inv.there i)) c.text_end-in-5.result (c.text_end-in-5.ensures is_currency (λ b r h. exactly_one _ _ h (currency_exactly _)))

pub returns-in-6 : goal.returns-in-6
unfolding head width is_value
returns-in-6 c =
    let g = c.args in
    long_of g.kind g.k g.words g.there.now 6 c.in-6.is (λ i. omega (arith, c.type_inv.there i)) c.end_of.result (c.end_of.ensures (is_place c.args.words) (λ b r h. search rules))

pub returns-in-7 : goal.returns-in-7
unfolding head width is_value
returns-in-7 c =
    let g = c.args in
    long_of g.kind g.k g.words g.there.now 7 c.in-7.is (λ i. omega (arith, c.type_inv.there i)) c.end_of-in-7.result (c.end_of-in-7.ensures is_truth (λ b r h. search rules))

pub returns-in-8 : goal.returns-in-8
unfolding head width is_value
returns-in-8 c =
    let g = c.args in
    long_of g.kind g.k g.words g.there.now 8 c.in-8.is (λ i. omega (arith, c.type_inv.there i)) c.end_of-in-8.result (c.end_of-in-8.ensures is_natural (λ b r h. search rules))

pub returns-in-9 : goal.returns-in-9
unfolding head width is_value
returns-in-9 c =
    let g = c.args in
    long_of g.kind g.k g.words g.there.now 9 c.in-9.is (λ i. omega (arith, c.type_inv.there i)) c.end_of-in-9.result (c.end_of-in-9.ensures is_amount (λ b r h. search rules))

pub returns-in-10 : goal.returns-in-10
unfolding head width is_value
returns-in-10 c =
    let g = c.args in
    long_of g.kind g.k g.words g.there.now 10 c.in-10.is (λ i. omega (arith, c.type_inv.there i)) c.end_of-in-10.result (c.end_of-in-10.ensures is_day (λ b r h. search rules))

pub returns-in-11 : goal.returns-in-11
unfolding head width is_value
returns-in-11 c =
    let g = c.args in
    long_of g.kind g.k g.words g.there.now 11 c.in-11.is (λ i. omega (arith, c.type_inv.there i)) c.end_of-in-11.result (c.end_of-in-11.ensures is_moment (λ b r h. search rules))

pub returns-in_default : goal.returns-in_default
returns-in_default c =
    let r = c.in_default.in_default-own.rest in
    let g = c.args in
    long_none g.kind g.k g.words g.there.now (λ b. sym (other_value _ _ _ b r.0.0.0.0.0.0.0.0.0.1 r.0.0.0.0.0.0.0.0.1 r.0.0.0.0.0.0.0.1 r.0.0.0.0.0.0.1 r.0.0.0.0.0.1 r.0.0.0.0.1 r.0.0.0.1 r.0.0.1 r.0.1 r.1))
