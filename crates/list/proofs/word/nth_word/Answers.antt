-- `word::nth_word` meets its contract. Assumes nothing.
use Rattle.std.proofs.Common.{rules, tests, ◌==◌, refl}
use Rattle.std.proofs.lemmas.Iterator.Consumers.{nth_from_yields_List}
use Rattle.std.proofs.lemmas.Iterator.Splits.{YieldsList-from_slice_split}
use Rattle.list.proofs.words.Split.{nth_is}
use Rattle.list.proofs.word.nth_word.Goals as goal

pub returns : goal.returns
returns c =
    let text = c.named_part-text.result.now in
    let found = nth_from_yields_List c.nth.result c.nth.new.self c.args.n c.nth.ensures.ran
    (YieldsList-from_slice_split _ (λ b. b == 32) text c.split.ensures.rest c.split.ensures.done c.split.ensures.closure (λ x r q k. search (rules, tests))) in
    rw c.unwrap_or.ensures (nth_is _ _ _ _ _ c.named_part-text.ensures refl found)
