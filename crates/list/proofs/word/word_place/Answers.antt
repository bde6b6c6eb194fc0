-- `word::word_place` meets its contract. Assumes nothing.
use Rattle.std.proofs.Common.{rules, tests, ◌==◌}
use Rattle.std.proofs.lemmas.Iterator.Search.{position_from_yields_List}
use Rattle.std.proofs.lemmas.Iterator.Splits.{YieldsList-from_slice_split}
use Rattle.text.specs.Lists.{same}
use Rattle.list.proofs.words.Split.{no_place, place_by}
use Rattle.list.proofs.word.word_place.Goals as goal

pub returns-then-is_empty : goal.returns-then-is_empty
returns-then-is_empty c =
    no_place c.args.word.now _ _ c.named_part-text.ensures (search (rules, tests))

pub returns : goal.returns
returns c =
    let text = c.named_part-text.result.now in
    let found = position_from_yields_List (λ w. same w c.args.word.now) _ _ c.position.result c.position.ensures.ran
    (YieldsList-from_slice_split _ (λ b. b == 32) text c.split.ensures.rest c.split.ensures.done c.split.ensures.closure (λ x r q k. search (rules, tests)))
    (λ x r q k. search (rules, tests)) in
    place_by c.args.word.now _ _ _ _ c.named_part-text.ensures (search (rules, tests)) found (search rules)
