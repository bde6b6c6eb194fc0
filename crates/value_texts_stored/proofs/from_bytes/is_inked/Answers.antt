-- `from_bytes::is_inked` meets its contract. Assumes nothing.
use Rattle.std.proofs.Common.{rules, tests, ◌∙◌}
use Rattle.std.proofs.lemmas.Iterator.{YieldsList-from_slice}
use Rattle.std.proofs.lemmas.Iterator.Search.{any_from_yields_List}
use Rattle.value.specs.mirror.Tests.{not_space}
use Rattle.value.proofs.stored.Listed.{some_is}
use Rattle.value_texts_stored.proofs.from_bytes.is_inked.Goals as goal

pub returns : goal.returns
returns c =
    any_from_yields_List not_space _ _ c.any.result c.any.ensures.ran (YieldsList-from_slice c.args.b.now cc) (λ x r q k. search (rules, tests))
    ∙ some_is not_space c.args.b.now
