-- `to_text::raw_len` meets its contract. Assumes nothing.
use Rattle.std.proofs.Common.{◌≡◌, rules, tests, arith}
use Rattle.std.specs.List.{sum_by}
use Rattle.std.proofs.lemmas.Iterator.{YieldsList-from_slice, YieldsList-from_map}
use Rattle.std.proofs.lemmas.Iterator.Consumers.{sum_by_from_yields_List}
use Rattle.value.proofs.script.Escaping.{more, escaped_more, escaped_most}
use Rattle.value_texts_put.proofs.to_text.raw_len.Goals as goal

pub returns : goal.returns
returns c =
    let t = c.args.t.now in
    let all : c.sum-more.result ≡ sum_by more t =
    sum_by_from_yields_List more t c.map.result c.sum-more.result c.sum-more.ensures.ran (YieldsList-from_map _ more (YieldsList-from_slice t cc) c.map.ensures.closure (λ x r q k. search (rules, tests))) in
    (omega (arith, all, escaped_more t), omega (arith, all, escaped_more t, escaped_most t, c.requires))
