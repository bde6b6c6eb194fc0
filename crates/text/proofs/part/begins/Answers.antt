-- `part::begins` meets its contract. Assumes nothing.
use Rattle.std.proofs.Common.{ap, ◌∙◌}
use Rattle.text.specs.Words.{starts}
use Rattle.text.proofs.Parts.{pointwise_same}
use Rattle.text.proofs.part.begins.Goals as goal

pub returns : goal.returns
unfolding starts
returns c = c.starts_with.ensures.value ∙ pointwise_same _ _ ∙ ap (starts c.args.word.now) c.rest.ensures
