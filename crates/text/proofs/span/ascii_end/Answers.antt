-- `span::ascii_end` meets its contract: eight bytes a turn, then what is left of the ASCII. Assumes nothing.
use Rattle.std.proofs.Common.{◌∙◌, rules}
use Rattle.text.specs.Bytes.{is_ascii}
use Rattle.text.proofs.Eights.{tells_ascii}
use Rattle.text.proofs.span.ascii_end.Goals as goal

pub returns : goal.returns
unfolding is_ascii
returns c =
    c.run_end.ensures is_ascii (λ b r e. search rules)
    ∙ c.eights_end-i.ensures is_ascii (λ i n d h l q. tells_ascii _ i n l h d (search rules))
