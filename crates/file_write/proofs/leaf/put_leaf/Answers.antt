-- `leaf::put_leaf` meets its contract. Assumes nothing.
use mathlib.Core.Path.{◌∙◌}
use native.Mathlib.Omega.{arith}
use Rattle.file_write.proofs.Leafing.{leaf_text_end, leaf_end_lem, leaf_puts}
use Rattle.file_write.proofs.leaf.put_leaf.Goals as goal

pub close-requires : goal.close-requires
close-requires c =
    (c.requires.0, omega (arith, leaf_text_end _ _ c.args.run.now _ c.args.i c.requires.0 _ _ _ _ c.open_leaf.ensures.0 _ c.put-text.ensures.1.0, c.requires.2))

pub returns : goal.returns
returns c = (
  record {
    most = leaf_end_lem _ _ c.args.run.now _ c.args.i c.requires.0 _ _ _ _ c.open_leaf.ensures.0 _ c.put-text.ensures.1.0 _ _ _ c.close.ensures.0;
    value = leaf_puts _ _ c.args.run.now _ c.args.i c.requires.0 _ _ _ _ c.open_leaf.ensures.0 _ c.put-text.ensures.1.0 _ _ _ c.close.ensures.0 c.put-text.ensures;
  },
  c.close.ensures.1 ∙ c.open_leaf.ensures.1,
)
