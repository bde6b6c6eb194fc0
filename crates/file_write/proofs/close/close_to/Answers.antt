-- `close::close_to` meets its contract. Assumes nothing.
use mathlib.Core.Path.{refl, ◌∙◌}
use Rattle.file_write.proofs.Closing.{close_first, close_low, close_there, close_out, close_less, close_again}
use Rattle.file_write.proofs.close.close_to.Goals as goal

pub loop-g-init : goal.loop-g-init
loop-g-init c =
    (close_first _ _ _ _ _ _, refl)

pub returns-then-g-eq0 : goal.returns-then-g-eq0
returns-then-g-eq0 c =
    (close_out _ _ _ _ _ _ c.requires _ _ _ c.loop-g.invariant.0 c.if-g-eq0.true, c.loop-g.invariant.1)

pub close-requires : goal.close-requires
close-requires c =
    (c.requires.small, close_low _ _ _ _ _ _ c.requires _ _ _ c.loop-g.invariant.0)

pub loop-g-smaller : goal.loop-g-smaller
loop-g-smaller c =
    close_less _ _ _ _ _ _ c.requires _ _ _ c.loop-g.invariant.0 c.loop-g-test.true c.if-g-eq0.false _ c.cell-g.ensures

pub loop-g-preserved : goal.loop-g-preserved
loop-g-preserved c = (
  close_again _ _ _ _ _ _ c.requires _ _ _ c.loop-g.invariant.0 c.loop-g-test.true c.if-g-eq0.false _ c.cell-g.ensures _ _ c.close.ensures.0,
  c.close.ensures.1 ∙ c.loop-g.invariant.1,
)

pub returns : goal.returns
returns c =
    (close_there _ _ _ _ _ _ c.requires _ _ _ c.loop-g.invariant.0 c.loop-g-test.false, c.loop-g.invariant.1)
