-- `tag::find` meets its contract: what is sought from n on is sought from the start. Assumes nothing.
use mathlib.Core.Path.{refl, sym, ◌∙◌}
use mathlib.Core.Bool.{true≢false}
use native.Mathlib.Omega.{arith}
use Rattle.file_lane.proofs.Seeking.{seek_found, seek_next}
use Rattle.file_lane.proofs.tag.find.Goals as goal

pub returns-then-is_tag : goal.returns-then-is_tag
returns-then-is_tag c =
    seek_found _ _ _ _ _ c.requires.0 c.loop-n-test.true c.loop-n.invariant.1 (c.is_tag.ensures.0 c.if-is_tag.true) c.loop-n.invariant.0

pub loop-n-preserved : goal.loop-n-preserved
loop-n-preserved c = (
  omega (arith, c.if-next-n.false),
  seek_next _ _ _ _ _ _ c.loop-n.invariant.1 refl (omega (arith, c.if-next-n.false)) (λ m. true≢false (sym (c.is_tag.ensures.1 m) ∙ c.if-is_tag.false)),
)
