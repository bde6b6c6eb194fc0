-- `texts::closed` meets its contract. Assumes nothing.
use mathlib.Core.Path.{refl}
use Prim.Native.Nat.{◌-◌}
use Rattle.value_lane_texts.proofs.Runs.{text_ends}
use Rattle.value_lane_texts.proofs.texts.closed.Goals as goal

pub returns-then-n-eq0 : goal.returns-then-n-eq0
returns-then-n-eq0 c = λ g. c.slow.ensures

pub returns-then-n-gt-MOST_BYTES : goal.returns-then-n-gt-MOST_BYTES
returns-then-n-gt-MOST_BYTES c = λ g. c.slow-then-n-gt-MOST_BYTES.ensures

pub returns-then-k-n : goal.returns-then-k-n
returns-then-k-n c = λ g. c.slow-then-k-n.ensures

pub returns-then-s-at-eq32 : goal.returns-then-s-at-eq32
returns-then-s-at-eq32 c = λ g. c.slow-then-s-at-eq32.ensures

pub returns : goal.returns
returns c =
    let a = c.args in
    λ g. text_ends a.k a.s.now a.at a.end a.gone a.tails (a.end - a.at - a.gone) _ g c.requires.1 c.requires.2 refl c.if-n-eq0.false c.if-n-gt-MOST_BYTES.false c.if-k-n.false c.if-s-at-eq32.false c.tell.ensures
