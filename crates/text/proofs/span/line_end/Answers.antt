-- `span::line_end` meets its contract: a line feed is a blank. Assumes nothing.
use Rattle.std.proofs.Common.{refl}
use Rattle.text.specs.Bytes.{is_blank}
use Rattle.text.proofs.Spans.{span_byte}
use Rattle.text.proofs.span.line_end.Goals as goal

pub returns-then-s-at-eq10 : goal.returns-then-s-at-eq10
unfolding is_blank
returns-then-s-at-eq10 c = span_byte is_blank _ _ _ refl 10 refl c.if-at-s.true c.if-s-at-eq10.true

pub returns-else-s-at-eq10 : goal.returns-else-s-at-eq10
returns-else-s-at-eq10 c = refl

pub returns-else-at-s : goal.returns-else-at-s
returns-else-at-s c = refl
