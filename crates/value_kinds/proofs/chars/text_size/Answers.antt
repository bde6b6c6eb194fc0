-- `chars::text_size` meets its contract. Assumes nothing.
use Rattle.value.proofs.given.Putting.{size_long, size_short}
use Rattle.value_kinds.proofs.chars.text_size.Goals as goal

pub returns-then-n-gt-MOST_BYTES : goal.returns-then-n-gt-MOST_BYTES
returns-then-n-gt-MOST_BYTES c =
    size_long _ c.if-n-gt-MOST_BYTES.true

pub returns : goal.returns
returns c =
    size_short _ c.if-n-gt-MOST_BYTES.false
