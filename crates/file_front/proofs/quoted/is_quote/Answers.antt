-- `quoted::is_quote` meets its contract. Assumes nothing.
use mathlib.Core.Bool.{false≢true}
use Rattle.file_front.proofs.Valuing.{quotes_double, quotes_single}
use Rattle.file_front.proofs.quoted.is_quote.Goals as goal

pub returns-then-b-eq34 : goal.returns-then-b-eq34
returns-then-b-eq34 c = λ z. quotes_double _ c.if-b-eq34.true

pub returns-then-b-eq39 : goal.returns-then-b-eq39
returns-then-b-eq39 c = λ z. quotes_single _ c.if-b-eq39.true

pub returns : goal.returns
returns c = λ z. absurd (false≢true z)
