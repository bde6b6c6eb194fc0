-- `no_quote` meets its contract. Assumes nothing.
use mathlib.Core.Path.{sym}
use native.Mathlib.Omega.{arith}
use Rattle.xml_tags.specs.mirror.Passing.{no_quote}
use Rattle.xml_tags.proofs.Passing.{no_quote_lem}
use Rattle.xml_marks.proofs.no_quote.Goals as goal

pub returns-in-34 : goal.returns-in-34
unfolding no_quote
returns-in-34 c = rw c.in-34.is

pub returns-in-39 : goal.returns-in-39
unfolding no_quote
returns-in-39 c = rw c.in-39.is

pub returns-in_default : goal.returns-in_default
returns-in_default c = sym (no_quote_lem c.args.b (λ e. omega arith) (λ e. omega arith))
