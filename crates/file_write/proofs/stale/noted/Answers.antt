-- `stale::noted` meets its contract. Assumes nothing.
use mathlib.Core.Path.{sym, ◌∙◌}
use Rattle.file_write.proofs.Passing.{noted_kept, none_noted, noted_here, noted_nowhere}
use Rattle.file_write.proofs.stale.noted.Goals as goal

pub returns-then-is_some-clause-is : goal.returns-then-is_some-clause-is
returns-then-is_some-clause-is c = noted_kept _ _ _ _ c.requires.2 (sym c.is_some.ensures ∙ c.if-is_some.true)

pub returns-then-is_finer-clause-is : goal.returns-then-is_finer-clause-is
returns-then-is_finer-clause-is c = noted_here _ _ _ _ (none_noted _ (sym c.is_some.ensures ∙ c.if-is_some.false)) _ c.is_finer.ensures c.if-is_finer.true

pub returns-clause-is : goal.returns-clause-is
returns-clause-is c = noted_nowhere _ _ _ _ (none_noted _ (sym c.is_some.ensures ∙ c.if-is_some.false)) _ c.is_finer.ensures c.if-is_finer.false
