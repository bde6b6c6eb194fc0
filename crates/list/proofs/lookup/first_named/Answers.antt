-- `lookup::first_named` meets its contract. Assumes nothing.
use Rattle.std.proofs.Common.{sym, ◌∙◌, arith}
use Rattle.list.proofs.rows.Along.{stop_none, stop_here, stop_end, go_up}
use Rattle.list.proofs.lookup.first_named.Goals as goal

pub returns-then-r-eq0-clause-is : goal.returns-then-r-eq0-clause-is
returns-then-r-eq0-clause-is c = stop_none _ _ _ _ _ (omega arith) c.if-r-eq0.true ∙ c.loop.invariant

pub returns-then-is_name-clause-is : goal.returns-then-is_name-clause-is
returns-then-is_name-clause-is c =
    stop_here _ _ _ _ _ (omega arith) c.if-r-eq0.false (sym c.is_name.ensures ∙ c.if-is_name.true) ∙ c.loop.invariant

pub loop-preserved : goal.loop-preserved
loop-preserved c =
    rw c.cell-r.ensures (go_up _ _ _ _ c.loop.counter (omega arith) c.if-r-eq0.false (sym c.is_name.ensures ∙ c.if-is_name.false) ∙ c.loop.invariant)

pub returns-clause-is : goal.returns-clause-is
returns-clause-is c = stop_end _ _ _ _ _ (omega arith) ∙ c.loop.invariant
