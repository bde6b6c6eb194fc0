-- `answer_all` ends: the measure is the number of turns that are left.
use Rattle.gate_runs.proofs.answer_all.Given as goal

abbrev pub decreases-loop-turns : goal.decreases-loop-turns
decreases-loop-turns g l = l.turns
