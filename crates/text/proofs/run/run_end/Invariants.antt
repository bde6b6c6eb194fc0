-- `run::run_end` meets its contract: what is still to come from `i` makes up the answer from `at`. Assumes nothing.
use Rattle.std.proofs.Common.{◌≡◌, ℕ, ◌+◌, Bool, drop}
use Rattle.text.specs.Lists.{span}
use Rattle.text.proofs.run.run_end.Given as goal

abbrev pub invariant-loop-i : goal.invariant-loop-i
invariant-loop-i g l =
    (p : ℕ → Bool) → ((b : ℕ) (r : Bool) → goal.F-post g l.class b r → r ≡ p b) → l.i + span p (drop l.i l.s) ≡ l.at + span p (drop l.at l.s)
