-- `utf8::byte` meets its contract. Assumes nothing.
use mathlib.Core.Path.{sym}
use native.Mathlib.Omega.{arith}
use lib.ListN.{drop, length-drop, get_or-eq_default}
use lib.Seq.{get_or-drop}
use Rattle.text_characters.proofs.utf8.byte.Goals as goal

pub returns-then-s-at : goal.returns-then-s-at
returns-then-s-at c =
    sym (get_or-eq_default (drop c.args.at c.args.s.now) 0 (omega (arith, length-drop c.args.at c.args.s.now)))

pub returns-then-s-at-2 : goal.returns-then-s-at-2
returns-then-s-at-2 c =
    sym (get_or-eq_default (drop c.args.at c.args.s.now) 0 (omega (arith, length-drop c.args.at c.args.s.now)))

pub returns : goal.returns
returns c =
    sym (get_or-drop c.args.at c.args.s.now c.args.k 0)
