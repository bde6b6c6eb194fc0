-- `quoted::is_plain` meets its contract. Assumes nothing.
use mathlib.Core.Bool.{false≢true}
use native.Mathlib.Omega.{arith}
use Rattle.file_front.proofs.quoted.is_plain.Goals as goal

pub returns-then-b-lt32 : goal.returns-then-b-lt32
returns-then-b-lt32 c = λ z. absurd (false≢true z)

pub returns-then-b-gt126 : goal.returns-then-b-gt126
returns-then-b-gt126 c = λ z. absurd (false≢true z)

pub returns-then-b-eq38 : goal.returns-then-b-eq38
returns-then-b-eq38 c = λ z. absurd (false≢true z)

pub returns-then-b-eq60 : goal.returns-then-b-eq60
returns-then-b-eq60 c = λ z. absurd (false≢true z)

pub returns : goal.returns
returns c = λ z.
    record { low = omega (arith, c.if-b-lt32.false); high = omega (arith, c.if-b-gt126.false); marks = (c.if-b-eq38.false, c.if-b-eq60.false) }
