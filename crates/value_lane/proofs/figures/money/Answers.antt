-- `figures::money` meets its contract. Assumes nothing.
use mathlib.Core.Path.{refl}
use native.Mathlib.Omega.{arith}
use Rattle.value_lane.proofs.Firms.{whole_ends, places_end}
use Rattle.value_lane.proofs.figures.money.Goals as goal

pub returns-then-s-dot : goal.returns-then-s-dot
returns-then-s-dot c = λ l. c.plain.ensures (λ z. omega arith) (λ z. omega arith)

pub returns-then-n-eq0 : goal.returns-then-n-eq0
returns-then-n-eq0 c = λ l. c.plain-then-n-eq0.ensures (λ z. omega arith) (λ z. omega arith)

pub returns-then-n-gt-DIGITS : goal.returns-then-n-gt-DIGITS
returns-then-n-gt-DIGITS c = λ l. c.plain-then-n-gt-DIGITS.ensures (λ z. omega arith) (λ z. omega arith)

pub returns-then-s-dot-eq60 : goal.returns-then-s-dot-eq60
returns-then-s-dot-eq60 c =
    λ l. whole_ends _ _ _ _ _ _ (c.run-dot.ensures.1 l) c.if-s-dot.false refl c.if-n-eq0.false c.if-n-gt-DIGITS.false c.if-s-dot-eq60.true c.tell.ensures

pub returns-then-s-dot-ne46 : goal.returns-then-s-dot-ne46
returns-then-s-dot-ne46 c = λ l. c.plain-then-s-dot-ne46.ensures (λ z. omega arith) (λ z. omega arith)

pub returns-then-s-end : goal.returns-then-s-end
returns-then-s-end c = λ l. c.plain-then-s-end.ensures (λ z. omega arith) (λ z. omega arith)

pub returns-then-s-end-ne60 : goal.returns-then-s-end-ne60
returns-then-s-end-ne60 c = λ l. c.plain-then-s-end-ne60.ensures (λ z. omega arith) (λ z. omega arith)

pub returns-then-end-dot-gt-PLACES : goal.returns-then-end-dot-gt-PLACES
returns-then-end-dot-gt-PLACES c = λ l. c.plain-then-end-dot-gt-PLACES.ensures (λ z. omega arith) (λ z. omega arith)

pub returns : goal.returns
returns c =
    λ l. places_end _ _ _ _ _ _ (c.run-dot.ensures.1 l) c.if-s-dot.false refl c.if-n-eq0.false c.if-n-gt-DIGITS.false _ c.if-s-dot-ne46.false (c.run-end.ensures.1 l) c.if-s-end.false
    c.if-s-end-ne60.false (omega (arith, c.if-end-dot-gt-PLACES.false)) c.tell-2.ensures
