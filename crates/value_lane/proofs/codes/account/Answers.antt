-- `codes::account` meets its contract. Assumes nothing.
use mathlib.Core.Path.{refl}
use native.Mathlib.Omega.{arith}
use borrow.Author.Tests.{not-false}
use Rattle.value_lane.proofs.Firms.{iban_ends}
use Rattle.value_lane.proofs.codes.account.Goals as goal

pub returns-then-s-end : goal.returns-then-s-end
returns-then-s-end c = λ l. c.plain.ensures (λ z. omega arith) (λ z. omega arith)

pub returns-then-s-end-ne60 : goal.returns-then-s-end-ne60
returns-then-s-end-ne60 c = λ l. c.plain-then-s-end-ne60.ensures (λ z. omega arith) (λ z. omega arith)

pub returns-then-n-lt-LEAST : goal.returns-then-n-lt-LEAST
returns-then-n-lt-LEAST c = λ l. c.plain-then-n-lt-LEAST.ensures (λ z. omega arith) (λ z. omega arith)

pub returns-then-n-gt-MOST : goal.returns-then-n-gt-MOST
returns-then-n-gt-MOST c = λ l. c.plain-then-n-gt-MOST.ensures (λ z. omega arith) (λ z. omega arith)

pub returns-then-not-is_headed : goal.returns-then-not-is_headed
returns-then-not-is_headed c = λ l. c.plain-then-not-is_headed.ensures (λ z. omega arith) (λ z. omega arith)

pub returns : goal.returns
returns c =
    λ l. iban_ends _ _ _ _ _ _ (c.run-end.ensures.1 l) c.if-s-end.false c.if-s-end-ne60.false refl c.if-n-lt-LEAST.false (omega (arith, c.if-n-gt-MOST.false)) (c.is_headed.ensures (not-false _ c.if-not-is_headed.false-raw)) c.tell.ensures
