-- `to_text::extra` meets its contract. Assumes nothing.
use Rattle.std.proofs.Common.{ap, length, arith}
use Rattle.value.proofs.script.Escaping.{escape_amp, escape_lt, escape_gt, escape_other}
use Rattle.value_texts_put.proofs.to_text.extra.Goals as goal

pub returns-then-x-eq38 : goal.returns-then-x-eq38
returns-then-x-eq38 c = record { is = omega (arith, ap length (escape_amp _ c.if-x-eq38.true)); most = omega arith }

pub returns-then-x-eq60 : goal.returns-then-x-eq60
returns-then-x-eq60 c = record { is = omega (arith, ap length (escape_lt _ c.if-x-eq60.true)); most = omega arith }

pub returns-then-x-eq62 : goal.returns-then-x-eq62
returns-then-x-eq62 c = record { is = omega (arith, ap length (escape_gt _ c.if-x-eq62.true)); most = omega arith }

pub returns : goal.returns
returns c =
    record { is = omega (arith, ap length (escape_other _ c.if-x-eq38.false c.if-x-eq60.false c.if-x-eq62.false)); most = omega arith }
