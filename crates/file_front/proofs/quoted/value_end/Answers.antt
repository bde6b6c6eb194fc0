-- `quoted::value_end` meets its contract. Assumes nothing.
use mathlib.Core.Path.{subst}
use Prim.Native.Nat.{ℕ, ◌+◌}
use Rattle.std.proofs.lemmas.Option.{IfSome_then}
use Rattle.file_front.specs.mirror.Values.{Quotes, Valued}
use Rattle.file_front.proofs.Valuing.{quoted_by}
use Rattle.file_front.proofs.quoted.value_end.Goals as goal

pub returns : goal.returns
returns c =
    let q = c.in_ok-quote.ensures in
    IfSome_then c.text_end.result c.text_end.ensures
    (λ r v. quoted_by _ _ r q.0 (subst Quotes q.1 q.2) (subst (λ (m : ℕ). Valued c.args.s.now (c.args.at + 1) m r) q.1 v))
