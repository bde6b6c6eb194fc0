-- `in_name` meets its contract. Assumes nothing.
use mathlib.Core.Path.{refl, ap}
use mathlib.Core.Bool.{not}
use mathlib.Core.List.{[], ◌∷◌}
use mathlib.Core.Logic.{inl, inr}
use Rattle.text.proofs.Classes.{yes_key, no}
use Rattle.xml_tags.specs.mirror.Passing.{in_name}
use Rattle.xml_tags.proofs.Passing.{name_stop}
use Rattle.xml_marks.proofs.in_name.Goals as goal

pub returns-in-9 : goal.returns-in-9
unfolding in_name
returns-in-9 c = ap not (yes_key name_stop (9 ∷ 13 ∷ 32 ∷ 47 ∷ 62 ∷ []) refl c.in-9.is)

pub returns-in-10 : goal.returns-in-10
unfolding in_name
returns-in-10 c = ap not (yes_key name_stop (10 ∷ 61 ∷ []) refl c.in-10.is)

pub returns-in_default : goal.returns-in_default
unfolding in_name
returns-in_default c =
    let r = c.in_default.in_default-own.rest in
    let k = r.0.1 in
    ap not
    (no name_stop
    ((((((λ e. k (inr (inr (inl e))), λ e. k (inl e)), λ e. r.1 (inl e)), λ e. k (inr (inl e))), λ e. k (inr (inr (inr (inl e))))), λ e. r.1 (inr e)), λ e. k (inr (inr (inr (inr e))))))
