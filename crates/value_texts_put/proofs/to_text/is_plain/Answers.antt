-- `to_text::is_plain` meets its contract. Assumes nothing.
use mathlib.Core.Path.{refl, ap}
use mathlib.Core.Bool.{not}
use mathlib.Core.List.{[], ◌∷◌}
use mathlib.Core.Logic.{inl, inr}
use Rattle.text.proofs.Classes.{yes_key, no}
use Rattle.value.proofs.script.Escaping.{marked}
use Rattle.value_texts_put.proofs.to_text.is_plain.Goals as goal

pub returns-in-38 : goal.returns-in-38
returns-in-38 c = ap not (yes_key marked (38 ∷ 60 ∷ 62 ∷ []) refl c.in-38.is)

pub returns-in_default : goal.returns-in_default
returns-in_default c =
    let r = c.in_default.in_default-own.rest in
    ap not (no marked ((λ e. r.1 (inl e), λ e. r.1 (inr (inl e))), λ e. r.1 (inr (inr e))))
