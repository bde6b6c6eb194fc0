-- `class::is_blank` meets its contract. Assumes nothing.
use Rattle.std.proofs.Common.{[], ◌∷◌, refl, inl, inr}
use Rattle.text.proofs.Classes.{yes_key, no, blank}
use Rattle.text.proofs.class.is_blank.Goals as goal

pub returns-in-9 : goal.returns-in-9
returns-in-9 c = yes_key blank (9 ∷ 13 ∷ 32 ∷ []) refl c.in-9.is

pub returns-in-10 : goal.returns-in-10
returns-in-10 c = yes_key blank (10 ∷ []) refl c.in-10.is

pub returns-in_default : goal.returns-in_default
returns-in_default c =
    let r = c.in_default.in_default-own.rest in
    no blank (((λ e. r.0.1 (inr (inr e)), λ e. r.0.1 (inl e)), λ e. r.1 e), λ e. r.0.1 (inr (inl e)))
