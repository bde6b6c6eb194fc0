-- `image_first::begun` meets its contract. Assumes nothing.
use mathlib.Core.Path.{refl}
use native.Mathlib.Omega.{arith}
use Rattle.list.proofs.Laid.{laid_over}
use Rattle.image_reading.proofs.House.{begins_none, begins_with, begins_not, fronts_kind, laid_says}
use Rattle.image_first.proofs.begun.Goals as goal

pub returns-in-Err-clause-is : goal.returns-in-Err-clause-is
returns-in-Err-clause-is c =
    (begins_none _ _ c.in-Err.ensures refl).0

pub returns-in-Ok-body-clause-is : goal.returns-in-Ok-body-clause-is
returns-in-Ok-body-clause-is c =
    let e = laid_over _ _ _ _ c.kept_rows_of-rows.ensures c.requires c.lay.ensures in
    begins_with _ _ c.in-Ok.ensures (fronts_kind _ _ c.in-Ok.ensures refl) _ (laid_says _ _ e) _ _ c.in-Ok-body.ensures.is refl

pub returns-in-Ok-body-clause-lays : goal.returns-in-Ok-body-clause-lays
returns-in-Ok-body-clause-lays c =
    laid_over _ _ _ _ c.kept_rows_of-rows.ensures c.requires c.lay.ensures

pub returns-in-Err-body-clause-is : goal.returns-in-Err-body-clause-is
returns-in-Err-body-clause-is c =
    let e = laid_over _ _ _ _ c.kept_rows_of-rows.ensures c.requires c.lay.ensures in
    (begins_not _ _ c.in-Ok.ensures (fronts_kind _ _ c.in-Ok.ensures refl) _ (laid_says _ _ e) _ _ c.in-Err-body.ensures.is (λ z. omega (arith, z)) _ (c.broken_image.ensures, refl, refl, refl)).0
