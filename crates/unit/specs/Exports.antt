-- What the export of a pick for C answers. Assumes nothing.
use Rattle.std.specs.Prelude.{◌≡◌, List, ℕ, ◌+◌, length}
use Rattle.std.proofs.Math.Seq.{slice}
use Rattle.answer.specs.Handed.{handed}
use Rattle.image_reading.specs.Reads.{HousePicks}

-- a pick without its row, which is the asked one or 0: "It hands back that part of the lent image itself", `size` bytes of the run from `place` on.
-- "every refusal hands back an empty part": then `size` is 0
pub record PicksAt (run : List ℕ) (r n code place size : ℕ) : Type 0 where
  pub row : ℕ
  pub picks : HousePicks run r n (handed code row place) (slice place (place + size) run)
  pub long : length (slice place (place + size) run) ≡ size
