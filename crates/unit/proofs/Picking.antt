-- Of a pick: the answer and the part belong together, and the part is no longer than the run. Assumes nothing.
use mathlib.Core.Path.{◌≡◌, ap, subst}
use mathlib.Core.List.{List}
use Prim.Native.Nat.{ℕ, ◌+◌, ◌≤◌}
use native.Mathlib.Omega.{arith}
use lib.ListN.{length}
use lib.Seq.{slice}
use Rattle.answer.specs.declared.Answer.{Answer}
use Rattle.text.proofs.Parts.{part_length}
use Rattle.image.specs.Kinds.{values}
use Rattle.image.proofs.answers.There.{picks_there}
use Rattle.image_reading.specs.Reads.{stored, HousePicks, HouseAnswers, HouseHands}
use Rattle.image_reading.proofs.House.{house_picks_one}

module _ (run : List ℕ) (r n : ℕ) (a : Answer) (part : List ℕ) where
  -- the part stands where the answer says
  pub part_there : HousePicks run r n a part → part ≡ slice a.place (a.place + length part) run
  part_there p = picks_there values stored run r n a part p

  pub part_within : HousePicks run r n a part → length part ≤ length run
  part_within p = omega (arith, ap length (part_there p), part_length a.place (a.place + length part) run)

  -- what the two calls of the picker say, together
  pub picks_both : HouseAnswers run r n a → HouseHands run r n part → HousePicks run r n a part
  picks_both w h =
      let o = house_picks_one run r n a h.0 w.0 part w.1 h.1 in
      subst (λ (p : List ℕ). HousePicks run r n a p) o.1 w.1
