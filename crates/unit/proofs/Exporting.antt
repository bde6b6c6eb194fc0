-- What the exports for C say: the rows of the reader's answers, and where a picked part stands. Assumes nothing.
use mathlib.Core.Path.{◌≡◌, sym, ◌∙◌, ap, subst}
use mathlib.Core.List.{List}
use Prim.Native.Nat.{ℕ, ◌+◌}
use lib.ListN.{length}
use lib.Seq.{slice}
use Rattle.answer.specs.declared.Answer.{Answer}
use Rattle.answer.specs.Handed.{handed}
use Rattle.image.specs.Place.{over, foreign, version, kindless, broken, whole_image}
use Rattle.image_reading.specs.Reads.{HouseReads, HousePicks, HouseAnswers, HouseHands}
use Rattle.image_reading.proofs.House.{house_picks_one}
use Rattle.unit.specs.Exports.{PicksAt}
use Rattle.unit.proofs.Picking.{part_there, picks_both}

-- "Row 0"
pub read_row : (run : List ℕ) (a : Answer) → HouseReads run a → a.row ≡ 0
read_row run a (over h e) = ap (λ (z : Answer). z.row) e
read_row run a (foreign h f e) = ap (λ (z : Answer). z.row) e
read_row run a (version h l k v w e) = ap (λ (z : Answer). z.row) e
read_row run a (kindless h k b e) = ap (λ (z : Answer). z.row) e
read_row run a (broken h l i k f s q n r e) = ap (λ (z : Answer). z.row) e
read_row run a (whole_image h n w e) = ap (λ (z : Answer). z.row) e

-- so what is said of the answer is said of the code and the place that are handed out
pub without_row : (P : Answer → Type 0) (run : List ℕ) (a : Answer) (c p : ℕ) → handed c a.row p ≡ a → HouseReads run a → P a → P (handed c 0 p)
without_row P run a c p e h x = subst (λ (r : ℕ). P (handed c r p)) (read_row run a h) (subst P (sym e) x)

module _ (run : List ℕ) (r n : ℕ) where
  -- by its own code and place
  picks_own : (a : Answer) (part : List ℕ) → HouseAnswers run r n a → HouseHands run r n part → PicksAt run r n a.code a.place (length part)
  picks_own a part w h =
      let p : HousePicks run r n a part = picks_both run r n a part w h in
      let e : part ≡ slice a.place (a.place + length part) run = part_there run r n a part p in
      record { row = a.row; picks = subst (λ (l : List ℕ). HousePicks run r n a l) e p; long = ap length (sym e) }

  -- by the code and the place that are handed out
  pub picks_at : (a : Answer) (part : List ℕ) (c p : ℕ) → handed c a.row p ≡ a → HouseAnswers run r n a → HouseHands run r n part → PicksAt run r n c p (length part)
  picks_at a part c p e w h = subst (λ (z : Answer). PicksAt run r n z.code z.place (length part)) (sym e) (picks_own a part w h)

  -- only one code, one place and one length fit
  pub picks_at_one : (c c' p p' m m' : ℕ) → PicksAt run r n c p m → PicksAt run r n c' p' m' → (c ≡ c') × ((p ≡ p') × (m ≡ m'))
  picks_at_one c c' p p' m m' x y =
      let o = house_picks_one run r n (handed c x.row p) (handed c' y.row p') (slice p (p + m) run) (slice p' (p' + m') run) x.picks y.picks in
      (ap (λ (z : Answer). z.code) o.0, (ap (λ (z : Answer). z.place) o.0, sym x.long ∙ ap length o.1 ∙ y.long))
