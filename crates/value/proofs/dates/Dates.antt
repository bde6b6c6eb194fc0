-- Days and moments: of which characters they are written. Assumes nothing.
use mathlib.Core.Path.{◌≡◌, sym, subst}
use mathlib.Core.Logic.{inl, inr}
use mathlib.Core.Bool.{Bool, true, false, cond, ◌&&◌, ◌||◌}
use mathlib.Core.List.{List, [], ◌∷◌}
use Prim.Native.Nat.{ℕ, zero, suc, ◌+◌, ◌*◌, ◌-◌, ◌/◌, ◌%◌, ◌^◌, ◌≤◌, ◌<◌}
use native.Mathlib.Omega.{arith}
use lib.Dec.{leb, eqb}
use Rattle.text.specs.Lists.{Each}
use Rattle.value.specs.types.Day.{Real, pair, day_text, month_days, leap}
use Rattle.value.specs.parts.Former.{DateRule, former, present, Fraction, no_fraction, decimals, figures, fraction_text, FractionOk, micros, Zone, zulu, ahead, behind, zone_text, Offset, ZoneOk, offset, MomentBy, ordinary, midnight}
use Rattle.value.specs.types.Moment.{clock_text, Parts}
use Rattle.value.proofs.classes.Classes.{Solid}
use Rattle.value.proofs.raw.Trim.{Dense}

pub month_most : (y m : ℕ) → month_days y m ≤ 31
month_most y m = go (eqb m 2) (leap y) (eqb m 4 || eqb m 6 || eqb m 9 || eqb m 11) (leb 1 m && leb m 12)
  where
    go : (a b c e : Bool) → cond a (cond b 29 28) (cond c 30 (cond e 31 0)) ≤ 31
    go true true c e = omega arith
    go true false c e = omega arith
    go false b true e = omega arith
    go false b false true = omega arith
    go false b false false = omega arith

-- ---- the characters of a day
digits_solid : (n : ℕ) → n ≤ 99 → Solid (48 + n / 10) × Solid (48 + n % 10)
digits_solid n h = (omega arith, omega arith)

mark : (x : ℕ) → 43 ≤ x → x ≤ 58 → Solid x
mark x h k = omega arith

day_solid : (y m d : ℕ) (t : List ℕ) → Real y m d → Each Solid t → Each Solid (day_text y m d t)
day_solid y m d t r s =
    let l = month_most y m in
    let a = digits_solid (y / 100) (omega (arith, r.year.1)) in
    let b = digits_solid (y % 100) (omega arith) in
    let c = digits_solid m (omega (arith, r.month.1)) in
    let e = digits_solid d (omega (arith, r.day.1)) in
    let dash = mark 45 (omega arith) (omega arith) in
    (a.0, (a.1, (b.0, (b.1, (dash, (c.0, (c.1, (dash, (e.0, (e.1, s))))))))))

pub day_dense : (y m d : ℕ) → Real y m d → Dense (day_text y m d [])
day_dense y m d r = record { solid = day_solid y m d [] r tt; some = omega arith }

-- ---- the parts after the day
figures_solid : (k n : ℕ) (t : List ℕ) → Each Solid t → Each Solid (figures k n t)
unfolding figures
figures_solid zero n t s = s
figures_solid (suc k) n t s = figures_solid k (n / 10) ((48 + n % 10) ∷ t) (omega arith, s)

fraction_solid : (f : Fraction) (t : List ℕ) → Each Solid t → Each Solid (fraction_text f t)
fraction_solid no_fraction t s = s
fraction_solid (decimals k n) t s = (omega arith, figures_solid k n t s)

offset_solid : (x y : ℕ) → Offset x y → Each Solid (pair x (58 ∷ pair y []))
offset_solid x y h =
    let a = digits_solid x (omega (arith, h.most)) in
    let b = digits_solid y (omega (arith, h.minutes)) in
    (a.0, (a.1, (omega arith, (b.0, (b.1, tt)))))

zone_solid : (z : Zone) → ZoneOk z → Each Solid (zone_text z [])
zone_solid zulu h = omega arith
zone_solid (ahead x y) h = (omega arith, offset_solid x y h)
zone_solid (behind x y) h = (omega arith, offset_solid x y h)

clock_solid : (h m s : ℕ) (t : List ℕ) → h ≤ 24 → m ≤ 59 → s ≤ 59 → Each Solid t → Each Solid (clock_text h m s t)
clock_solid h m s t i j k w =
    let a = digits_solid h (omega arith) in
    let b = digits_solid m (omega arith) in
    let e = digits_solid s (omega arith) in
    let colon = mark 58 (omega arith) (omega arith) in
    (a.0, (a.1, (colon, (b.0, (b.1, (colon, (e.0, (e.1, w))))))))

pub whole_dense : (t : List ℕ) (y mo d h mi s : ℕ) (f : Fraction) (z : Zone) → Real y mo d → h ≤ 24 → mi ≤ 59 → s ≤ 59 → ZoneOk z
    → t ≡ day_text y mo d (84 ∷ clock_text h mi s (fraction_text f (zone_text z []))) → Dense t
whole_dense t y mo d h mi s f z r i j k o e =
    let l = fraction_text f (zone_text z []) in
    subst (λ (x : List ℕ). Dense x) (sym e)
    (record { solid = day_solid y mo d (84 ∷ clock_text h mi s l) r (omega arith, clock_solid h mi s l i j k (fraction_solid f (zone_text z []) (zone_solid z o))); some = omega arith })

pub moment_dense : {rule : DateRule} {t : List ℕ} {y mo d h mi s u z : ℕ} → MomentBy rule t y mo d h mi s u z → Dense t
moment_dense (ordinary w) =
    whole_dense _ _ _ _ _ _ _ w.fraction w.zone w.day (omega (arith, w.clock.0)) w.clock.1 w.clock.2 w.good.1 w.is
moment_dense (midnight e w) = whole_dense _ w.year w.month w.date 24 0 0 no_fraction w.zone w.day (omega arith) (omega arith) (omega arith) w.good w.is

-- ---- how many microseconds a fraction has
-- by the present rule so many thousands
pub few : (f : Fraction) → FractionOk present f → (micros f < 1000000) × (micros f % 1000 ≡ 0)
few no_fraction g = (omega arith, omega arith)
few (decimals zero n) g = absurd (omega (arith, g.0.0))
few (decimals (suc zero) n) g = (omega (arith, g.1), omega arith)
few (decimals (suc (suc zero)) n) g = (omega (arith, g.1), omega arith)
few (decimals (suc (suc (suc zero))) n) g = (omega (arith, g.1), omega arith)
few (decimals (suc (suc (suc (suc k)))) n) g = absurd (omega (arith, g.0.1))

below : (rule : DateRule) (f : Fraction) → FractionOk rule f → micros f < 1000000
below present f g = (few f g).0
below former no_fraction g = omega arith
below former (decimals k n) (inl e, h) = subst (λ (j : ℕ). n < 10 ^ j → n * 10 ^ (6 - j) < 1000000) (sym e) (λ i. omega arith) h
below former (decimals k n) (inr e, h) = subst (λ (j : ℕ). n < 10 ^ j → n * 10 ^ (6 - j) < 1000000) (sym e) (λ i. omega arith) h

within : (z : Zone) → ZoneOk z → offset z ≤ 1680
within zulu g = omega arith
within (ahead x y) g = omega (arith, g.most)
within (behind x y) g = omega (arith, g.most)

pub moment_parts : {rule : DateRule} {t : List ℕ} {y mo d h mi s u z : ℕ} → MomentBy rule t y mo d h mi s u z → Parts y mo d h mi s u z
moment_parts {rule} (ordinary w) =
    record { day = w.day; clock = w.clock; fraction = omega (arith, w.parts.0, below rule w.fraction w.good.0); zone = omega (arith, w.parts.1, within w.zone w.good.1) }
moment_parts (midnight e w) =
    record { day = w.real; clock = (omega (arith, w.clock.0), omega (arith, w.clock.1), omega (arith, w.clock.2)); fraction = omega (arith, w.parts.0); zone = omega (arith, w.parts.1, within w.zone w.good) }

-- no zone begins with a point
pub point_first : {A : Type 0} (t : List ℕ) (z : Zone) → 46 ∷ t ≡ zone_text z [] → A
point_first t zulu e = let q : ◌≡◌ {A = ℕ} 46 90 = cc in absurd (omega arith)
point_first t (ahead a b) e = let q : ◌≡◌ {A = ℕ} 46 43 = cc in absurd (omega arith)
point_first t (behind a b) e = let q : ◌≡◌ {A = ℕ} 46 45 = cc in absurd (omega arith)
