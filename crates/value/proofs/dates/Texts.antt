-- The texts of fractions, of zones and of moments: as they stand (`Moment`), and by parts (`Former`, the present rule), the same. Assumes nothing.
use mathlib.Core.Path.{◌≡◌, refl, sym, ◌∙◌, ap, ap₂, subst}
use mathlib.Core.List.{List, [], ◌∷◌, ◌++◌, append_assoc, append-nil}
use Prim.Native.Nat.{ℕ, zero, suc, ◌+◌, ◌*◌, ◌/◌, ◌%◌, ◌≤◌}
use native.Mathlib.Omega.{arith}
use Rattle.text.specs.Digits.{padded}
use Rattle.value.specs.types.Day.{pair, day_text}
use Rattle.value.specs.types.Moment.{clock_text, Parts, FractionText, fractionless, thousandths, hours_text, ZoneText, utc, east, west, MomentText, in_day, day_end}
use Rattle.value.specs.parts.Former.{present, Fraction, no_fraction, decimals, figures, fraction_text, FractionOk, micros, Zone, zulu, ahead, behind, zone_text, ZoneOk, offset, MomentBy, ordinary, midnight}

pub all_of : (k n : ℕ) (t : List ℕ) → padded k n ++ t ≡ figures k n t
unfolding padded figures
all_of zero n t = refl
all_of (suc k) n t = append_assoc (padded k (n / 10)) ((48 + n % 10) ∷ []) t ∙ all_of k (n / 10) ((48 + n % 10) ∷ t)

-- ---- fractions

record Broken (t : List ℕ) (u : ℕ) : Type 0 where
  fraction : Fraction
  good : FractionOk present fraction
  text : (r : List ℕ) → t ++ r ≡ fraction_text fraction r
  is : u ≡ micros fraction

broken : (t : List ℕ) (u : ℕ) → FractionText t u → Broken t u
broken t u (fractionless e f) = record { fraction = no_fraction; good = tt; text = λ r. ap (λ (l : List ℕ). l ++ r) e; is = f }
broken t u (thousandths k n r b o e f) = record { fraction = decimals k n; good = (r, b, o); text = λ q. ap (λ (l : List ℕ). l ++ q) e ∙ ap (λ (l : List ℕ). 46 ∷ l) (all_of k n q); is = f }

unbroken : (x : Fraction) → FractionOk present x → FractionText (fraction_text x []) (micros x)
unbroken no_fraction g = fractionless refl refl
unbroken (decimals k n) g = thousandths k n g.0 g.1 g.2 (ap (λ (l : List ℕ). 46 ∷ l) (sym (all_of k n []) ∙ append-nil (padded k n))) refl

fraction_front : (x : Fraction) (r : List ℕ) → fraction_text x r ≡ fraction_text x [] ++ r
fraction_front no_fraction r = refl
fraction_front (decimals k n) r = ap (λ (l : List ℕ). 46 ∷ l) (sym (all_of k n r) ∙ ap (λ (l : List ℕ). l ++ r) (sym (append-nil (padded k n)) ∙ all_of k n []))

-- ---- zones

record Zoned (t : List ℕ) (z : ℕ) : Type 0 where
  zone : Zone
  good : ZoneOk zone
  text : t ≡ zone_text zone []
  is : z ≡ offset zone

zoned : (t : List ℕ) (z : ℕ) → ZoneText t z → Zoned t z
zoned t z (utc e f) = record { zone = zulu; good = tt; text = e; is = f }
zoned t z (east m h e f) = record { zone = ahead (m / 60) (m % 60); good = record { minutes = omega arith; most = omega arith }; text = e; is = omega arith }
zoned t z (west m h e f) = record { zone = behind (m / 60) (m % 60); good = record { minutes = omega arith; most = omega arith }; text = e; is = omega arith }

hours_text_lem : (h m : ℕ) → m ≤ 59 → pair h (58 ∷ pair m []) ≡ hours_text (h * 60 + m)
hours_text_lem h m l =
    let a : h ≡ (h * 60 + m) / 60 = omega arith in
    let b : m ≡ (h * 60 + m) % 60 = omega arith in
    ap₂ (λ (x y : ℕ). pair x (58 ∷ pair y [])) a b

unzoned : (x : Zone) → ZoneOk x → ZoneText (zone_text x []) (offset x)
unzoned zulu g = utc refl refl
unzoned (ahead h m) g = east (h * 60 + m) g.most (ap (λ (l : List ℕ). 43 ∷ l) (hours_text_lem h m g.minutes)) refl
unzoned (behind h m) g = west (h * 60 + m) g.most (ap (λ (l : List ℕ). 45 ∷ l) (hours_text_lem h m g.minutes)) refl

-- ---- moments, one way and the other

pub moment_by : (t : List ℕ) (y mo d h mi s u z : ℕ) → Parts y mo d h mi s u z → MomentText t y mo d h mi s u z → MomentBy present t y mo d h mi s u z
moment_by t y mo d h mi s u z p (in_day f o a b e) =
    let x = broken f u a in
    let w = zoned o z b in
    ordinary (record {
      day = p.day;
      clock = p.clock;
      fraction = x.fraction;
      zone = w.zone;
      good = (x.good, w.good);
      is = e ∙ ap (λ (l : List ℕ). day_text y mo d (84 ∷ clock_text h mi s l)) (x.text o ∙ ap (fraction_text x.fraction) w.text);
      parts = (x.is, w.is);
    })
moment_by t y mo d h mi s u z p (day_end y' mo' d' r n c o b e) =
    let w = zoned o z b in
    midnight refl (record {
      year = y';
      month = mo';
      date = d';
      day = r;
      next = n;
      real = p.day;
      zone = w.zone;
      good = w.good;
      is = e ∙ ap (λ (l : List ℕ). day_text y' mo' d' (84 ∷ clock_text 24 0 0 l)) w.text;
      clock = (c.0, c.1, c.2);
      parts = (c.3, w.is);
    })

pub moment_text : (t : List ℕ) (y mo d h mi s u z : ℕ) → MomentBy present t y mo d h mi s u z → MomentText t y mo d h mi s u z
moment_text t y mo d h mi s u z (ordinary w) =
    in_day (fraction_text w.fraction []) (zone_text w.zone [])
    (subst (FractionText (fraction_text w.fraction [])) (sym w.parts.0) (unbroken w.fraction w.good.0))
    (subst (ZoneText (zone_text w.zone [])) (sym w.parts.1) (unzoned w.zone w.good.1))
    (w.is ∙ ap (λ (l : List ℕ). day_text y mo d (84 ∷ clock_text h mi s l)) (fraction_front w.fraction (zone_text w.zone [])))
moment_text t y mo d h mi s u z (midnight e w) =
    day_end w.year w.month w.date w.day w.next (w.clock.0, w.clock.1, w.clock.2, w.parts.0) (zone_text w.zone [])
    (subst (ZoneText (zone_text w.zone [])) (sym w.parts.1) (unzoned w.zone w.good)) w.is
