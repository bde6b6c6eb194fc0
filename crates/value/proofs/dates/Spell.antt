-- Days and moments: the digits that stand in a text that writes one say which. Assumes nothing.
use mathlib.Core.Path.{◌≡◌, refl, sym, ◌∙◌, ap, subst}
use mathlib.Core.Bool.{Bool, true, false, cond, ◌&&◌, not, true≢false}
use mathlib.Core.Logic.{◌≢◌}
use mathlib.Core.List.{List, [], ◌∷◌}
use mathlib.Core.Option.{some}
use Prim.Native.Nat.{ℕ, zero, suc, ◌+◌, ◌*◌, ◌-◌, ◌/◌, ◌%◌, ◌^◌, ◌<◌}
use native.Mathlib.Omega.{arith}
use lib.Dec.{leb, ltb, eqb}
use lib.ListN.{drop}
use lib.Seq.{drop-drop}
use native.Mathlib.Numerals.{add-one}
use borrow.Author.Tests.{le-leb, leb-true, lt-ltb, ltb-true, eq-eqb, ne_eqb}
use Rattle.text.specs.Bytes.{in_range, is_digit}
use Rattle.text.specs.Lists.{same}
use Rattle.text.proofs.Classes.{and_is, in_range_lem, in_range_is}
use Rattle.text.proofs.Parts.{same_eq, same_of}
use Rattle.list.specs.Listing.{date, dtm}
use Rattle.value.specs.types.Day.{Real, is_real, day_text, next_day}
use Rattle.value.specs.parts.Former.{Clock, present, Fraction, no_fraction, decimals, figures, FractionOk, fraction_text, micros, Zone, zulu, ahead, behind, Offset, ZoneOk, zone_text, offset, PlainText, MidnightText, MomentBy, ordinary, midnight}
use Rattle.value.specs.types.Moment.{clock_text}
use Rattle.value.specs.Value.{Value, day, moment}
use Rattle.value.specs.parts.Form.{Form}
use Rattle.value.specs.decided.Spell.{when, two_at, day_when, day_of, is_clock, fraction_of, fraction_length, is_fraction, zone_of, is_offset, is_zone, moment_when, moment_behind, midnight_when, midnight_on, midnight_behind, moment_of}
use Rattle.value.proofs.dates.Months.{real_is, real_of}

-- ---- a value after a test
pub when_is : (b : Bool) (v v' : Value) → when b v ≡ some v' → (b ≡ true) × (v ≡ v')
when_is true v v' e = (refl, cc)
when_is false v v' e = absurd (let z : ◌≡◌ {A = ℕ} 0 1 = cc in omega arith)

pub when_of : (b : Bool) (v : Value) → b ≡ true → when b v ≡ some v
when_of b v e = rw e

pub and_of : (a b : Bool) → a ≡ true → b ≡ true → (a && b) ≡ true
and_of a b p q = rw (p, q)

-- ---- days
when_day : (t : List ℕ) (y m d : ℕ) (w : List ℕ) (v : Value) → day_when t y m d ≡ some v → Form date w t v
when_day t y m d w v e =
    let a = when_is (is_real y m d && same t (day_text y m d [])) (day y m d) v e in
    let b = and_is (is_real y m d) (same t (day_text y m d [])) a.0 in
    subst (Form date w t) a.1 (Form.dated (real_is y m d b.0) (same_eq t (day_text y m d []) b.1))

pub day_sound : (w t : List ℕ) (v : Value) → day_of t ≡ some v → Form date w t v
unfolding day_of
day_sound w t v e = when_day t (two_at 0 t * 100 + two_at 2 t) (two_at 5 t) (two_at 8 t) w v e

-- the digits of a number
tens : (n : ℕ) → (48 + n / 10 - 48) * 10 + (48 + n % 10 - 48) ≡ n
tens n = omega arith

year : (y a b : ℕ) → a ≡ y / 100 → b ≡ y % 100 → a * 100 + b ≡ y
year y a b p q = omega arith

-- the numbers that stand at the places of a day
pub record Read (t : List ℕ) (y m d : ℕ) : Type 0 where
  pub years : two_at 0 t * 100 + two_at 2 t ≡ y
  pub months : two_at 5 t ≡ m
  pub days : two_at 8 t ≡ d

pub read_day : (t : List ℕ) (y m d : ℕ) (u : List ℕ) → t ≡ day_text y m d u → Read t y m d
read_day t y m d u e = subst (λ (l : List ℕ). Read l y m d) (sym e) (record { years = year y _ _ (tens (y / 100)) (tens (y % 100)); months = tens m; days = tens d })

pub day_complete : (t : List ℕ) (y m d : ℕ) → Real y m d → t ≡ day_text y m d [] → day_of t ≡ some (day y m d)
unfolding day_of
day_complete t y m d r e =
    let p = read_day t y m d [] e in
    ap (λ (n : ℕ). day_when t n (two_at 5 t) (two_at 8 t)) p.years ∙ ap (λ (n : ℕ). day_when t y n (two_at 8 t)) p.months ∙ ap (day_when t y m) p.days
    ∙ when_of (is_real y m d && same t (day_text y m d [])) (day y m d) (and_of (is_real y m d) (same t (day_text y m d [])) (real_of y m d r) (same_of t (day_text y m d []) e))

-- ---- the parts after the day
clock_is : (h m s : ℕ) → is_clock h m s ≡ true → Clock h m s
clock_is h m s e =
    let a = and_is (leb h 23) (leb m 59 && leb s 59) e in
    let b = and_is (leb m 59) (leb s 59) a.1 in
    (leb-true h 23 a.0, leb-true m 59 b.0, leb-true s 59 b.1)

clock_of : (h m s : ℕ) → Clock h m s → is_clock h m s ≡ true
clock_of h m s c = and_of (leb h 23) (leb m 59 && leb s 59) (le-leb h 23 c.0) (and_of (leb m 59) (leb s 59) (le-leb m 59 c.1) (le-leb s 59 c.2))

not_zero : (n : ℕ) → not (eqb n 0) ≡ true → n ≢ 0
not_zero n e z = true≢false (sym e ∙ ap (λ (k : ℕ). not (eqb k 0)) z)

fraction_is : (f : Fraction) → is_fraction f ≡ true → FractionOk present f
fraction_is no_fraction e = tt
fraction_is (decimals k n) e =
    let a = and_is (in_range 1 3 k) (ltb n (10 ^ k) && not (eqb (n % 10) 0)) e in
    let b = and_is (ltb n (10 ^ k)) (not (eqb (n % 10) 0)) a.1 in
    (in_range_is 1 3 k a.0, ltb-true n (10 ^ k) b.0, not_zero (n % 10) b.1)

fraction_ok : (f : Fraction) → FractionOk present f → is_fraction f ≡ true
fraction_ok no_fraction h = refl
fraction_ok (decimals k n) h =
    and_of (in_range 1 3 k) (ltb n (10 ^ k) && not (eqb (n % 10) 0)) (in_range_lem 1 3 k h.0.0 h.0.1)
    (and_of (ltb n (10 ^ k)) (not (eqb (n % 10) 0)) (lt-ltb n (10 ^ k) h.1) (ap not (ne_eqb (n % 10) 0 h.2)))

offset_is : (h m : ℕ) → is_offset h m ≡ true → Offset h m
offset_is h m e = let a = and_is (leb m 59) (leb (h * 60 + m) 840) e in record { minutes = leb-true m 59 a.0; most = leb-true (h * 60 + m) 840 a.1 }

offset_of : (h m : ℕ) → Offset h m → is_offset h m ≡ true
offset_of h m o = and_of (leb m 59) (leb (h * 60 + m) 840) (le-leb m 59 o.minutes) (le-leb (h * 60 + m) 840 o.most)

zone_is : (z : Zone) → is_zone z ≡ true → ZoneOk z
zone_is zulu e = tt
zone_is (ahead h m) e = offset_is h m e
zone_is (behind h m) e = offset_is h m e

zone_ok : (z : Zone) → ZoneOk z → is_zone z ≡ true
zone_ok zulu h = refl
zone_ok (ahead h m) o = offset_of h m o
zone_ok (behind h m) o = offset_of h m o

-- ---- a fraction before a zone, and the zone after it
one : (n : ℕ) → n < 10 → 48 + n % 10 - 48 ≡ n
one n h = omega arith

two : (n : ℕ) → n < 100 → (48 + n / 10 % 10 - 48) * 10 + (48 + n % 10 - 48) ≡ n
two n h = omega arith

three : (n : ℕ) → n < 1000 → (48 + n / 10 / 10 % 10 - 48) * 100 + ((48 + n / 10 % 10 - 48) * 10 + (48 + n % 10 - 48)) ≡ n
three n h = omega arith

digit_in : (n : ℕ) → in_range 48 57 (48 + n % 10) ≡ true
digit_in n = in_range_lem 48 57 (48 + n % 10) (omega arith) (omega arith)

chosen : (b c : Bool) (p q r : Fraction) → b ≡ true → c ≡ true → cond b (cond c p q) r ≡ p
chosen b c p q r e f = rw (e, f)

second : (b : Bool) (q r : Fraction) → b ≡ true → cond b q r ≡ q
second b q r e = rw e

fraction_read : (f : Fraction) (z : Zone) → FractionOk present f → fraction_of (fraction_text f (zone_text z [])) ≡ f
unfolding fraction_of is_digit figures
fraction_read no_fraction zulu h = refl
fraction_read no_fraction (ahead i j) h = refl
fraction_read no_fraction (behind i j) h = refl
fraction_read (decimals zero n) z h = absurd (omega (arith, h.0.0))
fraction_read (decimals (suc zero) n) zulu h = ap (decimals 1) (one n h.1)
fraction_read (decimals (suc zero) n) (ahead i j) h = ap (decimals 1) (one n h.1)
fraction_read (decimals (suc zero) n) (behind i j) h = ap (decimals 1) (one n h.1)
fraction_read (decimals (suc (suc zero)) n) zulu h = second _ _ _ (digit_in n) ∙ ap (decimals 2) (two n h.1)
fraction_read (decimals (suc (suc zero)) n) (ahead i j) h = second _ _ _ (digit_in n) ∙ ap (decimals 2) (two n h.1)
fraction_read (decimals (suc (suc zero)) n) (behind i j) h = second _ _ _ (digit_in n) ∙ ap (decimals 2) (two n h.1)
fraction_read (decimals (suc (suc (suc zero))) n) z h = chosen _ _ _ _ _ (digit_in (n / 10)) (digit_in n) ∙ ap (decimals 3) (three n h.1)
fraction_read (decimals (suc (suc (suc (suc k)))) n) z h = absurd (omega (arith, h.0.1))

figures_behind : (k n : ℕ) (l : List ℕ) → drop k (figures k n l) ≡ l
unfolding figures
figures_behind zero n l = refl
figures_behind (suc k) n l = ap (λ (j : ℕ). drop j (figures k (n / 10) ((48 + n % 10) ∷ l))) (sym (add-one k)) ∙ sym (drop-drop 1 k _) ∙ ap (drop 1) (figures_behind k (n / 10) ((48 + n % 10) ∷ l))

fraction_behind : (f : Fraction) (l : List ℕ) → drop (fraction_length f) (fraction_text f l) ≡ l
fraction_behind no_fraction l = refl
fraction_behind (decimals k n) l = sym (drop-drop k 1 (46 ∷ figures k n l)) ∙ figures_behind k n l

zone_read : (z : Zone) → zone_of (zone_text z []) ≡ z
unfolding zone_of
zone_read zulu = refl
zone_read (ahead h m) = ap (ahead _) (tens m) ∙ ap (λ (n : ℕ). ahead n m) (tens h)
zone_read (behind h m) = ap (behind _) (tens m) ∙ ap (λ (n : ℕ). behind n m) (tens h)

-- ---- moments
module _ (t : List ℕ) (y mo d h mi s : ℕ) (f : Fraction) (z : Zone) where
  abbrev whole : List ℕ
  whole = day_text y mo d (84 ∷ clock_text h mi s (fraction_text f (zone_text z [])))

  when_moment : (w : List ℕ) (v : Value) → moment_when t y mo d h mi s f z ≡ some v → Form dtm w t v
  when_moment w v e =
      let a = when_is (is_real y mo d && (is_clock h mi s && (is_fraction f && (is_zone z && same t whole)))) (moment y mo d h mi s (micros f) (offset z)) v e in
      let b = and_is (is_real y mo d) (is_clock h mi s && (is_fraction f && (is_zone z && same t whole))) a.0 in
      let c = and_is (is_clock h mi s) (is_fraction f && (is_zone z && same t whole)) b.1 in
      let g = and_is (is_fraction f) (is_zone z && same t whole) c.1 in
      let i = and_is (is_zone z) (same t whole) g.1 in
      subst (Form dtm w t) a.1
      (Form.timed (ordinary (record { day = real_is y mo d b.0; clock = clock_is h mi s c.0; fraction = f; zone = z; good = (fraction_is f g.0, zone_is z i.0); is = same_eq t whole i.1; parts = (refl, refl) })))

  moment_when_lem : Real y mo d → Clock h mi s → FractionOk present f → ZoneOk z → t ≡ whole → moment_when t y mo d h mi s f z ≡ some (moment y mo d h mi s (micros f) (offset z))
  moment_when_lem r c o p e =
      when_of (is_real y mo d && (is_clock h mi s && (is_fraction f && (is_zone z && same t whole)))) (moment y mo d h mi s (micros f) (offset z))
      (and_of (is_real y mo d) (is_clock h mi s && (is_fraction f && (is_zone z && same t whole))) (real_of y mo d r)
      (and_of (is_clock h mi s) (is_fraction f && (is_zone z && same t whole)) (clock_of h mi s c)
      (and_of (is_fraction f) (is_zone z && same t whole) (fraction_ok f o) (and_of (is_zone z) (same t whole) (zone_ok z p) (same_of t whole e)))))

module _ (t : List ℕ) (y mo d : ℕ) (z : Zone) (n : ℕ × ℕ × ℕ) where
  abbrev late : List ℕ
  late = day_text y mo d (84 ∷ clock_text 24 0 0 (zone_text z []))

  when_midnight : (w : List ℕ) (v : Value) → next_day y mo d ≡ n → midnight_when t y mo d z n ≡ some v → Form dtm w t v
  when_midnight w v i e =
      let a = when_is (is_real y mo d && (is_real n.0 n.1 n.2 && (is_zone z && same t late))) (moment n.0 n.1 n.2 0 0 0 0 (offset z)) v e in
      let b = and_is (is_real y mo d) (is_real n.0 n.1 n.2 && (is_zone z && same t late)) a.0 in
      let c = and_is (is_real n.0 n.1 n.2) (is_zone z && same t late) b.1 in
      let g = and_is (is_zone z) (same t late) c.1 in
      subst (Form dtm w t) a.1
      (Form.timed (midnight refl (record { year = y; month = mo; date = d; day = real_is y mo d b.0; next = i; real = real_is n.0 n.1 n.2 c.0; zone = z; good = zone_is z g.0; is = same_eq t late g.1; clock = (refl, refl, refl); parts = (refl, refl) })))

  midnight_when_lem : Real y mo d → Real n.0 n.1 n.2 → ZoneOk z → t ≡ late → midnight_when t y mo d z n ≡ some (moment n.0 n.1 n.2 0 0 0 0 (offset z))
  midnight_when_lem r q p e =
      when_of (is_real y mo d && (is_real n.0 n.1 n.2 && (is_zone z && same t late))) (moment n.0 n.1 n.2 0 0 0 0 (offset z))
      (and_of (is_real y mo d) (is_real n.0 n.1 n.2 && (is_zone z && same t late)) (real_of y mo d r)
      (and_of (is_real n.0 n.1 n.2) (is_zone z && same t late) (real_of n.0 n.1 n.2 q) (and_of (is_zone z) (same t late) (zone_ok z p) (same_of t late e))))

pub moment_sound : (w t : List ℕ) (v : Value) → moment_of t ≡ some v → Form dtm w t v
unfolding moment_of
moment_sound w t v e = go (eqb (two_at 11 t) 24) e
  where
    go : (b : Bool) → cond b (midnight_behind t (drop 19 t)) (moment_behind t (drop 19 t)) ≡ some v → Form dtm w t v
    go true f = when_midnight t (two_at 0 t * 100 + two_at 2 t) (two_at 5 t) (two_at 8 t) (zone_of (drop 19 t)) _ w v refl f
    go false f =
        when_moment t (two_at 0 t * 100 + two_at 2 t) (two_at 5 t) (two_at 8 t) (two_at 11 t) (two_at 14 t) (two_at 17 t) (fraction_of (drop 19 t)) (zone_of (drop (fraction_length (fraction_of (drop 19 t))) (drop 19 t))) w v f

-- the numbers that stand at the places of a clock
record Clocked (t : List ℕ) (h mi s : ℕ) (l : List ℕ) : Type 0 where
  hours : two_at 11 t ≡ h
  minutes : two_at 14 t ≡ mi
  seconds : two_at 17 t ≡ s
  rest : drop 19 t ≡ l

read_clock : (t : List ℕ) (y mo d h mi s : ℕ) (l : List ℕ) → t ≡ day_text y mo d (84 ∷ clock_text h mi s l) → Clocked t h mi s l
read_clock t y mo d h mi s l e = subst (λ (x : List ℕ). Clocked x h mi s l) (sym e) (record { hours = tens h; minutes = tens mi; seconds = tens s; rest = refl })

plain_complete : (t : List ℕ) (y mo d h mi s u o : ℕ) → PlainText present t y mo d h mi s u o → moment_of t ≡ some (moment y mo d h mi s u o)
unfolding moment_of
plain_complete t y mo d h mi s u o m =
    let f = m.fraction in
    let z = m.zone in
    let l = fraction_text f (zone_text z []) in
    let p = read_day t y mo d (84 ∷ clock_text h mi s l) m.is in
    let q = read_clock t y mo d h mi s l m.is in
    let fr : fraction_of (drop 19 t) ≡ f = ap fraction_of q.rest ∙ fraction_read f z m.good.0 in
    let zr : zone_of (drop (fraction_length (fraction_of (drop 19 t))) (drop 19 t)) ≡ z =
    ap (λ (g : Fraction). zone_of (drop (fraction_length g) (drop 19 t))) fr ∙ ap (λ (x : List ℕ). zone_of (drop (fraction_length f) x)) q.rest ∙ ap zone_of (fraction_behind f (zone_text z [])) ∙ zone_read z in
    ap (λ (b : Bool). cond b (midnight_behind t (drop 19 t)) (moment_behind t (drop 19 t))) (ne_eqb (two_at 11 t) 24 (omega (arith, q.hours, m.clock.0)))
    ∙ ap (λ (n : ℕ). moment_when t n (two_at 5 t) (two_at 8 t) (two_at 11 t) (two_at 14 t) (two_at 17 t) (fraction_of (drop 19 t)) (zone_of (drop (fraction_length (fraction_of (drop 19 t))) (drop 19 t)))) p.years
    ∙ ap (λ (n : ℕ). moment_when t y n (two_at 8 t) (two_at 11 t) (two_at 14 t) (two_at 17 t) (fraction_of (drop 19 t)) (zone_of (drop (fraction_length (fraction_of (drop 19 t))) (drop 19 t)))) p.months
    ∙ ap (λ (n : ℕ). moment_when t y mo n (two_at 11 t) (two_at 14 t) (two_at 17 t) (fraction_of (drop 19 t)) (zone_of (drop (fraction_length (fraction_of (drop 19 t))) (drop 19 t)))) p.days
    ∙ ap (λ (n : ℕ). moment_when t y mo d n (two_at 14 t) (two_at 17 t) (fraction_of (drop 19 t)) (zone_of (drop (fraction_length (fraction_of (drop 19 t))) (drop 19 t)))) q.hours
    ∙ ap (λ (n : ℕ). moment_when t y mo d h n (two_at 17 t) (fraction_of (drop 19 t)) (zone_of (drop (fraction_length (fraction_of (drop 19 t))) (drop 19 t)))) q.minutes
    ∙ ap (λ (n : ℕ). moment_when t y mo d h mi n (fraction_of (drop 19 t)) (zone_of (drop (fraction_length (fraction_of (drop 19 t))) (drop 19 t)))) q.seconds
    ∙ ap (λ (g : Fraction). moment_when t y mo d h mi s g (zone_of (drop (fraction_length (fraction_of (drop 19 t))) (drop 19 t)))) fr
    ∙ ap (moment_when t y mo d h mi s f) zr
    ∙ moment_when_lem t y mo d h mi s f z m.day m.clock m.good.0 m.good.1 m.is
    ∙ ap (λ (n : ℕ). some (moment y mo d h mi s n (offset z))) (sym m.parts.0) ∙ ap (λ (n : ℕ). some (moment y mo d h mi s u n)) (sym m.parts.1)

midnight_complete : (t : List ℕ) (y mo d h mi s u o : ℕ) → MidnightText t y mo d h mi s u o → moment_of t ≡ some (moment y mo d h mi s u o)
unfolding moment_of
midnight_complete t y mo d h mi s u o m =
    let z = m.zone in
    let p = read_day t m.year m.month m.date (84 ∷ clock_text 24 0 0 (zone_text z [])) m.is in
    let q = read_clock t m.year m.month m.date 24 0 0 (zone_text z []) m.is in
    let zr : zone_of (drop 19 t) ≡ z = ap zone_of q.rest ∙ zone_read z in
    ap (λ (b : Bool). cond b (midnight_behind t (drop 19 t)) (moment_behind t (drop 19 t))) (eq-eqb (two_at 11 t) 24 q.hours)
    ∙ ap (λ (n : ℕ). midnight_on t n (two_at 5 t) (two_at 8 t) (zone_of (drop 19 t))) p.years
    ∙ ap (λ (n : ℕ). midnight_on t m.year n (two_at 8 t) (zone_of (drop 19 t))) p.months
    ∙ ap (λ (n : ℕ). midnight_on t m.year m.month n (zone_of (drop 19 t))) p.days
    ∙ ap (midnight_on t m.year m.month m.date) zr
    ∙ ap (midnight_when t m.year m.month m.date z) m.next
    ∙ midnight_when_lem t m.year m.month m.date z (y, mo, d) m.day m.real m.good m.is
    ∙ ap (λ (n : ℕ). some (moment y mo d 0 0 0 0 n)) (sym m.parts.1) ∙ ap (λ (n : ℕ). some (moment y mo d 0 0 0 n o)) (sym m.parts.0)
    ∙ ap (λ (n : ℕ). some (moment y mo d n 0 0 u o)) (sym m.clock.0) ∙ ap (λ (n : ℕ). some (moment y mo d h n 0 u o)) (sym m.clock.1) ∙ ap (λ (n : ℕ). some (moment y mo d h mi n u o)) (sym m.clock.2)

pub moment_complete : (t : List ℕ) (y mo d h mi s u o : ℕ) → MomentBy present t y mo d h mi s u o → moment_of t ≡ some (moment y mo d h mi s u o)
moment_complete t y mo d h mi s u o (ordinary m) = plain_complete t y mo d h mi s u o m
moment_complete t y mo d h mi s u o (midnight e m) = midnight_complete t y mo d h mi s u o m
