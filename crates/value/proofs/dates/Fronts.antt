-- Digits at the front of a text, days and moments, as the code reads them. Assumes nothing.
use mathlib.Core.Path.{◌≡◌, refl, sym, ◌∙◌, ap, ap₂, subst}
use mathlib.Core.Bool.{Bool, true, false, true≢false, cond}
use mathlib.Core.List.{List, [], ◌∷◌, ◌++◌}
use mathlib.Core.Logic.{◌≢◌, ◌⊎◌, inl, inr}
use Prim.Native.Nat.{ℕ, zero, suc, ◌+◌, ◌*◌, ◌-◌, ◌/◌, ◌%◌, ◌≤◌, ◌<◌}
use native.Mathlib.Numerals.{add-one}
use native.Mathlib.Omega.{arith}
use native.Mathlib.Decide.{dec_lt}
use lib.Dec.{eqb, ltb}
use lib.ListN.{length, drop, get_or, length-drop}
use lib.Seq.{drop-cons, drop-drop}
use borrow.Author.Tests.{eq-eqb, eqb-true, ne_eqb, lt-ltb, le-ltb}
use Rattle.text.specs.Bytes.{is_digit}
use Rattle.text.specs.Words.{starts}
use Rattle.text.proofs.Parts.{starts_is, starts_not}
use Rattle.list.specs.Listing.{date, dtm}
use Rattle.std.specs.Prelude.{Option, Some, None}
use Rattle.value.specs.declared.judged.Judged.{Judged}
use Rattle.value.specs.declared.judged.Day as D
use Rattle.value.specs.declared.judged.Judged.TheVariants as J
use Rattle.value.specs.types.Day.{Real, pair, day_text, month_days, next_day}
use Rattle.value.specs.parts.Former.{Clock, present, Fraction, no_fraction, decimals, figures, FractionOk, fraction_text, Zone, zulu, ahead, behind, Offset, ZoneOk, zone_text, ordinary, midnight}
use Rattle.value.specs.types.Moment.{clock_text}
use Rattle.value.specs.Value.{Value}
use Rattle.value.specs.parts.Form.{Form}
use Rattle.value.specs.Judged.{Formed, formed, formless, FormedAny}
use Rattle.value.specs.mirror.Digits.{One, Two, Mark, DayAt, FractionAt, by_last, NextAt, ZoneAt, ClockText, ClockAt, MidnightAt}
use Rattle.value.proofs.classes.Classes.{digit_range, digit_yes}
use Rattle.value.proofs.dates.Months.{month_none, month_some}
use Rattle.value.proofs.dates.Dates.{month_most, point_first}
use Rattle.value.proofs.dates.Spell.{read_day}

-- ---- the first bytes from a place on
pub front_one : (s : List ℕ) (i : ℕ) → i < length s → drop i s ≡ get_or s i 0 ∷ drop (i + 1) s
front_one s i h = rw (add-one i) (drop-cons s i 0 h)

pub front_two : (s : List ℕ) (i : ℕ) → i + 1 < length s → drop i s ≡ get_or s i 0 ∷ get_or s (i + 1) 0 ∷ drop (i + 1 + 1) s
front_two s i h = front_one s i (omega arith) ∙ ap (λ (u : List ℕ). get_or s i 0 ∷ u) (front_one s (i + 1) h)

-- ---- two digits
pub some_is : {A : Type 0} {x y : A} → Some x ≡ Some y → x ≡ y
some_is e = cc

pub some_none : {A B : Type 0} {x : A} → None ≡ Some x → B
some_none e = absurd (let z : ◌≡◌ {A = ℕ} 0 1 = cc in omega arith)

not_digit : (x n : ℕ) → is_digit x ≡ false → n < 10 → x ≡ 48 + n → ⊥
not_digit x n f h e = true≢false (sym (ap is_digit e ∙ digit_yes n h) ∙ f)

-- ---- one
one_none : (l : List ℕ) → length l ≤ 0 → One l None
one_none l h = record { sound = λ n e. some_none e; complete = λ n u k e. absurd (omega (arith, ap length e)) }

one_bad : (x : ℕ) (t : List ℕ) → is_digit x ≡ false → One (x ∷ t) None
one_bad x t f = record { sound = λ n e. some_none e; complete = λ n u k e. absurd (not_digit x n f (omega arith) (cc)) }

one_good : (x : ℕ) (t : List ℕ) (r : ℕ) → is_digit x ≡ true → r ≡ x - 48 → One (x ∷ t) (Some r)
one_good x t r p q =
    let a = digit_range x p in
    record {
      sound = λ n e. let i = some_is e in (omega arith, let c : x ≡ 48 + n = omega arith in ap (λ (y : ℕ). y ∷ t) c);
      complete = λ n u k e. let c : x ≡ 48 + n = cc in ap Some (omega arith);
    }

pub one_past : (s : List ℕ) (i : ℕ) → length s ≤ i → One (drop i s) None
one_past s i h = one_none (drop i s) (omega (arith, length-drop i s))

pub one_other : (s : List ℕ) (i : ℕ) → i < length s → is_digit (get_or s i 0) ≡ false → One (drop i s) None
one_other s i h f = subst (λ (l : List ℕ). One l None) (sym (front_one s i h)) (one_bad (get_or s i 0) (drop (i + 1) s) f)

pub one_made : (s : List ℕ) (i : ℕ) → i < length s → is_digit (get_or s i 0) ≡ true → One (drop i s) (Some (get_or s i 0 - 48))
one_made s i h p = subst (λ (l : List ℕ). One l (Some (get_or s i 0 - 48))) (sym (front_one s i h)) (one_good (get_or s i 0) (drop (i + 1) s) (get_or s i 0 - 48) p refl)

-- where a digit stands, there is a place
pub one_place : (s : List ℕ) (i n : ℕ) → One (drop i s) (Some n) → i < length s
one_place s i n w = omega (arith, ap length (w.sound n refl).1, length-drop i s)

-- ---- two digits
pub two_first : (s : List ℕ) (i : ℕ) → One (drop i s) None → Two (drop i s) None
two_first s i w = record { sound = λ n e. some_none e; complete = λ n u k e. some_none (w.complete (n / 10) ((48 + n % 10) ∷ u) (omega arith) e) }

module _ (s : List ℕ) (i a : ℕ) (v : One (drop i s) (Some a)) where
  pub two_second : One (drop (i + 1) s) None → Two (drop i s) None
  two_second w =
      record { sound = λ n e. some_none e; complete = λ n u k e. some_none (w.complete (n % 10) u (omega arith) (sym (drop-drop 1 i s) ∙ ap (drop 1) e)) }

  pub two_made : (b : ℕ) → One (drop (i + 1) s) (Some b) → Two (drop i s) (Some (a * 10 + b))
  two_made b w =
      let x = v.sound a refl in
      let y = w.sound b refl in
      record {
        sound = λ n e.
            let q = some_is e in
            let c : a ≡ n / 10 = omega (arith, y.0) in
            let d : b ≡ n % 10 = omega (arith, y.0) in (
              omega (arith, x.0, y.0),
              x.1 ∙ ap (λ (l : List ℕ). (48 + a) ∷ l) (drop-drop 1 i s ∙ y.1 ∙ ap (λ (l : List ℕ). (48 + b) ∷ l) (ap (drop 1) (sym (drop-drop 1 i s)) ∙ drop-drop 1 1 (drop i s)))
                  ∙ ap₂ (λ (p q : ℕ). (48 + p) ∷ (48 + q) ∷ drop 2 (drop i s)) c d,
            );
        complete = λ n u k e.
            let c : a ≡ n / 10 = some_is (v.complete (n / 10) ((48 + n % 10) ∷ u) (omega arith) e) in
            let d : b ≡ n % 10 = some_is (w.complete (n % 10) u (omega arith) (sym (drop-drop 1 i s) ∙ ap (drop 1) e)) in
            ap Some (omega arith);
      }

-- no two digits stand there
pub no_pair : (l : List ℕ) (n : ℕ) (u : List ℕ) → Two l None → n ≤ 99 → l ≡ pair n u → ⊥
no_pair l n u w h e = some_none (w.complete n u h e)

-- ---- one byte
pub mark_none : (l : List ℕ) (b : ℕ) → length l ≤ 0 → Mark l b false
mark_none l b h = record { sound = λ e. absurd (true≢false (sym e)); complete = λ u e. absurd (omega (arith, ap length e)) }

pub mark_at : (x b : ℕ) (t : List ℕ) → Mark (x ∷ t) b (eqb x b)
mark_at x b t = record { sound = λ e. ap (λ (y : ℕ). y ∷ t) (eqb-true x b e); complete = λ u e. eq-eqb x b (cc) }

-- ---- days
pub month_in : (y m : ℕ) → 1 ≤ month_days y m → (1 ≤ m) × (m ≤ 12)
month_in y m h = go (dec_lt m 1) (dec_lt 12 m)
  where
    out : (1 ≤ m → m ≤ 12 → ⊥) → month_days y m ≡ 0
    out f = sym (month_none y m f)

    go : Dec (m < 1) → Dec (12 < m) → (1 ≤ m) × (m ≤ 12)
    go (yes a) b = absurd (omega (arith, out (λ p q. absurd (omega arith))))
    go (no a) (yes b) = absurd (omega (arith, out (λ p q. absurd (omega arith))))
    go (no a) (no b) = (omega arith, omega arith)

-- a part that is no number
module _ (t : List ℕ) where
  pub day_no_high : Two t None → DayAt t None
  day_no_high w = DayAt.off refl (λ y mo da u r g. no_pair t (y / 100) (drop 2 (day_text y mo da u)) w (omega (arith, r.year.1)) g)

  pub day_no_low : Two (drop 2 t) None → DayAt t None
  day_no_low w = DayAt.off refl (λ y mo da u r g. no_pair (drop 2 t) (y % 100) (drop 4 (day_text y mo da u)) w (omega arith) (ap (drop 2) g))

  pub day_no_month : Two (drop 5 t) None → DayAt t None
  day_no_month w = DayAt.off refl (λ y mo da u r g. no_pair (drop 5 t) mo (drop 7 (day_text y mo da u)) w (omega (arith, r.month.1)) (ap (drop 5) g))

  pub day_no_day : Two (drop 8 t) None → DayAt t None
  day_no_day w = DayAt.off refl (λ y mo da u r g. let l = month_most y mo in no_pair (drop 8 t) da u w (omega (arith, r.day.1)) (ap (drop 8) g))

module _ (t : List ℕ) (hi lo m d : ℕ) (a : Two t (Some hi)) (b : Two (drop 2 t) (Some lo)) (e : Two (drop 5 t) (Some m)) (f : Two (drop 8 t) (Some d)) where
  -- what is read of a day's text
  pub record Read (y mo da : ℕ) : Type 0 where
    pub high : hi ≡ y / 100
    pub low : lo ≡ y % 100
    pub month : m ≡ mo
    pub day : d ≡ da
    pub dash : drop 4 t ≡ 45 ∷ drop 5 t
    pub dash2 : drop 7 t ≡ 45 ∷ drop 8 t

  pub day_read : (y mo da : ℕ) (u : List ℕ) → Real y mo da → t ≡ day_text y mo da u → Read y mo da
  day_read y mo da u r g =
      let l = month_most y mo in
      record {
        high = some_is (a.complete (y / 100) (drop 2 (day_text y mo da u)) (omega (arith, r.year.1)) g);
        low = some_is (b.complete (y % 100) (drop 4 (day_text y mo da u)) (omega arith) (ap (drop 2) g));
        month = some_is (e.complete mo (drop 7 (day_text y mo da u)) (omega (arith, r.month.1)) (ap (drop 5) g));
        day = some_is (f.complete da u (omega (arith, r.day.1)) (ap (drop 8) g));
        dash = ap (drop 4) g ∙ sym (ap (λ (v : List ℕ). 45 ∷ drop 5 v) g);
        dash2 = ap (drop 7) g ∙ sym (ap (λ (v : List ℕ). 45 ∷ drop 8 v) g);
      }

  pub day_off : ((y mo da : ℕ) → Real y mo da → Read y mo da → ⊥) → DayAt t None
  day_off g = DayAt.off refl (λ y mo da u r h. g y mo da r (day_read y mo da u r h))

  pub day_on : (y : ℕ) → y ≡ hi * 100 + lo → y ≢ 0 → d ≢ 0 → d ≤ month_days y m → Mark (drop 4 t) 45 true → Mark (drop 7 t) 45 true → DayAt t (Some (record { year = y; month = m; day = d }))
  day_on y g h2 h3 h4 p q =
      let k = month_in y m (omega arith) in
      let l = month_most y m in
      let h0 = (a.sound hi refl).0 in
      let h1 = (b.sound lo refl).0 in
      let y0 : y / 100 ≡ hi = omega arith in
      let y1 : y % 100 ≡ lo = omega arith in
      DayAt.on y m d (record { year = (omega arith, omega arith); month = k; day = (omega arith, h4) })
      (subst (λ (n : ℕ). t ≡ pair n (pair (y % 100) (45 ∷ pair m (45 ∷ pair d (drop 10 t))))) (sym y0)
      (subst (λ (n : ℕ). t ≡ pair hi (pair n (45 ∷ pair m (45 ∷ pair d (drop 10 t))))) (sym y1) whole))
      refl
    where
      at : (i j : ℕ) → drop i (drop j t) ≡ drop (j + i) t
      at i j = drop-drop i j t

      s10 : drop 8 t ≡ pair d (drop 10 t)
      s10 = (f.sound d refl).1 ∙ ap (pair d) (at 2 8)

      s7 : drop 7 t ≡ 45 ∷ pair d (drop 10 t)
      s7 = q.sound refl ∙ ap (λ (u : List ℕ). 45 ∷ u) (at 1 7 ∙ s10)

      s5 : drop 5 t ≡ pair m (45 ∷ pair d (drop 10 t))
      s5 = (e.sound m refl).1 ∙ ap (pair m) (at 2 5 ∙ s7)

      s4 : drop 4 t ≡ 45 ∷ pair m (45 ∷ pair d (drop 10 t))
      s4 = p.sound refl ∙ ap (λ (u : List ℕ). 45 ∷ u) (at 1 4 ∙ s5)

      s2 : drop 2 t ≡ pair lo (45 ∷ pair m (45 ∷ pair d (drop 10 t)))
      s2 = (b.sound lo refl).1 ∙ ap (pair lo) (at 2 2 ∙ s4)

      whole : t ≡ pair hi (pair lo (45 ∷ pair m (45 ∷ pair d (drop 10 t))))
      whole = (a.sound hi refl).1 ∙ ap (pair hi) s2

-- more days than the month has
pub day_over : (y m d h l a b n : ℕ) → d ≤ month_days y m → h ≡ y / 100 → l ≡ y % 100 → (m' : ℕ) → m' ≡ m → (d' : ℕ) → d' ≡ d → a ≡ h → b ≡ l → n ≡ month_days (a * 100 + b) m' → n < d' → ⊥
day_over y m d h l a b n r p q m' e d' f i j k o =
    let z : a * 100 + b ≡ y = omega arith in
    let t : n ≡ month_days y m = k ∙ ap (λ (x : ℕ). month_days x m') z ∙ ap (month_days y) e in
    omega arith

-- a mark that is asked and not there
pub no_mark : (l : List ℕ) (b : ℕ) (r : Bool) (u : List ℕ) → Mark l b r → r ≡ false → l ≡ b ∷ u → ⊥
no_mark l b r u w e f = true≢false (sym (w.complete u f) ∙ e)

pub day_refuse : (w t : List ℕ) → ((y m d : ℕ) → Real y m d → t ≡ day_text y m d [] → ⊥) → (v : Value) → Form date w t v → ⊥
day_refuse w t f v (Form.dated r e) = f _ _ _ r e

pub day_whole : (t : List ℕ) (q : D.Day) → length t ≡ 10 → DayAt t (Some q) → FormedAny date t (Some (J.Day q))
day_whole t q h (DayAt.on y m d real is e) w cw =
    subst (λ (n : D.Day). Formed date w t (Some (J.Day n))) (sym (some_is e))
    (formed _ (Form.dated real (is ∙ ap (day_text y m d) (lib.ListN.drop_of_length-le t {i = 10} (omega arith)))) refl)
day_whole t q h (DayAt.off e f) w cw = some_none (sym e)

pub day_none : (t : List ℕ) → DayAt t None → FormedAny date t None
day_none t (DayAt.on y m d real is e) w cw = some_none e
day_none t (DayAt.off e f) w cw = formless refl (day_refuse w t (λ y m d real is. f y m d [] real is))

pub day_length : (t : List ℕ) → length t ≢ 10 → FormedAny date t None
day_length t h w cw = formless refl (day_refuse w t (λ y m d real is. h (ap length is)))

-- ---- the fraction of a second
-- what begins with a digit is no zone
no_one : (l : List ℕ) (x : ℕ) (z : Zone) → One l (Some x) → l ≡ zone_text z [] → ⊥
no_one l x zulu w e = let p = w.sound x refl in let q : ◌≡◌ {A = ℕ} (48 + x) 90 = cc in omega (arith, p.0)
no_one l x (ahead i j) w e = let p = w.sound x refl in let q : ◌≡◌ {A = ℕ} (48 + x) 43 = cc in omega (arith, p.0)
no_one l x (behind i j) w e = let p = w.sound x refl in let q : ◌≡◌ {A = ℕ} (48 + x) 45 = cc in omega (arith, p.0)

-- no point stands there
fraction_bare : (l : List ℕ) → Mark l 46 false → FractionAt l 0 l
fraction_bare l w = record { fraction = no_fraction; good = tt; is = refl; count = refl; only = go }
  where
    go : (f : Fraction) (z : Zone) → FractionOk present f → l ≡ fraction_text f (zone_text z []) → l ≡ zone_text z []
    go no_fraction z h e = e
    go (decimals k n) z h e = absurd (no_mark l 46 false (figures k n (zone_text z [])) w refl e)

same_three : (a b c x y z : ℕ) (t : List ℕ) → a ≡ x → b ≡ y → c ≡ z → 46 ∷ (48 + a) ∷ (48 + b) ∷ (48 + c) ∷ t ≡ 46 ∷ (48 + x) ∷ (48 + y) ∷ (48 + z) ∷ t
same_three a b c x y z t e f g = rw (e, f, g)

-- a point, and what stands after it
module _ (l : List ℕ) (p : Mark l 46 true) where
  -- what a fraction before a zone says of it
  data Said (z : Zone) : Type 0 where
    one : (x : ℕ) → x ≤ 9 → x ≢ 0 → drop 1 l ≡ (48 + x) ∷ zone_text z [] → Said z
    two : (x y : ℕ) → x ≤ 9 → y ≤ 9 → y ≢ 0 → drop 1 l ≡ (48 + x) ∷ (48 + y) ∷ zone_text z [] → Said z
    three : (x y v : ℕ) → x ≤ 9 → y ≤ 9 → v ≤ 9 → v ≢ 0 → drop 1 l ≡ (48 + x) ∷ (48 + y) ∷ (48 + v) ∷ zone_text z [] → Said z

  fraction_read : (f : Fraction) (z : Zone) → FractionOk present f → l ≡ fraction_text f (zone_text z []) → Said z
  unfolding figures
  fraction_read no_fraction z h e = absurd (point_first (drop 1 l) z (sym (p.sound refl) ∙ e))
  fraction_read (decimals zero n) z h e = absurd (omega (arith, h.0.0))
  fraction_read (decimals (suc zero) n) z h e = one (n % 10) (omega arith) (λ k. h.2 (omega arith)) (ap (drop 1) e)
  fraction_read (decimals (suc (suc zero)) n) z h e = two (n / 10 % 10) (n % 10) (omega arith) (omega arith) (λ k. h.2 (omega arith)) (ap (drop 1) e)
  fraction_read (decimals (suc (suc (suc zero))) n) z h e =
      three (n / 10 / 10 % 10) (n / 10 % 10) (n % 10) (omega arith) (omega arith) (omega arith) (λ q. h.2 (omega arith)) (ap (drop 1) e)
  fraction_read (decimals (suc (suc (suc (suc k)))) n) z h e = absurd (omega (arith, h.0.1))

  -- no fraction before a zone stands there
  fraction_bad : ((z : Zone) → Said z → ⊥) → FractionAt l 0 l
  fraction_bad f = record { fraction = no_fraction; good = tt; is = refl; count = refl; only = λ x z h e. absurd (f z (fraction_read x z h e)) }

  fraction_none : One (drop 1 l) None → FractionAt l 0 l
  fraction_none w = fraction_bad go
    where
      go : (z : Zone) → Said z → ⊥
      go z (one x h n e) = some_none (w.complete x _ h e)
      go z (two x y h i n e) = some_none (w.complete x _ h e)
      go z (three x y v h i j n e) = some_none (w.complete x _ h e)

  behind_one : drop 1 (drop 1 l) ≡ drop 2 l
  behind_one = drop-drop 1 1 l

  behind_two : drop 2 (drop 1 l) ≡ drop 3 l
  behind_two = drop-drop 2 1 l

  -- the first digit is a
  module _ (a : ℕ) (u : One (drop 1 l) (Some a)) where
    one_front : l ≡ 46 ∷ (48 + a) ∷ drop 2 l
    one_front = p.sound refl ∙ ap (λ (t : List ℕ). 46 ∷ t) ((u.sound a refl).1 ∙ ap (λ (t : List ℕ). (48 + a) ∷ t) behind_one)

    second : (t : List ℕ) (x : ℕ) → drop 1 l ≡ (48 + x) ∷ t → drop 2 l ≡ t
    second t x e = sym behind_one ∙ ap (drop 1) e

    -- and no second
    module _ (v : One (drop 2 l) None) where
      one_said : (z : Zone) → Said z → (a ≢ 0) × (drop 2 l ≡ zone_text z [])
      one_said z (one x h n e) = (λ q. n (sym (some_is (u.complete x _ h e)) ∙ q), second (zone_text z []) x e)
      one_said z (two x y h i n e) = some_none (v.complete y _ i (second _ x e))
      one_said z (three x y t h i j n e) = some_none (v.complete y _ i (second _ x e))

      fraction_one : a ≢ 0 → FractionAt l (a * 100000) (drop 2 l)
      unfolding figures
      fraction_one i =
          let h = (u.sound a refl).0 in
          let n : a ≡ a % 10 = omega arith in
          record {
            fraction = decimals 1 a;
            good = ((omega arith, omega arith), omega arith, omega arith);
            is = one_front ∙ ap (λ (x : ℕ). 46 ∷ (48 + x) ∷ drop 2 l) n;
            count = refl;
            only = λ f z g e. (one_said z (fraction_read f z g e)).1;
          }

      fraction_one_zero : a ≡ 0 → FractionAt l 0 l
      fraction_one_zero i = fraction_bad (λ z s. (one_said z s).0 i)

    -- the second is b
    module _ (b : ℕ) (v : One (drop 2 l) (Some b)) where
      two_front : l ≡ 46 ∷ (48 + a) ∷ (48 + b) ∷ drop 3 l
      two_front = one_front ∙ ap (λ (t : List ℕ). 46 ∷ (48 + a) ∷ t) ((v.sound b refl).1 ∙ ap (λ (t : List ℕ). (48 + b) ∷ t) (drop-drop 1 2 l))

      third : (t : List ℕ) (x y : ℕ) → drop 1 l ≡ (48 + x) ∷ (48 + y) ∷ t → drop 3 l ≡ t
      third t x y e = sym behind_two ∙ ap (drop 2) e

      -- and no third
      module _ (w : One (drop 3 l) None) where
        two_said : (z : Zone) → Said z → (b ≢ 0) × (drop 3 l ≡ zone_text z [])
        two_said z (one x h n e) = absurd (no_one (drop 2 l) b z v (second _ x e))
        two_said z (two x y h i n e) = (λ q. n (sym (some_is (v.complete y _ i (second _ x e))) ∙ q), third (zone_text z []) x y e)
        two_said z (three x y t h i j n e) = some_none (w.complete t _ j (third _ x y e))

        fraction_two : b ≢ 0 → FractionAt l ((a * 10 + b) * 10000) (drop 3 l)
        unfolding figures
        fraction_two j =
            let h = (u.sound a refl).0 in
            let i = (v.sound b refl).0 in
            let n : a ≡ (a * 10 + b) / 10 % 10 = omega arith in
            let m : b ≡ (a * 10 + b) % 10 = omega arith in
            record {
              fraction = decimals 2 (a * 10 + b);
              good = ((omega arith, omega arith), omega arith, omega arith);
              is = two_front ∙ ap₂ (λ (x y : ℕ). 46 ∷ (48 + x) ∷ (48 + y) ∷ drop 3 l) n m;
              count = refl;
              only = λ f z g e. (two_said z (fraction_read f z g e)).1;
            }

        fraction_two_zero : b ≡ 0 → FractionAt l 0 l
        fraction_two_zero i = fraction_bad (λ z s. (two_said z s).0 i)

      -- the third is c
      module _ (c : ℕ) (w : One (drop 3 l) (Some c)) where
        three_front : l ≡ 46 ∷ (48 + a) ∷ (48 + b) ∷ (48 + c) ∷ drop 4 l
        three_front = two_front ∙ ap (λ (t : List ℕ). 46 ∷ (48 + a) ∷ (48 + b) ∷ t) ((w.sound c refl).1 ∙ ap (λ (t : List ℕ). (48 + c) ∷ t) (drop-drop 1 3 l))

        three_said : (z : Zone) → Said z → (c ≢ 0) × (drop 4 l ≡ zone_text z [])
        three_said z (one x h n e) = absurd (no_one (drop 2 l) b z v (second _ x e))
        three_said z (two x y h i n e) = absurd (no_one (drop 3 l) c z w (third _ x y e))
        three_said z (three x y t h i j n e) =
            (λ q. n (sym (some_is (w.complete t _ j (third _ x y e))) ∙ q), sym (drop-drop 3 1 l) ∙ ap (drop 3) e)

        fraction_three : c ≢ 0 → FractionAt l (((a * 10 + b) * 10 + c) * 1000) (drop 4 l)
        unfolding figures
        fraction_three k =
            let h = (u.sound a refl).0 in
            let i = (v.sound b refl).0 in
            let j = (w.sound c refl).0 in
            record {
              fraction = decimals 3 ((a * 10 + b) * 10 + c);
              good = ((omega arith, omega arith), omega arith, omega arith);
              is = three_front ∙ same_three a b c _ _ _ (drop 4 l) (omega arith) (omega arith) (omega arith);
              count = refl;
              only = λ f z g e. (three_said z (fraction_read f z g e)).1;
            }

        fraction_three_zero : c ≡ 0 → FractionAt l 0 l
        fraction_three_zero i = fraction_bad (λ z s. (three_said z s).0 i)

-- the same at 19, as it is answered: u microseconds, and the place e after the fraction
abbrev pub Fractioned : List ℕ → ℕ → ℕ → Type 0
Fractioned t u e = FractionAt (drop 19 t) u (drop e t) × (e ≤ 23)

made : (t : List ℕ) (u e k : ℕ) → 19 + k ≡ e → e ≤ 23 → FractionAt (drop 19 t) u (drop k (drop 19 t)) → Fractioned t u e
made t u e k p h w = (subst (λ (n : ℕ). FractionAt (drop 19 t) u (drop n t)) p (subst (FractionAt (drop 19 t) u) (drop-drop k 19 t) w), h)

pub as_made : (t : List ℕ) (u e u' e' : ℕ) → u' ≡ u → e' ≡ e → Fractioned t u e → Fractioned t u' e'
as_made t u e u' e' p q w = subst (λ (n : ℕ). Fractioned t n e') (sym p) (subst (Fractioned t u) (sym q) w)

pub bare_made : (t : List ℕ) (r : Bool) → Mark (drop 19 t) 46 r → r ≡ false → Fractioned t 0 19
bare_made t r w f = made t 0 19 0 refl (omega arith) (fraction_bare (drop 19 t) (subst (λ (x : Bool). Mark (drop 19 t) 46 x) f w))

lasts : (t : List ℕ) (k u e : ℕ) → (k ≢ 0 → Fractioned t u e) → (k ≡ 0 → Fractioned t 0 19) → Fractioned t (by_last k u 0) (by_last k e 19)
lasts t zero u e f g = g refl
lasts t (suc k) u e f g = rw (ne_eqb (suc k) 0 (λ z. omega arith)) (f (λ z. omega arith))

module _ (t : List ℕ) (r : Bool) (w : Mark (drop 19 t) 46 r) (f : r ≡ true) where
  point : Mark (drop 19 t) 46 true
  point = subst (λ (x : Bool). Mark (drop 19 t) 46 x) f w

  at : (m : ℕ) (o : Option ℕ) → One (drop (19 + m) t) o → One (drop m (drop 19 t)) o
  at m o v = subst (λ (l : List ℕ). One l o) (sym (drop-drop m 19 t)) v

  pub no_digits : One (drop 20 t) None → Fractioned t 0 19
  no_digits i = made t 0 19 0 refl (omega arith) (fraction_none (drop 19 t) point (at 1 None i))

  module _ (a : ℕ) (i : One (drop 20 t) (Some a)) where
    pub one_digit : One (drop 21 t) None → Fractioned t (by_last a (a * 100000) 0) (by_last a 21 19)
    one_digit j =
        lasts t a (a * 100000) 21 (λ n. made t (a * 100000) 21 2 refl (omega arith) (fraction_one (drop 19 t) point a (at 1 (Some a) i) (at 2 None j) n))
        (λ n. made t 0 19 0 refl (omega arith) (fraction_one_zero (drop 19 t) point a (at 1 (Some a) i) (at 2 None j) n))

    module _ (b : ℕ) (j : One (drop 21 t) (Some b)) where
      pub two_digits : One (drop 22 t) None → Fractioned t (by_last b ((a * 10 + b) * 10000) 0) (by_last b 22 19)
      two_digits k =
          lasts t b ((a * 10 + b) * 10000) 22
          (λ n. made t ((a * 10 + b) * 10000) 22 3 refl (omega arith) (fraction_two (drop 19 t) point a (at 1 (Some a) i) b (at 2 (Some b) j) (at 3 None k) n))
          (λ n. made t 0 19 0 refl (omega arith) (fraction_two_zero (drop 19 t) point a (at 1 (Some a) i) b (at 2 (Some b) j) (at 3 None k) n))

      pub three_digits : (c : ℕ) → One (drop 22 t) (Some c) → Fractioned t (by_last c (((a * 10 + b) * 10 + c) * 1000) 0) (by_last c 23 19)
      three_digits c k =
          lasts t c (((a * 10 + b) * 10 + c) * 1000) 23
          (λ n. made t (((a * 10 + b) * 10 + c) * 1000) 23 4 refl (omega arith) (fraction_three (drop 19 t) point a (at 1 (Some a) i) b (at 2 (Some b) j) c (at 3 (Some c) k) n))
          (λ n. made t 0 19 0 refl (omega arith) (fraction_three_zero (drop 19 t) point a (at 1 (Some a) i) b (at 2 (Some b) j) c (at 3 (Some c) k) n))

-- ---- the zone
module _ (l : List ℕ) where
  pub zone_z : length l ≡ 1 → Mark l 90 true → ZoneAt l (Some 840)
  zone_z h w = ZoneAt.on zulu tt (w.sound refl ∙ ap (λ (t : List ℕ). 90 ∷ t) (lib.ListN.drop_of_length-le l {i = 1} (omega arith))) refl

  pub zone_one : length l ≡ 1 → Mark l 90 false → ZoneAt l None
  zone_one h w = ZoneAt.off refl go
    where
      go : (z : Zone) → ZoneOk z → l ≡ zone_text z [] → ⊥
      go zulu g e = no_mark l 90 false [] w refl e
      go (ahead x y) g e = omega (arith, ap length e)
      go (behind x y) g e = omega (arith, ap length e)

  pub zone_length : length l ≢ 1 → length l ≢ 6 → ZoneAt l None
  zone_length h k = ZoneAt.off refl go
    where
      go : (z : Zone) → ZoneOk z → l ≡ zone_text z [] → ⊥
      go zulu g e = h (ap length e)
      go (ahead x y) g e = k (ap length e)
      go (behind x y) g e = k (ap length e)

  pub zone_no_hour : length l ≡ 6 → Two (drop 1 l) None → ZoneAt l None
  zone_no_hour len w = ZoneAt.off refl go
    where
      go : (z : Zone) → ZoneOk z → l ≡ zone_text z [] → ⊥
      go zulu g e = omega (arith, ap length e)
      go (ahead x y) g e = no_pair (drop 1 l) x (58 ∷ pair y []) w (omega (arith, g.most)) (ap (drop 1) e)
      go (behind x y) g e = no_pair (drop 1 l) x (58 ∷ pair y []) w (omega (arith, g.most)) (ap (drop 1) e)

  pub zone_no_minute : length l ≡ 6 → Two (drop 4 l) None → ZoneAt l None
  zone_no_minute len w = ZoneAt.off refl go
    where
      go : (z : Zone) → ZoneOk z → l ≡ zone_text z [] → ⊥
      go zulu g e = omega (arith, ap length e)
      go (ahead x y) g e = no_pair (drop 4 l) y [] w (omega (arith, g.minutes)) (ap (drop 4) e)
      go (behind x y) g e = no_pair (drop 4 l) y [] w (omega (arith, g.minutes)) (ap (drop 4) e)

  module _ (h m : ℕ) (len : length l ≡ 6) (a : Two (drop 1 l) (Some h)) (b : Two (drop 4 l) (Some m)) where
    -- what is read of an offset's text
    pub zone_off : ((x y : ℕ) → Offset x y → h ≡ x → m ≡ y → drop 3 l ≡ 58 ∷ pair y [] → (l ≡ 43 ∷ drop 1 l) ⊎ (l ≡ 45 ∷ drop 1 l) → ⊥) → ZoneAt l None
    zone_off f = ZoneAt.off refl go
      where
        go : (z : Zone) → ZoneOk z → l ≡ zone_text z [] → ⊥
        go zulu g e = omega (arith, ap length e)
        go (ahead x y) g e =
            f x y g (some_is (a.complete x (58 ∷ pair y []) (omega (arith, g.most)) (ap (drop 1) e))) (some_is (b.complete y [] (omega (arith, g.minutes)) (ap (drop 4) e))) (ap (drop 3) e)
            (inl (e ∙ sym (ap (λ (t : List ℕ). 43 ∷ drop 1 t) e)))
        go (behind x y) g e =
            f x y g (some_is (a.complete x (58 ∷ pair y []) (omega (arith, g.most)) (ap (drop 1) e))) (some_is (b.complete y [] (omega (arith, g.minutes)) (ap (drop 4) e))) (ap (drop 3) e)
            (inr (e ∙ sym (ap (λ (t : List ℕ). 45 ∷ drop 1 t) e)))

    hours : Mark (drop 3 l) 58 true → drop 1 l ≡ pair h (58 ∷ pair m [])
    hours c =
        (a.sound h refl).1 ∙ ap (pair h) (drop-drop 2 1 l ∙ c.sound refl ∙ ap (λ (t : List ℕ). 58 ∷ t) (drop-drop 1 3 l ∙ (b.sound m refl).1 ∙ ap (pair m) (drop-drop 2 4 l ∙ lib.ListN.drop_of_length-le l {i = 6} (omega arith))))

    pub zone_ahead : m ≤ 59 → h * 60 + m ≤ 840 → Mark (drop 3 l) 58 true → Mark l 43 true → ZoneAt l (Some (840 + (h * 60 + m)))
    zone_ahead j k c w = ZoneAt.on (ahead h m) (record { minutes = j; most = k }) (w.sound refl ∙ ap (λ (t : List ℕ). 43 ∷ t) (hours c)) refl

    pub zone_behind : m ≤ 59 → h * 60 + m ≤ 840 → Mark (drop 3 l) 58 true → Mark l 45 true → ZoneAt l (Some (840 - (h * 60 + m)))
    zone_behind j k c w = ZoneAt.on (behind h m) (record { minutes = j; most = k }) (w.sound refl ∙ ap (λ (t : List ℕ). 45 ∷ t) (hours c)) refl

-- ---- the clock
-- a part that is no number
module _ (t : List ℕ) (y mo d : ℕ) where
  after : (k : ℕ) (h mi s u z : ℕ) (w : ClockText (drop 10 t) h mi s u z)
      → drop (10 + k) t ≡ drop k (84 ∷ clock_text h mi s (fraction_text w.fraction (zone_text w.zone [])))
  after k h mi s u z w = sym (drop-drop k 10 t) ∙ ap (drop k) w.is

  pub clock_no_hour : Two (drop 11 t) None → ClockAt t y mo d None
  clock_no_hour n = ClockAt.off refl (λ h mi s u z w. no_pair (drop 11 t) h _ n (omega (arith, w.clock.0)) (after 1 h mi s u z w))

  pub clock_no_minute : Two (drop 14 t) None → ClockAt t y mo d None
  clock_no_minute n = ClockAt.off refl (λ h mi s u z w. no_pair (drop 14 t) mi _ n (omega (arith, w.clock.1)) (after 4 h mi s u z w))

  pub clock_no_second : Two (drop 17 t) None → ClockAt t y mo d None
  clock_no_second n = ClockAt.off refl (λ h mi s u z w. no_pair (drop 17 t) s _ n (omega (arith, w.clock.2)) (after 7 h mi s u z w))

module _ (t : List ℕ) (y mo d h mi s : ℕ) (a : Two (drop 11 t) (Some h)) (b : Two (drop 14 t) (Some mi)) (e : Two (drop 17 t) (Some s)) where
  -- what is read of a clock's text
  pub record Clocked (h' mi' s' : ℕ) : Type 0 where
    pub hour : h ≡ h'
    pub minute : mi ≡ mi'
    pub second : s ≡ s'
    pub marks : (drop 10 t ≡ 84 ∷ drop 11 t) × (drop 13 t ≡ 58 ∷ drop 14 t) × (drop 16 t ≡ 58 ∷ drop 17 t)

  pub clock_off : ((h' mi' s' : ℕ) → Clock h' mi' s' → Clocked h' mi' s' → ⊥) → ClockAt t y mo d None
  clock_off f = ClockAt.off refl (λ h' mi' s' u z w. f h' mi' s' w.clock (read h' mi' s' u z w))
    where
      read : (h' mi' s' u z : ℕ) → ClockText (drop 10 t) h' mi' s' u z → Clocked h' mi' s'
      read h' mi' s' u z w =
          let x = fraction_text w.fraction (zone_text w.zone []) in
          let d11 : drop 11 t ≡ clock_text h' mi' s' x = sym (drop-drop 1 10 t) ∙ ap (drop 1) w.is in
          let d13 : drop 13 t ≡ 58 ∷ pair mi' (58 ∷ pair s' x) = sym (drop-drop 3 10 t) ∙ ap (drop 3) w.is in
          let d14 : drop 14 t ≡ pair mi' (58 ∷ pair s' x) = sym (drop-drop 4 10 t) ∙ ap (drop 4) w.is in
          let d16 : drop 16 t ≡ 58 ∷ pair s' x = sym (drop-drop 6 10 t) ∙ ap (drop 6) w.is in
          let d17 : drop 17 t ≡ pair s' x = sym (drop-drop 7 10 t) ∙ ap (drop 7) w.is in
          record {
            hour = some_is (a.complete h' _ (omega (arith, w.clock.0)) d11);
            minute = some_is (b.complete mi' _ (omega (arith, w.clock.1)) d14);
            second = some_is (e.complete s' _ (omega (arith, w.clock.2)) d17);
            marks = (w.is ∙ ap (λ (v : List ℕ). 84 ∷ v) (sym d11), d13 ∙ ap (λ (v : List ℕ). 58 ∷ v) (sym d14), d16 ∙ ap (λ (v : List ℕ). 58 ∷ v) (sym d17));
          }

  module _ (p : Mark (drop 10 t) 84 true) (q : Mark (drop 13 t) 58 true) (r : Mark (drop 16 t) 58 true) (c : Clock h mi s) where
    clock_text_lem : drop 10 t ≡ 84 ∷ clock_text h mi s (drop 19 t)
    clock_text_lem =
        p.sound refl ∙ ap (λ (v : List ℕ). 84 ∷ v) (drop-drop 1 10 t ∙ (a.sound h refl).1 ∙ ap (pair h)
        (drop-drop 2 11 t ∙ q.sound refl ∙ ap (λ (v : List ℕ). 58 ∷ v) (drop-drop 1 13 t ∙ (b.sound mi refl).1 ∙ ap (pair mi)
        (drop-drop 2 14 t ∙ r.sound refl ∙ ap (λ (v : List ℕ). 58 ∷ v) (drop-drop 1 16 t ∙ (e.sound s refl).1 ∙ ap (pair s)
        (drop-drop 2 17 t))))))

    pub clock_on : (u z : ℕ) (rest : List ℕ) → FractionAt (drop 19 t) u rest → ZoneAt rest (Some z) → ClockAt t y mo d (Some (J.Moment (record { year = y; month = mo; day = d; hour = h; minute = mi; second = s; micros = u; offset = z })))
    clock_on u z rest f (ZoneAt.on x ok is off) =
        ClockAt.on h mi s u z
        (record { clock = c; fraction = f.fraction; zone = x; good = (f.good, ok); is = clock_text_lem ∙ ap (λ (v : List ℕ). 84 ∷ clock_text h mi s v) (f.is ∙ ap (fraction_text f.fraction) is); parts = (f.count, some_is off) }) refl
    clock_on u z rest f (ZoneAt.off is never) = some_none (sym is)

    pub clock_no_zone : (u : ℕ) (rest : List ℕ) → FractionAt (drop 19 t) u rest → ZoneAt rest None → ClockAt t y mo d None
    clock_no_zone u rest f (ZoneAt.on x ok is off) = some_none off
    clock_no_zone u rest f (ZoneAt.off is never) =
        ClockAt.off refl (λ h' mi' s' u' z' w. never w.zone w.good.1 (f.only w.fraction w.zone w.good.0 (sym (drop-drop 9 10 t) ∙ ap (drop 9) w.is)))

-- ---- the day after a day
real_as : {a b c y m d : ℕ} → a ≡ y → b ≡ m → c ≡ d → Real a b c → Real y m d
real_as {a} {b} {c} {y} {m} {d} p q e r = subst (λ (x : ℕ). Real x m d) p (subst (λ (x : ℕ). Real a x d) q (subst (λ (x : ℕ). Real a b x) e r))

module _ (y m d : ℕ) (r : Real y m d) where
  next_of : (a b : Bool) → ltb d (month_days y m) ≡ a → ltb m 12 ≡ b → next_day y m d ≡ cond a (y, m, d + 1) (cond b (y, m + 1, 1) (y + 1, 1, 1))
  next_of a b p q = rw (p, q)

  pub next_day_lem : d < month_days y m → NextAt y m d (Some (record { year = y; month = m; day = d + 1 }))
  next_day_lem h = NextAt.on y m (d + 1) (next_of true _ (lt-ltb d (month_days y m) h) refl) (record { year = r.year; month = r.month; day = (omega arith, omega arith) }) refl

  pub next_month : month_days y m ≤ d → m < 12 → NextAt y m d (Some (record { year = y; month = m + 1; day = 1 }))
  next_month h k =
      NextAt.on y (m + 1) 1 (next_of false true (le-ltb d (month_days y m) h) (lt-ltb m 12 k))
      (record { year = r.year; month = (omega arith, omega arith); day = (omega arith, month_some y (m + 1) (omega arith) (omega arith)) }) refl

  last : month_days y m ≤ d → 12 ≤ m → next_day y m d ≡ (y + 1, 1, 1)
  last h k = next_of false false (le-ltb d (month_days y m) h) (le-ltb m 12 k)

  pub next_year : month_days y m ≤ d → 12 ≤ m → y < 9999 → NextAt y m d (Some (record { year = y + 1; month = 1; day = 1 }))
  next_year h k i = NextAt.on (y + 1) 1 1 (last h k) (record { year = (omega arith, omega arith); month = (omega arith, omega arith); day = (omega arith, month_some (y + 1) 1 (omega arith) (omega arith)) }) refl

  pub next_none : month_days y m ≤ d → 12 ≤ m → 9999 ≤ y → NextAt y m d None
  next_none h k i = NextAt.off refl (λ y' m' d' e q. let n : y + 1 ≡ y' = ap (λ (p : ℕ × ℕ × ℕ). p.0) (sym (last h k) ∙ e) in omega (arith, q.year.1))

-- ---- midnight
module _ (l : List ℕ) (y m d : ℕ) where
  pub midnight_no_zone : ZoneAt l None → MidnightAt l y m d None
  midnight_no_zone (ZoneAt.on x ok is off) = some_none off
  midnight_no_zone (ZoneAt.off is never) = MidnightAt.off refl (λ y' m' d' x i r ok e. never x ok e)

  pub midnight_no_day : NextAt y m d None → MidnightAt l y m d None
  midnight_no_day (NextAt.on y' m' d' i r e) = some_none e
  midnight_no_day (NextAt.off e never) = MidnightAt.off refl (λ y' m' d' x i r ok k. never y' m' d' i r)

  pub midnight_on_lem : (z : ℕ) (q : D.Day) → ZoneAt l (Some z) → NextAt y m d (Some q)
      → MidnightAt l y m d (Some (J.Moment (record { year = q.year; month = q.month; day = q.day; hour = 0; minute = 0; second = 0; micros = 0; offset = z })))
  midnight_on_lem z q (ZoneAt.off is never) n = some_none (sym is)
  midnight_on_lem z q (ZoneAt.on x ok is off) (NextAt.off i never) = some_none (sym i)
  midnight_on_lem z q (ZoneAt.on x ok is off) (NextAt.on a b c i r k) =
      let e = some_is k in
      MidnightAt.on a b c x i r ok is
      (ap₂ (λ (p : D.Day) (n : ℕ). Some (J.Moment (record { year = p.year; month = p.month; day = p.day; hour = 0; minute = 0; second = 0; micros = 0; offset = n }))) e (some_is off))

-- ---- the moment
-- `T24:00:00`
abbrev pub late_clock : List ℕ
late_clock = 84 ∷ 50 ∷ 52 ∷ 58 ∷ 48 ∷ 48 ∷ 58 ∷ 48 ∷ 48 ∷ []

pub moment_no_day : (t : List ℕ) → DayAt t None → FormedAny dtm t None
moment_no_day t (DayAt.on y m d real is e) w cw = some_none e
moment_no_day t (DayAt.off e f) w cw = formless refl go
  where
    go : (v : Value) → Form dtm w t v → ⊥
    go v (Form.timed (ordinary m)) = f _ _ _ _ m.day m.is
    go v (Form.timed (midnight i m)) = f _ _ _ _ m.day m.is

-- the day that is read is the day that stands there
record Stands (t : List ℕ) (q : D.Day) : Type 0 where
  real : Real q.year q.month q.day
  is : t ≡ day_text q.year q.month q.day (drop 10 t)

stands : (t : List ℕ) (q : D.Day) → DayAt t (Some q) → Stands t q
stands t q (DayAt.off e f) = some_none (sym e)
stands t q (DayAt.on y mo d real is e) = subst (Stands t) (sym (some_is e)) (record { real = real; is = is })

pub day_real : (t : List ℕ) (q : D.Day) → DayAt t (Some q) → Real q.year q.month q.day
day_real t q w = (stands t q w).real

module _ (t : List ℕ) (y mo d : ℕ) (r : Option Judged) (w : DayAt t (Some (record { year = y; month = mo; day = d }))) where
  -- the hour is 24 in the one and at most 23 in the other
  pub moment_whole : starts late_clock (drop 10 t) ≡ false → ClockAt t y mo d r → FormedAny dtm t r
  moment_whole n (ClockAt.on h mi s u z c i) x cx =
      let k = stands t (record { year = y; month = mo; day = d }) w in
      subst (Formed dtm x t) (sym i) (formed _ (Form.timed (ordinary (record { day = k.real; clock = c.clock; fraction = c.fraction; zone = c.zone; good = c.good; is = k.is ∙ ap (day_text y mo d) c.is; parts = c.parts }))) refl)
  moment_whole n (ClockAt.off i f) x cx = subst (Formed dtm x t) (sym i) (formless refl go)
    where
      go : (v : Value) → Form dtm x t v → ⊥
      go v (Form.timed (ordinary m)) = f _ _ _ _ _ (record { clock = m.clock; fraction = m.fraction; zone = m.zone; good = m.good; is = ap (drop 10) m.is; parts = m.parts })
      go v (Form.timed (midnight j m)) = starts_not late_clock (drop 10 t) (zone_text m.zone []) n (ap (drop 10) m.is)

  pub moment_late : starts late_clock (drop 10 t) ≡ true → MidnightAt (drop 19 t) y mo d r → FormedAny dtm t r
  moment_late n (MidnightAt.on y' m' d' z e real ok is i) x cx =
      let k = stands t (record { year = y; month = mo; day = d }) w in
      subst (Formed dtm x t) (sym i)
      (formed _ (Form.timed (midnight refl (record { year = y; month = mo; date = d; day = k.real; next = e; real = real; zone = z; good = ok; is = k.is ∙ ap (day_text y mo d) (starts_is late_clock (drop 10 t) n ∙ ap (λ (l : List ℕ). late_clock ++ l) (drop-drop 9 10 t ∙ is)); clock = (refl, refl, refl); parts = (refl, refl) }))) refl)
  moment_late n (MidnightAt.off i f) x cx = subst (Formed dtm x t) (sym i) (formless refl go)
    where
      go : (v : Value) → Form dtm x t v → ⊥
      go v (Form.timed {h = h} (ordinary m)) =
          let a : late_clock ++ drop 9 (drop 10 t) ≡ 84 ∷ clock_text h _ _ _ = sym (starts_is late_clock (drop 10 t) n) ∙ ap (drop 10) m.is in
          let b : 50 ≡ 48 + h / 10 = cc in
          let c : 52 ≡ 48 + h % 10 = cc in
          absurd (omega (arith, m.clock.0))
      go v (Form.timed (midnight j m)) =
          let k = read_day t y mo d (drop 10 t) (stands t (record { year = y; month = mo; day = d }) w).is in
          let o = read_day t m.year m.month m.date _ m.is in
          f _ _ _ m.zone
          (ap (λ (a : ℕ). next_day a mo d) (sym k.years ∙ o.years) ∙ ap (λ (a : ℕ). next_day m.year a d) (sym k.months ∙ o.months) ∙ ap (next_day m.year m.month) (sym k.days ∙ o.days) ∙ m.next)
          m.real m.good (ap (drop 19) m.is)
