-- DATE and DTM: exactly the bytes of their values. Assumes nothing.
use mathlib.Core.Path.{◌≡◌, refl, sym, ◌∙◌}
use mathlib.Core.Bool.{true}
use mathlib.Core.List.{List, [], ◌∷◌}
use Prim.Native.Nat.{ℕ}
use native.Mathlib.Omega.{arith}
use lib.Dec.{leb, ltb}
use lib.ListN.{length, get_or, take, drop, take-append-drop, length-drop}
use lib.Seq.{take_all, drop-cons, drop-drop}
use borrow.Author.Tests.{leb-true, ltb-true, lt-ltb, le-leb}
use Rattle.text.specs.Lists.{Each}
use Rattle.text.specs.Numbers.{big_endian, number}
use Rattle.text.proofs.Classes.{and_is}
use Rattle.text.proofs.Numbers.{Byte, number_big, big_bytes}
use Rattle.list.specs.Listing.{date, dtm}
use Rattle.value.specs.types.Day.{Real}
use Rattle.value.specs.types.Moment.{Parts}
use Rattle.value.specs.Value.{Value, day, moment, IsValue, bytes}
use Rattle.value.proofs.classes.Classes.{each_append}
use Rattle.value.proofs.dates.Dates.{month_most}
use Rattle.value.proofs.dates.Months.{real_is, real_of}
use Rattle.value.specs.mirror.Judges.{is_day, is_moment}
use Rattle.value.proofs.stored.Exactly.{Stored, Passes, Exact, number_at}

-- ---- DATE

day_same : (u : List ℕ) → Each Byte u → length u ≡ 4 → u ≡ bytes (day (number (take 2 u)) (get_or u 2 0) (get_or u 3 0))
day_same u b e =
    let z : drop 4 u ≡ [] = none (drop 4 u) (omega (arith, length-drop 4 u)) in
    sym (rw (number_at u 0 2 b (omega arith), ← z, ← drop-cons u 3 0 (omega arith), ← drop-cons u 2 0 (omega arith)) (take-append-drop 2 u))
  where
    none : (l : List ℕ) → length l ≡ 0 → l ≡ []
    none [] e = refl
    none (x ∷ l) e = absurd (omega arith)

day_sound : (u : List ℕ) → Each Byte u → length u ≡ 4 → is_day u ≡ true → Stored date u
unfolding is_day
day_sound u b e j =
    record { value = day (number (take 2 u)) (get_or u 2 0) (get_or u 3 0); is = IsValue.dated (real_is (number (take 2 u)) (get_or u 2 0) (get_or u 3 0) j); same = day_same u b e }

day_small : (y m d : ℕ) → Real y m d → Each Byte (bytes (day y m d))
day_small y m d r = each_append Byte (big_endian 2 y) (m ∷ d ∷ []) (big_bytes 2 y) (omega (arith, r.month.1), (omega (arith, r.day.1, month_most y m), tt))

day_complete : (v : Value) → IsValue date v → Passes 0 (λ _. 4) is_day v
unfolding is_day big_endian
day_complete v (IsValue.dated {y} {m} {d} r) =
    record {
      good = rw (number_big 2 y (omega (arith, r.year.1))) (real_of y m d r);
      long = λ t. refl;
      small = day_small y m d r;
      some = omega arith;
    }

pub day_exact : Exact date 0 (λ _. 4) is_day
day_exact = record { sound = day_sound; complete = day_complete }

-- ---- DTM

moment_same : (u : List ℕ) → Each Byte u → length u ≡ 13
    → u ≡ bytes (moment (number (take 2 u)) (get_or u 2 0) (get_or u 3 0) (get_or u 4 0) (get_or u 5 0) (get_or u 6 0) (number (take 4 (drop 7 u))) (number (take 2 (drop 11 u))))
moment_same u b e =
    let z : take 2 (drop 11 u) ≡ drop 4 (drop 7 u) = take_all 2 (drop 11 u) (omega (arith, length-drop 11 u)) ∙ sym (drop-drop 4 7 u) in
    sym (rw (number_at u 0 2 b (omega arith), number_at u 7 4 b (omega arith), number_at u 11 2 b (omega arith), z, take-append-drop 4 (drop 7 u), ← drop-cons u 6 0 (omega arith), ← drop-cons u 5 0 (omega arith), ← drop-cons u 4 0 (omega arith), ← drop-cons u 3 0 (omega arith), ← drop-cons u 2 0 (omega arith)) (take-append-drop 2 u))

moment_parts : (u : List ℕ) → is_moment u ≡ true → Parts (number (take 2 u)) (get_or u 2 0) (get_or u 3 0) (get_or u 4 0) (get_or u 5 0) (get_or u 6 0) (number (take 4 (drop 7 u))) (number (take 2 (drop 11 u)))
unfolding is_moment is_day
moment_parts u j =
    let d = and_is (is_day u) _ j in
    let h = and_is (leb (get_or u 4 0) 23) _ d.1 in
    let m = and_is (leb (get_or u 5 0) 59) _ h.1 in
    let s = and_is (leb (get_or u 6 0) 59) _ m.1 in
    let f = and_is (ltb (number (take 4 (drop 7 u))) 1000000) _ s.1 in
    record {
      day = real_is (number (take 2 u)) (get_or u 2 0) (get_or u 3 0) d.0;
      clock = (leb-true (get_or u 4 0) 23 h.0, leb-true (get_or u 5 0) 59 m.0, leb-true (get_or u 6 0) 59 s.0);
      fraction = ltb-true (number (take 4 (drop 7 u))) 1000000 f.0;
      zone = leb-true (number (take 2 (drop 11 u))) 1680 f.1;
    }

moment_small : (y mo d h mi s u z : ℕ) → Parts y mo d h mi s u z → Each Byte (bytes (moment y mo d h mi s u z))
moment_small y mo d h mi s u z p =
    each_append Byte (big_endian 2 y) _ (big_bytes 2 y)
    (omega (arith, p.day.month.1), (omega (arith, p.day.day.1, month_most y mo), (omega (arith, p.clock.0), (omega (arith, p.clock.1), (omega (arith, p.clock.2), each_append Byte (big_endian 4 u) (big_endian 2 z) (big_bytes 4 u) (big_bytes 2 z))))))

moment_complete : (v : Value) → IsValue dtm v → Passes 0 (λ _. 13) is_moment v
unfolding is_moment is_day big_endian
moment_complete v (IsValue.timed {y = y} {mo = mo} {d = d} {h = h} {mi = mi} {s = s} {u = u} {z = z} p) =
    record {
      good = rw (number_big 2 y (omega (arith, p.day.year.1)), number_big 4 u (omega (arith, p.fraction)), number_big 2 z (omega (arith, p.zone)), real_of y mo d p.day, le-leb h 23 p.clock.0, le-leb mi 59 p.clock.1, le-leb s 59 p.clock.2, lt-ltb u 1000000 p.fraction, le-leb z 1680 p.zone);
      long = λ t. refl;
      small = moment_small y mo d h mi s u z p;
      some = omega arith;
    }

pub moment_exact : Exact dtm 0 (λ _. 13) is_moment
moment_exact =
    record {
      sound = λ u b e j. record { value = moment (number (take 2 u)) (get_or u 2 0) (get_or u 3 0) (get_or u 4 0) (get_or u 5 0) (get_or u 6 0) (number (take 4 (drop 7 u))) (number (take 2 (drop 11 u))); is = IsValue.timed (moment_parts u j); same = moment_same u b e };
      complete = moment_complete;
    }
