-- `moment::zone` meets its contract. Assumes nothing.
use mathlib.Core.Path.{◌≡◌, sym, ◌∙◌, subst}
use mathlib.Core.Bool.{Bool}
use mathlib.Core.List.{List}
use mathlib.Core.Logic.{⊎_elim}
use Prim.Native.Nat.{ℕ, ◌+◌, ◌*◌, ◌-◌}
use native.Mathlib.Omega.{arith}
use lib.ListN.{drop, length-drop}
use lib.Seq.{drop-drop}
use Rattle.std.specs.Prelude.{Option, Some}
use Rattle.value.specs.mirror.Digits.{Mark, Two, ZoneAt}
use Rattle.value.proofs.dates.Fronts.{no_mark, zone_z, zone_one, zone_length, zone_no_hour, zone_no_minute, zone_off, zone_ahead, zone_behind}
use Rattle.value_dates.proofs.moment.zone.Goals as goal

-- what stands after a place, from the place
two_at : (t : List ℕ) (at i : ℕ) (r : Option ℕ) → Two (drop (at + i) t) r → Two (drop i (drop at t)) r
two_at t at i r w = subst (λ (l : List ℕ). Two l r) (sym (drop-drop i at t)) w

mark-at : (t : List ℕ) (at i b : ℕ) (q : Bool) → Mark (drop (at + i) t) b q → Mark (drop i (drop at t)) b q
mark-at t at i b q w = subst (λ (l : List ℕ). Mark l b q) (sym (drop-drop i at t)) w

pub returns-then-mark : goal.returns-then-mark
returns-then-mark c =
    zone_z _ (omega (arith, length-drop c.args.at c.args.t.now)) c.if-mark.ensures

pub returns-then-t-at : goal.returns-then-t-at
returns-then-t-at c =
    zone_one _ (omega (arith, length-drop c.args.at c.args.t.now)) c.if-mark.ensures

pub returns-then-t-at-2 : goal.returns-then-t-at-2
returns-then-t-at-2 c =
    zone_length _ (omega (arith, length-drop c.args.at c.args.t.now, c.if-t-at.false)) (omega (arith, length-drop c.args.at c.args.t.now, c.if-t-at-2.true))

pub returns-in_err-h : goal.returns-in_err-h
returns-in_err-h c =
    let t = c.args.t.now in
    let at = c.args.at in
    subst (ZoneAt (drop at t)) (sym c.from_residual.ensures) (zone_no_hour _ (omega (arith, length-drop at t)) (two_at t at 1 _ c.in_err-h.ensures))

pub returns-in_err-m : goal.returns-in_err-m
returns-in_err-m c =
    let t = c.args.t.now in
    let at = c.args.at in
    subst (ZoneAt (drop at t)) (sym c.from_residual-in_err-m.ensures) (zone_no_minute _ (omega (arith, length-drop at t)) (two_at t at 4 _ c.in_err-m.ensures))

pub returns-then-h-gt-LAST_ZONE_HOUR : goal.returns-then-h-gt-LAST_ZONE_HOUR
returns-then-h-gt-LAST_ZONE_HOUR c =
    let t = c.args.t.now in
    let at = c.args.at in
    zone_off _ _ _ (omega (arith, length-drop at t)) (two_at t at 1 _ c.in_ok-h.ensures) (two_at t at 4 _ c.in_ok-m.ensures)
    (λ x y o p q m s. omega (arith, o.most, c.if-h-gt-LAST_ZONE_HOUR.true))

pub returns-then-m-gt-LAST_MINUTE : goal.returns-then-m-gt-LAST_MINUTE
returns-then-m-gt-LAST_MINUTE c =
    let t = c.args.t.now in
    let at = c.args.at in
    zone_off _ _ _ (omega (arith, length-drop at t)) (two_at t at 1 _ c.in_ok-h.ensures) (two_at t at 4 _ c.in_ok-m.ensures)
    (λ x y o p q m s. omega (arith, o.minutes, c.if-m-gt-LAST_MINUTE.true))

pub returns-then-not-mark : goal.returns-then-not-mark
returns-then-not-mark c =
    let t = c.args.t.now in
    let at = c.args.at in
    zone_off _ _ _ (omega (arith, length-drop at t)) (two_at t at 1 _ c.in_ok-h.ensures) (two_at t at 4 _ c.in_ok-m.ensures)
    (λ x y o p q m s. no_mark _ _ _ _ c.mark-2.ensures c.if-not-mark.true (sym (drop-drop 3 at t) ∙ m))

pub returns-then-n-gt-ZERO_OFFSET : goal.returns-then-n-gt-ZERO_OFFSET
returns-then-n-gt-ZERO_OFFSET c =
    let t = c.args.t.now in
    let at = c.args.at in
    zone_off _ _ _ (omega (arith, length-drop at t)) (two_at t at 1 _ c.in_ok-h.ensures) (two_at t at 4 _ c.in_ok-m.ensures)
    (λ x y o p q m s. omega (arith, o.most, c.if-n-gt-ZERO_OFFSET.true, c.from.ensures, c.from-2.ensures))

pub returns-then-mark-2 : goal.returns-then-mark-2
returns-then-mark-2 c =
    let t = c.args.t.now in
    let at = c.args.at in
    let e : c.in_ok-h.h * 60 + c.in_ok-m.m ≡ c.from.result * 60 + c.from-2.result = omega (arith, c.from.ensures, c.from-2.ensures) in
    subst (λ (n : ℕ). ZoneAt (drop at t) (Some (840 + n))) e
    (zone_ahead _ _ _ (omega (arith, length-drop at t)) (two_at t at 1 _ c.in_ok-h.ensures) (two_at t at 4 _ c.in_ok-m.ensures) (omega (arith, c.if-m-gt-LAST_MINUTE.false))
    (omega (arith, c.if-n-gt-ZERO_OFFSET.false)) (mark-at t at 3 _ _ c.if-not-mark.ensures) c.if-mark-2.ensures)

pub returns-then-mark-3 : goal.returns-then-mark-3
returns-then-mark-3 c =
    let t = c.args.t.now in
    let at = c.args.at in
    let e : c.in_ok-h.h * 60 + c.in_ok-m.m ≡ c.from.result * 60 + c.from-2.result = omega (arith, c.from.ensures, c.from-2.ensures) in
    subst (λ (n : ℕ). ZoneAt (drop at t) (Some (840 - n))) e
    (zone_behind _ _ _ (omega (arith, length-drop at t)) (two_at t at 1 _ c.in_ok-h.ensures) (two_at t at 4 _ c.in_ok-m.ensures) (omega (arith, c.if-m-gt-LAST_MINUTE.false))
    (omega (arith, c.if-n-gt-ZERO_OFFSET.false)) (mark-at t at 3 _ _ c.if-not-mark.ensures) c.if-mark-3.ensures)

pub returns : goal.returns
returns c =
    let t = c.args.t.now in
    let at = c.args.at in
    zone_off _ _ _ (omega (arith, length-drop at t)) (two_at t at 1 _ c.in_ok-h.ensures) (two_at t at 4 _ c.in_ok-m.ensures)
    (λ x y o p q m s. ⊎_elim (no_mark _ _ _ _ c.mark-3.ensures c.if-mark-2.false) (no_mark _ _ _ _ c.mark-4.ensures c.if-mark-3.false) s)
