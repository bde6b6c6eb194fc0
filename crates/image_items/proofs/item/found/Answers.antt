-- `item::found` meets its contract: each return is one of the laws of one item. Assumes nothing.
use mathlib.Core.Path.{refl}
use native.Mathlib.Omega.{arith}
use Rattle.image.proofs.loops.PickerTurn.{head_small}
use Rattle.image_items.proofs.Standing.{unheaded, AtByte, house_closing, house_strange, house_unfit, house_simple, house_fits, house_valued, bare_item}
use Rattle.std.proofs.Common.{◌≡◌, ◌≢◌, ◌<◌, List, ℕ, length, get_or}
use Rattle.image_reading.specs.Forms.{Headed}
use Rattle.image_items.proofs.item.found.Goals as goal

-- the byte at the place
abbrev byte_at : {run : List ℕ} {from kind start x : ℕ} → Headed run kind start → kind ≢ 0 → x ≡ get_or run from 0 → from < length run → AtByte
byte_at {run} {from} {kind} {start} {x} h k r w = record { run = run; from = from; kind = kind; start = start; headed = h; known = k; within = w; x = x; read = r }

pub returns-in_err-start : goal.returns-in_err-start
returns-in_err-start c =
    rw c.from_residual.ensures (unheaded _ _ _ _ c.in_err-start.ensures.is refl _ _ (refl, refl))

pub returns-then-row-eq0 : goal.returns-then-row-eq0
returns-then-row-eq0 c =
    let byte = byte_at c.in_ok-start.ensures.is c.in_ok-start.ensures.known c.from-row.ensures (omega (arith, c.if-run-from.false)) in
    house_closing byte _ _ c.if-row-eq0.true (bare_item c.bare.result _ _ c.bare.ensures)

pub returns-then-cell-row : goal.returns-then-cell-row
returns-then-cell-row c =
    let byte = byte_at c.in_ok-start.ensures.is c.in_ok-start.ensures.known c.from-row.ensures (omega (arith, c.if-run-from.false)) in
    house_strange byte _ c.kept_rows_of-rows.ensures c.if-row-eq0.false _ _
    (omega (arith, c.if-cell-row.true, c.cell.ensures)) (refl, refl)

pub returns-in_err-end : goal.returns-in_err-end
returns-in_err-end c =
    let byte = byte_at c.in_ok-start.ensures.is c.in_ok-start.ensures.known c.from-row.ensures (omega (arith, c.if-run-from.false)) in
    rw c.from_residual-in_err-end.ensures
    (house_unfit byte _ c.kept_rows_of-rows.ensures c.if-row-eq0.false
    (omega (arith, c.if-cell-row.false, c.cell.ensures)) _ c.in_err-end.ensures.is _ _ refl (refl, refl))

pub returns-then-end-at : goal.returns-then-end-at
returns-then-end-at c =
    let byte = byte_at c.in_ok-start.ensures.is c.in_ok-start.ensures.known c.from-row.ensures (omega (arith, c.if-run-from.false)) in
    house_simple byte _ c.kept_rows_of-rows.ensures c.if-row-eq0.false
    (omega (arith, c.if-cell-row.false, c.cell.ensures)) _ c.in_ok-end.ensures.is _ _
    (λ z. omega (arith, z, c.in_ok-end.ensures.on)) c.if-end-at.true (bare_item c.bare-then-end-at.result _ _ c.bare-then-end-at.ensures)

pub overflow_add-place : goal.overflow_add-place
overflow_add-place c =
    omega (arith, c.head.ensures, head_small c.kept_rows_of-rows.result c.from-row.result, c.if-run-from.false)

pub overflow_sub-result : goal.overflow_sub-result
overflow_sub-result c =
    let byte = byte_at c.in_ok-start.ensures.is c.in_ok-start.ensures.known c.from-row.ensures (omega (arith, c.if-run-from.false)) in
    let fit = house_fits byte c.kept_rows_of-rows.result c.kept_rows_of-rows.ensures c.if-row-eq0.false
    (omega (arith, c.if-cell-row.false, c.cell.ensures)) c.in_ok-end.end c.in_ok-end.ensures.is
    (λ z. omega (arith, z, c.in_ok-end.ensures.on)) c.if-end-at.false in
    omega (arith, c.head.ensures, fit)

pub returns : goal.returns
returns c =
    let byte = byte_at c.in_ok-start.ensures.is c.in_ok-start.ensures.known c.from-row.ensures (omega (arith, c.if-run-from.false)) in
    house_valued byte _ c.kept_rows_of-rows.ensures c.if-row-eq0.false
    (omega (arith, c.if-cell-row.false, c.cell.ensures)) _ c.in_ok-end.ensures.is
    (λ z. omega (arith, z, c.in_ok-end.ensures.on)) c.if-end-at.false _ _ _ c.head.ensures (refl, refl)
