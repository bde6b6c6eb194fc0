-- `fill::fill` meets its contract. Assumes nothing.
use native.Mathlib.Omega.{arith}
use mathlib.Core.Path.{refl, sym, ◌∙◌}
use Rattle.value.proofs.given.Putting.{kept}
use Rattle.file_check.proofs.House.{WritingOn, AtTag, AtOpening, fill_begins, fill_first, name_in, fill_low, fill_room, fill_ends, fill_out_less, fill_out, fill_comes, fill_row, fill_in_less, fill_in, fill_ready, fill_close, fill_some, fill_past_less, fill_past}
use Rattle.std.proofs.Common.{◌≡◌, ◌+◌, Bool, false, List, ℕ, drop}
use lib.Seq.{slice}
use Rattle.text.specs.Bytes.{is_blank}
use Rattle.text.specs.Lists.{span}
use Rattle.text_characters.specs.Pieces.{solidus}
use Rattle.list.specs.tables.Table.{cell, list_of}
use Rattle.list.specs.tables.Numbers.{is_group_in}
use Rattle.list.specs.Listing.{child}
use Rattle.xml_tags.specs.Marks.{head_is}
use Rattle.xml_tags.specs.mirror.Tokens.{open_at}
use Rattle.xml_tags.specs.declared.skim.Tag.{Tag}
use Rattle.xml_tags.specs.mirror.Skimmed.{tag_of}
use Rattle.file.specs.Instance.{house_kinds}
use Rattle.file_check.specs.declared.fill.Spot.{Spot}
use Rattle.file_check.specs.Fill.{Fillable}
use Rattle.file_check.proofs.fill.fill.Goals as goal

-- what a turn has been told before its tag, and of an opening one when it knows its row and kind
abbrev tag_at : {t pool s : List ℕ} {byte : ℕ} {d₁ : List ℕ} {a₁ : ℕ} {d : List ℕ} {here : Spot} {at o : ℕ} → Fillable house_kinds t pool s byte → WritingOn t pool s d₁ a₁ d here at
    → o ≡ here.at + span is_blank (drop here.at s) → AtTag
tag_at {t} {pool} {s} {byte} {d₁} {a₁} {d} {here} {at} {o} p w b = record { t = t; pool = pool; s = s; byte = byte; pre = p; d₁ = d₁; a₁ = a₁; d = d; here = here; at = at; stands = w; o = o; blanks = b }

abbrev opening_at : (turn : AtTag) {c : Bool} {tag : Tag} {r v : ℕ} {g : Bool} → c ≡ head_is solidus (drop (turn.o + 1) turn.s) → c ≡ false → tag ≡ tag_of (open_at turn.o (drop turn.o turn.s))
    → r ≡ child (list_of turn.t turn.pool) turn.here.row (slice (turn.o + 1) tag.stop turn.s) → v ≡ cell turn.t r 2 → g ≡ is_group_in v → AtOpening
opening_at turn {c} {tag} {r} {v} {g} closes opens reads names kind group = record { turn = turn; c = c; closes = closes; opens = opens; tag = tag; reads = reads; r = r; names = names; v = v; kind = kind; g = g; group = group }

pub unwrap-root-requires : goal.unwrap-root-requires
unwrap-root-requires c = fill_begins _ _ _ _ c.requires _ c.begin.ensures

pub loop-here-init : goal.loop-here-init
loop-here-init c =
    fill_first _ _ _ _ c.requires _ (sym c.unwrap-root.ensures ∙ c.begin.ensures) _ c.stand-here.ensures _ _ _ c.put_head-at.ensures.means

pub overflow_add-name : goal.overflow_add-name
overflow_add-name c =
    let turn = tag_at c.requires c.loop-here.invariant c.blanks_end-less.ensures in
    omega (arith, name_in turn, turn.pre.ready.small)

pub shape_of-out-then-row-eq1 : goal.shape_of-out-then-row-eq1
shape_of-out-then-row-eq1 c =
    let turn = tag_at c.requires c.loop-here.invariant c.blanks_end-less.ensures in
    kept _ _ _ _ c.place.ensures ∙ fill_room turn _ c.put_head-at.ensures.means

pub returns-then-row-eq1 : goal.returns-then-row-eq1
returns-then-row-eq1 c =
    let turn = tag_at c.requires c.loop-here.invariant c.blanks_end-less.ensures in
    fill_ends turn _ c.is_close.ensures c.if-is_close.true c.if-row-eq1.true _ c.put_head-at.ensures.means _
    c.place.ensures

pub loop-here-smaller-then-is_close : goal.loop-here-smaller-then-is_close
loop-here-smaller-then-is_close c =
    let turn = tag_at c.requires c.loop-here.invariant c.blanks_end-less.ensures in
    fill_out_less turn _ c.is_close.ensures c.if-is_close.true c.if-row-eq1.false _
    c.cell.ensures _ c.close_end.ensures _ c.stand-here-then-is_close.ensures

pub loop-here-preserved-then-is_close : goal.loop-here-preserved-then-is_close
loop-here-preserved-then-is_close c =
    let turn = tag_at c.requires c.loop-here.invariant c.blanks_end-less.ensures in
    fill_out turn _ c.is_close.ensures c.if-is_close.true c.if-row-eq1.false _
    c.cell.ensures _ c.close_end.ensures _ c.stand-here-then-is_close.ensures

pub row_of-r-requires : goal.row_of-r-requires
row_of-r-requires c =
    let turn = tag_at c.requires c.loop-here.invariant c.blanks_end-less.ensures in
    rw c.part_of.ensures (fill_comes turn _ c.is_close.ensures c.if-is_close.false _ c.tag_at-tag.ensures)

pub overflow_cast-r : goal.overflow_cast-r
overflow_cast-r c =
    let turn = tag_at c.requires c.loop-here.invariant c.blanks_end-less.ensures in
    let told = opening_at turn c.is_close.ensures c.if-is_close.false c.tag_at-tag.ensures (rw c.part_of.ensures at c.row_of-r.ensures) c.cell-else-is_close.ensures c.is_group.ensures in
    omega (arith, fill_row told)

pub overflow_add-at : goal.overflow_add-at
overflow_add-at c =
    let turn = tag_at c.requires c.loop-here.invariant c.blanks_end-less.ensures in
    omega (arith, fill_low turn)

pub loop-here-smaller-then-is_group : goal.loop-here-smaller-then-is_group
loop-here-smaller-then-is_group c =
    let turn = tag_at c.requires c.loop-here.invariant c.blanks_end-less.ensures in
    let told = opening_at turn c.is_close.ensures c.if-is_close.false c.tag_at-tag.ensures (rw c.part_of.ensures at c.row_of-r.ensures) c.cell-else-is_close.ensures c.is_group.ensures in
    fill_in_less told c.if-is_group.true _ c.stand-here-then-is_group.ensures

pub loop-here-preserved-then-is_group : goal.loop-here-preserved-then-is_group
loop-here-preserved-then-is_group c =
    let turn = tag_at c.requires c.loop-here.invariant c.blanks_end-less.ensures in
    let told = opening_at turn c.is_close.ensures c.if-is_close.false c.tag_at-tag.ensures (rw c.part_of.ensures at c.row_of-r.ensures) c.cell-else-is_close.ensures c.is_group.ensures in
    fill_in told c.if-is_group.true _ c.stand-here-then-is_group.ensures _ refl _ c.place-then-is_group.ensures

pub put_leaf-requires : goal.put_leaf-requires
put_leaf-requires c =
    let turn = tag_at c.requires c.loop-here.invariant c.blanks_end-less.ensures in
    let told = opening_at turn c.is_close.ensures c.if-is_close.false c.tag_at-tag.ensures (rw c.part_of.ensures at c.row_of-r.ensures) c.cell-else-is_close.ensures c.is_group.ensures in
    fill_ready told c.if-is_group.false

pub unwrap-at-requires : goal.unwrap-at-requires
unwrap-at-requires c =
    let turn = tag_at c.requires c.loop-here.invariant c.blanks_end-less.ensures in
    let told = opening_at turn c.is_close.ensures c.if-is_close.false c.tag_at-tag.ensures (rw c.part_of.ensures at c.row_of-r.ensures) c.cell-else-is_close.ensures c.is_group.ensures in
    fill_some told c.if-is_group.false _ c.text_end-end.ensures _ _ c.put_leaf.ensures

pub overflow_add-end : goal.overflow_add-end
overflow_add-end c =
    let turn = tag_at c.requires c.loop-here.invariant c.blanks_end-less.ensures in
    let told = opening_at turn c.is_close.ensures c.if-is_close.false c.tag_at-tag.ensures (rw c.part_of.ensures at c.row_of-r.ensures) c.cell-else-is_close.ensures c.is_group.ensures in
    omega (arith, fill_close told c.if-is_group.false _ c.text_end-end.ensures, told.turn.pre.ready.small)

pub loop-here-smaller : goal.loop-here-smaller
loop-here-smaller c =
    let turn = tag_at c.requires c.loop-here.invariant c.blanks_end-less.ensures in
    let told = opening_at turn c.is_close.ensures c.if-is_close.false c.tag_at-tag.ensures (rw c.part_of.ensures at c.row_of-r.ensures) c.cell-else-is_close.ensures c.is_group.ensures in
    fill_past_less told c.if-is_group.false _ c.text_end-end.ensures _
    c.close_end-else-is_group.ensures _ c.stand-here-else-is_group.ensures

pub loop-here-preserved : goal.loop-here-preserved
loop-here-preserved c =
    let turn = tag_at c.requires c.loop-here.invariant c.blanks_end-less.ensures in
    let told = opening_at turn c.is_close.ensures c.if-is_close.false c.tag_at-tag.ensures (rw c.part_of.ensures at c.row_of-r.ensures) c.cell-else-is_close.ensures c.is_group.ensures in
    fill_past told c.if-is_group.false _ c.text_end-end.ensures _
    c.close_end-else-is_group.ensures _ c.stand-here-else-is_group.ensures _ _ (rw c.unwrap-at.ensures at c.put_leaf.ensures)
