-- `image_reader::read_items` meets its contract. Assumes nothing.
use Prim.Native.Nat.{◌+◌, ◌<◌}
use native.Mathlib.Omega.{arith}
use mathlib.Core.Path.{◌≡◌, refl, subst}
use borrow.Author.Rules.{rules}
use Rattle.image.specs.mirror.Ends.{item_end}
use Rattle.image.proofs.loops.Ends.{item_on, item_leaf, item_group}
use Rattle.image.proofs.loops.ReaderTurn.{Here, AtByte, AtRow, begins, runs_out, closes, too_soon, strays, breaks, goes_on, counted}
use Rattle.std.proofs.Common.{◌≢◌, List, ℕ, Bool, length, get_or}
use Rattle.image.specs.mirror.Step.{follows}
use Rattle.image_reader.proofs.read_items.Goals as goal

-- what a turn has been told when it has read a byte, and when it knows whether that row may come
abbrev read_by : {t : List ℕ} {fin : ℕ → ℕ → ℕ} {s : List ℕ} {from q i n x : ℕ} → Here t fin s from q i n → i < length s → x ≡ get_or s i 0 → AtByte
read_by {t} {fin} {s} {from} {q} {i} {n} {x} h w e = record { t = t; fin = fin; s = s; from = from; q = q; i = i; n = n; here = h; x = x; inside = w; is = e }

abbrev row_by : (read : AtByte) {b : Bool} → read.x ≢ 0 → b ≡ follows read.t read.q read.x → AtRow
row_by read {b} r e = record { read = read; row = r; b = b; next = e }

further : (t s : List ℕ) (x i e : ℕ) → e ≡ item_end t s x (i + 1) → 0 < e → i < e
further t s x i e is some = omega (arith, item_on t s x (i + 1) (subst (λ z. 0 < z) is some), is)

pub loop-i-init : goal.loop-i-init
loop-i-init c =
    let g = c.args in
    begins g.rows.now (item_end g.rows.now g.run.now) g.run.now g.from c.requires

pub overflow_add-result-then-ended : goal.overflow_add-result-then-ended
overflow_add-result-then-ended c =
    let read = read_by c.loop-i.invariant c.loop-i-test.true c.from-x.ensures in
    let few = counted read in search rules

pub returns-then-ended : goal.returns-then-ended
returns-then-ended c =
    let read = read_by c.loop-i.invariant c.loop-i-test.true c.from-x.ensures in
    closes read _ _ _ (refl, refl) c.if-x-eq0.true c.ended.ensures c.if-ended.true

pub returns-then-x-eq0 : goal.returns-then-x-eq0
returns-then-x-eq0 c =
    let read = read_by c.loop-i.invariant c.loop-i-test.true c.from-x.ensures in
    too_soon read _ _ _ (refl, refl) c.if-x-eq0.true c.ended.ensures c.if-ended.false

pub returns-then-not-follows : goal.returns-then-not-follows
returns-then-not-follows c =
    let read = read_by c.loop-i.invariant c.loop-i-test.true c.from-x.ensures in
    let row = row_by read c.if-x-eq0.false c.follows.ensures in
    strays row _ _ (refl, refl) c.if-not-follows.true

pub returns-then-i-eq0 : goal.returns-then-i-eq0
returns-then-i-eq0 c =
    let read = read_by c.loop-i.invariant c.loop-i-test.true c.from-x.ensures in
    let row = row_by read c.if-x-eq0.false c.follows.ensures in
    let end : c.value_end-i.result ≡ read.fin read.x (read.i + 1) =
    item_leaf _ _ _ _ _ c.is_leaf.ensures c.if-is_leaf.true _ _ _ _ c.cell.ensures c.cell-then-is_leaf.ensures c.cell-then-is_leaf-2.ensures c.value_end-i.ensures.is in
    breaks row _ _ _ (refl, refl) c.if-not-follows.false end c.if-i-eq0.true

pub overflow_add-count : goal.overflow_add-count
overflow_add-count c =
    let read = read_by c.loop-i.invariant c.loop-i-test.true c.from-x.ensures in
    let few = counted read in search rules

pub loop-i-smaller-then-is_leaf : goal.loop-i-smaller-then-is_leaf
loop-i-smaller-then-is_leaf c =
    let read = read_by c.loop-i.invariant c.loop-i-test.true c.from-x.ensures in
    let end : c.value_end-i.result ≡ read.fin read.x (read.i + 1) =
    item_leaf _ _ _ _ _ c.is_leaf.ensures c.if-is_leaf.true _ _ _ _ c.cell.ensures c.cell-then-is_leaf.ensures c.cell-then-is_leaf-2.ensures c.value_end-i.ensures.is in
    omega (arith, read.inside, further read.t read.s read.x read.i _ end (omega (arith, c.if-i-eq0.false)))

pub loop-i-preserved-then-is_leaf : goal.loop-i-preserved-then-is_leaf
loop-i-preserved-then-is_leaf c =
    let read = read_by c.loop-i.invariant c.loop-i-test.true c.from-x.ensures in
    let row = row_by read c.if-x-eq0.false c.follows.ensures in
    let end : c.value_end-i.result ≡ read.fin read.x (read.i + 1) =
    item_leaf _ _ _ _ _ c.is_leaf.ensures c.if-is_leaf.true _ _ _ _ c.cell.ensures c.cell-then-is_leaf.ensures c.cell-then-is_leaf-2.ensures c.value_end-i.ensures.is in
    goes_on row _ c.if-not-follows.false end (further read.t read.s read.x read.i _ end (omega (arith, c.if-i-eq0.false)))

pub overflow_add-count-else-is_leaf : goal.overflow_add-count-else-is_leaf
overflow_add-count-else-is_leaf c =
    let read = read_by c.loop-i.invariant c.loop-i-test.true c.from-x.ensures in
    let few = counted read in search rules

pub loop-i-preserved : goal.loop-i-preserved
loop-i-preserved c =
    let read = read_by c.loop-i.invariant c.loop-i-test.true c.from-x.ensures in
    let row = row_by read c.if-x-eq0.false c.follows.ensures in
    goes_on row _ c.if-not-follows.false (item_group _ _ _ _ _ c.is_leaf.ensures c.if-is_leaf.false) (omega arith)

pub returns : goal.returns
returns c =
    let g = c.args in
    runs_out g.rows.now (item_end g.rows.now g.run.now) g.run.now g.from c.loop-i.q c.loop-i.i c.loop-i.count c.loop-i.invariant _ _ (refl, refl) c.loop-i-test.false
