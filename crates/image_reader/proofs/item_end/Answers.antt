-- `image_reader::item_end` meets its contract. Assumes nothing.
use Rattle.std.proofs.Common.{◌≡◌, ◌≢◌, ◌<◌, List, ℕ, true, false, Some, None, sym, ap, ◌∙◌, subst, ne_eqb, arith}
use Rattle.image.specs.mirror.Ends.{item_end}
use Rattle.image.specs.mirror.Step.{is_leaf}
use Rattle.image_reader.specs.Taken.{taken_end}
use Rattle.image.proofs.loops.Ends.{item_on, item_leaf, item_group}
use Rattle.image.proofs.Meaning.{item_means}
use Rattle.image_reader.proofs.item_end.Goals as goal

-- What is handed back: a group's end wherever it is, and a leaf's where there is one,
-- for a value never ends at 0.
group_taken : (t s : List ℕ) (x i e : ℕ) → is_leaf t x ≡ false → e ≡ item_end t s x i → Some e ≡ taken_end t s x i
group_taken t s x i e n h = rw n (ap Some h)

leaf_taken : (t s : List ℕ) (x i e : ℕ) → is_leaf t x ≡ true → e ≡ item_end t s x i → e ≢ 0 → Some e ≡ taken_end t s x i
leaf_taken t s x i e y h n = rw (y, sym h, ne_eqb e 0 n)

-- Of a leaf alone none is handed back,
-- and only where its value ends nowhere.
none_taken : (t s : List ℕ) (x i : ℕ) → is_leaf t x ≡ true → 0 ≡ item_end t s x i → None ≡ taken_end t s x i
none_taken t s x i y h = rw (y, sym h)

pub returns-then-not-is_leaf-clause-is : goal.returns-then-not-is_leaf-clause-is
returns-then-not-is_leaf-clause-is c =
    item_group _ _ _ _ _ c.is_leaf.ensures c.if-not-is_leaf.true

pub returns-then-not-is_leaf-clause-whole : goal.returns-then-not-is_leaf-clause-whole
returns-then-not-is_leaf-clause-whole c =
    group_taken _ _ _ _ _ (sym c.is_leaf.ensures ∙ c.if-not-is_leaf.true) (item_group _ _ _ _ _ c.is_leaf.ensures c.if-not-is_leaf.true)

pub returns-then-not-is_leaf-clause-means : goal.returns-then-not-is_leaf-clause-means
returns-then-not-is_leaf-clause-means c =
    (item_means _ _ _ _ _ (item_group _ _ _ _ _ c.is_leaf.ensures c.if-not-is_leaf.true)).1

pub returns-then-end-eq0-clause-is : goal.returns-then-end-eq0-clause-is
returns-then-end-eq0-clause-is c =
    sym c.if-end-eq0.true ∙ item_leaf _ _ _ _ _ c.is_leaf.ensures c.if-not-is_leaf.false _ _ _ _ c.cell.ensures c.cell-2.ensures c.cell-3.ensures c.value_end-end.ensures.is

pub returns-then-end-eq0-clause-whole : goal.returns-then-end-eq0-clause-whole
returns-then-end-eq0-clause-whole c =
    none_taken _ _ _ _ (sym c.is_leaf.ensures ∙ c.if-not-is_leaf.false) (sym c.if-end-eq0.true ∙ item_leaf _ _ _ _ _ c.is_leaf.ensures c.if-not-is_leaf.false _ _ _ _ c.cell.ensures c.cell-2.ensures c.cell-3.ensures c.value_end-end.ensures.is)

pub returns-then-end-eq0-clause-means : goal.returns-then-end-eq0-clause-means
returns-then-end-eq0-clause-means c =
    (item_means _ _ _ _ _ (sym c.if-end-eq0.true ∙ item_leaf _ _ _ _ _ c.is_leaf.ensures c.if-not-is_leaf.false _ _ _ _ c.cell.ensures c.cell-2.ensures c.cell-3.ensures c.value_end-end.ensures.is)).1

pub returns-clause-is : goal.returns-clause-is
returns-clause-is c =
    item_leaf _ _ _ _ _ c.is_leaf.ensures c.if-not-is_leaf.false _ _ _ _ c.cell.ensures c.cell-2.ensures c.cell-3.ensures c.value_end-end.ensures.is

pub returns-clause-whole : goal.returns-clause-whole
returns-clause-whole c =
    leaf_taken _ _ _ _ _ (sym c.is_leaf.ensures ∙ c.if-not-is_leaf.false) (item_leaf _ _ _ _ _ c.is_leaf.ensures c.if-not-is_leaf.false _ _ _ _ c.cell.ensures c.cell-2.ensures c.cell-3.ensures c.value_end-end.ensures.is) c.if-end-eq0.false

pub returns-clause-means : goal.returns-clause-means
returns-clause-means c =
    (item_means _ _ _ _ _ (item_leaf _ _ _ _ _ c.is_leaf.ensures c.if-not-is_leaf.false _ _ _ _ c.cell.ensures c.cell-2.ensures c.cell-3.ensures c.value_end-end.ensures.is)).1

pub returns-clause-on : goal.returns-clause-on
returns-clause-on c =
    let e = item_leaf _ _ _ _ _ c.is_leaf.ensures c.if-not-is_leaf.false _ _ _ _ c.cell.ensures c.cell-2.ensures c.cell-3.ensures c.value_end-end.ensures.is in
    omega (arith, e, item_on _ _ _ _ (subst (λ z. 0 < z) e (omega (arith, c.if-end-eq0.false))))
