-- What the code reads of sound tables is the list's. Assumes nothing.
use mathlib.Core.Path.{◌≡◌, refl, sym, ◌∙◌, ap}
use mathlib.Core.Bool.{false, cond, not}
use mathlib.Core.List.{List}
use Prim.Native.Nat.{ℕ, zero, suc, ◌≤◌}
use native.Mathlib.Omega.{arith}
use lib.Dec.{leb, ltb}
use borrow.Author.Tests.{le-ltb, lt-leb}
use Rattle.list.specs.Listing.{Kind, is_group, is_choice}
use Rattle.list.specs.tables.Table.{cell, count_of, kind_of, words_in, list_of}
use Rattle.list.specs.tables.Sound.{Sound}
use Rattle.list.specs.tables.Numbers.{is_group_in}
use Rattle.list.proofs.rows.Codes.{choice_is, group_is, numbered_is}
use Rattle.list.proofs.rows.Rows.{size_is, parent_is, count_is, kind_is}
use Rattle.image.specs.mirror.Follow.{repeats}
use Rattle.image.specs.mirror.Step.{is_leaf, again}
use Rattle.image.proofs.next.Step.{Lines}

-- the numbers of kinds and counts, as the code tests them
leaf_code : (k : ℕ) (ws : List (List ℕ)) (c : ℕ) → not (is_group_in c) ≡ not (is_group (kind_of c k ws))
leaf_code k ws c = ap not (numbered_is c ∙ sym (group_is k ws c))

again_code : (c : ℕ) → cond (ltb c 2) false (leb c 3) ≡ repeats (count_of c)
again_code zero = refl
again_code (suc zero) = refl
again_code (suc (suc zero)) = refl
again_code (suc (suc (suc zero))) = refl
again_code (suc (suc (suc (suc c)))) =
    let a : ltb (suc (suc (suc (suc c)))) 2 ≡ false = le-ltb (suc (suc (suc (suc c)))) 2 (omega arith) in
    let b : leb (suc (suc (suc (suc c)))) 3 ≡ false = lt-leb (suc (suc (suc (suc c)))) 3 (omega arith) in
    rw (a, b)

pub lines : (t pool : List ℕ) → Sound t pool → Lines t (list_of t pool)
unfolding is_leaf again
lines t pool s = record {
  rows = sym (size_is t pool);
  line = λ r a b.
      let c : r ≤ cell t 0 0 = omega (arith, size_is t pool) in
      let d = s.derived r b in
      record {
        parent = sym (parent_is t pool r a c);
        leaf = leaf_code (cell t r 3) (words_in t pool r) (cell t r 2) ∙ ap (λ (k : Kind). not (is_group k)) (sym (kind_is t pool r a c));
        choice = sym (choice_is (cell t r 3) (words_in t pool r) (cell t r 2)) ∙ ap is_choice (sym (kind_is t pool r a c));
        again = again_code (cell t r 1) ∙ ap repeats (sym (count_is t pool r a c));
        mate = d.mate;
        pair = d.pair;
        due_child = d.due_child;
        due_sibling = d.due_sibling;
      };
}
