-- The search for a child that there is, around the children of a group. Assumes nothing.
use Rattle.std.specs.Prelude.{Option, None, Some, IfSome, unwrap_or}
use mathlib.Core.Path.{◌≡◌, refl, sym, ◌∙◌, ap, subst}
use mathlib.Core.Logic.{◌≢◌}
use mathlib.Core.Bool.{Bool, true, false, cond, not, true≢false}
use mathlib.Core.List.{List}
use Prim.Native.Nat.{ℕ, ◌-◌, ◌≤◌, ◌<◌}
use native.Mathlib.Decide.{ℕ_discrete, dec_lt}
use native.Mathlib.Omega.{arith}
use lib.Dec.{ltb}
use borrow.Author.Tests.{eq-eqb, ne_eqb, lt-ltb, le-ltb}
use Rattle.text.specs.Lists.{same}
use Rattle.list.specs.Listing.{Listing, row_at, Child, child}
use Rattle.list.specs.tables.Table.{cell, name_in, list_of}
use Rattle.list.specs.tables.Sound.{next_child}
use Rattle.list.proofs.rows.Words.{same_eq, same_of}
use Rattle.list.proofs.rows.Rows.{size_is, name_is}
use Rattle.list.proofs.rows.Next.{next_child_lem, no_child}
use Rattle.list.proofs.rows.Child.{child_found, child_is}
use Rattle.file_check.specs.Fill.{round_in, Comes}

-- how far it is from row r to row x, once around where x is before r: no list has 1000 rows
abbrev pub way : ℕ → ℕ → ℕ
way x r = cond (ltb x r) (1000 - r) (x - r)

near : (x r : ℕ) → r ≤ x → way x r ≡ x - r
near x r h = ap (λ (b : Bool). cond b (1000 - r) (x - r)) (le-ltb x r h)

far : (x r : ℕ) → x < r → way x r ≡ 1000 - r
far x r h = ap (λ (b : Bool). cond b (1000 - r) (x - r)) (lt-ltb x r h)

-- a test that is turned around
turned : (b c : Bool) → not b ≡ c → b ≡ not c
turned true c e = ap not e
turned false c e = ap not e

module _ (t pool : List ℕ) (row : ℕ) (last : Option ℕ) (n : List ℕ) (w : Comes t pool row last n) where
  abbrev l : Listing
  l = list_of t pool

  abbrev x : ℕ
  x = child l row n

  few : x ≤ 255
  few = omega (arith, w.its.last, w.sound.well.bytes)

  -- the first child is x or before it
  first : Child l row (cell t row 9) × (cell t row 9 ≤ x)
  first = elim (ℕ_discrete (cell t row 9) 0) [
    | yes e ↦ absurd (no_child l row 0 (sym (w.sound.derived row w.within).child ∙ e) x w.its w.its.first)
    | no e ↦
        let v = next_child_lem l row 0 (cell t row 9) (sym (w.sound.derived row w.within).child) (omega arith) in
        elim (dec_lt x (cell t row 9)) [ yes h ↦ absurd (v.lowest x w.its w.its.first h) | no h ↦ (v.its, omega arith) ]
  ]

  -- where the search sets out
  set_out : (q : Option ℕ) → IfSome q (Child l row) → Child l row (unwrap_or q (cell t row 9))
  set_out None f = first.0
  set_out (Some c) f = f

  pub row_first : (v : ℕ) → v ≡ cell t row 9 → (r : ℕ) → r ≡ unwrap_or last v → Child l row r
  row_first v i r e = subst (Child l row) (sym (e ∙ ap (λ (z : ℕ). unwrap_or last z) i)) (set_out last w.from)

  module _ (r : ℕ) (c : Child l row r) where
    named : (row_at l r).name ≡ name_in t pool r
    named = name_is t pool r c.first (omega (arith, c.last, size_is t pool))

    -- it has come to x
    pub row_found : (b : Bool) → b ≡ same (name_in t pool r) n → not b ≡ false → r ≡ x
    row_found b e h = sym (child_is l row n w.sound.well r (record { its = c; name = named ∙ same_eq (name_in t pool r) n (sym e ∙ turned b false h) }))

    -- or goes on, and is nearer then
    module _ (b : Bool) (e : b ≡ same (name_in t pool r) n) (h : not b ≡ true) (q : ℕ) (f : q ≡ cell t r 10) (r' : ℕ) (g : r' ≡ round_in t row q) where
      other : r ≢ x
      other z = true≢false (sym (same_of (name_in t pool r) n (sym named ∙ ap (λ (y : ℕ). (row_at l y).name) z ∙ (child_found l row n x refl w.its.first).name)) ∙ sym e ∙ turned b true h)

      next : q ≡ next_child l row r
      next = f ∙ (w.sound.derived r c.last).sibling ∙ ap (λ (p : ℕ). next_child l p r) c.parent

      record Nearer (y : ℕ) : Type 0 where
        its : Child l row y
        less : way x y < way x r

      behind : q ≢ 0 → Nearer q
      behind z =
          let v = next_child_lem l row r q (sym next) (omega arith) in
          record {
            its = v.its;
            less = elim (dec_lt x r) [
              | yes i ↦ omega (arith, far x r i, far x q (omega (arith, v.above)), v.above, v.its.last, w.sound.well.bytes)
              | no i ↦ elim (dec_lt x q) [
                | yes j ↦ absurd (v.lowest x w.its (let m : r < x = omega (arith, other) in m) j)
                | no j ↦ omega (arith, near x r (omega arith), near x q (omega arith), v.above)
              ]
            ];
          }

      again : q ≡ 0 → Nearer (cell t row 9)
      again z = record {
        its = first.0;
        less = elim (dec_lt x r) [
          | yes i ↦ omega (arith, far x r i, near x (cell t row 9) first.1, few, c.last, w.sound.well.bytes)
          | no i ↦ absurd (no_child l row r (sym next ∙ z) x w.its (let m : r < x = omega (arith, other) in m))
        ];
      }

      nearer : Nearer r'
      nearer = elim (ℕ_discrete q 0) [
        | yes z ↦ subst Nearer (sym (g ∙ ap (λ (d : Bool). cond d (cell t row 9) q) (eq-eqb q 0 z))) (again z)
        | no z ↦ subst Nearer (sym (g ∙ ap (λ (d : Bool). cond d (cell t row 9) q) (ne_eqb q 0 z))) (behind z)
      ]

      pub row_again : Child l row r'
      row_again = nearer.its

      pub row_nearer : way x r' < way x r
      row_nearer = nearer.less
