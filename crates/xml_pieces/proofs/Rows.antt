-- Rows of `]`. Assumes nothing.
use mathlib.Core.Path.{◌≡◌, refl, sym, ◌∙◌, ap}
use mathlib.Core.Bool.{Bool, true, false, cond, not, ◌&&◌}
use mathlib.Core.Logic.{◌≢◌}
use mathlib.Core.List.{List}
use Prim.Native.Nat.{ℕ, ◌+◌, ◌-◌, ◌≤◌, ◌<◌}
use native.Mathlib.Omega.{arith}
use lib.Dec.{leb, eqb}
use lib.ListN.{length, get_or, drop, drop_of_length-le}
use lib.Seq.{drop-cons, drop-drop}
use borrow.Author.Tests.{eq-eqb, ne_eqb, le-leb, lt-leb}
use Rattle.text.specs.Lists.{span}
use Rattle.xml_pieces.specs.Kinds.{is_bracket, goes_on, over_row}
use Rattle.std.specs.Prelude.{Ok}
use Rattle.xml_pieces.specs.Over.{stop}

-- the place e after the row at i
module _ (s : List ℕ) (i e : ℕ) (is : e ≡ i + span is_bracket (drop i s)) where
  pub row_is : over_row (drop i s) i ≡ cond (goes_on (e - i) (drop e s)) (Ok e) (stop e)
  unfolding over_row
  row_is =
      let n : span is_bracket (drop i s) ≡ e - i = omega arith in
      rw (drop-drop (span is_bracket (drop i s)) i s, sym is, n) refl

  pub row_end : length s ≤ e → goes_on (e - i) (drop e s) ≡ false
  row_end h = rw (drop_of_length-le s h) refl

  pub row_cut : length s ≤ e → stop e ≡ over_row (drop i s) i
  row_cut h = sym (row_is ∙ rw (row_end h) refl)

  module _ (h : e < length s) where
    pub row_next : goes_on (e - i) (drop e s) ≡ not (eqb (get_or s e 0) 62 && leb 2 (e - i))
    row_next = ap (goes_on (e - i)) (drop-cons s e 0 h)

    pub row_greater : 1 < e - i → get_or s e 0 ≡ 62 → stop e ≡ over_row (drop i s) i
    row_greater l m = sym (row_is ∙ rw (row_next, eq-eqb (get_or s e 0) 62 m, le-leb 2 (e - i) l) refl)

    pub row_other : get_or s e 0 ≢ 62 → Ok e ≡ over_row (drop i s) i
    row_other l = sym (row_is ∙ rw (row_next, ne_eqb (get_or s e 0) 62 l) refl)

    pub row_short : e - i ≤ 1 → Ok e ≡ over_row (drop i s) i
    row_short l = sym (row_is ∙ rw (row_next, lt-leb 2 (e - i) (omega arith), and_no (eqb (get_or s e 0) 62)) refl)
      where
        and_no : (u : Bool) → (u && false) ≡ false
        and_no true = refl
        and_no false = refl
