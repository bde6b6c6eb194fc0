-- What the end of a value means: for a leaf of a list, after the bytes of a value of its type, and 0 where no value's bytes stand. Assumes nothing.
use mathlib.Core.Path.{◌≡◌, refl, sym, ◌∙◌, ap, subst}
use mathlib.Core.Bool.{Bool, true, false, cond, and-false}
use mathlib.Core.List.{List, ◌++◌}
use Prim.Native.Nat.{ℕ, ◌+◌, ◌≤◌, ◌<◌}
use native.Mathlib.Omega.{arith}
use native.Mathlib.Decide.{dec_lt}
use lib.Dec.{leb}
use lib.ListN.{length, take, drop, length-append, take-append-drop}
use lib.Seq.{length-take-le, take-append_seam, drop-drop}
use borrow.Author.Tests.{leb-true, le-leb}
use Rattle.text.proofs.Classes.{and_is}
use Rattle.list.specs.Listing.{Leaf, ref, iban, ccy, bool, num, amt, date, dtm, txt, enum, group, choice, leaf}
use Rattle.list.specs.tables.Table.{kind_of}
use Rattle.list.specs.tables.Sound.{word_count}
use Rattle.list.specs.WellFormed.{LeafOk}
use Rattle.value.specs.Value.{Value, IsValue, bytes}
use Rattle.value.specs.mirror.Tests.{is_byte, every}
use Rattle.value.specs.given.Stands.{Taken, None, Ends, taken, nothing, EndsBy}
use Rattle.value.specs.mirror.Ends.{head, width, is_value, begins, value_end}
use Rattle.value.proofs.stored.Listed.{byte_each, each_byte}
use Rattle.value.proofs.stored.Exactly.{Exact}
use Rattle.value.proofs.stored.Numbered.{by_kind, width_take, none_value}
use Rattle.value.proofs.stored.Plains.{place_exact, truth_exact, natural_exact}
use Rattle.value.proofs.stored.Amounts.{amount_exact}
use Rattle.value.proofs.stored.Days.{day_exact, moment_exact}
use Rattle.value.proofs.stored.texts.Texts.{reference_exact, writing_exact, account_exact, currency_exact}

-- ---- any numbers: an end that is not 0 is the place and the width of what begins there

module _ (c k n : ℕ) (s : List ℕ) (at : ℕ) where
  pub end_is : 0 < value_end c k n s at → (begins c k n (drop at s) ≡ true) × (value_end c k n s at ≡ at + width c (drop at s))
  unfolding value_end
  end_is h = go (begins c k n (drop at s)) refl h
    where
      go : (b : Bool) → begins c k n (drop at s) ≡ b → 0 < cond b (at + width c (drop at s)) 0 → (begins c k n (drop at s) ≡ true) × (cond (begins c k n (drop at s)) (at + width c (drop at s)) 0 ≡ at + width c (drop at s))
      go true e h = (e, rw e)
      go false e h = absurd (omega arith)

-- ---- the law of one kind

module _ (c k n : ℕ) (f : Leaf) (x : Exact f (head c) (width c) (is_value c k n)) (s : List ℕ) (at : ℕ) where
  -- a value's bytes end where they end, whatever follows
  behind_of : (v : Value) (u : List ℕ) → IsValue f v → drop at s ≡ bytes v ++ u → (0 < length (bytes v)) × (value_end c k n s at ≡ at + length (bytes v))
  unfolding value_end begins
  behind_of v u i e =
      let p = x.complete v i in
      let w : width c (drop at s) ≡ length (bytes v) = ap (width c) e ∙ p.long u in
      let t : take (width c (drop at s)) (drop at s) ≡ bytes v = ap (λ (m : ℕ). take m (drop at s)) w ∙ ap (take (length (bytes v))) e ∙ take-append_seam (bytes v) u in
      let b : begins c k n (drop at s) ≡ true =
      rw (le-leb (width c (drop at s)) (length (drop at s)) (omega (arith, ap length e, length-append (bytes v) u)), t, each_byte (bytes v) p.small) p.good in
      let y : value_end c k n s at ≡ at + width c (drop at s) = rw b in
      (p.some, y ∙ ap (λ (m : ℕ). at + m) w)

  none_of : value_end c k n s at ≡ 0 → None f s at
  none_of z v u i e = let y = behind_of v u i e in omega (arith, y.0, y.1)

  some_of : 0 < value_end c k n s at → Taken f s at (value_end c k n s at)
  unfolding begins
  some_of h =
      let d = end_is c k n s at h in
      let l = and_is (leb (width c (drop at s)) (length (drop at s))) _ d.0 in
      let m = and_is (every is_byte (take (width c (drop at s)) (drop at s))) _ l.1 in
      let g : length (take (width c (drop at s)) (drop at s)) ≡ width c (drop at s) = length-take-le (width c (drop at s)) (drop at s) (leb-true (width c (drop at s)) (length (drop at s)) l.0) in
      let v = x.sound (take (width c (drop at s)) (drop at s)) (byte_each (take (width c (drop at s)) (drop at s)) m.0) (g ∙ sym (width_take (drop at s) c)) m.1 in
      record {
        value = v.value;
        is = v.is;
        here =
            sym (take-append-drop (width c (drop at s)) (drop at s))
            ∙ ap (λ (l : List ℕ). l ++ drop (width c (drop at s)) (drop at s)) v.same
            ∙ ap (λ (l : List ℕ). bytes v.value ++ l) (drop-drop (width c (drop at s)) at s ∙ ap (λ (r : ℕ). drop r s) (sym d.1));
        ends = d.1 ∙ ap (λ (r : ℕ). at + r) (sym g ∙ ap length v.same);
      }

-- ---- every kind: the number c in the column of kinds, k in that of TXTk, n words

exact_of : (k n : ℕ) (ws : List (List ℕ)) (f : Leaf) → LeafOk f → n ≡ word_count (leaf f) → (c : ℕ) → kind_of c k ws ≡ leaf f → Exact f (head c) (width c) (is_value c k n)
unfolding head width is_value
exact_of k n ws f ok w =
    by_kind (λ c. kind_of c k ws ≡ leaf f → Exact f (head c) (width c) (is_value c k n))
    (λ e. no_group_lem e) (λ e. no_choice e)
    (λ e. subst (λ g. Exact g 2 (width 2) (is_value 2 k n)) (leaf_is ref f e) reference_exact)
    (λ e. subst (λ g. Exact g 2 (width 3) (is_value 3 k n)) (leaf_is (txt k) f e) (writing_exact k (subst LeafOk (sym (leaf_is (txt k) f e)) ok).1))
    (λ e. subst (λ g. Exact g 2 (width 4) (is_value 4 k n)) (leaf_is iban f e) account_exact)
    (λ e. subst (λ g. Exact g 2 (width 5) (is_value 5 k n)) (leaf_is ccy f e) currency_exact)
    (λ e. words (leaf_is (enum ws) f e))
    (λ e. subst (λ g. Exact g 0 (width 7) (is_value 7 k n)) (leaf_is bool f e) truth_exact)
    (λ e. subst (λ g. Exact g 0 (width 8) (is_value 8 k n)) (leaf_is num f e) natural_exact)
    (λ e. subst (λ g. Exact g 0 (width 9) (is_value 9 k n)) (leaf_is amt f e) amount_exact)
    (λ e. subst (λ g. Exact g 0 (width 10) (is_value 10 k n)) (leaf_is date f e) day_exact)
    (λ e. subst (λ g. Exact g 0 (width 11) (is_value 11 k n)) (leaf_is dtm f e) moment_exact)
    (λ c e. no_group_lem e)
  where
    no_group_lem : {A : Type 0} → group ≡ leaf f → A
    no_group_lem e = let z : ◌≡◌ {A = ℕ} 0 1 = cc in absurd (omega arith)

    no_choice : {A : Type 0} → choice ≡ leaf f → A
    no_choice e = let z : ◌≡◌ {A = ℕ} 0 1 = cc in absurd (omega arith)

    leaf_is : (g f : Leaf) → leaf g ≡ leaf f → g ≡ f
    leaf_is g f e = cc

    words : enum ws ≡ f → Exact f 0 (width 6) (is_value 6 k n)
    words e =
        let m : n ≡ length ws = w ∙ ap (λ (g : Leaf). word_count (leaf g)) (sym e) in
        subst (λ (g : Leaf). Exact g 0 (width 6) (is_value 6 k n)) e (rw m (place_exact ws (subst LeafOk (sym e) ok).0.1))

-- What `value_end` means at a row of a list that is a leaf. `kind_of` is how the row's kind comes from its cells, and `word_count` what its
-- last cell is in a sound table.
module _ (c k n : ℕ) (ws : List (List ℕ)) (f : Leaf) (ok : LeafOk f) (w : n ≡ word_count (leaf f)) (e : kind_of c k ws ≡ leaf f) (s : List ℕ) (at : ℕ) where
  -- 0: the bytes of no value stand there
  pub end_none : value_end c k n s at ≡ 0 → None f s at
  end_none = none_of c k n f (exact_of k n ws f ok w c e) s at

  -- else those of a value do, and it ends there
  pub end_some : 0 < value_end c k n s at → Taken f s at (value_end c k n s at)
  end_some = some_of c k n f (exact_of k n ws f ok w c e) s at

  -- both: it is where the value ends
  pub ends : Ends f s at (value_end c k n s at)
  ends = go (dec_lt 0 (value_end c k n s at))
    where
      go : Dec (0 < value_end c k n s at) → Ends f s at (value_end c k n s at)
      go (yes h) = taken (end_some h)
      go (no h) = let z : value_end c k n s at ≡ 0 = omega arith in nothing z (end_none z)

  -- and no other answer is
  pub ends_one : (r : ℕ) → Ends f s at r → r ≡ value_end c k n s at
  ends_one r (taken t) = t.ends ∙ sym (behind_of c k n f (exact_of k n ws f ok w c e) s at t.value (drop r s) t.is t.here).1
  ends_one r (nothing z f) = go (dec_lt 0 (value_end c k n s at))
    where
      go : Dec (0 < value_end c k n s at) → r ≡ value_end c k n s at
      go (yes h) = let t = end_some h in absurd (f t.value (drop (value_end c k n s at) s) t.is t.here)
      go (no h) = omega arith

-- the two promises of `value_end`: the second follows
pub means : (c k n : ℕ) (s : List ℕ) (at r : ℕ) → r ≡ value_end c k n s at → (r ≡ value_end c k n s at) × EndsBy c k n s at r
means c k n s at r e = (e, (λ f ws ok w h. subst (Ends f s at) (sym e) (ends c k n ws f ok w h s at)))

-- a number that no kind has
pub end_other : (c k n : ℕ) (s : List ℕ) (at : ℕ) → (2 ≤ c → c ≤ 11 → ⊥) → value_end c k n s at ≡ 0
unfolding value_end begins
end_other c k n s at h =
    rw (none_value c k n (drop (head c) (take (width c (drop at s)) (drop at s))) h, and-false (every is_byte (take (width c (drop at s)) (drop at s))), and-false (leb (width c (drop at s)) (length (drop at s))))
