-- How many bytes the value of a leaf's text has, told: of a text that spells a value, and of one that was judged by its kind. Assumes nothing.
use mathlib.Core.Path.{◌≡◌, refl, sym, ◌∙◌, ap, subst}
use mathlib.Core.Logic.{◌≢◌}
use mathlib.Core.List.{List, [], ◌∷◌, ◌++◌, append_assoc, nil≢cons, head-eq_of_cons-eq, tail-eq_of_cons-eq}
use Prim.Native.Nat.{ℕ, ◌+◌, ◌<◌}
use native.Mathlib.Omega.{arith}
use native.Mathlib.Decide.{dec_lt}
use lib.ListN.{length, get_or, take, drop}
use lib.Seq.{slice, take-append_seam}
use Rattle.text.specs.Lists.{Each, All, span}
use Rattle.text.proofs.Parts.{part_take}
use Rattle.text.proofs.Spans.{span_append, span_stop}
use Rattle.text_characters.specs.Pieces.{less, bracket, greater, Spells}
use Rattle.list.specs.Listing.{Leaf, ref, iban, ccy, bool, num, amt, date, dtm, txt, enum}
use Rattle.value.specs.types.Code.{Ccy}
use Rattle.value.specs.Kind.{code, Given}
use Rattle.value.specs.Value.{Value, Spelt, bytes}
use Rattle.value.specs.parts.Form.{Left}
use Rattle.value.specs.given.Giving.{Counted, Told, Gives, some, none, Long, Sized}
use Rattle.value.proofs.classes.Classes.{Solid, each_map}
use Rattle.value.proofs.raw.Raw.{Tame, solid_tame, raw_from}
use Rattle.value.proofs.raw.Trim.{trim_tame}
use Rattle.value.proofs.raw.Firm.{Firm, form_dense}
use Rattle.value.proofs.types.Shaped.{spelt_shaped}
use Rattle.value.proofs.given.Unique.{euro, euro_is}
use Rattle.value_leaf.specs.Took.{Uncut}
use Rattle.value_leaf.specs.Leafed.{is_inside, found_of, Weighs, Leafed}
use Rattle.value_leaf.specs.declared.found.Found.{Found}
use Rattle.value_leaf.specs.mirror.Calm.{Calm}
use Rattle.value_leaf.proofs.Ends.{inside_no, inside_yes}

-- ---- no `>`, no `]]>`

pub none_of : (x : ℕ) (s a u : List ℕ) → Each (λ (y : ℕ). y ≢ x) s → s ≡ a ++ (x ∷ u) → ⊥
none_of x [] [] u h e = nil≢cons e
none_of x [] (z ∷ a) u h e = nil≢cons e
none_of x (y ∷ s) [] u h e = h.0 (head-eq_of_cons-eq e)
none_of x (y ∷ s) (z ∷ a) u h e = none_of x s a u h.1 (tail-eq_of_cons-eq e)

pub calm_uncut : (s : List ℕ) → Each Calm s → Uncut s
calm_uncut s h =
    record {
      nowhere = λ a b e.
          none_of greater s (a ++ (bracket ∷ bracket ∷ [])) b (each_map Calm (λ (y : ℕ). y ≢ greater) (λ x c. c.1) s h)
          (e ∙ sym (append_assoc a (bracket ∷ bracket ∷ []) (greater ∷ b)));
    }

calm_inside : (s : List ℕ) → Each Calm s → All is_inside s
calm_inside [] h = tt
calm_inside (x ∷ s) h = (inside_yes x h.0.0, calm_inside s h.1)

-- ---- a text that spells a value, whatever the currency

pub record Worth (f : Leaf) (w cs : List ℕ) (n : ℕ) : Type 0 where
  pub value : Value
  pub spelt : Spelt f w cs value
  pub counted : Counted value
  pub long : n ≡ length (bytes value)

pub weighs_of : (f : Leaf) (kind k : ℕ) (raw cs : List ℕ) (n : ℕ) → code f ≡ kind → kind ≢ 6 → Given f k 0 → Each Calm raw → Spells raw cs
    → ((w : List ℕ) → Ccy w → Worth f w cs n) → Weighs kind k raw n
weighs_of f kind k raw cs n e o g c sp h =
    record {
      whole = λ u w cw.
          let x = h w cw in
          record {
            found = bytes x.value;
            gives = some x.value (record { leaf = f; number = e; other = o; given = g; chars = cs; spells = sp; spelt = x.spelt }) x.counted refl;
            count = x.long;
          };
      cut = λ z. absurd (z (calm_uncut raw c));
    }

-- raw stands in s from `at` to e, and there is `<`
module _ (s : List ℕ) (at e : ℕ) (raw : List ℕ) (is : drop at s ≡ raw ++ drop e s) (long : at + length raw ≡ e) where
  pub part_is : slice at e s ≡ raw
  part_is = ap (λ (x : ℕ). slice at x s) (sym long) ∙ part_take at (length raw) s ∙ ap (take (length raw)) is ∙ take-append_seam raw (drop e s)

  pub leafed_of : (kind k n : ℕ) (r : Found) → Each Calm raw → e < length s → get_or s e 0 ≡ less → Weighs kind k raw n → r ≡ found_of e n → Leafed kind k s at r
  leafed_of kind k n r c h q w i =
      let a : span is_inside (drop at s) ≡ length raw + span is_inside (drop e s) = ap (span is_inside) is ∙ span_append is_inside raw (drop e s) (calm_inside raw c) in
      let b : span is_inside (drop e s) ≡ 0 = span_stop is_inside s e h (inside_no (get_or s e 0) q) in
      subst (Leafed kind k s at) (sym i)
      (record { ends = omega (arith, a, b, long); bytes = n; size = refl; weighs = subst (λ (l : List ℕ). Weighs kind k l n) (sym part_is) w })

-- ---- kinds whose texts have no `>`

firm_of : (l : Leaf) → code l ≢ 2 → code l ≢ 3 → code l ≢ 6 → Firm l
firm_of ref a b c = absurd (a refl)
firm_of (txt k) a b c = absurd (b refl)
firm_of iban a b c = tt
firm_of ccy a b c = tt
firm_of (enum ws) a b c = absurd (c refl)
firm_of bool a b c = tt
firm_of num a b c = tt
firm_of amt a b c = tt
firm_of date a b c = tt
firm_of dtm a b c = tt

solid_tames : (cs t : List ℕ) → cs ≡ t → Each Solid t → Each Tame cs
solid_tames cs t e h = subst (λ (l : List ℕ). Each Tame l) (sym e) (each_map Solid Tame solid_tame t h)

left_tame : (l : Leaf) → Firm l → (cs t : List ℕ) → Left l cs t → Each Solid t → Each Tame cs
left_tame ref f cs t e h = absurd f
left_tame (txt k) f cs t e h = absurd f
left_tame iban f cs t e h = solid_tames cs t e h
left_tame ccy f cs t e h = solid_tames cs t e h
left_tame (enum ws) f cs t e h = solid_tames cs t e h
left_tame bool f cs t e h = trim_tame cs t e h
left_tame num f cs t e h = trim_tame cs t e h
left_tame amt f cs t e h = trim_tame cs t e h
left_tame date f cs t e h = trim_tame cs t e h
left_tame dtm f cs t e h = trim_tame cs t e h

told_uncut : (kind k : ℕ) (w raw : List ℕ) (v : Value) → kind ≢ 2 → kind ≢ 3 → Told kind k w raw v → Uncut raw
told_uncut kind k w raw v a b t =
    let f : Firm t.leaf = firm_of t.leaf (λ z. a (sym t.number ∙ z)) (λ z. b (sym t.number ∙ z)) (λ z. t.other (sym t.number ∙ z)) in
    let s = spelt_shaped t.leaf w t.chars v t.spelt in
    let d = form_dense t.leaf w s.left v f s.form in
    let m : Each Tame t.chars = left_tame t.leaf f t.chars s.left s.lost d.solid in
    subst Uncut (sym (raw_from raw t.chars t.spells m)) (calm_uncut t.chars (each_map Tame Calm (λ x y. (y.less, y.greater)) t.chars m))

sized_uncut : (kind k : ℕ) (raw : List ℕ) (n : ℕ) → kind ≢ 2 → kind ≢ 3 → Sized kind k raw n → 0 < n → Uncut raw
sized_uncut kind k raw n a b z h = let x = z euro euro_is in go x x.gives
  where
    go : (x : Long kind k euro raw n) → Gives kind k euro raw x.found → Uncut raw
    go x (some v t c e) = told_uncut kind k euro raw v a b t
    go x (none f e) = absurd (omega (arith, h, x.count, ap length e))

pub plain_told : (kind k : ℕ) (s : List ℕ) (at e n : ℕ) (r : Found) → kind ≢ 2 → kind ≢ 3 → e ≡ at + span is_inside (drop at s) → Sized kind k (slice at e s) n
    → r ≡ found_of e n → Leafed kind k s at r
plain_told kind k s at e n r a b d z i =
    subst (Leafed kind k s at) (sym i) (record { ends = d; bytes = n; size = refl; weighs = record { whole = λ u. z; cut = λ u. go u (dec_lt 0 n) } })
  where
    go : (Uncut (slice at e s) → ⊥) → Dec (0 < n) → n ≡ 0
    go u (yes h) = absurd (u (sized_uncut kind k (slice at e s) n a b z h))
    go u (no h) = omega arith

-- ---- by the number of the kind

pub leafed_kind : (kind n k : ℕ) (s : List ℕ) (at : ℕ) (r : Found) → kind ≡ n → Leafed n k s at r → Leafed kind k s at r
leafed_kind kind n k s at r e h = subst (λ (x : ℕ). Leafed x k s at r) (sym e) h
