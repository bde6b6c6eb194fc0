-- IBAN, AMT and DATE, where the text is just what spells the value. Assumes nothing.
use mathlib.Core.Path.{◌≡◌, refl, sym, ◌∙◌, ap, subst}
use mathlib.Core.Bool.{true, true≢false}
use mathlib.Core.Logic.{◌≢◌, inl, inr}
use mathlib.Core.List.{List, [], ◌∷◌, ◌++◌, append_assoc, append-nil}
use Prim.Native.Nat.{ℕ, zero, suc, ◌+◌, ◌*◌, ◌-◌, ◌/◌, ◌%◌, ◌^◌, ◌≤◌, ◌<◌}
use native.Mathlib.Nat.{pow-suc, mul_assoc, mul_right_comm, pow-le-pow_right}
use native.Mathlib.Decide.{ℕ_discrete}
use native.Mathlib.Omega.{arith}
use lib.ListN.{length, get_or, take, drop, length-append, length-drop, take-append-drop}
use lib.Seq.{drop-cons, drop-drop, get_or-drop, get_or-take, length-take-le}
use Rattle.text.specs.Bytes.{is_capital, is_digit}
use Rattle.text.specs.Lists.{Each, All}
use Rattle.list.specs.Listing.{Leaf, iban, amt, date}
use Rattle.value.specs.types.Code.{Iban, Ccy, is_letter_or_digit}
use Rattle.value.specs.Judged.{Formed, formed, formless, FormedAny}
use Rattle.value.specs.Kind.{code, Given}
use Rattle.value.specs.types.Plain.{Trimmed}
use Rattle.value.specs.parts.Numeral.{decimal, unsigned, Places, no_point, point, places_of, places_text, Smallest, Price}
use Rattle.value.specs.Value.{Value, text, amount, day, bytes}
use Rattle.value.specs.parts.Form.{Form, Left}
use Rattle.value.specs.given.Giving.{Counted}
use Rattle.std.specs.Prelude.{Option, Some, None}
use Rattle.value.specs.declared.judged.Judged.{Judged}
use Rattle.value.specs.declared.judged.Day as D
use Rattle.value.specs.declared.judged.Judged.TheVariants as J
use Rattle.value.proofs.classes.Classes.{Solid, each_map}
use Rattle.value.proofs.numbers.Decimals.{least, is_minus, decimal_below}
use Rattle.value.proofs.raw.Firm.{Firm, form_dense, iban_dense}
use Rattle.value.proofs.raw.Raw.{Tame, solid_tame, raw_to, plain_encode}
use Rattle.value.proofs.types.Values.{text_bytes_lem, money_bytes, day_bytes}
use Rattle.value.proofs.types.Shaped.{shaped_spelt}
use Rattle.value.proofs.given.Unique.{euro, euro_is}
use Rattle.value_leaf.specs.Leafed.{found_of, Leafed}
use Rattle.value_leaf.specs.declared.found.Found.{Found}
use Rattle.value_lane.specs.mirror.Fronts.{Headed}
use Rattle.value_leaf.specs.mirror.Calm.{Calm}
use Rattle.value_levels.specs.mirror.Levels.{reaches, Ran}
use Rattle.value_levels.proofs.Levels.{level_code, level_digit, all_map, run_of, run_is, run_long, run_all}
use Rattle.value_leaf.proofs.Weighing.{weighs_of, leafed_of}

-- ---- any such text

-- raw spells a value of n bytes
pub record Formal (f : Leaf) (w raw : List ℕ) (n : ℕ) : Type 0 where
  pub value : Value
  pub form : Form f w raw value
  pub counted : Counted value
  pub long : n ≡ length (bytes value)

firm_ends : (f : Leaf) (kind k : ℕ) (s : List ℕ) (at e : ℕ) (raw : List ℕ) (n : ℕ) (r : Found) → code f ≡ kind → kind ≢ 6 → Given f k 0 → Firm f → Left f raw raw
    → ((w : List ℕ) → Ccy w → Formal f w raw n) → drop at s ≡ raw ++ drop e s → at + length raw ≡ e → e < length s → get_or s e 0 ≡ 60 → r ≡ found_of e n → Leafed kind k s at r
firm_ends f kind k s at e raw n r a b c d l h is long lt q o =
    let x = h euro euro_is in
    let z : Each Solid raw = (form_dense f euro raw x.value d x.form).solid in
    let calm : Each Calm raw = each_map Solid Calm (λ y t. (t.less, t.greater)) raw z in
    leafed_of s at e raw is long kind k n r calm lt q
    (weighs_of f kind k raw raw n a b c calm (raw_to raw (each_map Solid Tame solid_tame raw z))
    (λ w cw. let y = h w cw in record { value = y.value; spelt = shaped_spelt f w raw y.value (record { left = raw; lost = l; form = y.form }); counted = y.counted; long = y.long }))
    o

untrimmed : (t : List ℕ) → Trimmed t t
untrimmed t = record { lead = []; tail = []; blanks = (tt, tt); is = sym (append-nil t) }

-- ---- IBAN

iban_of : (raw : List ℕ) → 5 ≤ length raw → length raw ≤ 34 → All is_letter_or_digit raw → is_capital (get_or raw 0 0) ≡ true → is_capital (get_or raw 1 0) ≡ true → is_digit (get_or raw 2 0) ≡ true → is_digit (get_or raw 3 0) ≡ true → Iban raw
iban_of [] h l a c d e f = absurd (omega arith)
iban_of (x ∷ []) h l a c d e f = absurd (omega arith)
iban_of (x ∷ y ∷ []) h l a c d e f = absurd (omega arith)
iban_of (x ∷ y ∷ z ∷ []) h l a c d e f = absurd (omega arith)
iban_of (x ∷ y ∷ z ∷ w ∷ raw) h l a c d e f =
    record { lengths = (h, l); capitals = (c, (d, tt)); digits = (e, (f, tt)); class = a.1.1.1.1 }

run_byte : (m : ℕ) (s : List ℕ) (at e i : ℕ) (q : Ran m s at e) → at + i < e → get_or (run_of m s at e q) i 0 ≡ get_or s (at + i) 0
run_byte m s at e i q h = get_or-take (e - at) (drop at s) i 0 (omega arith) ∙ get_or-drop at s i 0

pub iban_ends : (k : ℕ) (s : List ℕ) (at e n : ℕ) (r : Found) → Ran 3 s at e → e < length s → get_or s e 0 ≡ 60 → n ≡ e - at → 5 ≤ n → n ≤ 34 → Headed s at
    → r ≡ found_of e (n + 2) → Leafed 4 k s at r
iban_ends k s at e n r q h z d a b c o =
    let raw : List ℕ = run_of 3 s at e q in
    let long = run_long 3 s at e q in
    let at0 : at + 0 ≡ at = omega arith in
    let i : Iban raw = iban_of raw (omega (arith, long, d, a)) (omega (arith, long, d, b)) (all_map (reaches 3) is_letter_or_digit level_code raw (run_all 3 s at e q))
    (ap is_capital (run_byte 3 s at e 0 q (omega arith) ∙ ap (λ (x : ℕ). get_or s x 0) at0) ∙ c.c0)
    (ap is_capital (run_byte 3 s at e 1 q (omega arith)) ∙ c.c1)
    (ap is_digit (run_byte 3 s at e 2 q (omega arith)) ∙ c.d2)
    (ap is_digit (run_byte 3 s at e 3 q (omega arith)) ∙ c.d3) in
    let p = ap length (plain_encode raw (iban_dense raw i).solid) in
    firm_ends iban 4 k s at e raw (n + 2) r refl (λ y. omega arith) tt tt refl
    (λ w cw. record { value = text raw; form = Form.account i; counted = omega (arith, p, long, d, b); long = omega (arith, p, long, d, text_bytes_lem raw) })
    (run_is 3 s at e q) long h z o

-- ---- AMT

-- a number over 10^p with the smallest scale
record Scaled (p a : ℕ) : Type 0 where
  c : ℕ
  k : ℕ
  same : a * 10 ^ k ≡ c * 10 ^ p
  least : Smallest c k
  scale : k ≤ p
  most : c ≤ a

scaled : (p a : ℕ) → Scaled p a
scaled zero a = record { c = a; k = 0; same = refl; least = least a 0 (inl refl); scale = omega arith; most = omega arith }
scaled (suc p) a = go (ℕ_discrete (a % 10) 0) (scaled p (a / 10))
  where
    go : Dec (a % 10 ≡ 0) → Scaled p (a / 10) → Scaled (suc p) a
    go (yes z) x =
        let b = a / 10 in
        let e : a ≡ b * 10 = omega arith in
        let same : a * 10 ^ x.k ≡ x.c * 10 ^ suc p =
        ap (λ (w : ℕ). w * 10 ^ x.k) e ∙ mul_right_comm b 10 (10 ^ x.k) ∙ ap (λ (w : ℕ). w * 10) x.same ∙ mul_assoc x.c (10 ^ p) 10
        ∙ ap (λ (w : ℕ). x.c * w) (sym (pow-suc 10 p)) in
        record { c = x.c; k = x.k; same = same; least = x.least; scale = omega (arith, x.scale); most = omega (arith, x.most, e) }
    go (no z) x = record { c = a; k = suc p; same = refl; least = least a (suc p) (inr z); scale = omega arith; most = omega arith }

digits_append : (a b : List ℕ) → All is_digit a → All is_digit b → All is_digit (a ++ b)
digits_append [] b h g = g
digits_append (x ∷ a) b h g = (h.0, digits_append a b h.1 g)

record Read (t : List ℕ) : Type 0 where
  c : ℕ
  k : ℕ
  is : Price t c k

read : (ws : List ℕ) (f : Places) → All is_digit ws → All is_digit (places_of f) → 1 ≤ length ws → length ws ≤ 12 → length (places_of f) ≤ 5 → Read (ws ++ places_text f)
read ws f dw df a b c =
    let ds : List ℕ = ws ++ places_of f in
    let x = scaled (length (places_of f)) (decimal ds) in
    let l = length-append ws (places_of f) in
    let small : decimal ds < 1 * 10 ^ length ds = decimal_below 0 1 ds (digits_append ws (places_of f) dw df) (omega arith) in
    let few : length ds ≤ 17 = omega (arith, l) in
    let p : 10 ^ length ds ≤ 10 ^ 17 = pow-le-pow_right {n = 10} (omega arith) few in
    record {
      c = x.c;
      k = x.k;
      is = record {
        spells = record { text = record { sign = unsigned; whole = ws; places = f; is = refl; digits = (dw, df); some = omega (arith, l) }; same = x.same; least = x.least };
        bounds = record { scale = omega (arith, x.scale); coefficient = omega (arith, x.most, small, p); least = x.least };
        sign = λ z. absurd (true≢false (sym (ap is_minus z)));
      };
    }

money_ends : (k : ℕ) (s : List ℕ) (at e : ℕ) (raw : List ℕ) (r : Found) → Read raw → drop at s ≡ raw ++ drop e s → at + length raw ≡ e → e < length s → get_or s e 0 ≡ 60 → r ≡ found_of e 12 → Leafed 9 k s at r
money_ends k s at e raw r x is long h z o =
    firm_ends amt 9 k s at e raw 12 r refl (λ y. omega arith) tt tt (untrimmed raw)
    (λ w cw. record { value = amount w x.k x.c; form = Form.money cw x.is; counted = tt; long = sym (money_bytes w x.k x.c cw) }) is long h z o

module _ (k : ℕ) (s : List ℕ) (at d n : ℕ) (r : Found) (q : Ran 4 s at d) (h : d < length s) (m : n ≡ d - at) (a : n ≢ 0) (b : n ≤ 12) where
  whole : List ℕ
  whole = run_of 4 s at d q

  whole_long : at + length whole ≡ d
  unfolding whole
  whole_long = run_long 4 s at d q

  whole_is : drop at s ≡ whole ++ drop d s
  unfolding whole
  whole_is = run_is 4 s at d q

  whole_digits : All is_digit whole
  unfolding whole
  whole_digits = all_map (reaches 4) is_digit level_digit (run_of 4 s at d q) (run_all 4 s at d q)

  pub whole_ends : get_or s d 0 ≡ 60 → r ≡ found_of d 12 → Leafed 9 k s at r
  whole_ends z o =
      let l = whole_long in
      money_ends k s at d whole r
      (subst Read (append-nil whole) (read whole no_point whole_digits tt (omega (arith, l, m, a)) (omega (arith, l, m, b)) (omega arith)))
      whole_is whole_long h z o

  pub places_end : (e : ℕ) → get_or s d 0 ≡ 46 → (t : Ran 4 s (d + 1) e) → e < length s → get_or s e 0 ≡ 60 → e - d ≤ 6 → r ≡ found_of e 12 → Leafed 9 k s at r
  places_end e z t lt y v o =
      let ps : List ℕ = run_of 4 s (d + 1) e t in
      let l = whole_long in
      let i = run_long 4 s (d + 1) e t in
      let suc_is : suc d ≡ d + 1 = omega arith in
      let f : drop d s ≡ 46 ∷ drop (d + 1) s = drop-cons s d 0 h ∙ ap (λ (x : ℕ). x ∷ drop (suc d) s) z ∙ ap (λ (x : ℕ). 46 ∷ drop x s) suc_is in
      let is : drop at s ≡ (whole ++ (46 ∷ ps)) ++ drop e s =
      whole_is ∙ ap (λ (x : List ℕ). whole ++ x) (f ∙ ap (λ (x : List ℕ). 46 ∷ x) (run_is 4 s (d + 1) e t)) ∙ sym (append_assoc whole (46 ∷ ps) (drop e s)) in
      money_ends k s at e (whole ++ (46 ∷ ps)) r
      (read whole (point ps) whole_digits (all_map (reaches 4) is_digit level_digit ps (run_all 4 s (d + 1) e t)) (omega (arith, l, m, a)) (omega (arith, l, m, b)) (omega (arith, i, v)))
      is (omega (arith, l, i, length-append whole (46 ∷ ps))) lt y o

-- ---- DATE

not_refused : (d : D.Day) → Some (J.Day d) ≡ None → ⊥
not_refused d e = let z : ◌≡◌ {A = ℕ} 0 1 = cc in omega arith

day_formal : (w raw : List ℕ) (j : Option Judged) (d : D.Day) → j ≡ Some (J.Day d) → Formed date w raw j → Formal date w raw 4
day_formal w raw j d e (formless f n) = absurd (not_refused d (sym e ∙ f))
day_formal w raw j d e (formed v g x) =
    let i : v ≡ day d.year d.month d.day = subst (λ (z : Option Judged). Rattle.value.specs.Judged.Means w raw z v) e x in
    record { value = v; form = g; counted = subst Counted (sym i) tt; long = sym (ap (λ (z : Value). length (bytes z)) i ∙ day_bytes d.year d.month d.day) }

pub date_ends : (k : ℕ) (s : List ℕ) (at e : ℕ) (raw : List ℕ) (j : Option Judged) (d : D.Day) (r : Found) → FormedAny date raw j → j ≡ Some (J.Day d) → r ≡ found_of e 4 → get_or s e 0 ≡ 60
    → raw ≡ take (e - at) (drop at s) → at ≤ e → e < length s → Leafed 10 k s at r
date_ends k s at e raw j d r f q o z i a h =
    let n = e - at in
    let l : length raw ≡ n = ap length i ∙ length-take-le n (drop at s) (omega (arith, length-drop at s)) in
    let to : at + n ≡ e = omega arith in
    let is : drop at s ≡ raw ++ drop e s =
    sym (take-append-drop n (drop at s)) ∙ ap (λ (x : List ℕ). x ++ drop n (drop at s)) (sym i) ∙ ap (λ (x : List ℕ). raw ++ x) (drop-drop n at s ∙ ap (λ (x : ℕ). drop x s) to) in
    firm_ends date 10 k s at e raw 4 r refl (λ x. omega arith) tt tt (untrimmed raw) (λ w cw. day_formal w raw j d q (f w cw)) is (omega (arith, l, to)) h z o
