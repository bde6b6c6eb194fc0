-- Parts of a list, and the part that is left without the blanks at both ends. Assumes nothing.
use mathlib.Core.Path.{◌≡◌, refl, sym, ◌∙◌, ap, subst}
use mathlib.Core.Bool.{true, false}
use mathlib.Core.List.{List, [], ◌∷◌, ◌++◌}
use Prim.Native.Nat.{ℕ, suc, ◌+◌, ◌-◌, ◌≤◌, ◌<◌, suc-le-suc}
use Rattle.std.specs.Prelude.{Some, None, EachIndex}
use native.Mathlib.Omega.{arith}
use lib.ListN.{length, take, drop, get_or, drop_of_length-le, take-append-drop, length-take, length-drop, length-append}
use lib.Seq.{slice, take_all, drop_at, length-take-le, take-add, drop-drop, get_or-take, get_or-drop, get_or-append_seam}
use Rattle.text.specs.Bytes.{is_blank}
use Rattle.text.specs.Lists.{Each, All, span}
use Rattle.text.proofs.Spans.{span_all, span_next, span_le}
use Rattle.value.specs.types.Plain.{Trimmed}
use Rattle.value.specs.decided.Trim.{Trim, LastInk}
use Rattle.value.proofs.classes.Classes.{Solid, solid_ink}
use Rattle.value.proofs.raw.Trim.{Dense, clash, front, back, solid_last}

-- ---- a part by its two ends
pub part_none : (a b : ℕ) (s : List ℕ) → (length s < a) → [] ≡ slice a b s
part_none a b s h = sym (drop_of_length-le (take b s) {i = a} (omega (arith, length-take b s)))

pub part_turned : (a b : ℕ) (s : List ℕ) → b < a → [] ≡ slice a b s
part_turned a b s h = sym (drop_of_length-le (take b s) {i = a} (omega (arith, length-take b s)))

pub part_rest : (a b : ℕ) (s : List ℕ) → length s < b → a ≤ length s → take (length s - a) (drop a s) ≡ slice a b s
part_rest a b s h k = take_all (length s - a) (drop a s) (omega (arith, length-drop a s)) ∙ sym (ap (drop a) (take_all b s (omega arith)))

pub part_within : (a b : ℕ) (s : List ℕ) → a ≤ b → b ≤ length s → take (b - a) (drop a s) ≡ slice a b s
part_within a b s h k =
    let e : a + (b - a) ≡ b = omega arith in
    sym (drop_at (take a s) (take (b - a) (drop a s)) a (length-take-le a s (omega arith))) ∙ ap (drop a) (sym (take-add a (b - a) s)) ∙ ap (λ (n : ℕ). drop a (take n s)) e

-- ---- blanks at the end
all_each : (l : List ℕ) → EachIndex l (λ i. is_blank (get_or l i 0) ≡ true) → All is_blank l
all_each [] f = tt
all_each (x ∷ l) f = (f 0 (omega arith), all_each l (λ i h. f (suc i) (suc-le-suc h)))

-- from hi on there are blanks alone, and none stands just before it, unless it is lo
record InkEnd (s : List ℕ) (lo hi : ℕ) : Type 0 where
  order : lo ≤ hi
  within : hi ≤ length s
  blanks : All is_blank (drop hi s)
  last : lo < hi → is_blank (get_or s (hi - 1) 0) ≡ false

-- ---- what is left
module _ (s : List ℕ) (lo hi : ℕ) (e : lo ≡ 0 + span is_blank s) (w : InkEnd s lo hi) where
  private_lo : lo ≡ span is_blank s
  private_lo = omega arith

  part : List ℕ
  part = take (hi - lo) (drop lo s)

  long : length (take (hi - lo) (drop lo s)) ≡ hi - lo
  long = omega (arith, length-take (hi - lo) (drop lo s), length-drop lo s, w.within, w.order)

  at : (i : ℕ) → i < hi - lo → get_or (take (hi - lo) (drop lo s)) i 0 ≡ get_or s (lo + i) 0
  at i h = get_or-take (hi - lo) (drop lo s) i 0 h ∙ get_or-drop lo s i 0

  trim_of : Trim s (take (hi - lo) (drop lo s))
  trim_of =
      record {
        is = record {
          lead = take lo s;
          tail = drop hi s;
          blanks = (subst (λ (n : ℕ). All is_blank (take n s)) (sym private_lo) (span_all is_blank s), w.blanks);
          is = sym (take-append-drop lo s) ∙ ap (λ (u : List ℕ). take lo s ++ u) (sym (take-append-drop (hi - lo) (drop lo s)) ∙ ap (λ (u : List ℕ). take (hi - lo) (drop lo s) ++ u) (drop-drop (hi - lo) lo s ∙ ap (λ (n : ℕ). drop n s) (let k = w.order in let q : lo + (hi - lo) ≡ hi = omega arith in q)));
        };
        first = λ x u f. let l : 0 < hi - lo = omega (arith, long, ap length f) in
            ap (λ (v : List ℕ). is_blank (get_or v 0 0)) (sym f) ∙ ap is_blank (at 0 l ∙ ap (λ (n : ℕ). get_or s n 0) (let q : lo + 0 ≡ span is_blank s = omega (arith, private_lo) in q)) ∙ span_next is_blank s (omega (arith, private_lo, w.within));
        last = λ u x f. let l : hi - lo ≡ length u + 1 = omega (arith, long, ap length f, length-append u (x ∷ [])) in
            let g : get_or (take (hi - lo) (drop lo s)) (length u) 0 ≡ x = ap (λ (v : List ℕ). get_or v (length u) 0) f ∙ get_or-append_seam u x [] 0 in
            ap is_blank (sym g ∙ at (length u) (omega arith) ∙ ap (λ (n : ℕ). get_or s n 0) (let k = w.order in let q : lo + length u ≡ hi - 1 = omega arith in q)) ∙ w.last (omega arith);
      }

-- the same by the last character that is no blank
module _ (s : List ℕ) (lo : ℕ) (e : lo ≡ 0 + span is_blank s) (u : List ℕ) (d : u ≡ drop lo s) where
  within : lo ≤ length s
  within = omega (arith, e, span_le is_blank s)

  pub trim_upto : (n : ℕ) → LastInk u (Some n) → Trim s (take (n + 1) u)
  trim_upto n w =
      let q : lo + (n + 1) - lo ≡ n + 1 = omega arith in
      let m : length u ≡ length s - lo = ap length d ∙ length-drop lo s in
      let l : lo + n ≡ lo + (n + 1) - 1 = omega arith in
      subst (λ (v : List ℕ). Trim s (take (n + 1) v)) (sym d)
      (subst (λ (k : ℕ). Trim s (take k (drop lo s))) q
      (trim_of s lo (lo + (n + 1)) e
      (record {
        order = omega arith;
        within = omega (arith, w.0, m, within);
        blanks = subst (All is_blank) (ap (drop (n + 1)) d ∙ drop-drop (n + 1) lo s)
            (all_each (drop (n + 1) u)
            (λ i h. ap is_blank (get_or-drop (n + 1) u i 0) ∙ w.2 (n + 1 + i) (omega (arith, h, length-drop (n + 1) u)) (omega arith)));
        last = λ h. ap is_blank (ap (λ (k : ℕ). get_or s k 0) (sym l) ∙ sym (get_or-drop lo s n 0) ∙ ap (λ (v : List ℕ). get_or v n 0) (sym d)) ∙ w.1;
      })))

  pub trim_empty : LastInk u None → Trim s (take 0 u)
  trim_empty w =
      let q : lo - lo ≡ 0 = omega arith in
      subst (λ (v : List ℕ). Trim s (take 0 v)) (sym d)
      (subst (λ (k : ℕ). Trim s (take k (drop lo s))) q
      (trim_of s lo lo e (record { order = omega arith; within = within; blanks = subst (All is_blank) d (all_each u w); last = λ h. absurd (omega arith) })))

-- ---- and it is all that could be left
all_join : (l m : List ℕ) → All is_blank l → All is_blank m → All is_blank (l ++ m)
all_join [] m h k = k
all_join (x ∷ l) m h k = (h.0, all_join l m h.1 k)

all_has : (l : List ℕ) (x : ℕ) (t : List ℕ) → All is_blank (l ++ (x ∷ t)) → is_blank x ≡ true
all_has [] x t h = h.0
all_has (y ∷ l) x t h = all_has l x t h.1

-- a text that is all blanks has no character that is none
none_left : (s : List ℕ) (x : ℕ) (t : List ℕ) → Trim s [] → Trim s (x ∷ t) → ⊥
none_left s x t w v =
    clash x
    (all_has v.is.lead x (t ++ v.is.tail) (subst (All is_blank) (sym w.is.is ∙ v.is.is) (all_join w.is.lead w.is.tail w.is.blanks.0 w.is.blanks.1)))
    (v.first x t refl)

pub trim_one : (s t u : List ℕ) → Trim s t → Trim s u → t ≡ u
trim_one s [] [] w v = refl
trim_one s [] (y ∷ u) w v = absurd (none_left s y u w v)
trim_one s (x ∷ t) [] w v = absurd (none_left s x t v w)
trim_one s (x ∷ t) (y ∷ u) w v =
    back (x ∷ t) (y ∷ u) w.is.tail v.is.tail w.last v.last w.is.blanks.1 v.is.blanks.1
    (front w.is.lead v.is.lead x y (t ++ w.is.tail) (u ++ v.is.tail) w.is.blanks.0 v.is.blanks.0 (w.first x t refl) (v.first y u refl) (sym w.is.is ∙ v.is.is))

-- where what is left has no blank, it is that
pub trim_is : (s t u : List ℕ) → Trim s t → Trimmed s u → Dense u → u ≡ t
trim_is s t u w v d = trim_one s u t dense w
  where
    dense : Trim s u
    dense = record { is = v; first = λ x l e. solid_ink x (subst (Each Solid) e d.solid).0; last = solid_last u d.solid }
