-- Characters that are written in one way only spell themselves. Assumes nothing.
use mathlib.Core.Path.{◌≡◌, refl, sym, ◌∙◌, ap, ap₂, subst}
use mathlib.Core.Bool.{true, false, true≢false}
use mathlib.Core.Logic.{inl, inr, ◌≢◌}
use mathlib.Core.List.{List, [], ◌∷◌, ◌++◌}
use Prim.Native.Nat.{ℕ, ◌≤◌}
use native.Mathlib.Omega.{arith}
use Rattle.text.specs.Bytes.{is_unmarked}
use Rattle.text.specs.Lists.{All}
use Rattle.text_characters.proofs.Resolving.{low, xml_char_yes}
use Rattle.text_characters.specs.Pieces.{Entity, amp, lt, gt, quot, apos, stands, Piece, char, entity, spells, resolved_all, Spells}
use Rattle.text.proofs.Classes.{Named, only, from, ◌or◌, is_in}
use Rattle.text_characters.proofs.Decoding.{encode1}
use Rattle.text_characters.proofs.Spelling.{one_text}

pub unmarked : Named is_unmarked (only 33 or from 35 37 or from 40 59 or only 61 or from 63 126)
unfolding is_unmarked
unmarked = record { is = λ x. refl }

record Own (c : ℕ) : Type 0 where
  low : 33 ≤ c
  high : c ≤ 126
  not_less : c ≢ 60
  not_amp : c ≢ 38

own : (c : ℕ) → is_unmarked c ≡ true → Own c
own c e = elim (is_in unmarked c e) [
  | inl (inl (inl (inl h))) ↦ record { low = omega arith; high = omega arith; not_less = λ z. omega arith; not_amp = λ z. omega arith }
  | inl (inl (inl (inr h))) ↦ record { low = omega arith; high = omega arith; not_less = λ z. omega arith; not_amp = λ z. omega arith }
  | inl (inl (inr h)) ↦ record { low = omega arith; high = omega arith; not_less = λ z. omega arith; not_amp = λ z. omega arith }
  | inl (inr h) ↦ record { low = omega arith; high = omega arith; not_less = λ z. omega arith; not_amp = λ z. omega arith }
  | inr h ↦ record { low = omega arith; high = omega arith; not_less = λ z. omega arith; not_amp = λ z. omega arith }
]

-- no entity stands for one
marked : (e : Entity) → is_unmarked (stands e) ≡ false
unfolding is_unmarked
marked amp = refl
marked lt = refl
marked gt = refl
marked quot = refl
marked apos = refl

-- whatever spells them is themselves
pub unmarked_is : (s cs : List ℕ) → Spells s cs → All is_unmarked cs → s ≡ cs
unmarked_is s cs w a = w.is ∙ go w.pieces (subst (All is_unmarked) w.chars a) ∙ sym w.chars
  where
    go : (ps : List Piece) → All is_unmarked (resolved_all ps) → spells ps ≡ resolved_all ps
    go [] h = refl
    go (char c ∷ ps) h = ap₂ ◌++◌ (encode1 c (let o = own c h.0 in let k = o.high in omega arith)) (go ps h.1)
    go (entity e ∷ ps) h = absurd (true≢false (sym h.0 ∙ marked e))

pub unmarked_own : (s : List ℕ) → All is_unmarked s → Spells s s
unmarked_own [] h = record { pieces = []; good = tt; is = refl; chars = refl }
unmarked_own (c ∷ s) h =
    let r = unmarked_own s h.1 in
    let o = own c h.0 in
    let l = o.low in
    let k = o.high in
    record {
      pieces = char c ∷ r.pieces;
      good = ((xml_char_yes c (low (omega arith) (omega arith)), o.not_less, o.not_amp), r.good);
      is = ap₂ ◌++◌ (sym (encode1 c (omega arith))) r.is;
      chars = ap (λ (u : List ℕ). c ∷ u) r.chars;
    }

-- so a text of them is compared with its bytes
pub unmarked_same : (u s cs : List ℕ) → All is_unmarked u → Spells s cs → (s ≡ u → cs ≡ u) × (cs ≡ u → s ≡ u)
unmarked_same u s cs a w =
    (λ e. one_text s cs u w (subst (λ (x : List ℕ). Spells x u) (sym e) (unmarked_own u a)), λ e. unmarked_is s cs w (subst (All is_unmarked) (sym e) a) ∙ e)
