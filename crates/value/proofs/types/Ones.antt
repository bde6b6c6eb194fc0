-- No second answer fits the promises of the public functions. Assumes nothing.
use mathlib.Core.Path.{◌≡◌, refl, sym, ◌∙◌, ap, subst}
use mathlib.Core.Bool.{Bool, true, false}
use mathlib.Core.List.{List}
use mathlib.Core.Logic.{◌≢◌}
use Prim.Native.Nat.{ℕ, zero, suc}
use native.Mathlib.Omega.{arith}
use lib.ListN.{length}
use Rattle.text.specs.Bytes.{ascii, is_capital}
use Rattle.text_characters.specs.Utf8.{encode_all}
use Rattle.text_characters.proofs.Spelling.{one_text}
use Rattle.list.specs.Listing.{Leaf, ref, iban, ccy, bool, num, amt, date, dtm, txt}
use Rattle.std.specs.Prelude.{Option, Some, None}
use Rattle.value.specs.declared.judged.Judged.{Judged}
use Rattle.value.specs.declared.judged.Judged.TheVariants as J
use Rattle.value.specs.types.Code.{Ccy}
use Rattle.value.specs.Kind.{code, Given}
use Rattle.value.specs.Value.{Value, text, place, truth, natural, amount, day, moment, Spelt}
use Rattle.value.specs.Judged.{Exactly, Means, Right, accepted, refused, Formed, formed, formless, FormedAny, Checked}
use Rattle.value.specs.mirror.Texts.{Spelled, spelled, unspelled}
use Rattle.value.proofs.types.Numbered.{code_low, code_high}
use Rattle.value.proofs.types.Spell.{Apart, one_form, one_spelt}

-- ---- tests
pub exactly_one : (q r : Bool) {P : Type 0} → Exactly q P → Exactly r P → q ≡ r
exactly_one true true a b = refl
exactly_one false false a b = refl
exactly_one true false a b = sym (b.1 (a.0 refl))
exactly_one false true a b = a.1 (b.0 refl)

-- ---- judgements
-- the one that means the value
abbrev meaning : Value → Option Judged
meaning (text cs) = Some (J.Text (length (encode_all cs)))
meaning (place n) = None
meaning (truth b) = Some (J.Truth b)
meaning (natural n) = Some (J.Natural n)
meaning (amount w k c) = Some (J.Amount c k)
meaning (day y m d) = Some (J.Day (record { year = y; month = m; day = d }))
meaning (moment y mo d h mi s u z) = Some (J.Moment (record { year = y; month = mo; day = d; hour = h; minute = mi; second = s; micros = u; offset = z }))

means_one : (r : Option Judged) (w cs : List ℕ) (v : Value) → Means w cs r v → r ≡ meaning v
means_one None w cs v m = absurd m
means_one (Some (J.Text n)) w cs v m = ap (λ (n : ℕ). Some (J.Text n)) m.1 ∙ sym (ap meaning m.0)
means_one (Some (J.Truth b)) w cs v m = sym (ap meaning m)
means_one (Some (J.Natural n)) w cs v m = sym (ap meaning m)
means_one (Some (J.Amount c k)) w cs v m = sym (ap meaning m)
means_one (Some (J.Day d)) w cs v m = sym (ap meaning m)
means_one (Some (J.Moment p)) w cs v m = sym (ap meaning m)

pub right_one : (k : Leaf) (w s : List ℕ) (q r : Option Judged) → Apart k → Right k w s q → Right k w s r → q ≡ r
right_one k w s q r d (accepted cs v sp st m) (accepted cs' v' sp' st' m') =
    let e : v ≡ v' = one_spelt k w cs' v v' d (subst (λ (l : List ℕ). Spelt k w l v) (one_text s cs cs' sp sp') st) st' in
    means_one q w cs v m ∙ ap meaning e ∙ sym (means_one r w cs' v' m')
right_one k w s q r d (accepted cs v sp st m) (refused e f) = absurd (f cs v sp st)
right_one k w s q r d (refused e f) (accepted cs v sp st m) = absurd (f cs v sp st)
right_one k w s q r d (refused e f) (refused e' f') = e ∙ sym e'

-- ---- by number
data Kinds (kind k : ℕ) : Type 0 where
  has : (l : Leaf) → code l ≡ kind → kind ≢ 6 → Given l k 0 → Apart l → Kinds kind k
  none : ((l : Leaf) → code l ≡ kind → kind ≢ 6 → ⊥) → Kinds kind k

kinds : (kind k : ℕ) → Kinds kind k
kinds zero k = none (λ l e n. omega (arith, code_low l))
kinds (suc zero) k = none (λ l e n. omega (arith, code_low l))
kinds (suc (suc zero)) k = has ref refl (omega arith) tt tt
kinds (suc (suc (suc zero))) k = has (txt k) refl (omega arith) refl tt
kinds (suc (suc (suc (suc zero)))) k = has iban refl (omega arith) tt tt
kinds (suc (suc (suc (suc (suc zero))))) k = has ccy refl (omega arith) tt tt
kinds (suc (suc (suc (suc (suc (suc zero)))))) k = none (λ l e n. n refl)
kinds (suc (suc (suc (suc (suc (suc (suc zero))))))) k = has bool refl (omega arith) tt tt
kinds (suc (suc (suc (suc (suc (suc (suc (suc zero)))))))) k = has num refl (omega arith) tt tt
kinds (suc (suc (suc (suc (suc (suc (suc (suc (suc zero))))))))) k = has amt refl (omega arith) tt tt
kinds (suc (suc (suc (suc (suc (suc (suc (suc (suc (suc zero)))))))))) k = has date refl (omega arith) tt tt
kinds (suc (suc (suc (suc (suc (suc (suc (suc (suc (suc (suc zero))))))))))) k = has dtm refl (omega arith) tt tt
kinds (suc (suc (suc (suc (suc (suc (suc (suc (suc (suc (suc (suc n)))))))))))) k = none (λ l e i. omega (arith, code_high l))

some_ccy : Ccy (ascii "EUR")
unfolding is_capital
some_ccy = record { three = refl; capitals = (refl, (refl, (refl, tt))) }

-- whatever the number, k and the text
pub checked_one : (kind k : ℕ) (s : List ℕ) (q r : Option Judged) → Checked kind k s q → Checked kind k s r → q ≡ r
checked_one kind k s q r a b = go (kinds kind k)
  where
    go : Kinds kind k → q ≡ r
    go (has l e n g d) = right_one l (ascii "EUR") s q r d (a.known l e n g (ascii "EUR") some_ccy) (b.known l e n g (ascii "EUR") some_ccy)
    go (none f) = a.unknown f ∙ sym (b.unknown f)

-- ---- the checkers of single kinds
pub formed_one : (k : Leaf) (t : List ℕ) (q r : Option Judged) → Apart k → FormedAny k t q → FormedAny k t r → q ≡ r
formed_one k t q r d a b = go (a (ascii "EUR") some_ccy) (b (ascii "EUR") some_ccy)
  where
    go : Formed k (ascii "EUR") t q → Formed k (ascii "EUR") t r → q ≡ r
    go (formed v f m) (formed v' f' m') = means_one q (ascii "EUR") t v m ∙ ap meaning (one_form k (ascii "EUR") t v v' d f f') ∙ sym (means_one r (ascii "EUR") t v' m')
    go (formed v f m) (formless e n) = absurd (n v f)
    go (formless e n) (formed v f m) = absurd (n v f)
    go (formless e n) (formless e' n') = e ∙ sym e'

pub spelled_one : (g : List ℕ → Bool) (s : List ℕ) (q r : Option Judged) → Spelled g s q → Spelled g s r → q ≡ r
spelled_one g s q r (spelled p e) (spelled p' e') = e ∙ ap (λ (cs : List ℕ). Some (J.Text (length (encode_all cs)))) (one_text s p.chars p'.chars p.spells p'.spells) ∙ sym e'
spelled_one g s q r (spelled p e) (unspelled e' n) = absurd (n p)
spelled_one g s q r (unspelled e n) (spelled p e') = absurd (n p)
spelled_one g s q r (unspelled e n) (unspelled e' n') = e ∙ sym e'
