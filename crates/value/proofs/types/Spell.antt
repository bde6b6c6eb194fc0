-- The decision `spell` finds exactly the value that characters spell. Assumes nothing.
use mathlib.Core.Path.{◌≡◌, refl, sym, ◌∙◌, ap, subst}
use mathlib.Core.Bool.{Bool, true, false, cond, ◌||◌}
use mathlib.Core.List.{List, [], ◌∷◌}
use mathlib.Core.Logic.{◌⊎◌, inl, inr, ⊎_elim}
use mathlib.Core.Option.{some, none}
use Prim.Native.Nat.{ℕ, zero, suc}
use native.Mathlib.Omega.{arith}
use lib.Dec.{eqb}
use lib.ListN.{length}
use borrow.Author.Tests.{eq-eqb, eqb-true}
use Rattle.text.specs.Bytes.{ascii, in_range, is_capital, is_digit}
use Rattle.text.specs.Lists.{All, same}
use Rattle.text.proofs.Classes.{and_is, or_is, in_range_lem, in_range_is}
use Rattle.text.proofs.Parts.{same_eq}
use Rattle.list.specs.Listing.{Leaf, ref, iban, ccy, bool, num, amt, date, dtm, txt, enum}
use Rattle.list.specs.WellFormed.{LeafOk, Different}
use Rattle.list.specs.tables.Table.{place_in}
use Rattle.list.proofs.words.Places.{place_found, place_none, place_is}
use Rattle.std.specs.Prelude.{Option, Some, None}
use Rattle.value.specs.declared.judged.Judged.{Judged}
use Rattle.value.specs.declared.judged.Judged.TheVariants as J
use Rattle.value.specs.types.Plain.{Trimmed, SaysTruth, Num}
use Rattle.value.specs.parts.Numeral.{decimal}
use Rattle.value.specs.types.Code.{Iban, Ccy}
use Rattle.value.specs.mirror.Layout.{iban_at}
use Rattle.value.specs.mirror.Texts.{text_of}
use Rattle.value.specs.mirror.Reading.{read_of, answer}
use Rattle.value.specs.Value.{Value, text, place, truth, natural, amount, Spelt}
use Rattle.value.specs.parts.Form.{Form, Left}
use Rattle.value.specs.Judged.{Formed, formed, formless}
use Rattle.value.specs.decided.Spell.{trim, when, passes_from, is_ccy, is_iban, is_num, place_of, truth_of, money_of, left_of, form_of, spell}
use Rattle.value.proofs.classes.Loops.{From, to_all, from_all}
use Rattle.value.proofs.classes.Codes.{iban_from, iban_to, iban_least, iban_most}
use Rattle.value.proofs.classes.References.{ref_to, ref_from, txt_to, txt_from}
use Rattle.value.proofs.numbers.Amounts.{right, answer_of}
use Rattle.value.proofs.raw.Parts.{trim_is}
use Rattle.value.proofs.raw.Firm.{Firm, form_dense}
use Rattle.value.proofs.raw.TrimDecided.{trim_trims}
use Rattle.value.proofs.types.Shaped.{shaped_spelt, spelt_shaped}
use Rattle.value.proofs.dates.Spell.{when_is, when_of, and_of, day_sound, day_complete, moment_sound, moment_complete}

-- ---- a test at every place
passes_is : (p : ℕ → ℕ → Bool) (i : ℕ) (t : List ℕ) → passes_from p i t ≡ true → From p i t
unfolding passes_from
passes_is p i [] e = tt
passes_is p i (x ∷ t) e = let a = and_is (p i x) (passes_from p (suc i) t) e in (a.0, passes_is p (suc i) t a.1)

passes_of : (p : ℕ → ℕ → Bool) (i : ℕ) (t : List ℕ) → From p i t → passes_from p i t ≡ true
unfolding passes_from
passes_of p i [] f = refl
passes_of p i (x ∷ t) f = and_of (p i x) (passes_from p (suc i) t) f.0 (passes_of p (suc i) t f.1)

all_is : (p : ℕ → Bool) (t : List ℕ) → passes_from (λ _ x. p x) 0 t ≡ true → All p t
all_is p t e = to_all p 0 t (passes_is (λ _ x. p x) 0 t e)

all_of : (p : ℕ → Bool) (t : List ℕ) → All p t → passes_from (λ _ x. p x) 0 t ≡ true
all_of p t a = passes_of (λ _ x. p x) 0 t (from_all p 0 t a)

-- ---- codes and numbers
pub ccy_is : (t : List ℕ) → is_ccy t ≡ true → Ccy t
ccy_is t e = let a = and_is (eqb (length t) 3) (passes_from (λ _ x. is_capital x) 0 t) e in record { three = eqb-true (length t) 3 a.0; capitals = all_is is_capital t a.1 }

pub ccy_of : (t : List ℕ) → Ccy t → is_ccy t ≡ true
ccy_of t c = and_of (eqb (length t) 3) (passes_from (λ _ x. is_capital x) 0 t) (eq-eqb (length t) 3 c.three) (all_of is_capital t c.capitals)

iban_is : (t : List ℕ) → is_iban t ≡ true → Iban t
iban_is t e =
    let a = and_is (in_range 5 34 (length t)) (passes_from iban_at 0 t) e in
    let b = in_range_is 5 34 (length t) a.0 in
    iban_to t b.0 b.1 (passes_is iban_at 0 t a.1)

iban_of : (t : List ℕ) → Iban t → is_iban t ≡ true
iban_of t i = and_of (in_range 5 34 (length t)) (passes_from iban_at 0 t) (in_range_lem 5 34 (length t) (iban_least t i) (iban_most t i)) (passes_of iban_at 0 t (iban_from t i))

num_is : (t : List ℕ) → is_num t ≡ true → Num t (decimal t)
num_is t e = let a = and_is (in_range 1 18 (length t)) (passes_from (λ _ x. is_digit x) 0 t) e in record { lengths = in_range_is 1 18 (length t) a.0; digits = all_is is_digit t a.1; is = refl }

num_of : (t : List ℕ) (n : ℕ) → Num t n → is_num t ≡ true
num_of t n m = and_of (in_range 1 18 (length t)) (passes_from (λ _ x. is_digit x) 0 t) (in_range_lem 1 18 (length t) m.lengths.0 m.lengths.1) (all_of is_digit t m.digits)

-- ---- words
no_some : {A : Type 0} (v : Value) → none ≡ some v → A
no_some v e = absurd (let z : ◌≡◌ {A = ℕ} 0 1 = cc in omega arith)

word_sound : (ws : List (List ℕ)) (w t : List ℕ) (v : Value) → place_of (place_in ws t) ≡ some v → Form (enum ws) w t v
word_sound ws w t v e = go (place_in ws t) refl e
  where
    go : (n : ℕ) → place_in ws t ≡ n → place_of n ≡ some v → Form (enum ws) w t v
    go zero q f = no_some v f
    go (suc n) q f =
        let p = place_found t ws n q in
        let z : place (suc n) ≡ v = cc in
        subst (Form (enum ws) w t) z (Form.listed {n = suc n} (record { before = n; from = refl; within = p.0; is = p.1 }))

-- yes and no
truth_sound : (w t : List ℕ) (v : Value) → truth_of t ≡ some v → Form bool w t v
truth_sound w t v e = go (same t (ascii "true") || same t (ascii "1")) (same t (ascii "false") || same t (ascii "0")) refl refl e
  where
    either_is : (a b : List ℕ) → (same t a || same t b) ≡ true → (t ≡ a) ⊎ (t ≡ b)
    either_is a b q = ⊎_elim (λ x. inl (same_eq t a x)) (λ x. inr (same_eq t b x)) (or_is (same t a) (same t b) q)

    go : (p q : Bool) → (same t (ascii "true") || same t (ascii "1")) ≡ p → (same t (ascii "false") || same t (ascii "0")) ≡ q → cond p (some (truth true)) (when q (truth false)) ≡ some v → Form bool w t v
    go true q i j f = let z : truth true ≡ v = cc in subst (Form bool w t) z (Form.either (either_is (ascii "true") (ascii "1") i))
    go false true i j f = let z : truth false ≡ v = cc in subst (Form bool w t) z (Form.either (either_is (ascii "false") (ascii "0") j))
    go false false i j f = no_some v f

truth_of_lem : (b : Bool) (t : List ℕ) → SaysTruth t b → truth_of t ≡ some (truth b)
unfolding same
truth_of_lem true t (inl e) = ap truth_of e
truth_of_lem true t (inr e) = ap truth_of e
truth_of_lem false t (inl e) = ap truth_of e
truth_of_lem false t (inr e) = ap truth_of e

-- ---- amounts
money_sound : (w t : List ℕ) (v : Value) (r : Option Judged) → Formed amt w t r → money_of w r ≡ some v → Form amt w t v
money_sound w t v None f e = no_some v e
money_sound w t v (Some (J.Text n)) f e = no_some v e
money_sound w t v (Some (J.Truth b)) f e = no_some v e
money_sound w t v (Some (J.Natural n)) f e = no_some v e
money_sound w t v (Some (J.Day d)) f e = no_some v e
money_sound w t v (Some (J.Moment p)) f e = no_some v e
money_sound w t v (Some (J.Amount c k)) (formed v' g m) e = let z : amount w k c ≡ v = cc in subst (Form amt w t) (m ∙ z) g
money_sound w t v (Some (J.Amount c k)) (formless q g) e = absurd (let z : ◌≡◌ {A = ℕ} 0 1 = cc in omega arith)

-- ---- all kinds
form_sound : (k : Leaf) (w t : List ℕ) (v : Value) → form_of k w t ≡ some v → Form k w t v
form_sound ref w t v e = let a = when_is (text_of true 35 t) (text t) v e in subst (Form ref w t) a.1 (Form.reference (ref_to t a.0))
form_sound iban w t v e = let a = when_is (is_iban t) (text t) v e in subst (Form iban w t) a.1 (Form.account (iban_is t a.0))
form_sound ccy w t v e = let a = when_is (is_ccy t) (text t) v e in subst (Form ccy w t) a.1 (Form.currency (ccy_is t a.0))
form_sound bool w t v e = truth_sound w t v e
form_sound num w t v e = let a = when_is (is_num t) (natural (decimal t)) v e in subst (Form num w t) a.1 (Form.count (num_is t a.0))
form_sound amt w t v e = go (is_ccy w) refl e
  where
    go : (b : Bool) → is_ccy w ≡ b → cond b (money_of w (answer (read_of t))) none ≡ some v → Form amt w t v
    go true q f = money_sound w t v (answer (read_of t)) (right t w (ccy_is w q)) f
    go false q f = no_some v f
form_sound date w t v e = day_sound w t v e
form_sound dtm w t v e = moment_sound w t v e
form_sound (txt k) w t v e = let a = when_is (text_of false k t) (text t) v e in subst (Form (txt k) w t) a.1 (Form.writing (txt_to k t a.0))
form_sound (enum ws) w t v e = word_sound ws w t v e

-- the words of an ENUM are different, which is all that one value asks of a list
abbrev pub Apart : Leaf → Type 0
Apart ref = Unit {0}
Apart iban = Unit {0}
Apart ccy = Unit {0}
Apart bool = Unit {0}
Apart num = Unit {0}
Apart amt = Unit {0}
Apart date = Unit {0}
Apart dtm = Unit {0}
Apart (txt k) = Unit {0}
Apart (enum ws) = Different ws

pub apart_of : (k : Leaf) → LeafOk k → Apart k
apart_of ref ok = tt
apart_of iban ok = tt
apart_of ccy ok = tt
apart_of bool ok = tt
apart_of num ok = tt
apart_of amt ok = tt
apart_of date ok = tt
apart_of dtm ok = tt
apart_of (txt k) ok = tt
apart_of (enum ws) ok = ok.2

form_complete : (k : Leaf) (w t : List ℕ) (v : Value) → Apart k → Form k w t v → form_of k w t ≡ some v
form_complete k w t v ok (Form.reference r) = when_of (text_of true 35 t) (text t) (ref_from t r)
form_complete k w t v ok (Form.writing {k = n} r) = when_of (text_of false n t) (text t) (txt_from n t r)
form_complete k w t v ok (Form.account r) = when_of (is_iban t) (text t) (iban_of t r)
form_complete k w t v ok (Form.currency r) = when_of (is_ccy t) (text t) (ccy_of t r)
form_complete k w t v ok (Form.listed {ws = ws} a) = ap place_of (place_is t ws ok a.before a.within a.is) ∙ ap (λ (n : ℕ). some (place n)) (sym a.from)
form_complete k w t v ok (Form.either {b = b} s) = truth_of_lem b t s
form_complete k w t v ok (Form.count {n = n} m) = when_of (is_num t) (natural (decimal t)) (num_of t n m) ∙ ap (λ (x : ℕ). some (natural x)) (sym m.is)
form_complete k w t v ok (Form.money c a) = rw (ccy_of w c) (ap (money_of w) (answer_of t _ _ a))
form_complete k w t v ok (Form.dated {y} {m} {d} r e) = day_complete t y m d r e
form_complete k w t v ok (Form.timed m) = moment_complete t _ _ _ _ _ _ _ _ m

-- what is left is what the decision leaves
left_is : (k : Leaf) (cs : List ℕ) → Left k cs (left_of k cs)
left_is ref cs = refl
left_is iban cs = refl
left_is ccy cs = refl
left_is bool cs = (trim_trims cs).is
left_is num cs = (trim_trims cs).is
left_is amt cs = (trim_trims cs).is
left_is date cs = (trim_trims cs).is
left_is dtm cs = (trim_trims cs).is
left_is (txt k) cs = refl
left_is (enum ws) cs = refl

trim_of : (k : Leaf) → Firm k → (w cs t : List ℕ) (v : Value) → Trimmed cs t → Form k w t v → trim cs ≡ t
trim_of k firm w cs t v l f = sym (trim_is cs (trim cs) t (trim_trims cs) l (form_dense k w t v firm f))

left_of_lem : (k : Leaf) (w cs t : List ℕ) (v : Value) → Left k cs t → Form k w t v → left_of k cs ≡ t
left_of_lem ref w cs t v l f = l
left_of_lem iban w cs t v l f = l
left_of_lem ccy w cs t v l f = l
left_of_lem bool w cs t v l f = trim_of bool tt w cs t v l f
left_of_lem num w cs t v l f = trim_of num tt w cs t v l f
left_of_lem amt w cs t v l f = trim_of amt tt w cs t v l f
left_of_lem date w cs t v l f = trim_of date tt w cs t v l f
left_of_lem dtm w cs t v l f = trim_of dtm tt w cs t v l f
left_of_lem (txt k) w cs t v l f = l
left_of_lem (enum ws) w cs t v l f = l

-- ---- the two directions
pub spell_sound : (k : Leaf) (w cs : List ℕ) (v : Value) → spell k w cs ≡ some v → Spelt k w cs v
unfolding spell
spell_sound k w cs v e = shaped_spelt k w cs v (record { left = left_of k cs; lost = left_is k cs; form = form_sound k w (left_of k cs) v e })

spell_found : (k : Leaf) (w cs : List ℕ) (v : Value) → Apart k → Spelt k w cs v → spell k w cs ≡ some v
unfolding spell
spell_found k w cs v d s = let a = spelt_shaped k w cs v s in ap (form_of k w) (left_of_lem k w cs a.left v a.lost a.form) ∙ form_complete k w a.left v d a.form

pub spell_complete : (k : Leaf) (w cs : List ℕ) (v : Value) → LeafOk k → Spelt k w cs v → spell k w cs ≡ some v
spell_complete k w cs v ok s = spell_found k w cs v (apart_of k ok) s

-- some value is found where one is spelt, whatever the words of an ENUM
form_some : (k : Leaf) (w t : List ℕ) (v : Value) → Form k w t v → (u : Value) × (form_of k w t ≡ some u)
form_some k w t v (Form.reference r) = (v, form_complete ref w t v tt (Form.reference r))
form_some k w t v (Form.writing {k = n} r) = (v, form_complete (txt n) w t v tt (Form.writing r))
form_some k w t v (Form.account r) = (v, form_complete iban w t v tt (Form.account r))
form_some k w t v (Form.currency r) = (v, form_complete ccy w t v tt (Form.currency r))
form_some k w t v (Form.listed {ws = ws} a) = go (place_in ws t) refl
  where
    go : (p : ℕ) → place_in ws t ≡ p → (u : Value) × (place_of (place_in ws t) ≡ some u)
    go zero e = absurd (place_none t ws e a.before a.within a.is)
    go (suc p) e = (place (suc p), ap place_of e)
form_some k w t v (Form.either s) = (v, form_complete bool w t v tt (Form.either s))
form_some k w t v (Form.count m) = (v, form_complete num w t v tt (Form.count m))
form_some k w t v (Form.money c a) = (v, form_complete amt w t v tt (Form.money c a))
form_some k w t v (Form.dated r e) = (v, form_complete date w t v tt (Form.dated r e))
form_some k w t v (Form.timed m) = (v, form_complete dtm w t v tt (Form.timed m))

pub spell_some : (k : Leaf) (w cs : List ℕ) (v : Value) → Spelt k w cs v → (u : Value) × (spell k w cs ≡ some u)
unfolding spell
spell_some k w cs v s =
    let a = spelt_shaped k w cs v s in
    let f = form_some k w a.left v a.form in
    (f.0, ap (form_of k w) (left_of_lem k w cs a.left v a.lost a.form) ∙ f.1)

-- characters have at most one value, and so has a text
pub one_form : (k : Leaf) (w t : List ℕ) (v v' : Value) → Apart k → Form k w t v → Form k w t v' → v ≡ v'
one_form k w t v v' d a b =
    let p = form_complete k w t v d a in
    let q = form_complete k w t v' d b in
    cc

pub one_spelt : (k : Leaf) (w cs : List ℕ) (v v' : Value) → Apart k → Spelt k w cs v → Spelt k w cs v' → v ≡ v'
one_spelt k w cs v v' d a b =
    let p = spell_found k w cs v d a in
    let q = spell_found k w cs v' d b in
    cc
