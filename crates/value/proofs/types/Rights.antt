-- From what is left of a text to the raw text: a judgement by kind is right. Assumes nothing.
use mathlib.Core.Path.{◌≡◌, refl, sym, ◌∙◌, ap, subst}
use mathlib.Core.Bool.{Bool, true, false, true≢false}
use mathlib.Core.List.{List, []}
use mathlib.Core.Logic.{◌≢◌, ⊎_elim}
use Prim.Native.Nat.{ℕ, ◌≤◌, ◌<◌}
use native.Mathlib.Omega.{arith}
use lib.Dec.{eqb}
use lib.ListN.{length}
use lib.Pointwise.{pointwise, bytes_decides}
use Rattle.text.specs.Bytes.{ascii, is_capital}
use Rattle.text.specs.Lists.{Each, Begins}
use Rattle.text_characters.specs.Pieces.{Spells}
use Rattle.list.specs.Listing.{Leaf, ref, iban, ccy, bool, num, amt, date, dtm, txt, enum}
use Rattle.std.specs.Prelude.{Option, Some, None}
use Rattle.value.specs.declared.judged.Judged.{Judged}
use Rattle.value.specs.declared.judged.Judged.TheVariants as J
use Rattle.value.specs.types.Text.{is_txt, Chars, Ref}
use Rattle.value.specs.types.Code.{Iban, Ccy}
use Rattle.value.specs.parts.Form.{WordAt}
use Rattle.value.specs.types.Plain.{Trimmed, SaysTruth}
use Rattle.value.specs.Kind.{code, Given}
use Rattle.value.specs.decided.Trim.{Trim}
use Rattle.value.specs.mirror.Texts.{text_of, Spelled, spelled, unspelled}
use Rattle.value.specs.Value.{Value, text, place, truth, Spelt}
use Rattle.value.specs.parts.Form.{Form, Left}
use Rattle.value.specs.Judged.{Exactly, Means, Right, accepted, refused, Formed, formed, formless, FormedAny, coded_of, Checked}
use Rattle.value.proofs.classes.Classes.{Solid, each_map}
use Rattle.value.proofs.raw.Raw.{Tame, solid_tame, raw_to, raw_from, plain_encode}
use Rattle.value.proofs.raw.Trim.{Dense, trim_tame}
use Rattle.value.proofs.raw.Parts.{trim_is}
use Rattle.value.proofs.raw.Firm.{Firm, form_dense, iban_dense, ccy_dense}
use Rattle.value.proofs.classes.References.{ref_to, ref_from, txt_to, txt_from}
use Rattle.value.proofs.types.Numbered.{leaf_of, by_code, code_low, code_high}
use Rattle.value.proofs.types.Shaped.{shaped_spelt, spelt_shaped}

-- ---- kinds that lose blanks
means_any : (r : Option Judged) (w cs ds : List ℕ) (v : Value) → (v ≡ text cs → ⊥) → Means w cs r v → Means w ds r v
means_any None w cs ds v f m = m
means_any (Some (J.Text n)) w cs ds v f m = absurd (f m.0)
means_any (Some (J.Truth b)) w cs ds v f m = m
means_any (Some (J.Natural n)) w cs ds v f m = m
means_any (Some (J.Amount c k)) w cs ds v f m = m
means_any (Some (J.Day d)) w cs ds v f m = m
means_any (Some (J.Moment p)) w cs ds v f m = m

module _ (k : Leaf) (firm : Firm k) (to : (cs t : List ℕ) → Trimmed cs t → Left k cs t) (from : (cs t : List ℕ) → Left k cs t → Trimmed cs t) (other : (w t cs : List ℕ) (v : Value) → Form k w t v → v ≡ text cs → ⊥) where
  pub right_trim : (s t : List ℕ) (r : Option Judged) → Trim s t → FormedAny k t r → (w : List ℕ) → Ccy w → Right k w s r
  right_trim s t r tr f w cw = go (f w cw)
    where
      go : Formed k w t r → Right k w s r
      go (formed v g m) =
          accepted s v (raw_to s (trim_tame s t tr.is (form_dense k w t v firm g).solid)) (shaped_spelt k w s v (record { left = t; lost = to s t tr.is; form = g })) (means_any r w t s v (other w t t v g) m)
      go (formless e n) =
          refused e (λ cs v sp sl.
          let st = spelt_shaped k w cs v sl in
          let u = st.left in
          let d = form_dense k w u v firm st.form in
          let tm = from cs u st.lost in
          let q : s ≡ cs = raw_from s cs sp (trim_tame cs u tm d.solid) in
          let i : u ≡ t = trim_is s t u tr (subst (λ (l : List ℕ). Trimmed l u) (sym q) tm) d in
          n v (subst (λ (l : List ℕ). Form k w l v) i st.form))

other_bool : (w t cs : List ℕ) (v : Value) → Form bool w t v → v ≡ text cs → ⊥
other_bool w t cs v (Form.either s) e = let z : ◌≡◌ {A = ℕ} 0 1 = cc in omega arith

other_num : (w t cs : List ℕ) (v : Value) → Form num w t v → v ≡ text cs → ⊥
other_num w t cs v (Form.count s) e = let z : ◌≡◌ {A = ℕ} 0 1 = cc in omega arith

other_amt : (w t cs : List ℕ) (v : Value) → Form amt w t v → v ≡ text cs → ⊥
other_amt w t cs v (Form.money a b) e = let z : ◌≡◌ {A = ℕ} 0 1 = cc in omega arith

other_date : (w t cs : List ℕ) (v : Value) → Form date w t v → v ≡ text cs → ⊥
other_date w t cs v (Form.dated a b) e = let z : ◌≡◌ {A = ℕ} 0 1 = cc in omega arith

other_dtm : (w t cs : List ℕ) (v : Value) → Form dtm w t v → v ≡ text cs → ⊥
other_dtm w t cs v (Form.timed a) e = let z : ◌≡◌ {A = ℕ} 0 1 = cc in omega arith

pub right_bool : (s t : List ℕ) (r : Option Judged) → Trim s t → FormedAny bool t r → (w : List ℕ) → Ccy w → Right bool w s r
right_bool = right_trim bool tt (λ cs t x. x) (λ cs t x. x) other_bool

pub right_num : (s t : List ℕ) (r : Option Judged) → Trim s t → FormedAny num t r → (w : List ℕ) → Ccy w → Right num w s r
right_num = right_trim num tt (λ cs t x. x) (λ cs t x. x) other_num

pub right_amt : (s t : List ℕ) (r : Option Judged) → Trim s t → FormedAny amt t r → (w : List ℕ) → Ccy w → Right amt w s r
right_amt = right_trim amt tt (λ cs t x. x) (λ cs t x. x) other_amt

pub right_date : (s t : List ℕ) (r : Option Judged) → Trim s t → FormedAny date t r → (w : List ℕ) → Ccy w → Right date w s r
right_date = right_trim date tt (λ cs t x. x) (λ cs t x. x) other_date

pub right_dtm : (s t : List ℕ) (r : Option Judged) → Trim s t → FormedAny dtm t r → (w : List ℕ) → Ccy w → Right dtm w s r
right_dtm = right_trim dtm tt (λ cs t x. x) (λ cs t x. x) other_dtm

-- ---- codes
module _ (k : Leaf) (P : List ℕ → Type 0) (dense : (t : List ℕ) → P t → Dense t) (make : (w t : List ℕ) → P t → Spelt k w t (text t)) (part : (w t : List ℕ) (v : Value) → Spelt k w t v → P t) where
  pub right_code : (t : List ℕ) (good : Bool) (r : Option Judged) → Exactly good (P t) → r ≡ coded_of good (length t) → (w : List ℕ) → Right k w t r
  right_code t true r x e w =
      let p = x.0 refl in
      let d = dense t p in
      accepted t (text t) (raw_to t (each_map Solid Tame solid_tame t d.solid)) (make w t p) (subst (λ (r : Option Judged). Means w t r (text t)) (sym e) (refl, sym (ap length (plain_encode t d.solid))))
  right_code t false r x e w =
      refused e (λ cs v sp st.
      let p = part w cs v st in
      let q : t ≡ cs = raw_from t cs sp (each_map Solid Tame solid_tame cs (dense cs p).solid) in
      true≢false (sym (x.1 (subst P (sym q) p))))

iban_part : (w cs t : List ℕ) (v : Value) → Form iban w t v → cs ≡ t → Iban cs
iban_part w cs t v (Form.account i) e = subst Iban (sym e) i

ccy_part : (w cs t : List ℕ) (v : Value) → Form ccy w t v → cs ≡ t → Ccy cs
ccy_part w cs t v (Form.currency i) e = subst Ccy (sym e) i

pub right_iban : (t : List ℕ) (good : Bool) (r : Option Judged) → Exactly good (Iban t) → r ≡ coded_of good (length t) → (w : List ℕ) → Right iban w t r
right_iban = right_code iban Iban iban_dense (λ w t p. shaped_spelt iban w t (text t) (record { left = t; lost = refl; form = Form.account p })) (λ w t v sl. let s = spelt_shaped iban w t v sl in iban_part w t s.left v s.form s.lost)

pub right_ccy : (t : List ℕ) (good : Bool) (r : Option Judged) → Exactly good (Ccy t) → r ≡ coded_of good (length t) → (w : List ℕ) → Right ccy w t r
right_ccy = right_code ccy Ccy ccy_dense (λ w t p. shaped_spelt ccy w t (text t) (record { left = t; lost = refl; form = Form.currency p })) (λ w t v sl. let s = spelt_shaped ccy w t v sl in ccy_part w t s.left v s.form s.lost)

-- ---- references and texts
ref_part : (w cs t : List ℕ) (v : Value) → Form ref w t v → cs ≡ t → Ref cs
ref_part w cs t v (Form.reference r) e = subst Ref (sym e) r

txt_part : (k : ℕ) (w cs t : List ℕ) (v : Value) → Form (txt k) w t v → cs ≡ t → Chars is_txt k cs
txt_part k w cs t v (Form.writing r) e = subst (Chars is_txt k) (sym e) r

pub right_ref : (t : List ℕ) (r : Option Judged) → Spelled (text_of true 35) t r → (w : List ℕ) → Right ref w t r
right_ref t r (spelled p e) w =
    accepted p.chars (text p.chars) p.spells (shaped_spelt ref w p.chars (text p.chars) (record { left = p.chars; lost = refl; form = Form.reference (ref_to p.chars p.passes) })) (subst (λ (r : Option Judged). Means w p.chars r (text p.chars)) (sym e) (refl, refl))
right_ref t r (unspelled e f) w = refused e (λ cs v sp sl. let st = spelt_shaped ref w cs v sl in f (record { chars = cs; spells = sp; passes = ref_from cs (ref_part w cs st.left v st.form st.lost) }))

pub right_txt : (k : ℕ) (t : List ℕ) (r : Option Judged) → Spelled (text_of false k) t r → (w : List ℕ) → Right (txt k) w t r
right_txt k t r (spelled p e) w =
    accepted p.chars (text p.chars) p.spells (shaped_spelt (txt k) w p.chars (text p.chars) (record { left = p.chars; lost = refl; form = Form.writing (txt_to k p.chars p.passes) })) (subst (λ (r : Option Judged). Means w p.chars r (text p.chars)) (sym e) (refl, refl))
right_txt k t r (unspelled e f) w = refused e (λ cs v sp sl. let st = spelt_shaped (txt k) w cs v sl in f (record { chars = cs; spells = sp; passes = txt_from k cs (txt_part k w cs st.left v st.form st.lost) }))

pub right_txt_of : (k j : ℕ) → k ≡ j → (t : List ℕ) (r : Option Judged) → Spelled (text_of false k) t r → (w : List ℕ) → Right (txt j) w t r
right_txt_of k j e t r p = right_txt j t r (subst (λ (n : ℕ). Spelled (text_of false n) t r) e p)

-- ---- by number
pub checked_by : (n kind k : ℕ) (s t : List ℕ) (r : Option Judged) → t ≡ s → kind ≡ n → n ≢ 6 → code (leaf_of n 0 []) ≡ n → ((j : ℕ) (ws : List (List ℕ)) → Given (leaf_of n j ws) k 0 → (w : List ℕ) → Ccy w → Right (leaf_of n j ws) w t r) → Checked kind k s r
checked_by n kind k s t r i q ne c f =
    record {
      known = λ l e o g w cw. subst (λ (x : List ℕ). Right l w x r) i (by_code (λ l. Given l k 0 → Right l w t r) n (λ j ws g. f j ws g w cw) l (e ∙ q) g);
      unknown = λ u. absurd (u (leaf_of n 0 []) (c ∙ sym q) (λ z. ne (sym q ∙ z)));
    }

pub checked_none : (kind k : ℕ) (s : List ℕ) → (kind ≢ 2) × (kind ≢ 3) × (kind ≢ 4) × (kind ≢ 5) → (kind ≢ 7) × (kind ≢ 8) × (kind ≢ 9) × (kind ≢ 10) × (kind ≢ 11) → Checked kind k s None
checked_none kind k s p q = record { known = λ l e o g w cw. absurd (go (code_low l) (code_high l) e o); unknown = λ u. refl }
  where
    step : (m : ℕ) → m ≤ kind → (kind ≡ m → ⊥) → m < kind
    step m h a = omega arith

    go : {c : ℕ} → 2 ≤ c → c ≤ 11 → c ≡ kind → kind ≢ 6 → ⊥
    go a b e o = let z = step 11 (step 10 (step 9 (step 8 (step 7 (step 6 (step 5 (step 4 (step 3 (step 2 (omega arith) p.0) p.1) p.2) p.3) o) q.0) q.1) q.2) q.3) q.4 in omega arith

-- ---- yes or no
no_words : (w t : List ℕ) → ((b : Bool) → SaysTruth t b → ⊥) → (v : Value) → Form bool w t v → ⊥
no_words w t f v (Form.either {b = b} s) = f b s

pub truth_is : (t : List ℕ) (b : Bool) → SaysTruth t b → FormedAny bool t (Some (J.Truth b))
truth_is t b s w cw = formed (truth b) (Form.either s) refl

pub truth_not : (t : List ℕ) → (t ≡ ascii "true" → ⊥) → (t ≡ ascii "1" → ⊥) → (t ≡ ascii "false" → ⊥) → (t ≡ ascii "0" → ⊥) → FormedAny bool t None
truth_not t a b c d w cw = formless refl (no_words w t go)
  where
    go : (b : Bool) → SaysTruth t b → ⊥
    go true s = ⊎_elim a b s
    go false s = ⊎_elim c d s

-- a text that is compared with a word, and its bytes
pub word_is : (t l w : List ℕ) → l ≡ w → true ≡ pointwise eqb t l → t ≡ w
word_is t l w p e = (bytes_decides t l).0 (sym e) ∙ p

pub word_not : (t l w : List ℕ) → l ≡ w → false ≡ pointwise eqb t l → t ≡ w → ⊥
word_not t l w p e q = true≢false (sym ((bytes_decides t l).1 (q ∙ sym p)) ∙ sym e)

-- ---- words: the raw text is the word, so its place in the list is its value
pub word_spelt : (ws : List (List ℕ)) (w s : List ℕ) (n : ℕ) → Each (Begins is_capital is_capital) ws → WordAt ws n s → Spells s s × Spelt (enum ws) w s (place n)
word_spelt ws w s n ok a =
    let f : Form (enum ws) w s (place n) = Form.listed a in
    (raw_to s (each_map Solid Tame solid_tame s (form_dense (enum ws) w s (place n) ok f).solid), shaped_spelt (enum ws) w s (place n) (record { left = s; lost = refl; form = f }))

pub record Placed (ws : List (List ℕ)) (s : List ℕ) (v : Value) : Type 0 where
  pub at : ℕ
  pub is : v ≡ place at
  pub word : WordAt ws at s

placed_of : (ws : List (List ℕ)) (w s t : List ℕ) (v : Value) → s ≡ t → Form (enum ws) w t v → Placed ws s v
placed_of ws w s t v e (Form.listed {n = n} a) = record { at = n; is = refl; word = subst (WordAt ws n) (sym e) a }

pub spelt_word : (ws : List (List ℕ)) (w s cs : List ℕ) (v : Value) → Each (Begins is_capital is_capital) ws → Spells s cs → Spelt (enum ws) w cs v → Placed ws s v
spelt_word ws w s cs v ok sp sl =
    let st = spelt_shaped (enum ws) w cs v sl in
    let d = form_dense (enum ws) w st.left v ok st.form in
    let q : s ≡ cs = raw_from s cs sp (subst (Each Tame) (sym st.lost) (each_map Solid Tame solid_tame st.left d.solid)) in
    placed_of ws w s st.left v (q ∙ st.lost) st.form
