-- The value of a leaf that is known to be good, put by its kind. Assumes nothing.
use mathlib.Core.Path.{◌≡◌, refl, sym, ◌∙◌, ap, subst}
use mathlib.Core.Bool.{Bool, true, false, cond, ◌||◌}
use mathlib.Core.Logic.{◌≢◌, ⊎_elim}
use mathlib.Core.List.{List, [], ◌∷◌, ◌++◌, append_assoc, append-nil}
use mathlib.Core.Option.{Option, none, some}
use Prim.Native.Nat.{ℕ, ◌+◌, ◌-◌, ◌/◌, ◌%◌, ◌≤◌, ◌<◌}
use native.Mathlib.Omega.{arith}
use lib.Dec.{eqb}
use lib.ListN.{length, get_or, take, drop, length-append, length-drop}
use lib.Seq.{slice, drop-drop, drop-append_seam, take-append_seam}
use borrow.Author.Tests.{eq-eqb, ne_eqb, eqb-true, eqb-false}
use Rattle.text.specs.Bytes.{is_capital}
use Rattle.text.specs.Lists.{Each, All, span}
use Rattle.text.specs.Pasting.{pasted}
use Rattle.text.specs.Puts.{Puts}
use Rattle.text.proofs.Classes.{or_is, or_not}
use Rattle.text.proofs.Parts.{part_take}
use Rattle.text.proofs.Puts.{puts_pasted, puts_as}
use Rattle.text.proofs.Spans.{span_append}
use Rattle.text_characters.specs.Utf8.{encode_all}
use Rattle.text_characters.specs.Pieces.{less, greater, Spells}
use Rattle.text_characters.proofs.Unmarked.{unmarked_is}
use Rattle.list.specs.Listing.{Leaf, ref, iban, ccy, bool, num, amt, date, dtm, txt, enum}
use Rattle.list.specs.WellFormed.{LeafOk}
use Rattle.xml.specs.House.{Quote, single_quote, double, mark}
use Rattle.value.specs.parts.Form.{WordAt, Form, reference, writing, account, currency, listed, either, count, money, dated, timed, Left}
use Rattle.value.specs.Kind.{code, Given}
use Rattle.value.specs.Value.{Value, text, place, day, Spelt, bytes}
use Rattle.value.specs.Judged.{Means, Formed, formed, formless, FormedAny}
use Rattle.std.specs.Prelude as std
use Rattle.std.specs.Prelude.{Some, None}
use Rattle.value.specs.declared.judged.Judged.{Judged}
use Rattle.value.specs.declared.judged.Judged.TheVariants as J
use Rattle.value.proofs.types.Shaped.{shaped_spelt, spelt_shaped}
use Rattle.value.proofs.classes.Classes.{Solid, each_map}
use Rattle.value.proofs.raw.Firm.{form_dense}
use Rattle.value.proofs.raw.Raw.{Tame, solid_tame, raw_to}
use Rattle.value.proofs.given.Unique.{euro, euro_is}
use Rattle.value.specs.given.Giving.{Gives, some, Written}
use Rattle.value.specs.given.Wrote.{Wrote}
use Rattle.value.proofs.given.Putting.{text_long, day_long}
use Rattle.value.proofs.given.Theorems.{bytes_some, write_is}
use Rattle.value_leaf.specs.Leafed.{found_of, is_inside}
use Rattle.value_leaf.specs.Took.{Took}
use Rattle.value_lane.proofs.Firms.{date_ends}
use Rattle.file_nodes.specs.Run.{Head}
use Rattle.text.specs.Little.{little, Loaded}
use Rattle.file_fill.specs.mirror.Copying.{RawAt, TextAsked, TextLaid}
use Rattle.file_fill.specs.mirror.Fills.{word_of, word_in, LeafAt, LeafAsked, LeafLaid, OtherLaid}
use Rattle.file_fill.proofs.Copying.{inside_raw}
use Rattle.file_nodes.proofs.Texting.{capitals_unmarked}
use Rattle.file_lane.proofs.Turning.{coin_number, coin_high, coin_apart, Numbered, word, coin, plainly, numbered}

-- ---- by the number of its kind

module _ (t : List ℕ) (k kind : ℕ) (s : List ℕ) (at : ℕ) (vs : List ℕ) (e : ℕ) (w : LeafAt t k kind s at vs e) where
  which : Numbered kind w.leaf w.quote
  which = subst (λ (n : ℕ). Numbered n w.leaf w.quote) (sym w.number) (numbered w.leaf w.quote w.coin)

  -- no currency stands before its text
  record Bare : Type 0 where
    its : code w.leaf ≡ kind
    head : w.head ≡ []
    is : drop at s ≡ w.raw ++ (less ∷ w.rest)
    end : e ≡ at + length w.raw

  bare_of : w.quote ≡ none → code w.leaf ≡ kind → Bare
  bare_of q c =
      let h = subst (λ (o : Option Quote). Head o w.head w.currency) q w.heads in
      record { its = c; head = h.0; is = w.is ∙ ap (λ (l : List ℕ). l ++ (w.raw ++ (less ∷ w.rest))) h.0; end = w.end ∙ ap (λ (l : List ℕ). at + length l + length w.raw) h.0 ∙ omega arith }

  bare : kind ≢ 6 → kind ≢ 9 → kind ≢ 12 → Bare
  bare a b c = go which
    where
      go : Numbered kind w.leaf w.quote → Bare
      go (word ws d f g) = absurd (a d)
      go (coin q d f g) = absurd (coin_apart kind q d b c)
      go (plainly d f g h i) = bare_of i h

-- ---- texts

texty : (f : Leaf) (w t : List ℕ) (v : Value) → Form f w t v → (cs : List ℕ) → code f < 6 → Left f cs t → v ≡ text cs
texty f w t v (reference r) cs h l = ap text (sym l)
texty f w t v (writing r) cs h l = ap text (sym l)
texty f w t v (account r) cs h l = ap text (sym l)
texty f w t v (currency r) cs h l = ap text (sym l)
texty f w t v (listed r) cs h l = absurd (omega arith)
texty f w t v (either r) cs h l = absurd (omega arith)
texty f w t v (count r) cs h l = absurd (omega arith)
texty f w t v (money r q) cs h l = absurd (omega arith)
texty f w t v (dated r q) cs h l = absurd (omega arith)
texty f w t v (timed r) cs h l = absurd (omega arith)

module _ (t : List ℕ) (k kind : ℕ) (s : List ℕ) (at : ℕ) (low : kind < 6) where
  module _ (vs : List ℕ) (e : ℕ) (w : LeafAt t k kind s at vs e) where
    b : Bare t k kind s at vs e w
    b = bare t k kind s at vs e w (λ z. omega arith) (λ z. omega arith) (λ z. omega arith)

    raw_at : RawAt s at w.took.chars e
    raw_at = record { raw = w.raw; rest = w.rest; is = b.is; spells = w.took.spells; end = b.end }

    bytes_are : vs ≡ bytes (text w.took.chars)
    bytes_are =
        w.took.is
        ∙ ap bytes (let sh = spelt_shaped w.leaf w.currency w.took.chars w.took.value w.took.spelt in texty w.leaf w.currency sh.left w.took.value sh.form w.took.chars (subst (λ (n : ℕ). n < 6) (sym b.its) low) sh.lost)

  pub text_asked : (d : List ℕ) (to : ℕ) → LeafAsked t k kind s at d to → TextAsked s at d to
  text_asked d to a =
      let w = a.leaf in
      let cs : List ℕ = w.took.chars in
      record {
        chars = cs;
        end = a.end;
        text = raw_at a.bytes a.end w;
        room = omega (arith, a.room, ap length (bytes_are a.bytes a.end w), text_long (length (encode_all cs)) cs refl);
      }

  pub text_laid : (d : List ℕ) (to r e : ℕ) (d' : List ℕ) → TextLaid s at d to r e d' → LeafLaid t k kind s at d to r e d'
  text_laid d to r e d' l vs f w =
      let x = l w.took.chars f (raw_at vs f w) in
      (x.0, puts_as d to (bytes (text w.took.chars)) vs r d' (sym (bytes_are vs f w)) x.1)

-- ---- words

placed_form : (ws : List (List ℕ)) (w t : List ℕ) (v : Value) → Form (enum ws) w t v → (n : ℕ) × WordAt ws n t × (v ≡ place n)
placed_form ws w t v (listed {n = n} r) = (n, r, refl)

module _ (t : List ℕ) (k : ℕ) (s : List ℕ) (at x : ℕ) (l : Loaded 4 s at x) (d : List ℕ) (to : ℕ) (d' : List ℕ) (p : d' ≡ pasted d to (word_in t k x ∷ [])) where
  pub word_laid : LeafLaid t k 6 s at d to (to + 1) (at + 4) d'
  word_laid vs f w = go (which t k 6 s at vs f w)
    where
      go : Numbered 6 w.leaf w.quote → (at + 4 ≡ f) × Puts d to vs (to + 1) d'
      go (coin q a b c) = absurd (omega (arith, coin_high q, a))
      go (plainly a b c e g) = absurd (a refl)
      go (word ws a b c) =
          let bb = bare_of t k 6 s at vs f w c (ap code b) in
          let tk = w.took in
          let sp = spelt_shaped (enum ws) w.currency tk.chars tk.value (subst (λ (y : Leaf). Spelt y w.currency tk.chars tk.value) b tk.spelt) in
          let q = placed_form ws w.currency sp.left tk.value sp.form in
          let u : List ℕ = sp.left in
          let z = w.words ws b q.0 u q.1 in
          let r : w.raw ≡ u = unmarked_is w.raw tk.chars tk.spells (capitals_unmarked tk.chars (subst (All is_capital) (sym sp.lost) z.1)) ∙ sp.lost in
          let i : drop at s ≡ u ++ (less ∷ w.rest) = bb.is ∙ ap (λ (y : List ℕ). y ++ (less ∷ w.rest)) r in
          let m : take 4 (drop at s) ≡ u = ap (take 4) i ∙ ap (λ (j : ℕ). take j (u ++ (less ∷ w.rest))) (sym z.0) ∙ take-append_seam u (less ∷ w.rest) in
          let n : word_in t k x ≡ q.0 = ap (word_in t k) (l.is ∙ ap little m) ∙ z.2 in
          let v : (word_in t k x ∷ []) ≡ vs = ap (λ (j : ℕ). j ∷ []) n ∙ sym (tk.is ∙ ap bytes q.2) in (
            omega (arith, bb.end, ap length r, z.0),
            puts_as d to (word_in t k x ∷ []) vs (to + 1) d' v (puts_pasted d to (word_in t k x ∷ []) 1 d' refl p),
          )

-- the place that the code tells
module _ (s : List ℕ) (at x a b : ℕ) (l : Loaded 4 s at x) where
  abbrev Tells : ℕ → Type 0
  Tells r = (y : ℕ) × Loaded 4 s at y × (r ≡ word_of a b y)

  first_no : x ≢ a % 4294967296 → word_of a b x ≡ cond (eqb x (a / 4294967296)) 2 (cond (eqb x (b % 4294967296)) 3 4)
  first_no e = ap (λ (c : Bool). cond c 1 (cond (eqb x (a / 4294967296)) 2 (cond (eqb x (b % 4294967296)) 3 4))) (ne_eqb x (a % 4294967296) e)

  second_no : x ≢ a % 4294967296 → x ≢ a / 4294967296 → word_of a b x ≡ cond (eqb x (b % 4294967296)) 3 4
  second_no e f = first_no e ∙ ap (λ (c : Bool). cond c 2 (cond (eqb x (b % 4294967296)) 3 4)) (ne_eqb x (a / 4294967296) f)

  pub word_one : x ≡ a % 4294967296 → Tells 1
  word_one e = (x, l, sym (ap (λ (c : Bool). cond c 1 (cond (eqb x (a / 4294967296)) 2 (cond (eqb x (b % 4294967296)) 3 4))) (eq-eqb x (a % 4294967296) e)))

  pub word_two : x ≢ a % 4294967296 → x ≡ a / 4294967296 → Tells 2
  word_two e f = (x, l, sym (first_no e ∙ ap (λ (c : Bool). cond c 2 (cond (eqb x (b % 4294967296)) 3 4)) (eq-eqb x (a / 4294967296) f)))

  pub word_three : x ≢ a % 4294967296 → x ≢ a / 4294967296 → x ≡ b % 4294967296 → Tells 3
  word_three e f g = (x, l, sym (second_no e f ∙ ap (λ (c : Bool). cond c 3 4) (eq-eqb x (b % 4294967296) g)))

  pub word_four : x ≢ a % 4294967296 → x ≢ a / 4294967296 → x ≢ b % 4294967296 → Tells 4
  word_four e f g = (x, l, sym (second_no e f ∙ ap (λ (c : Bool). cond c 3 4) (ne_eqb x (b % 4294967296) g)))

-- ---- what its checker writes

-- a text from a place on goes up to its `<`
text_span : (s raw rest cs : List ℕ) (i : ℕ) → drop i s ≡ raw ++ (less ∷ rest) → Spells raw cs → span is_inside (drop i s) ≡ length raw
unfolding span is_inside
text_span s raw rest cs i e sp = ap (span is_inside) e ∙ span_append is_inside raw (less ∷ rest) (inside_raw raw cs sp) ∙ omega arith

part_is : (s raw u : List ℕ) (i j : ℕ) → drop i s ≡ raw ++ u → j ≡ i + length raw → slice i j s ≡ raw
part_is s raw u i j e g = ap (λ (n : ℕ). slice i n s) g ∙ part_take i (length raw) s ∙ ap (take (length raw)) e ∙ take-append_seam raw u

-- neither a text nor a word: nothing but its own number is asked of it
high_given : (f : Leaf) → 7 ≤ code f → Given f 0 0 × LeafOk f
high_given ref h = absurd (omega arith)
high_given iban h = absurd (omega arith)
high_given ccy h = absurd (omega arith)
high_given bool h = (tt, tt)
high_given num h = (tt, tt)
high_given amt h = (tt, tt)
high_given date h = (tt, tt)
high_given dtm h = (tt, tt)
high_given (txt k) h = absurd (omega arith)
high_given (enum ws) h = absurd (omega arith)

module _ (f : Leaf) (kind : ℕ) (c : code f ≡ kind) (h : 7 ≤ kind) (cur raw vs : List ℕ) (tk : Took f cur raw vs) where
  its_put : (have s : List ℕ) (d : List ℕ) (to n : ℕ) (d' : List ℕ) → (kind ≡ 9 → cur ≡ have) → s ≡ raw → Written kind 0 have s d to n d' → Puts d to vs (to + n) d'
  its_put have s d to n d' m e p =
      let g = high_given f (subst (λ (j : ℕ). 7 ≤ j) (sym c) h) in
      let w = write_is f kind 0 c (λ z. omega arith) g.0 g.1 cur have m raw d to n d' (subst (λ (l : List ℕ). Written kind 0 have l d to n d') e p) tk.chars tk.value tk.spells tk.spelt in
      puts_as d to (bytes tk.value) vs (to + n) d' (sym tk.is) (puts_pasted d to (bytes tk.value) n d' w.0 w.1)

-- an amount's number, in one of its quotes, and a number that is none
pub coin_told : (kind : ℕ) → (eqb kind 9 || eqb kind 12) ≡ true → (q : Quote) × (kind ≡ coin_number q)
coin_told kind e = ⊎_elim (λ i. (double, eqb-true kind 9 i)) (λ i. (single_quote, eqb-true kind 12 i)) (or_is (eqb kind 9) (eqb kind 12) e)

pub no_coin_told : (kind : ℕ) → (eqb kind 9 || eqb kind 12) ≡ false → (kind ≢ 9) × (kind ≢ 12)
no_coin_told kind e = let n = or_not (eqb kind 9) (eqb kind 12) e in (eqb-false kind 9 n.0, eqb-false kind 12 n.1)

-- neither a text's number nor a word's
pub past_word : (kind : ℕ) → 6 ≤ kind → kind ≢ 6 → 7 ≤ kind
past_word kind h a = omega arith

module _ (t : List ℕ) (k kind : ℕ) (s : List ℕ) (at : ℕ) (d : List ℕ) (to n r e : ℕ) (d' : List ℕ) (er : r ≡ to + n) where
  -- without a currency
  pub other_laid : 7 ≤ kind → kind ≢ 9 → kind ≢ 12 → e ≡ at + span is_inside (drop at s) → (cur : List ℕ) → Written kind 0 cur (slice at e s) d to n d' → LeafLaid t k kind s at d to r e d'
  other_laid h a b ee cur p vs f w =
      let bb = bare t k kind s at vs f w (λ z. omega arith) a b in
      let sp = text_span s w.raw w.rest w.took.chars at bb.is w.took.spells in
      let g : e ≡ at + length w.raw = ee ∙ ap (λ (j : ℕ). at + j) sp in (
        g ∙ sym bb.end,
        subst (λ (j : ℕ). Puts d to vs j d') (sym er)
            (its_put w.leaf kind bb.its h w.currency w.raw vs w.took cur (slice at e s) d to n d' (λ z. absurd (a z)) (part_is s w.raw (less ∷ w.rest) at e bb.is g) p),
      )

  -- an amount, in these quotes
  pub coin_laid : (q : Quote) → kind ≡ coin_number q → e ≡ at + 5 + span is_inside (drop (at + 5) s) → Written 9 0 (slice at (at + 3) s) (slice (at + 5) e s) d to n d' → LeafLaid t k kind s at d to r e d'
  coin_laid q c ee p vs f w = go (which t k kind s at vs f w)
    where
      go : Numbered kind w.leaf w.quote → (e ≡ f) × Puts d to vs r d'
      go (word ws a b g) = absurd (omega (arith, coin_high q, a, c))
      go (plainly a b g h i) = absurd (coin_apart kind q c b g)
      go (coin y a b g) =
          let hd = subst (λ (o : Option Quote). Head o w.head w.currency) g w.heads in
          let three : length w.currency ≡ 3 = hd.1.three in
          let u : List ℕ = w.raw ++ (less ∷ w.rest) in
          let five : length w.head ≡ 5 = ap length hd.0 ∙ length-append w.currency (mark y ∷ greater ∷ []) ∙ omega (arith, three) in
          let cu : drop at s ≡ w.currency ++ ((mark y ∷ greater ∷ []) ++ u) = w.is ∙ ap (λ (l : List ℕ). l ++ u) hd.0 ∙ append_assoc w.currency (mark y ∷ greater ∷ []) u in
          let tx : drop (at + 5) s ≡ u = sym (drop-drop 5 at s) ∙ ap (drop 5) w.is ∙ ap (λ (j : ℕ). drop j (w.head ++ u)) (sym five) ∙ drop-append_seam w.head u in
          let sp = text_span s w.raw w.rest w.took.chars (at + 5) tx w.took.spells in
          let ge : e ≡ at + 5 + length w.raw = ee ∙ ap (λ (j : ℕ). at + 5 + j) sp in
          let ca : slice at (at + 3) s ≡ w.currency = part_is s w.currency ((mark y ∷ greater ∷ []) ++ u) at (at + 3) cu (ap (λ (j : ℕ). at + j) (sym three)) in (
            omega (arith, ge, w.end, five),
            subst (λ (j : ℕ). Puts d to vs j d') (sym er)
                (its_put w.leaf 9 (ap code b) (omega arith) w.currency w.raw vs w.took (slice at (at + 3) s) (slice (at + 5) e s) d to n d' (λ z. sym ca) (part_is s w.raw (less ∷ w.rest) (at + 5) e tx ge) p),
          )

-- ---- a day of ten bytes

pub wrote_four : (d : List ℕ) (to y m k n : ℕ) (d' : List ℕ) → Wrote d to (bytes (day y m k)) n d' → n ≡ 4
wrote_four d to y m k n d' w = w.count ∙ sym (day_long y m k)

any_currency : (w u t : List ℕ) (v : Value) → Form date w t v → Form date u t v
any_currency w u t v (dated r q) = dated r q

module _ (raw : List ℕ) (j : std.Option Judged) (y m k : ℕ) (f : FormedAny date raw j) (e : j ≡ Some (J.Day (record { year = y; month = m; day = k }))) where
  day_gives : (cur : List ℕ) → Gives 10 0 cur raw (bytes (day y m k))
  day_gives cur = go (f euro euro_is)
    where
      go : Formed date euro raw j → Gives 10 0 cur raw (bytes (day y m k))
      go (formless g n) = absurd (let z : Some (J.Day (record { year = y; month = m; day = k })) ≡ None = sym e ∙ g in let o : ◌≡◌ {A = ℕ} 0 1 = cc in omega arith)
      go (formed v g x) =
          let i : v ≡ day y m k = subst (λ (z : std.Option Judged). Means euro raw z v) e x in
          let t : Each Solid raw = (form_dense date euro raw v tt g).solid in
          some (day y m k)
          (record {
            leaf = date;
            number = refl;
            other = λ z. omega arith;
            given = tt;
            chars = raw;
            spells = raw_to raw (each_map Solid Tame solid_tame raw t);
            spelt = shaped_spelt date cur raw (day y m k) (record { left = raw; lost = record { lead = []; tail = []; blanks = (tt, tt); is = sym (append-nil raw) }; form = subst (Form date cur raw) i (any_currency euro cur raw v g) });
          }) tt refl

  pub day_laid : (s : List ℕ) (at d : ℕ) → get_or s d 0 ≡ 60 → raw ≡ take (d - at) (drop at s) → at ≤ d → d < length s → (o : List ℕ) (to n r : ℕ) (o' : List ℕ)
      → Wrote o to (bytes (day y m k)) n o' → r ≡ to + n → OtherLaid 10 s at at o to r d o'
  day_laid s at d z i a h o to n r o' w er = (
    (date_ends 0 s at d raw j (record { year = y; month = m; day = k }) (found_of d 4) f e refl z i a h).ends,
    (n, er, record { found = bytes (day y m k); gives = subst (λ (x : List ℕ). Gives 10 0 (slice at (at + 3) s) x (bytes (day y m k))) (sym part) (day_gives (slice at (at + 3) s)); count = w.count; is = w.is }),
  )
    where
      to_end : d ≡ at + (d - at)
      to_end = omega arith

      part : slice at d s ≡ raw
      part = ap (λ (x : ℕ). slice at x s) to_end ∙ part_take at (d - at) s ∙ sym i

-- of the kind with this number
pub day_done : (t : List ℕ) (k kind : ℕ) (s : List ℕ) (at : ℕ) (d : List ℕ) (to r e : ℕ) (d' : List ℕ) → kind ≡ 10 → OtherLaid 10 s at at d to r e d' → LeafLaid t k kind s at d to r e d'
day_done t k kind s at d to r e d' z w =
    subst (λ (i : ℕ). LeafLaid t k i s at d to r e d') (sym z)
    (other_laid t k 10 s at d to w.1.0 r e d' w.1.1 (omega arith) (λ y. omega arith) (λ y. omega arith) w.0 (slice at (at + 3) s) w.1.2)

-- ---- what the calls ask, and what they tell

module _ (t : List ℕ) (k kind : ℕ) (s : List ℕ) (at : ℕ) (d : List ℕ) (to : ℕ) (a : LeafAsked t k kind s at d to) where
  pub asked_at : at < length s
  asked_at =
      let w = a.leaf in
      omega (arith, length-drop at s, ap length w.is ∙ length-append w.head (w.raw ++ (less ∷ w.rest)), length-append w.raw (less ∷ w.rest))

  pub asked_to : to + 1 ≤ length d
  asked_to = omega (arith, a.room, bytes_some a.leaf.took.value, ap length a.leaf.took.is)

  pub word_done : kind ≡ 6 → (b : ℕ) → ((x : ℕ) × Loaded 4 s at x × (b ≡ word_in t k x)) → (d' : List ℕ) → d' ≡ pasted d to (b ∷ []) → LeafLaid t k kind s at d to (to + 1) (at + 4) d'
  word_done e b y d' p =
      subst (λ (n : ℕ). LeafLaid t k n s at d to (to + 1) (at + 4) d') (sym e)
      (word_laid t k s at y.0 y.1 d to d' (p ∙ ap (λ (n : ℕ). pasted d to (n ∷ [])) y.2))
