-- What the judgement of a raw text says of the bytes that it gives. Assumes nothing.
use mathlib.Core.Path.{◌≡◌, refl, sym, ◌∙◌, ap, subst}
use mathlib.Core.Bool.{Bool, true, false, true≢false}
use mathlib.Core.List.{List, [], ◌∷◌}
use mathlib.Core.Logic.{◌≢◌, ◌⊎◌, inl, inr}
use Prim.Native.Nat.{ℕ, ◌≤◌, ◌<◌}
use native.Mathlib.Omega.{arith}
use native.Mathlib.Decide.{dec_le}
use lib.Dec.{eqb}
use lib.ListN.{length}
use borrow.Author.Tests.{eqb-true, eqb-false}
use Rattle.text.specs.Lists.{Each}
use Rattle.text_characters.specs.Utf8.{encode_all}
use Rattle.text.specs.Pasting.{pasted}
use Rattle.text_characters.specs.Pieces.{Spells}
use Rattle.text.proofs.Pasting.{pasted_none}
use Rattle.text_characters.proofs.Spelling.{one_text}
use Rattle.list.specs.Listing.{Leaf, ref, iban, ccy, bool, num, amt, date, dtm, txt, enum}
use Rattle.value.specs.types.Code.{Ccy}
use Rattle.value.specs.Kind.{code, Given}
use Rattle.value.specs.Judged.{Means, Right, Checked, day_value, moment_value}
use Rattle.value.specs.Value.{Value, text, truth, natural, amount, bytes}
use Rattle.std.specs.Prelude.{Option, Some, None, is_some}
use Rattle.value.specs.declared.judged.Judged.{Judged}
use Rattle.value.specs.declared.judged.Day as D
use Rattle.value.specs.declared.judged.Moment as M
use Rattle.value.specs.declared.judged.Judged.TheVariants as J
use Rattle.value.specs.given.Giving.{Counted, Told, Gives, some, none, Long, Sized, Written}
use Rattle.value.specs.given.Wrote.{Wrote, AmountPut, rich, poor}
use Rattle.value.specs.mirror.Puts.{Counts, text_size, text_bytes, TextPut}
use Rattle.value.proofs.given.Putting.{amount_long, text_long, size_long, size_short, bytes_long, bytes_short}
use Rattle.value.proofs.given.Unique.{is_amount, amount_code, other_code, spelt_any, spelt_money, euro, euro_is, told_one}

-- ---- whether a number is that of a kind but ENUM

record Known (kind k : ℕ) : Type 0 where
  leaf : Leaf
  number : code leaf ≡ kind
  other : kind ≢ 6
  given : Given leaf k 0

abbrev leaves : ℕ → List Leaf
leaves k = ref ∷ txt k ∷ iban ∷ ccy ∷ bool ∷ num ∷ amt ∷ date ∷ dtm ∷ []

module _ (kind k : ℕ) where
  search_in : (ls : List Leaf) → Each (λ (l : Leaf). (code l ≢ 6) × Given l k 0) ls → Known kind k ⊎ Each (λ (l : Leaf). code l ≢ kind) ls
  search_in [] g = inr tt
  search_in (l ∷ ls) g = go (eqb (code l) kind) refl (search_in ls g.1)
    where
      go : (b : Bool) → eqb (code l) kind ≡ b → Known kind k ⊎ Each (λ (m : Leaf). code m ≢ kind) ls
          → Known kind k ⊎ Each (λ (m : Leaf). code m ≢ kind) (l ∷ ls)
      go true e r =
          let q = eqb-true (code l) kind e in
          inl (record { leaf = l; number = q; other = λ z. g.0.0 (q ∙ z); given = g.0.1 })
      go false e (inl w) = inl w
      go false e (inr w) = inr (eqb-false (code l) kind e, w)

  none_in : Each (λ (l : Leaf). code l ≢ kind) (leaves k) → (l : Leaf) → code l ≡ kind → kind ≢ 6 → ⊥
  none_in w ref e o = w.0 e
  none_in w (txt m) e o = w.1.0 e
  none_in w iban e o = w.1.1.0 e
  none_in w ccy e o = w.1.1.1.0 e
  none_in w (enum ws) e o = o (sym e)
  none_in w bool e o = w.1.1.1.1.0 e
  none_in w num e o = w.1.1.1.1.1.0 e
  none_in w amt e o = w.1.1.1.1.1.1.0 e
  none_in w date e o = w.1.1.1.1.1.1.1.0 e
  none_in w dtm e o = w.1.1.1.1.1.1.1.1.0 e

  known : Known kind k ⊎ ((l : Leaf) → code l ≡ kind → kind ≢ 6 → ⊥)
  known =
      go
      (search_in (leaves k)
      ((omega arith, tt), ((omega arith, refl), ((omega arith, tt), ((omega arith, tt), ((omega arith, tt), ((omega arith, tt), ((omega arith, tt), ((omega arith, tt), ((omega arith, tt), tt))))))))))
    where
      go : Known kind k ⊎ Each (λ (l : Leaf). code l ≢ kind) (leaves k) → Known kind k ⊎ ((l : Leaf) → code l ≡ kind → kind ≢ 6 → ⊥)
      go (inl w) = inl w
      go (inr w) = inr (none_in w)

-- ---- what was judged to be a value is one

record Seen (kind k : ℕ) (w s : List ℕ) (r : Option Judged) : Type 0 where
  value : Value
  told : Told kind k w s value
  means : Means w told.chars r value

module _ (kind k : ℕ) (s : List ℕ) (r : Option Judged) (c : Checked kind k s r) where
  seen : is_some r ≡ true → (w : List ℕ) → Ccy w → Seen kind k w s r
  seen ne w cw = go (known kind k)
    where
      of : (n : Known kind k) → Right n.leaf w s r → Seen kind k w s r
      of n (Right.accepted cs v sp st m) = record { value = v; told = record { leaf = n.leaf; number = n.number; other = n.other; given = n.given; chars = cs; spells = sp; spelt = st }; means = m }
      of n (Right.refused e f) = absurd (true≢false (sym ne ∙ ap is_some e))

      go : Known kind k ⊎ ((l : Leaf) → code l ≡ kind → kind ≢ 6 → ⊥) → Seen kind k w s r
      go (inl n) = of n (c.known n.leaf n.number n.other n.given w cw)
      go (inr f) = absurd (true≢false (sym ne ∙ ap is_some (c.unknown f)))

  retold : (w u : List ℕ) (v : Value) → is_amount v ≡ false → Told kind k w s v → Told kind k u s v
  retold w u v a t = record { leaf = t.leaf; number = t.number; other = t.other; given = t.given; chars = t.chars; spells = t.spells; spelt = spelt_any t.leaf w u t.chars v (other_code t.leaf w t.chars v t.spelt a) t.spelt }

  -- a value that is neither text nor amount
  pub gives_of : is_some r ≡ true → (v : Value) → is_amount v ≡ false → Counted v → ((w cs : List ℕ) (x : Value) → Means w cs r x → x ≡ v)
      → (cur : List ℕ) → Gives kind k cur s (bytes v)
  gives_of ne v a n f cur =
      let x = seen ne euro euro_is in
      some v (retold euro cur v a (subst (Told kind k euro s) (f euro x.told.chars x.value x.means) x.told)) n refl

module _ (kind k : ℕ) (s : List ℕ) where
  no_value : Checked kind k s None → (w : List ℕ) → Ccy w → (v : Value) → Told kind k w s v → ⊥
  no_value c w cw v t = go (c.known t.leaf t.number t.other t.given w cw)
    where
      go : Right t.leaf w s None → ⊥
      go (Right.accepted cs x sp st m) = m
      go (Right.refused e f) = f t.chars v t.spells t.spelt

  pub gives_none : (r : Option Judged) → Checked kind k s r → r ≡ None → (cur : List ℕ) → Gives kind k cur s []
  gives_none r c e cur = none (λ v t n. go v t (is_amount v) refl) refl
    where
      q : Checked kind k s None
      q = subst (Checked kind k s) e c

      go : (v : Value) → Told kind k cur s v → (b : Bool) → is_amount v ≡ b → ⊥
      go v t true a = no_value q cur (spelt_money t.leaf cur t.chars v (amount_code t.leaf cur t.chars v t.spelt a) t.spelt) v t
      go v t false a = no_value q euro euro_is v (retold kind k s None q cur euro v a t)

  -- a text
  module _ (n : ℕ) (r : Option Judged) (c : Checked kind k s r) (e : r ≡ Some (J.Text n)) where
    see : Seen kind k euro s (Some (J.Text n))
    see = seen kind k s (Some (J.Text n)) (subst (Checked kind k s) e c) refl euro euro_is

    pub counts_of : Counts s n
    counts_of = record { chars = see.told.chars; spells = see.told.spells; count = see.means.1 }

    text_told : (cur cs : List ℕ) → Spells s cs → Told kind k cur s (text cs)
    text_told cur cs sp =
        let f : see.told.chars ≡ cs = one_text s see.told.chars cs see.told.spells sp in
        retold kind k s r c euro cur (text cs) refl (subst (Told kind k euro s) (see.means.0 ∙ ap text f) see.told)

    text_count : (cs : List ℕ) → Spells s cs → n ≡ length (encode_all cs)
    text_count cs sp = see.means.1 ∙ ap (λ (l : List ℕ). length (encode_all l)) (one_text s see.told.chars cs see.told.spells sp)

    text_short : n ≤ 65535 → (cur cs : List ℕ) → Spells s cs → Gives kind k cur s (bytes (text cs))
    text_short h cur cs sp = some (text cs) (text_told cur cs sp) (omega (arith, text_count cs sp)) refl

    text_over : 65535 < n → (cur : List ℕ) → Gives kind k cur s []
    text_over h cur =
        none
        (λ v t m.
        let cs = see.told.chars in
        let sp = see.told.spells in
        let q : v ≡ text cs = told_one kind k cur s v (text cs) t (text_told cur cs sp) in
        let z : length (encode_all cs) ≤ 65535 = subst Counted q m in
        omega (arith, text_count cs sp)) refl

    pub text_sized : (m : ℕ) → m ≡ text_size n → Sized kind k s m
    text_sized m f w cw = go (dec_le n 65535)
      where
        go : Dec (n ≤ 65535) → Long kind k w s m
        go (yes h) =
            let cs = see.told.chars in
            record { found = bytes (text cs); gives = text_short h w cs see.told.spells; count = f ∙ sym (size_short n h) ∙ text_long n cs see.means.1 }
        go (no h) = record { found = []; gives = text_over (omega arith) w; count = f ∙ sym (size_long n (omega arith)) }

    pub text_written : (cur d : List ℕ) (at q : ℕ) (d' : List ℕ) → TextPut s n d at q d' → Written kind k cur s d at q d'
    text_written cur d at q d' p = go (dec_le n 65535)
      where
        cs : List ℕ
        cs = see.told.chars

        x : Wrote d at (text_bytes n cs) q d'
        x = p cs see.told.spells

        go : Dec (n ≤ 65535) → Written kind k cur s d at q d'
        go (yes h) =
            let y = bytes_short n cs h in
            record { found = bytes (text cs); gives = text_short h cur cs see.told.spells; count = x.count ∙ ap length y; is = x.is ∙ ap (pasted d at) y }
        go (no h) =
            let y = bytes_long n cs (omega arith) in
            record { found = []; gives = text_over (omega arith) cur; count = x.count ∙ ap length y; is = x.is ∙ ap (pasted d at) y }

  -- an amount
  module _ (coefficient scale : ℕ) (r : Option Judged) (c : Checked kind k s r) (e : r ≡ Some (J.Amount coefficient scale)) where
    money : (w : List ℕ) → Ccy w → Told kind k w s (amount w scale coefficient)
    money w cw =
        let x = seen kind k s (Some (J.Amount coefficient scale)) (subst (Checked kind k s) e c) refl w cw in
        subst (Told kind k w s) x.means x.told

    amount_rich : (cur : List ℕ) → Ccy cur → Gives kind k cur s (bytes (amount cur scale coefficient))
    amount_rich cur g = some (amount cur scale coefficient) (money cur g) tt refl

    amount_poor : (cur : List ℕ) → (Ccy cur → ⊥) → Gives kind k cur s []
    amount_poor cur f =
        none
        (λ v t m.
        let x = money euro euro_is in
        let q : code x.leaf ≡ 9 = amount_code x.leaf euro x.chars (amount euro scale coefficient) x.spelt refl in
        f (spelt_money t.leaf cur t.chars v (t.number ∙ sym x.number ∙ q) t.spelt)) refl

    pub amount_sized : Sized kind k s 12
    amount_sized w cw = record { found = bytes (amount w scale coefficient); gives = amount_rich w cw; count = amount_long w scale coefficient cw.three }

    pub amount_written : (cur d : List ℕ) (at q : ℕ) (d' : List ℕ) → AmountPut cur scale coefficient d at q d' → Written kind k cur s d at q d'
    amount_written cur d at q d' (rich g x) = record { found = bytes (amount cur scale coefficient); gives = amount_rich cur g; count = x.count; is = x.is }
    amount_written cur d at q d' (poor f x) = record { found = []; gives = amount_poor cur f; count = x.count; is = x.is }

  -- the others
  module _ (r : Option Judged) (c : Checked kind k s r) where
    of_value : (x : Option Judged) → r ≡ x → is_some x ≡ true → (v : Value) → is_amount v ≡ false → Counted v → ((w cs : List ℕ) (y : Value) → Means w cs x y → y ≡ v)
        → (cur : List ℕ) → Gives kind k cur s (bytes v)
    of_value x e = gives_of kind k s x (subst (Checked kind k s) e c)

    pub truth_gives : (b : Bool) → r ≡ Some (J.Truth b) → (cur : List ℕ) → Gives kind k cur s (bytes (truth b))
    truth_gives b e = of_value (Some (J.Truth b)) e refl (truth b) refl tt (λ w cs y m. m)

    pub natural_gives : (n : ℕ) → r ≡ Some (J.Natural n) → (cur : List ℕ) → Gives kind k cur s (bytes (natural n))
    natural_gives n e = of_value (Some (J.Natural n)) e refl (natural n) refl tt (λ w cs y m. m)

    pub day_gives : (d : D.Day) → r ≡ Some (J.Day d) → (cur : List ℕ) → Gives kind k cur s (bytes (day_value d))
    day_gives d e = of_value (Some (J.Day d)) e refl (day_value d) refl tt (λ w cs x q. q)

    pub moment_gives : (m : M.Moment) → r ≡ Some (J.Moment m) → (cur : List ℕ) → Gives kind k cur s (bytes (moment_value m))
    moment_gives m e = of_value (Some (J.Moment m)) e refl (moment_value m) refl tt (λ w cs x q. q)

  pub sized : (bs : List ℕ) (r : ℕ) → ((cur : List ℕ) → Gives kind k cur s bs) → r ≡ length bs → Sized kind k s r
  sized bs r g e w cw = record { found = bs; gives = g w; count = e }

  pub written : (bs cur d : List ℕ) (at r : ℕ) (d' : List ℕ) → Gives kind k cur s bs → Wrote d at bs r d' → Written kind k cur s d at r d'
  written bs cur d at r d' g x = record { found = bs; gives = g; count = x.count; is = x.is }

  pub unwritten : (cur d : List ℕ) (at : ℕ) → Gives kind k cur s [] → Written kind k cur s d at 0 d
  unwritten cur d at g = record { found = []; gives = g; count = refl; is = sym (pasted_none d at) }
