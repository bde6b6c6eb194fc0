-- What a caller has of the promises: the value that a leaf's raw text spells is what is written. Assumes nothing.
use mathlib.Core.Path.{◌≡◌, refl, sym, ◌∙◌, ap, subst}
use mathlib.Core.Bool.{Bool, true, false}
use mathlib.Core.List.{List, [], ◌∷◌}
use mathlib.Core.Logic.{◌≢◌}
use Prim.Native.Nat.{ℕ, ◌≤◌, ◌<◌}
use native.Mathlib.Omega.{arith}
use lib.Dec.{eqb}
use lib.ListN.{length, length-append}
use borrow.Author.Tests.{eqb-true, eqb-false}
use Rattle.text.specs.Numbers.{big_endian}
use Rattle.text_characters.specs.Utf8.{encode_all}
use Rattle.text.specs.Pasting.{pasted}
use Rattle.text_characters.specs.Pieces.{Spells}
use Rattle.text.proofs.Pasting.{pasted_none}
use Rattle.list.specs.Listing.{Leaf}
use Rattle.list.specs.WellFormed.{LeafOk}
use Rattle.value.specs.types.Code.{Ccy}
use Rattle.value.specs.Kind.{code, Given}
use Rattle.value.specs.Value.{Value, text, place, truth, natural, amount, day, moment, IsValue, Spelt, bytes}
use Rattle.value.proofs.raw.Encoding.{encoded_most}
use Rattle.value.proofs.types.Values.{value_laws}
use Rattle.value.specs.given.Giving.{Counted, Told, Gives, some, none, Long, Sized, Written}
use Rattle.value.proofs.given.Putting.{day_long, natural_long, moment_long, text_long}
use Rattle.value.proofs.given.Unique.{leaf_one, spelt_any, spelt_turned, euro, euro_is, told_one, gives_one}

-- ---- a value of a good leaf has bytes

text_few : (cs : List ℕ) → length cs ≤ 140 → Counted (text cs)
text_few cs h = omega (arith, encoded_most cs)

value_counted : (l : Leaf) (v : Value) → LeafOk l → IsValue l v → Counted v
value_counted l v ok (IsValue.reference {cs} r) = text_few cs (omega (arith, r.chars.most))
value_counted l v ok (IsValue.writing {k} {cs} r) = text_few cs (omega (arith, r.most, ok.1))
value_counted l v ok (IsValue.account {cs} r) = text_few cs (omega (arith, r.lengths.1))
value_counted l v ok (IsValue.currency {cs} r) = text_few cs (omega (arith, r.three))
value_counted l v ok (IsValue.listed h j) = tt
value_counted l v ok IsValue.either = tt
value_counted l v ok (IsValue.count h) = tt
value_counted l v ok (IsValue.money c b) = tt
value_counted l v ok (IsValue.dated r) = tt
value_counted l v ok (IsValue.timed r) = tt

-- every value has bytes
pub bytes_some : (v : Value) → 0 < length (bytes v)
bytes_some (text cs) = omega (arith, text_long (length (encode_all cs)) cs refl)
bytes_some (place n) = omega arith
bytes_some (truth b) = omega arith
bytes_some (natural n) = omega (arith, natural_long n)
bytes_some (amount w k c) = omega (arith, length-append w (k ∷ big_endian 8 c))
bytes_some (day y m d) = omega (arith, day_long y m d)
bytes_some (moment y mo d h mi s u z) = omega (arith, moment_long y mo d h mi s u z)

-- the raw text s of a leaf l spells a value that has n bytes
pub record Valued (l : Leaf) (w s : List ℕ) (n : ℕ) : Type 0 where
  pub chars : List ℕ
  pub value : Value
  pub spells : Spells s chars
  pub spelt : Spelt l w chars value
  pub count : n ≡ length (bytes value)

-- ---- a leaf l of this kind; w is the currency where l is AMT, anything where it is not

module _ (l : Leaf) (kind k : ℕ) (e : code l ≡ kind) (o : kind ≢ 6) (g : Given l k 0) (ok : LeafOk l) (w cur : List ℕ) (same : kind ≡ 9 → w ≡ cur) (s : List ℕ) where
  told : (cs : List ℕ) (v : Value) → Spells s cs → Spelt l w cs v → Told kind k cur s v
  told cs v sp st = record { leaf = l; number = e; other = o; given = g; chars = cs; spells = sp; spelt = spelt_turned l w cur cs v (λ q. same (sym e ∙ q)) st }

  untold : (v : Value) → Told kind k cur s v → Valued l w s (length (bytes v))
  untold v t =
      let q : t.leaf ≡ l = leaf_one kind k t.leaf l o t.number t.given e g in
      let st : Spelt l cur t.chars v = subst (λ (m : Leaf). Spelt m cur t.chars v) q t.spelt in
      record { chars = t.chars; value = v; spells = t.spells; spelt = spelt_turned l cur w t.chars v (λ z. sym (same (sym e ∙ z))) st; count = refl }

  -- the value's bytes are given
  pub given_is : (cs : List ℕ) (v : Value) → Spells s cs → Spelt l w cs v → (bs : List ℕ) → Gives kind k cur s bs → bs ≡ bytes v
  given_is cs v sp st bs (some x t n q) = q ∙ ap bytes (told_one kind k cur s x v t (told cs v sp st))
  given_is cs v sp st bs (none f q) = absurd (f v (told cs v sp st) (value_counted l v ok (value_laws.is l w cs v st)))

  -- none where there is no value
  pub given_none : ((cs : List ℕ) (v : Value) → Spells s cs → Spelt l w cs v → ⊥) → (bs : List ℕ) → Gives kind k cur s bs → bs ≡ []
  given_none f bs (some x t n q) = absurd (let u = untold x t in f u.chars u.value u.spells u.spelt)
  given_none f bs (none h q) = q

  -- and bytes are given of a value alone
  pub given_some : (bs : List ℕ) → Gives kind k cur s bs → 0 < length bs → Valued l w s (length bs)
  given_some bs (some x t n q) h = subst (λ (u : List ℕ). Valued l w s (length u)) (sym q) (untold x t)
  given_some bs (none f q) h = absurd (omega (arith, ap length q))

  -- ---- `write`

  module _ (d : List ℕ) (at r : ℕ) (d' : List ℕ) (p : Written kind k cur s d at r d') where
    pub write_is : (cs : List ℕ) (v : Value) → Spells s cs → Spelt l w cs v → (r ≡ length (bytes v)) × (d' ≡ pasted d at (bytes v))
    write_is cs v sp st =
        let q : p.found ≡ bytes v = given_is cs v sp st p.found p.gives in
        (p.count ∙ ap length q, p.is ∙ ap (pasted d at) q)

    pub write_none : ((cs : List ℕ) (v : Value) → Spells s cs → Spelt l w cs v → ⊥) → (r ≡ 0) × (d' ≡ d)
    write_none f =
        let q : p.found ≡ [] = given_none f p.found p.gives in
        (p.count ∙ ap length q, p.is ∙ ap (pasted d at) q ∙ pasted_none d at)

-- ---- `size`, with any currency

module _ (l : Leaf) (kind k : ℕ) (e : code l ≡ kind) (o : kind ≢ 6) (g : Given l k 0) (ok : LeafOk l) (w : List ℕ) (cw : Ccy w) (s : List ℕ) (r : ℕ) (p : Sized kind k s r) where
  pub size_is : (cs : List ℕ) (v : Value) → Spells s cs → Spelt l w cs v → r ≡ length (bytes v)
  size_is cs v sp st =
      let x = p w cw in x.count ∙ ap length (given_is l kind k e o g ok w w (λ z. refl) s cs v sp st x.found x.gives)

  pub size_none : ((cs : List ℕ) (v : Value) → Spells s cs → Spelt l w cs v → ⊥) → r ≡ 0
  size_none f = let x = p w cw in x.count ∙ ap length (given_none l kind k e o g ok w w (λ z. refl) s f x.found x.gives)

  -- an answer is 0 for what spells no value, and for nothing else
  pub size_zero : r ≡ 0 → (cs : List ℕ) (v : Value) → Spells s cs → Spelt l w cs v → ⊥
  size_zero z cs v sp st = omega (arith, bytes_some v, size_is cs v sp st)

  pub size_some : 0 < r → Valued l w s r
  size_some h =
      let x = p w cw in
      subst (Valued l w s) (sym x.count) (given_some l kind k e o g ok w w (λ z. refl) s x.found x.gives (omega (arith, x.count)))

-- ---- the size is that of what is written

module _ (kind k : ℕ) (s : List ℕ) where
  retold : (w u : List ℕ) (v : Value) → kind ≢ 9 → Told kind k w s v → Told kind k u s v
  retold w u v o t = record { leaf = t.leaf; number = t.number; other = t.other; given = t.given; chars = t.chars; spells = t.spells; spelt = spelt_any t.leaf w u t.chars v (λ z. o (sym t.number ∙ z)) t.spelt }

  regiven : (w u bs : List ℕ) → kind ≢ 9 → Gives kind k w s bs → Gives kind k u s bs
  regiven w u bs o (some v t n e) = some v (retold w u v o t) n e
  regiven w u bs o (none f e) = none (λ v t n. f v (retold u w v o t) n) e

  pub size_written : (cur d : List ℕ) (at r q : ℕ) (d' : List ℕ) → (kind ≡ 9 → Ccy cur) → Sized kind k s r → Written kind k cur s d at q d' → r ≡ q
  size_written cur d at r q d' c p x = go (eqb kind 9) refl
    where
      of : (y : Long kind k cur s r) → r ≡ q
      of y = y.count ∙ ap length (gives_one kind k cur s y.found x.found y.gives x.gives) ∙ sym x.count

      go : (b : Bool) → eqb kind 9 ≡ b → r ≡ q
      go true e = of (p cur (c (eqb-true kind 9 e)))
      go false e =
          let y = p euro euro_is in
          of (record { found = y.found; gives = regiven euro cur y.found (eqb-false kind 9 e) y.gives; count = y.count })
