-- A raw text gives one list of bytes, so no second answer fits a promise. Assumes nothing.
use mathlib.Core.Path.{◌≡◌, refl, sym, ◌∙◌, ap, subst, subst₂}
use mathlib.Core.Bool.{Bool, true, false}
use mathlib.Core.List.{List, [], ◌∷◌}
use mathlib.Core.Logic.{◌≢◌}
use Prim.Native.Nat.{ℕ}
use native.Mathlib.Omega.{arith}
use lib.Dec.{eqb}
use lib.ListN.{length}
use borrow.Author.Tests.{eqb-true, eqb-false}
use Rattle.text.specs.Bytes.{is_capital}
use Rattle.text.specs.Pasting.{pasted}
use Rattle.text_characters.proofs.Spelling.{one_text}
use Rattle.list.specs.Listing.{Leaf, ref, iban, ccy, bool, num, amt, date, dtm, txt, enum}
use Rattle.value.specs.types.Code.{Ccy}
use Rattle.value.specs.Kind.{code, Given}
use Rattle.value.specs.Value.{Value, text, place, truth, natural, amount, day, moment, IsValue, Wording, Spelt, bytes}
use Rattle.value.proofs.types.Numbered.{leaf_of}
use Rattle.value.proofs.types.Values.{value_laws}
use Rattle.value.specs.given.Giving.{Told, Gives, some, none, Sized, Written}

-- ---- a kind but ENUM has one leaf

only_leaf : (l : Leaf) (k : ℕ) → code l ≢ 6 → Given l k 0 → l ≡ leaf_of (code l) k []
only_leaf ref k o g = refl
only_leaf (txt m) k o g = ap txt (sym g)
only_leaf iban k o g = refl
only_leaf ccy k o g = refl
only_leaf (enum ws) k o g = absurd (o refl)
only_leaf bool k o g = refl
only_leaf num k o g = refl
only_leaf amt k o g = refl
only_leaf date k o g = refl
only_leaf dtm k o g = refl

pub leaf_one : (kind k : ℕ) (l m : Leaf) → kind ≢ 6 → code l ≡ kind → Given l k 0 → code m ≡ kind → Given m k 0 → l ≡ m
leaf_one kind k l m o e g f h =
    only_leaf l k (λ z. o (sym e ∙ z)) g ∙ ap (λ (n : ℕ). leaf_of n k []) (e ∙ sym f) ∙ sym (only_leaf m k (λ z. o (sym f ∙ z)) h)

-- ---- the currency is AMT's alone

abbrev pub is_amount : Value → Bool
is_amount (text cs) = false
is_amount (place n) = false
is_amount (truth b) = false
is_amount (natural n) = false
is_amount (amount w k c) = true
is_amount (day y m d) = false
is_amount (moment y mo d h mi s u z) = false

value_amount : (l : Leaf) (v : Value) → IsValue l v → is_amount v ≡ eqb (code l) 9
value_amount l v (IsValue.reference r) = refl
value_amount l v (IsValue.writing r) = refl
value_amount l v (IsValue.account r) = refl
value_amount l v (IsValue.currency r) = refl
value_amount l v (IsValue.listed a b) = refl
value_amount l v IsValue.either = refl
value_amount l v (IsValue.count h) = refl
value_amount l v (IsValue.money c b) = refl
value_amount l v (IsValue.dated r) = refl
value_amount l v (IsValue.timed p) = refl

pub amount_code : (l : Leaf) (w cs : List ℕ) (v : Value) → Spelt l w cs v → is_amount v ≡ true → code l ≡ 9
amount_code l w cs v s e = eqb-true (code l) 9 (sym (value_amount l v s.is) ∙ e)

pub other_code : (l : Leaf) (w cs : List ℕ) (v : Value) → Spelt l w cs v → is_amount v ≡ false → code l ≢ 9
other_code l w cs v s e = eqb-false (code l) 9 (sym (value_amount l v s.is) ∙ e)

worded_any : (l : Leaf) (w u cs : List ℕ) (v : Value) → code l ≢ 9 → IsValue l v → Wording l w cs v → Wording l u cs v
worded_any l w u cs v o (IsValue.reference r) e = e
worded_any l w u cs v o (IsValue.writing r) e = e
worded_any l w u cs v o (IsValue.account r) e = e
worded_any l w u cs v o (IsValue.currency r) e = e
worded_any l w u cs v o (IsValue.listed a b) e = e
worded_any l w u cs v o IsValue.either e = e
worded_any l w u cs v o (IsValue.count h) e = e
worded_any l w u cs v o (IsValue.money c b) e = absurd (o refl)
worded_any l w u cs v o (IsValue.dated r) e = e
worded_any l w u cs v o (IsValue.timed p) e = e

pub spelt_any : (l : Leaf) (w u cs : List ℕ) (v : Value) → code l ≢ 9 → Spelt l w cs v → Spelt l u cs v
spelt_any l w u cs v o s = record { is = s.is; wording = worded_any l w u cs v o s.is s.wording }

pub spelt_turned : (l : Leaf) (w u cs : List ℕ) (v : Value) → (code l ≡ 9 → w ≡ u) → Spelt l w cs v → Spelt l u cs v
spelt_turned l w u cs v f s = go (eqb (code l) 9) refl
  where
    go : (b : Bool) → eqb (code l) 9 ≡ b → Spelt l u cs v
    go true e = subst (λ (x : List ℕ). Spelt l x cs v) (f (eqb-true (code l) 9 e)) s
    go false e = spelt_any l w u cs v (eqb-false (code l) 9 e) s

worded_money : (l : Leaf) (w cs : List ℕ) (v : Value) → code l ≡ 9 → IsValue l v → Wording l w cs v → Ccy w
worded_money l w cs v q (IsValue.reference r) e = absurd (omega arith)
worded_money l w cs v q (IsValue.writing r) e = absurd (omega arith)
worded_money l w cs v q (IsValue.account r) e = absurd (omega arith)
worded_money l w cs v q (IsValue.currency r) e = absurd (omega arith)
worded_money l w cs v q (IsValue.listed a b) e = absurd (omega arith)
worded_money l w cs v q IsValue.either e = absurd (omega arith)
worded_money l w cs v q (IsValue.count h) e = absurd (omega arith)
worded_money l w cs v q (IsValue.money c b) e = subst Ccy (sym e.0) c
worded_money l w cs v q (IsValue.dated r) e = absurd (omega arith)
worded_money l w cs v q (IsValue.timed p) e = absurd (omega arith)

pub spelt_money : (l : Leaf) (w cs : List ℕ) (v : Value) → code l ≡ 9 → Spelt l w cs v → Ccy w
spelt_money l w cs v e s = worded_money l w cs v e s.is s.wording

abbrev pub euro : List ℕ
euro = 69 ∷ 85 ∷ 82 ∷ []

pub euro_is : Ccy euro
unfolding is_capital
euro_is = record { three = refl; capitals = (refl, (refl, (refl, tt))) }

-- ---- at most one value

txt_is : (m : ℕ) (w cs : List ℕ) (v : Value) → IsValue (txt m) v → Wording (txt m) w cs v → v ≡ text cs
txt_is m w cs v (IsValue.writing r) e = ap text (sym e)

spelt_one : (l : Leaf) (w cs : List ℕ) (v v' : Value) → code l ≢ 6 → Spelt l w cs v → Spelt l w cs v' → v ≡ v'
spelt_one ref w cs v v' o = value_laws.one ref w cs v v' tt
spelt_one (txt m) w cs v v' o = λ a b. txt_is m w cs v a.is a.wording ∙ sym (txt_is m w cs v' b.is b.wording)
spelt_one iban w cs v v' o = value_laws.one iban w cs v v' tt
spelt_one ccy w cs v v' o = value_laws.one ccy w cs v v' tt
spelt_one (enum ws) w cs v v' o = absurd (o refl)
spelt_one bool w cs v v' o = value_laws.one bool w cs v v' tt
spelt_one num w cs v v' o = value_laws.one num w cs v v' tt
spelt_one amt w cs v v' o = value_laws.one amt w cs v v' tt
spelt_one date w cs v v' o = value_laws.one date w cs v v' tt
spelt_one dtm w cs v v' o = value_laws.one dtm w cs v v' tt

pub told_one : (kind k : ℕ) (cur s : List ℕ) (v v' : Value) → Told kind k cur s v → Told kind k cur s v' → v ≡ v'
told_one kind k cur s v v' a b =
    let e : a.leaf ≡ b.leaf = leaf_one kind k a.leaf b.leaf a.other a.number a.given b.number b.given in
    let f : a.chars ≡ b.chars = one_text s a.chars b.chars a.spells b.spells in
    spelt_one b.leaf cur b.chars v v' (λ z. b.other (sym b.number ∙ z))
    (subst₂ (λ (l : Leaf) (cs : List ℕ). Spelt l cur cs v) e f a.spelt) b.spelt

-- ---- so no second answer fits

pub gives_one : (kind k : ℕ) (cur s a b : List ℕ) → Gives kind k cur s a → Gives kind k cur s b → a ≡ b
gives_one kind k cur s a b (some v t n e) (some w u m f) = e ∙ ap bytes (told_one kind k cur s v w t u) ∙ sym f
gives_one kind k cur s a b (some v t n e) (none g f) = absurd (g v t n)
gives_one kind k cur s a b (none g e) (some w u m f) = absurd (g w u m)
gives_one kind k cur s a b (none g e) (none h f) = e ∙ sym f

pub written_one : (kind k : ℕ) (cur s d : List ℕ) (at r q : ℕ) (d' e' : List ℕ) → Written kind k cur s d at r d' → Written kind k cur s d at q e'
    → (r ≡ q) × (d' ≡ e')
written_one kind k cur s d at r q d' e' a b =
    let g : a.found ≡ b.found = gives_one kind k cur s a.found b.found a.gives b.gives in
    (a.count ∙ ap length g ∙ sym b.count, a.is ∙ ap (pasted d at) g ∙ sym b.is)

pub size_one : (kind k : ℕ) (s : List ℕ) (r q : ℕ) → Sized kind k s r → Sized kind k s q → r ≡ q
size_one kind k s r q f g =
    let a = f euro euro_is in
    let b = g euro euro_is in
    a.count ∙ ap length (gives_one kind k euro s a.found b.found a.gives b.gives) ∙ sym b.count
