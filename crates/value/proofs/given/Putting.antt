-- A value's parts put one after the other, and how many bytes they have. Assumes nothing.
use mathlib.Core.Path.{◌≡◌, refl, sym, ◌∙◌, ap, ap₂, subst}
use mathlib.Core.Bool.{Bool, true, false, not, true≢false}
use mathlib.Core.List.{List, [], ◌∷◌, ◌++◌, append_assoc}
use mathlib.Core.Logic.{◌≢◌}
use Prim.Native.Nat.{ℕ, ◌+◌, ◌-◌, ◌≤◌, ◌<◌}
use native.Mathlib.Omega.{arith}
use native.Mathlib.Decide.{dec_le}
use lib.Dec.{leb}
use lib.ListN.{length, set, length-append}
use borrow.Author.Tests.{leb-true, le-leb, lt-leb, not-true, not-false}
use Rattle.text.specs.Numbers.{big_endian}
use Rattle.text.specs.Pasting.{pasted}
use Rattle.text_characters.specs.Pieces.{Spells}
use Rattle.text_characters.specs.Utf8.{encode_all}
use Rattle.text.proofs.Numbers.{big_length}
use Rattle.text.proofs.Pasting.{pasted_no, pasted_one, pasted_none, pasted_then, length_pasted}
use Rattle.text_characters.proofs.Spelling.{one_text}
use Rattle.value.specs.types.Code.{Ccy}
use Rattle.value.specs.Judged.{Exactly, moment_value}
use Rattle.value.specs.Value.{text, truth, natural, amount, day, moment, bytes}
use Rattle.value.specs.declared.judged.Moment as M
use Rattle.value.specs.mirror.Runs.{Roomy, CharsPut}
use Rattle.value.specs.given.Wrote.{Wrote, AmountPut, rich, poor}
use Rattle.value.specs.mirror.Puts.{Counts, text_size, text_bytes, TextPut}

-- ---- one byte, and room

pub placed : (d : List ℕ) (at x : ℕ) → at < length d → set d at x ≡ pasted d at (x ∷ [])
placed d at x h = sym (pasted_one d at x h)

pub unplaced : (d : List ℕ) (at x : ℕ) → length d ≤ at → d ≡ pasted d at (x ∷ [])
unplaced d at x h = sym (pasted_no d at (x ∷ []) (omega arith))

-- n more from `at` on end within len
pub room_is : (len at n : ℕ) → at ≤ len → Exactly (leb n (len - at)) (at + n ≤ len)
room_is len at n h = (λ e. let k = leb-true n (len - at) e in omega arith, λ k. le-leb n (len - at) (omega arith))

pub room_past : (len at n : ℕ) → len < at → Exactly false (at + n ≤ len)
room_past len at n h = (λ e. absurd (true≢false (sym e)), λ k. absurd (omega arith))

pub fits : {P : Type 0} (b : Bool) → Exactly b P → not b ≡ false → P
fits b x f = x.0 (not-false b f)

pub no_room : (d : List ℕ) (at n : ℕ) (b : Bool) → Exactly b (at + n ≤ length d) → (bs : List ℕ) → n ≡ length bs → not b ≡ true → Wrote d at bs n d
no_room d at n b x bs e g =
    let h : at + n ≤ length d → ⊥ = λ k. true≢false (sym (x.1 k) ∙ not-true b g) in
    record { count = e; is = sym (pasted_no d at bs (omega arith)) }

-- ---- one list after the other

pub then : (d d₁ d₂ : List ℕ) (at p : ℕ) (u v : List ℕ) → d₁ ≡ pasted d at u → d₂ ≡ pasted d₁ p v → p ≡ at + length u
    → at + (length u + length v) ≤ length d → d₂ ≡ pasted d at (u ++ v)
then d d₁ d₂ at p u v e f q h = f ∙ ap₂ (λ (l : List ℕ) (n : ℕ). pasted l n v) e q ∙ pasted_then d at u v h

pub kept : (d d₁ : List ℕ) (at : ℕ) (u : List ℕ) → d₁ ≡ pasted d at u → length d₁ ≡ length d
kept d d₁ at u e = ap length e ∙ length_pasted d at u

-- ---- how many bytes each has

pub day_long : (y m d : ℕ) → 4 ≡ length (bytes (day y m d))
day_long y m d = omega (arith, length-append (big_endian 2 y) (m ∷ d ∷ []), big_length 2 y)

pub natural_long : (n : ℕ) → 8 ≡ length (bytes (natural n))
natural_long n = sym (big_length 8 n)

pub amount_long : (w : List ℕ) (k c : ℕ) → length w ≡ 3 → 12 ≡ length (bytes (amount w k c))
amount_long w k c h = omega (arith, length-append w (k ∷ big_endian 8 c), big_length 8 c)

pub moment_long : (y mo d h mi s u z : ℕ) → 13 ≡ length (bytes (moment y mo d h mi s u z))
moment_long y mo d h mi s u z =
    omega
    (arith, length-append (big_endian 2 y) (mo ∷ d ∷ h ∷ mi ∷ s ∷ (big_endian 4 u ++ big_endian 2 z)), length-append (big_endian 4 u) (big_endian 2 z), big_length 2 y, big_length 4 u, big_length 2 z)

pub parts_long : (m : M.Moment) → 13 ≡ length (bytes (moment_value m))
parts_long m = moment_long m.year m.month m.day m.hour m.minute m.second m.micros m.offset

pub text_long : (n : ℕ) (cs : List ℕ) → n ≡ length (encode_all cs) → 2 + n ≡ length (bytes (text cs))
text_long n cs e =
    omega (arith, length-append (big_endian 2 (length (encode_all cs))) (encode_all cs), big_length 2 (length (encode_all cs)))

-- ---- the parts of each

pub natural_put : (d : List ℕ) (at n : ℕ) (d₁ : List ℕ) → d₁ ≡ pasted d at (big_endian 8 n) → Wrote d at (bytes (natural n)) 8 d₁
natural_put d at n d₁ e = record { count = natural_long n; is = e }

pub truth_put : (d : List ℕ) (at x : ℕ) (b : Bool) (d₁ : List ℕ) → (x ∷ []) ≡ bytes (truth b) → d₁ ≡ pasted d at (x ∷ [])
    → Wrote d at (bytes (truth b)) 1 d₁
truth_put d at x b d₁ e f = record { count = ap length e; is = f ∙ ap (pasted d at) e }

module _ (d : List ℕ) (at : ℕ) where
  pub day_put : (y m e : ℕ) (d₁ d₂ d₃ : List ℕ) → at + 4 ≤ length d → d₁ ≡ pasted d at (big_endian 2 y) → d₂ ≡ pasted d₁ (at + 2) (m ∷ [])
      → d₃ ≡ pasted d₂ (at + 3) (e ∷ []) → Wrote d at (bytes (day y m e)) 4 d₃
  day_put y m e d₁ d₂ d₃ h a b c =
      let l = big_length 2 y in
      let k = kept d d₁ at (big_endian 2 y) a in
      record {
        count = day_long y m e;
        is = then d d₁ d₃ at (at + 2) (big_endian 2 y) (m ∷ e ∷ []) a (then d₁ d₂ d₃ (at + 2) (at + 3) (m ∷ []) (e ∷ []) b c (omega arith) (omega arith)) (omega arith) (omega arith);
      }

  pub clock_put : (h mi s : ℕ) (d₁ d₂ d₃ : List ℕ) → at + 3 ≤ length d → d₁ ≡ pasted d at (h ∷ []) → d₂ ≡ pasted d₁ (at + 1) (mi ∷ [])
      → d₃ ≡ pasted d₂ (at + 2) (s ∷ []) → d₃ ≡ pasted d at (h ∷ mi ∷ s ∷ [])
  clock_put h mi s d₁ d₂ d₃ r a b c =
      let k = kept d d₁ at (h ∷ []) a in
      then d d₁ d₃ at (at + 1) (h ∷ []) (mi ∷ s ∷ []) a (then d₁ d₂ d₃ (at + 1) (at + 2) (mi ∷ []) (s ∷ []) b c (omega arith) (omega arith)) (omega arith) (omega arith)

  pub day_no_room : (y m e : ℕ) (b : Bool) → Exactly b (at + 4 ≤ length d) → not b ≡ true → Wrote d at (bytes (day y m e)) 4 d
  day_no_room y m e b x f = no_room d at 4 b x (bytes (day y m e)) (day_long y m e) f

  pub moment_no_room : (m : M.Moment) (b : Bool) → Exactly b (at + 13 ≤ length d) → not b ≡ true → Wrote d at (bytes (moment_value m)) 13 d
  moment_no_room m b x f = no_room d at 13 b x (bytes (moment_value m)) (parts_long m) f

  pub moment_put : (x : M.Moment) (r : ℕ) (d₁ d₂ d₃ d₄ : List ℕ) → at + 13 ≤ length d → Wrote d at (bytes (day x.year x.month x.day)) r d₁
      → d₂ ≡ pasted d₁ (at + 4) (x.hour ∷ x.minute ∷ x.second ∷ []) → d₃ ≡ pasted d₂ (at + 7) (big_endian 4 x.micros) → d₄ ≡ pasted d₃ (at + 11) (big_endian 2 x.offset)
      → Wrote d at (bytes (moment_value x)) 13 d₄
  moment_put x r d₁ d₂ d₃ d₄ room a b c f =
      let l = big_length 4 x.micros in
      let m = big_length 2 x.offset in
      let n = day_long x.year x.month x.day in
      let p = length-append (big_endian 4 x.micros) (big_endian 2 x.offset) in
      let k = kept d d₁ at (bytes (day x.year x.month x.day)) a.is in
      let j = kept d₁ d₂ (at + 4) (x.hour ∷ x.minute ∷ x.second ∷ []) b in
      let q : d₄ ≡ pasted d₂ (at + 7) (big_endian 4 x.micros ++ big_endian 2 x.offset) =
      then d₂ d₃ d₄ (at + 7) (at + 11) (big_endian 4 x.micros) (big_endian 2 x.offset) c f (omega arith) (omega arith) in
      let o : d₄ ≡ pasted d₁ (at + 4) (x.hour ∷ x.minute ∷ x.second ∷ (big_endian 4 x.micros ++ big_endian 2 x.offset)) =
      then d₁ d₂ d₄ (at + 4) (at + 7) (x.hour ∷ x.minute ∷ x.second ∷ []) (big_endian 4 x.micros ++ big_endian 2 x.offset) b q (omega arith) (omega arith) in
      record {
        count = parts_long x;
        is =
            then d d₁ d₄ at (at + 4) (bytes (day x.year x.month x.day)) (x.hour ∷ x.minute ∷ x.second ∷ (big_endian 4 x.micros ++ big_endian 2 x.offset)) a.is o (omega arith) (omega arith)
            ∙ ap (pasted d at) (append_assoc (big_endian 2 x.year) (x.month ∷ x.day ∷ []) (x.hour ∷ x.minute ∷ x.second ∷ (big_endian 4 x.micros ++ big_endian 2 x.offset)));
      }

  pub amount_put : (w : List ℕ) (k c : ℕ) (d₁ d₂ d₃ : List ℕ) → Ccy w → at + 12 ≤ length d → d₁ ≡ pasted d at w → d₂ ≡ pasted d₁ (at + 3) (k ∷ [])
      → d₃ ≡ pasted d₂ (at + 4) (big_endian 8 c) → AmountPut w k c d at 12 d₃
  amount_put w k c d₁ d₂ d₃ g h a b f =
      let l = big_length 8 c in
      let t = g.three in
      let j = kept d d₁ at w a in
      rich g
      (record {
        count = amount_long w k c t;
        is = then d d₁ d₃ at (at + 3) w (k ∷ big_endian 8 c) a (then d₁ d₂ d₃ (at + 3) (at + 4) (k ∷ []) (big_endian 8 c) b f (omega arith) (omega arith)) (omega arith) (omega arith);
      })

  pub amount_no_room : (w : List ℕ) (k c : ℕ) → Ccy w → (b : Bool) → Exactly b (at + 12 ≤ length d) → not b ≡ true → AmountPut w k c d at 12 d
  amount_no_room w k c g b x f = rich g (no_room d at 12 b x (bytes (amount w k c)) (amount_long w k c g.three) f)

  pub amount_none : (w : List ℕ) (k c : ℕ) → (Ccy w → ⊥) → AmountPut w k c d at 0 d
  amount_none w k c f = poor f (record { count = refl; is = sym (pasted_none d at) })

-- ---- texts

pub size_long : (n : ℕ) → 65535 < n → 0 ≡ text_size n
unfolding text_size
size_long n h = rw (lt-leb n 65535 h)

pub size_short : (n : ℕ) → n ≤ 65535 → 2 + n ≡ text_size n
unfolding text_size
size_short n h = rw (le-leb n 65535 h)

pub text_fits : (n m : ℕ) → m ≡ text_size n → m ≢ 0 → n ≤ 65535
text_fits n m e z = go (dec_le n 65535)
  where
    go : Dec (n ≤ 65535) → n ≤ 65535
    go (yes h) = h
    go (no h) = absurd (z (e ∙ sym (size_long n (omega arith))))

pub bytes_long : (n : ℕ) (cs : List ℕ) → 65535 < n → text_bytes n cs ≡ []
unfolding text_bytes
bytes_long n cs h = rw (lt-leb n 65535 h)

pub bytes_short : (n : ℕ) (cs : List ℕ) → n ≤ 65535 → text_bytes n cs ≡ bytes (text cs)
unfolding text_bytes
bytes_short n cs h = rw (le-leb n 65535 h)

module _ (t : List ℕ) (n : ℕ) (d : List ℕ) (at : ℕ) (w : Counts t n) (m : ℕ) (e : m ≡ text_size n) where
  counted : (cs : List ℕ) → Spells t cs → n ≡ length (encode_all cs)
  counted cs sp = w.count ∙ ap (λ (l : List ℕ). length (encode_all l)) (one_text t w.chars cs w.spells sp)

  over : m ≡ 0 → n ≤ 65535 → ⊥
  over z h = let q = size_short n h in omega arith

  pub text_none : m ≡ 0 → TextPut t n d at 0 d
  text_none z cs sp =
      let f = over z in
      subst (λ (bs : List ℕ). Wrote d at bs 0 d) (sym (bytes_long n cs (omega arith))) (record { count = refl; is = sym (pasted_none d at) })

  module _ (z : m ≢ 0) where
    fitting : n ≤ 65535
    fitting = text_fits n m e z

    two_more : m ≡ 2 + n
    two_more = e ∙ sym (size_short n fitting)

    short : (cs : List ℕ) → text_bytes n cs ≡ bytes (text cs)
    short cs = bytes_short n cs fitting

    pub text_no_room : (b : Bool) → Exactly b (at + m ≤ length d) → not b ≡ true → TextPut t n d at m d
    text_no_room b x g cs sp =
        subst (λ (bs : List ℕ). Wrote d at bs m d) (sym (short cs))
        (no_room d at m b x (bytes (text cs)) (two_more ∙ text_long n cs (counted cs sp)) g)

    module _ (d₁ : List ℕ) (r : at + m ≤ length d) (a : d₁ ≡ pasted d at (big_endian 2 n)) (p : List ℕ) (q : p ≡ t) where
      pub text_room : Roomy p d₁ (at + 2)
      text_room = record { chars = w.chars; spells = subst (λ (l : List ℕ). Spells l w.chars) (sym q) w.spells; room = omega (arith, kept d d₁ at (big_endian 2 n) a, w.count, two_more) }

      pub text_put : (d₂ : List ℕ) → CharsPut p d₁ (at + 2) d₂ → TextPut t n d at m d₂
      text_put d₂ f cs sp =
          let h = counted cs sp in
          let l = big_length 2 n in
          let k = two_more in
          subst (λ (bs : List ℕ). Wrote d at bs m d₂) (sym (short cs))
          (record {
            count = k ∙ text_long n cs h;
            is =
                then d d₁ d₂ at (at + 2) (big_endian 2 n) (encode_all cs) a (f cs (subst (λ (u : List ℕ). Spells u cs) (sym q) sp)) (omega arith) (omega arith)
                ∙ ap (λ (x : ℕ). pasted d at (big_endian 2 x ++ encode_all cs)) h;
          })
