-- What is written for the bytes of a value is the value's text. Assumes nothing.
use mathlib.Core.Path.{◌≡◌, refl, sym, ◌∙◌, ap, ap₂}
use mathlib.Core.Bool.{Bool, true, false, not}
use mathlib.Core.Logic.{◌≢◌}
use mathlib.Core.List.{List, [], ◌∷◌, ◌++◌, append_assoc, append-nil}
use Prim.Native.Nat.{ℕ, ◌+◌, ◌-◌, ◌/◌, ◌%◌, ◌^◌, ◌≤◌, ◌<◌}
use native.Mathlib.Omega.{arith}
use native.Mathlib.Decide.{ℕ_discrete, dec_lt}
use lib.Dec.{eqb, ltb}
use lib.ListN.{length, get_or, take, drop, get_or-eq_default}
use lib.Seq.{take_at, drop_at, drop-drop, get_or-drop}
use borrow.Author.Tests.{ne_eqb, eqb-true, ltb-false}
use Rattle.text.specs.Bytes.{ascii}
use Rattle.text.specs.Lists.{Each}
use Rattle.text.specs.Digits.{in_digits, padded, pointed}
use Rattle.text.specs.Numbers.{big_endian, number}
use Rattle.text.specs.Pasting.{pasted}
use Rattle.text.specs.Puts.{Puts}
use Rattle.text.proofs.Classes as classes
use Rattle.text.proofs.Numbers.{number_big, big_length}
use Rattle.text.proofs.Puts.{puts_pasted, puts_as}
use Rattle.text_characters.specs.Utf8.{encode, encode_all}
use Rattle.text_characters.specs.Pieces.{amp, lt, gt, word, spell}
use Rattle.text_characters.proofs.Decoding.{encode1, by_length}
use Rattle.list.specs.Listing.{Leaf, bool, num, amt, date, dtm, enum, Kind, group, choice, leaf}
use Rattle.list.specs.tables.Table.{cell, words_in, kinds, kind_of}
use Rattle.list.specs.WellFormed.{LeafOk}
use Rattle.value.specs.Kind.{code}
use Rattle.value.specs.types.Code.{Ccy}
use Rattle.value.specs.types.Day.{Real, pair, day_text}
use Rattle.value.specs.types.Moment.{Parts, clock_text}
use Rattle.value.specs.parts.Former.{Fraction, no_fraction, decimals, fraction_text, zone_text}
use Rattle.value.specs.Value.{Value, text, place, truth, natural, amount, day, moment, IsValue, bytes}
use Rattle.value.proofs.classes.Classes.{Solid}
use Rattle.value.proofs.dates.Dates.{month_most}
use Rattle.value.proofs.raw.Encoding.{encoded_most}
use Rattle.value.proofs.raw.Firm.{Firm, ccy_dense}
use Rattle.value.specs.mirror.Stored.{truth_text, fraction_of, zone_of}
use Rattle.value.specs.script.Script.{script_of}
use Rattle.value.specs.script.Raw.{piece_of, raw_of, is_marked, escape, escaped}
use Rattle.value.specs.mirror.Stored.{text_raw, word_raw, three_raw, places_raw, fraction_raw, offset_raw, zone_raw, day_in, clock_in, moment_in, raw_text, raw_at}
use Rattle.value.proofs.dates.Texts.{all_of}
use Rattle.value.proofs.script.Moments.{script_moment}
use Rattle.value.proofs.script.Scripts.{script_dense}
use Rattle.value.proofs.script.Escaping.{marked, escape_amp, escape_lt, escape_gt, escape_plain}

-- ---- characters and their bytes

plain : (x : ℕ) → x ≢ 38 → x ≢ 60 → x ≢ 62 → is_marked x ≡ false
plain x a b c = sym (classes.no marked ((a, b), c))

high : (x : ℕ) → 63 ≤ x → is_marked x ≡ false
high x h = plain x (λ e. omega arith) (λ e. omega arith) (λ e. omega arith)

plain_front : (a r : List ℕ) → Each (λ x. is_marked x ≡ false) a → escaped (a ++ r) ≡ a ++ escaped r
unfolding escaped
plain_front [] r h = refl
plain_front (x ∷ a) r h = ap₂ (λ (u v : List ℕ). u ++ v) (escape_plain x h.0) (plain_front a r h.1)

plain_char : (c : ℕ) → c ≢ 38 → c ≢ 60 → c ≢ 62 → Each (λ x. is_marked x ≡ false) (encode c)
plain_char c m n o =
    by_length (Each (λ x. is_marked x ≡ false)) c (λ h. (plain c m n o, tt))
    (λ h k. (high (0xC0 + c / 64) (omega arith), (high (0x80 + c % 64) (omega arith), tt)))
    (λ h k. (high (0xE0 + c / 4096) (omega arith), (high (0x80 + c / 64 % 64) (omega arith), (high (0x80 + c % 64) (omega arith), tt))))
    (λ h. (high (0xF0 + c / 262144) (omega arith), (high (0x80 + c / 4096 % 64) (omega arith), (high (0x80 + c / 64 % 64) (omega arith), (high (0x80 + c % 64) (omega arith), tt)))))

-- a character that is marked is one byte
one_mark : (c : ℕ) (r w : List ℕ) → c < 128 → escape c ≡ w → escaped (encode c ++ r) ≡ w ++ escaped r
unfolding escaped
one_mark c r w h e = ap (λ (l : List ℕ). escaped (l ++ r)) (encode1 c h) ∙ ap (λ (l : List ℕ). l ++ escaped r) e

first_raw : (c : ℕ) (r : List ℕ) → escaped (encode c ++ r) ≡ spell (piece_of c) ++ escaped r
first_raw c r = go (ℕ_discrete c 38) (ℕ_discrete c 60) (ℕ_discrete c 62)
  where
    go : Dec (c ≡ 38) → Dec (c ≡ 60) → Dec (c ≡ 62) → escaped (encode c ++ r) ≡ spell (piece_of c) ++ escaped r
    go (yes e) k l = one_mark c r (word amp) (omega arith) (escape_amp c e) ∙ ap (λ (x : ℕ). spell (piece_of x) ++ escaped r) (sym e)
    go (no m) (yes e) l = one_mark c r (word lt) (omega arith) (escape_lt c e) ∙ ap (λ (x : ℕ). spell (piece_of x) ++ escaped r) (sym e)
    go (no m) (no n) (yes e) = one_mark c r (word gt) (omega arith) (escape_gt c e) ∙ ap (λ (x : ℕ). spell (piece_of x) ++ escaped r) (sym e)
    go (no m) (no n) (no o) = plain_front (encode c) r (plain_char c m n o) ∙ rw (ne_eqb c 38 m, ne_eqb c 60 n, ne_eqb c 62 o) refl

-- the bytes of characters, three of them by entities, are what is written for the characters
pub escaped_raw : (cs : List ℕ) → escaped (encode_all cs) ≡ raw_of cs
unfolding escaped
escaped_raw [] = refl
escaped_raw (c ∷ cs) = first_raw c (encode_all cs) ∙ ap (λ (l : List ℕ). spell (piece_of c) ++ l) (escaped_raw cs)

-- characters that no entity stands for
solid_raw : (t : List ℕ) → Each Solid t → raw_of t ≡ t
solid_raw [] h = refl
solid_raw (x ∷ t) h =
    let s = h.0 in
    rw (ne_eqb x 38 (λ e. omega (arith, s.low)), ne_eqb x 60 s.less, ne_eqb x 62 s.greater, encode1 x (omega (arith, s.high)))
    (ap (λ (l : List ℕ). x ∷ l) (solid_raw t h.1))

firm_raw : (f : Leaf) (v : Value) → Firm f → IsValue f v → script_of f v ≡ raw_of (script_of f v)
firm_raw f v k i = sym (solid_raw (script_of f v) (script_dense f v k i).solid)

-- ---- numbers in digits, as the definitions write them

two : (n : ℕ) (t : List ℕ) → n < 100 → padded 2 n ++ t ≡ pair n t
unfolding padded
two n t h = let e : n / 10 % 10 ≡ n / 10 = omega arith in ap (λ (x : ℕ). (48 + x) ∷ (48 + n % 10) ∷ t) e

four : (n : ℕ) (t : List ℕ) → n < 10000 → padded 4 n ++ t ≡ pair (n / 100) (pair (n % 100) t)
unfolding padded
four n t h =
    let a : n / 10 / 10 / 10 % 10 ≡ n / 100 / 10 = omega arith in
    let b : n / 10 / 10 % 10 ≡ n / 100 % 10 = omega arith in
    let c : n / 10 % 10 ≡ n % 100 / 10 = omega arith in
    let d : n % 10 ≡ n % 100 % 10 = omega arith in
    rw (a, b, c, d) refl

-- ---- days and moments

-- their parts are in range
record Days (y m d : ℕ) : Type 0 where
  year : y < 10000
  month : m < 100
  day : d < 100

real_days : (y m d : ℕ) → Real y m d → Days y m d
real_days y m d r = record { year = omega (arith, r.year.1); month = omega (arith, r.month.1); day = omega (arith, r.day.1, month_most y m) }

three_day : (y m d : ℕ) (t : List ℕ) → Days y m d → three_raw 4 y (ascii "-") m d ++ t ≡ day_text y m d t
unfolding three_raw
three_day y m d t r =
    append_assoc (padded 4 y) (45 ∷ (padded 2 m ++ (45 ∷ padded 2 d))) t
    ∙ ap (λ (l : List ℕ). padded 4 y ++ (45 ∷ l)) (append_assoc (padded 2 m) (45 ∷ padded 2 d) t ∙ ap (λ (l : List ℕ). padded 2 m ++ (45 ∷ l)) (two d t r.day) ∙ two m (45 ∷ pair d t) r.month)
    ∙ four y (45 ∷ pair m (45 ∷ pair d t)) r.year

three_clock : (h m s : ℕ) (t : List ℕ) → h < 100 → m < 100 → s < 100 → three_raw 2 h (ascii ":") m s ++ t ≡ clock_text h m s t
unfolding three_raw
three_clock h m s t a b c =
    append_assoc (padded 2 h) (58 ∷ (padded 2 m ++ (58 ∷ padded 2 s))) t
    ∙ ap (λ (l : List ℕ). padded 2 h ++ (58 ∷ l)) (append_assoc (padded 2 m) (58 ∷ padded 2 s) t ∙ ap (λ (l : List ℕ). padded 2 m ++ (58 ∷ l)) (two s t c) ∙ two m (58 ∷ pair s t) b)
    ∙ two h (58 ∷ pair m (58 ∷ pair s t)) a

places_raw_lem : (x : Fraction) (t : List ℕ) → places_raw x ++ t ≡ fraction_text x t
places_raw_lem no_fraction t = refl
places_raw_lem (decimals k n) t = ap (λ (l : List ℕ). 46 ∷ l) (all_of k n t)

fraction_raw_lem : (u : ℕ) (t : List ℕ) → fraction_raw u ++ t ≡ fraction_text (fraction_of u) t
unfolding fraction_raw
fraction_raw_lem u t = places_raw_lem (fraction_of u) t

offset_raw_lem : (x m : ℕ) (t : List ℕ) → m ≤ 840 → offset_raw (x ∷ []) m ++ t ≡ x ∷ pair (m / 60) (58 ∷ pair (m % 60) t)
unfolding offset_raw
offset_raw_lem x m t h =
    ap (λ (l : List ℕ). x ∷ l) (append_assoc (padded 2 (m / 60)) (58 ∷ padded 2 (m % 60)) t
    ∙ ap (λ (l : List ℕ). padded 2 (m / 60) ++ (58 ∷ l)) (two (m % 60) t (omega arith)) ∙ two (m / 60) (58 ∷ pair (m % 60) t) (omega arith))

zone_raw_lem : (z : ℕ) (t : List ℕ) → z ≤ 1680 → zone_raw z ++ t ≡ zone_text (zone_of z) t
unfolding zone_raw
zone_raw_lem z t h = go (eqb z 840) (ltb z 840) refl refl
  where
    go : (a b : Bool) → eqb z 840 ≡ a → ltb z 840 ≡ b → zone_raw z ++ t ≡ zone_text (zone_of z) t
    go true b e f = rw (e) refl
    go false true e f = rw (e, f) (offset_raw_lem 45 (840 - z) t (omega arith))
    go false false e f = rw (e, f) (offset_raw_lem 43 (z - 840) t (omega (arith, ltb-false z 840 f)))

-- ---- the parts of a value's bytes, whatever follows

-- a text's length, and its bytes
text_raw_lem : (cs u : List ℕ) → length (encode_all cs) < 65536 → text_raw (bytes (text cs) ++ u) ≡ raw_of cs
unfolding text_raw
text_raw_lem cs u h =
    let n = length (encode_all cs) in
    let e : bytes (text cs) ++ u ≡ big_endian 2 n ++ (encode_all cs ++ u) = append_assoc (big_endian 2 n) (encode_all cs) u in
    let a : number (take 2 (bytes (text cs) ++ u)) ≡ n = ap (λ (l : List ℕ). number (take 2 l)) e ∙ ap number (take_at (big_endian 2 n) (encode_all cs ++ u) 2 (big_length 2 n)) ∙ number_big 2 n h in
    let b : drop 2 (bytes (text cs) ++ u) ≡ encode_all cs ++ u = ap (drop 2) e ∙ drop_at (big_endian 2 n) (encode_all cs ++ u) 2 (big_length 2 n) in
    ap₂ (λ (k : ℕ) (l : List ℕ). escaped (take k l)) a b ∙ ap escaped (take_at (encode_all cs) u n refl) ∙ escaped_raw cs

few : (cs : List ℕ) (k : ℕ) → length cs ≤ k → k ≤ 140 → length (encode_all cs) < 65536
few cs k h l = omega (arith, encoded_most cs)

number_raw : (n : ℕ) (u : List ℕ) → n < 10 ^ 18 → number (take 8 (big_endian 8 n ++ u)) ≡ n
number_raw n u h = ap number (take_at (big_endian 8 n) u 8 (big_length 8 n)) ∙ number_big 8 n (omega arith)

-- an amount: three letters, the scale, the coefficient
module _ (w : List ℕ) (k c : ℕ) (u : List ℕ) (z : Ccy w) where
  scale_at : drop 3 (bytes (amount w k c) ++ u) ≡ k ∷ (big_endian 8 c ++ u)
  scale_at = ap (drop 3) (append_assoc w (k ∷ big_endian 8 c) u) ∙ drop_at w (k ∷ (big_endian 8 c ++ u)) 3 z.three

  -- the currency, which the caller writes, stands at their beginning
  pub currency_first : take 3 (bytes (amount w k c) ++ u) ≡ w
  currency_first = ap (take 3) (append_assoc w (k ∷ big_endian 8 c) u) ∙ take_at w (k ∷ (big_endian 8 c ++ u)) 3 z.three

  amount_raw : c < 10 ^ 18 → pointed (get_or (bytes (amount w k c) ++ u) 3 0) (number (take 8 (drop 4 (bytes (amount w k c) ++ u)))) ≡ pointed k c
  amount_raw h =
      let b = bytes (amount w k c) ++ u in
      let p : get_or b 3 0 ≡ k = sym (get_or-drop 3 b 0 0) ∙ ap (λ (l : List ℕ). get_or l 0 0) scale_at in
      let q : drop 4 b ≡ big_endian 8 c ++ u = sym (drop-drop 1 3 b) ∙ ap (drop 1) scale_at in
      ap₂ pointed p (ap (λ (l : List ℕ). number (take 8 l)) q ∙ number_raw c u h)

day_raw : (y m d : ℕ) (u : List ℕ) → Days y m d → day_in (bytes (day y m d) ++ u) ≡ day_text y m d []
unfolding day_in big_endian
day_raw y m d u r =
    ap (λ (n : ℕ). three_raw 4 n (ascii "-") m d) (number_big 2 y (omega (arith, r.year)))
    ∙ sym (append-nil (three_raw 4 y (ascii "-") m d)) ∙ three_day y m d [] r

moment_raw : (y mo d h mi s u z : ℕ) (t : List ℕ) → Parts y mo d h mi s u z
    → moment_in (bytes (moment y mo d h mi s u z) ++ t) ≡ day_text y mo d (84 ∷ clock_text h mi s (fraction_text (fraction_of u) (zone_text (zone_of z) [])))
unfolding moment_in day_in clock_in big_endian
moment_raw y mo d h mi s u z t p =
    let r = real_days y mo d p.day in
    let a : number (big_endian 2 y) ≡ y = number_big 2 y (omega (arith, r.year)) in
    let b : number (big_endian 4 u) ≡ u = number_big 4 u (omega (arith, p.fraction)) in
    let e : number (big_endian 2 z) ≡ z = number_big 2 z (omega (arith, p.zone)) in
    let f : fraction_raw u ++ zone_raw z ≡ fraction_text (fraction_of u) (zone_text (zone_of z) []) =
    ap (λ (l : List ℕ). fraction_raw u ++ l) (sym (append-nil (zone_raw z)) ∙ zone_raw_lem z [] p.zone) ∙ fraction_raw_lem u (zone_text (zone_of z) []) in
    let g : three_raw 2 h (ascii ":") mi s ++ (fraction_raw u ++ zone_raw z) ≡ clock_text h mi s (fraction_text (fraction_of u) (zone_text (zone_of z) [])) =
    ap (λ (l : List ℕ). three_raw 2 h (ascii ":") mi s ++ l) f
    ∙ three_clock h mi s (fraction_text (fraction_of u) (zone_text (zone_of z) [])) (omega (arith, p.clock.0)) (omega (arith, p.clock.1)) (omega (arith, p.clock.2)) in
    ap₂ (λ (n : ℕ) (l : List ℕ). three_raw 4 n (ascii "-") mo d ++ (84 ∷ (three_raw 2 h (ascii ":") mi s ++ l))) a (ap₂ (λ (i j : ℕ). fraction_raw i ++ zone_raw j) b e)
    ∙ ap (λ (l : List ℕ). three_raw 4 y (ascii "-") mo d ++ (84 ∷ l)) g
    ∙ three_day y mo d (84 ∷ clock_text h mi s (fraction_text (fraction_of u) (zone_text (zone_of z) []))) r

-- ---- every kind: the number c in the column of kinds, k in that of TXTk, the words ws

abbrev code_of : Kind → ℕ
code_of group = 0
code_of choice = 1
code_of (leaf f) = code f

pub kind_number : (c k : ℕ) (ws : List (List ℕ)) (f : Leaf) → kind_of c k ws ≡ leaf f → code f ≡ c
kind_number c k ws f e = elim (dec_lt c 12) [
  | yes h ↦ sym (ap code_of e) ∙ eqb-true (code_of (kind_of c k ws)) c (classes.passes (λ x. eqb (code_of (kind_of x k ws)) x) 0 12 refl c (omega arith) (omega arith))
  | no h ↦ let l : 12 ≤ c = omega arith in let z : group ≡ leaf f = sym (get_or-eq_default (kinds k ws) group l) ∙ e in absurd (let y : ◌≡◌ {A = ℕ} 0 1 = cc in omega arith)
]

enum_words : (c k : ℕ) (ws vs : List (List ℕ)) → kind_of c k ws ≡ leaf (enum vs) → ws ≡ vs
enum_words c k ws vs e =
    let n = kind_number c k ws (enum vs) e in
    let q : leaf (enum ws) ≡ leaf (enum vs) = ap (λ (x : ℕ). kind_of x k ws) n ∙ e in cc

truth_raw : (b : Bool) (u : List ℕ) → truth_text (not (eqb (get_or (bytes (truth b) ++ u) 0 0) 0)) ≡ truth_text b
truth_raw true u = refl
truth_raw false u = refl

word_raw_lem : (ws : List (List ℕ)) (n : ℕ) (u : List ℕ) → 1 ≤ n → word_raw ws (bytes (place n) ++ u) ≡ get_or ws (n - 1) []
unfolding word_raw
word_raw_lem ws n u h = rw (ne_eqb n 0 (λ e. omega arith)) refl

-- what is written for the bytes of a value of type f, whatever follows them, is the value's text
module _ (c k : ℕ) (ws : List (List ℕ)) (u : List ℕ) where
  raw_of_lem : (f : Leaf) (v : Value) → kind_of c k ws ≡ leaf f → LeafOk f → IsValue f v → raw_text (code f) ws (bytes v ++ u) ≡ raw_of (script_of f v)
  unfolding raw_text
  raw_of_lem f v e ok (IsValue.reference {cs = cs} r) = text_raw_lem cs u (few cs 35 r.chars.most (omega arith))
  raw_of_lem f v e ok (IsValue.writing {k = m} {cs = cs} r) = text_raw_lem cs u (few cs m r.most ok.1)
  raw_of_lem f v e ok (IsValue.account {cs = cs} r) = text_raw_lem cs u (few cs 34 r.lengths.1 (omega arith))
  raw_of_lem f v e ok (IsValue.currency {cs = cs} r) = text_raw_lem cs u (few cs 3 (omega (arith, r.three)) (omega arith))
  raw_of_lem f v e ok (IsValue.listed {ws = vs} {n = n} a b) =
      word_raw_lem ws n u a ∙ ap (λ (l : List (List ℕ)). get_or l (n - 1) []) (enum_words c k ws vs e) ∙ firm_raw (enum vs) (place n) ok.1 (IsValue.listed a b)
  raw_of_lem f v e ok (IsValue.either {b = b}) = truth_raw b u ∙ firm_raw bool (truth b) tt IsValue.either
  raw_of_lem f v e ok (IsValue.count {n = n} h) = ap in_digits (number_raw n u h) ∙ firm_raw num (natural n) tt (IsValue.count h)
  raw_of_lem f v e ok (IsValue.money {w = w} {k = s} {c = m} z b) =
      amount_raw w s m u z b.coefficient ∙ firm_raw amt (amount w s m) tt (IsValue.money z b)
  raw_of_lem f v e ok (IsValue.dated {y = y} {m = m} {d = d} r) = day_raw y m d u (real_days y m d r) ∙ firm_raw date (day y m d) tt (IsValue.dated r)
  raw_of_lem f v e ok (IsValue.timed {y = y} {mo = mo} {d = d} {h = h} {mi = mi} {s = s} {u = n} {z = z} p) =
      moment_raw y mo d h mi s n z u p ∙ sym (script_moment y mo d h mi s n z) ∙ firm_raw dtm (moment y mo d h mi s n z) tt (IsValue.timed p)

  pub raw_value : (f : Leaf) (v : Value) → kind_of c k ws ≡ leaf f → LeafOk f → IsValue f v → raw_text c ws (bytes v ++ u) ≡ raw_of (script_of f v)
  raw_value f v e ok i = ap (λ (x : ℕ). raw_text x ws (bytes v ++ u)) (sym (kind_number c k ws f e)) ∙ raw_of_lem f v e ok i

-- so that is what `put` writes for the value that stands at place i of a run, at a leaf of row r
pub put_value : (t pool run : List ℕ) (r i : ℕ) (f : Leaf) (v : Value) (u d : List ℕ) (at n m : ℕ) (d' : List ℕ)
    → kind_of (cell t r 2) (cell t r 3) (words_in t pool r) ≡ leaf f → LeafOk f → IsValue f v → drop i run ≡ bytes v ++ u
    → (n ≡ length (raw_at t pool r run i)) × ((n ≤ m) × (d' ≡ pasted d at (raw_at t pool r run i)))
    → Puts d at (raw_of (script_of f v)) (at + n) d'
put_value t pool run r i f v u d at n m d' e ok is h w =
    let ws = words_in t pool r in
    let q : raw_at t pool r run i ≡ raw_of (script_of f v) = ap (raw_text (cell t r 2) ws) h ∙ raw_value (cell t r 2) (cell t r 3) ws u f v e ok is in
    puts_as d at (raw_at t pool r run i) (raw_of (script_of f v)) (at + n) d' q (puts_pasted d at (raw_at t pool r run i) n d' w.0 w.1.1)

-- a currency's letters are their own bytes, as they are written in the attribute
pub currency_bytes : (w : List ℕ) → Ccy w → encode_all w ≡ w
currency_bytes w z = own w (ccy_dense w z).solid
  where
    own : (t : List ℕ) → Each Solid t → encode_all t ≡ t
    own [] h = refl
    own (x ∷ t) h = ap₂ (λ (a b : List ℕ). a ++ b) (encode1 x (omega (arith, h.0.high))) (own t h.1)
