-- A piece by its bytes. Assumes nothing.
use mathlib.Core.Path.{◌≡◌, refl, sym, ◌∙◌, ap, ap₂}
use mathlib.Core.Logic.{◌≢◌}
use mathlib.Core.Bool.{Bool, true, false, cond, ◌||◌, true≢false}
use mathlib.Core.List.{List, [], ◌∷◌}
use Prim.Native.Nat.{ℕ, ◌+◌, ◌*◌, ◌-◌, ◌/◌, ◌%◌, ◌≤◌, ◌<◌}
use native.Mathlib.Omega.{arith}
use lib.Dec.{leb, ltb, eqb}
use borrow.Author.Tests.{lt-ltb, le-ltb, le-leb, ne_eqb, ltb-true, ltb-false, leb-true, eqb-true, eqb-false}
use Rattle.text.specs.Bytes.{ascii, in_range}
use Rattle.text_characters.proofs.Resolving.{XmlChar, tab, line, return, low, middle, high, xml_char_yes, xml_char_is}
use Rattle.text_characters.specs.Utf8.{encode}
use Rattle.text.proofs.Classes.{in_range_lem, in_range_is}
use Rattle.text_characters.proofs.Decoding.{encode1, encode2, encode3, encode4}
use Rattle.text_characters.specs.Pieces.{Entity, amp, lt, gt, quot, apos, word, Piece, char, entity, spell, GoodPiece}
use Rattle.xml.proofs.Runs.{cuts, brackets}
use Rattle.xml.specs.mirror.Auto.{Part, one, two, three, e0, ed, ef, efbf, f0, f4, ampersand, ampersand_a, Read, bad, all, more, to_word, long, lead, takes}

-- no ASCII character
abbrev pub Plain : Piece → Type 0
Plain (char c) = 128 ≤ c
Plain (entity e) = Unit {0}

-- after a test
by : {Q : Type 0} (b : Bool) {u v r : Read} → cond b u v ≡ r → (b ≡ true → u ≡ r → Q) → (b ≡ false → v ≡ r → Q) → Q
by true h f g = f refl h
by false h f g = g refl h

not_more : {Q : Type 0} {p : Part} → more p ≡ all → Q
not_more {p = p} e = let z : ◌≡◌ {A = ℕ} 0 1 = cc in absurd (omega arith)

not_bad : {Q : Type 0} → bad ≡ all → Q
not_bad e = let z : ◌≡◌ {A = ℕ} 0 1 = cc in absurd (omega arith)

bad_more : {Q : Type 0} {p : Part} → bad ≡ more p → Q
bad_more {p = p} e = let z : ◌≡◌ {A = ℕ} 0 1 = cc in absurd (omega arith)

all_more : {Q : Type 0} {p : Part} → all ≡ more p → Q
all_more {p = p} e = let z : ◌≡◌ {A = ℕ} 0 1 = cc in absurd (omega arith)

-- a byte that is a character by itself
pub record Short (x : ℕ) : Type 0 where
  pub good : GoodPiece (char x)
  pub is : encode x ≡ x ∷ []

ascii_char : (x : ℕ) → x < 128 → (leb 32 x || eqb x 9 || eqb x 10 || eqb x 13) ≡ true → XmlChar x
ascii_char x h e = go (leb 32 x) (eqb x 9) (eqb x 10) (eqb x 13) refl refl refl refl e
  where
    go : (u v w z : Bool) → leb 32 x ≡ u → eqb x 9 ≡ v → eqb x 10 ≡ w → eqb x 13 ≡ z → (u || v || w || z) ≡ true → XmlChar x
    go true v w z p q r s g = low (leb-true 32 x p) (omega arith)
    go false true w z p q r s g = tab (eqb-true x 9 q)
    go false false true z p q r s g = line (eqb-true x 10 r)
    go false false false true p q r s g = return (eqb-true x 13 s)
    go false false false false p q r s g = absurd (true≢false (sym g))

long_not_all : {Q : Type 0} (x : ℕ) → long x ≡ all → Q
long_not_all x e =
    by (ltb x 194) e (λ _ f. not_bad f)
    (λ _ e. by (ltb x 224) e (λ _ f. not_more f)
    (λ _ e. by (ltb x 225) e (λ _ f. not_more f)
    (λ _ e. by (ltb x 237) e (λ _ f. not_more f)
    (λ _ e. by (ltb x 238) e (λ _ f. not_more f)
    (λ _ e. by (ltb x 239) e (λ _ f. not_more f)
    (λ _ e. by (ltb x 240) e (λ _ f. not_more f)
    (λ _ e. by (ltb x 241) e (λ _ f. not_more f)
    (λ _ e. by (ltb x 244) e (λ _ f. not_more f)
    (λ _ e. by (ltb x 245) e (λ _ f. not_more f) (λ _ f. not_bad f))))))))))

pub short : (x : ℕ) → lead x ≡ all → Short x
unfolding lead
short x e =
    by (ltb x 128) e
    (λ h e. by (eqb x 38) e (λ _ f. not_more f)
    (λ n e. by (eqb x 60) e (λ _ f. not_bad f)
    (λ m e. by (leb 32 x || eqb x 9 || eqb x 10 || eqb x 13) e
    (λ k _. record { good = (xml_char_yes x (ascii_char x (ltb-true x 128 h) k), eqb-false x 60 m, eqb-false x 38 n); is = encode1 x (ltb-true x 128 h) })
    (λ _ f. not_bad f))))
    (λ _ e. long_not_all x e)

-- one, two and three bytes that a piece still wants, the first from a to b
record One (a b : ℕ) (l : List ℕ) : Type 0 where
  z : ℕ
  is : l ≡ z ∷ []
  from : a ≤ z
  to : z ≤ b

record Two (a b : ℕ) (l : List ℕ) : Type 0 where
  y : ℕ
  l' : List ℕ
  is : l ≡ y ∷ l'
  from : a ≤ y
  to : y ≤ b
  then : One 128 191 l'

record Three (a b : ℕ) (l : List ℕ) : Type 0 where
  x : ℕ
  l' : List ℕ
  is : l ≡ x ∷ l'
  from : a ≤ x
  to : x ≤ b
  then : Two 128 191 l'

takes_all : (l : List ℕ) → takes l all ≡ true → l ≡ []
takes_all [] h = refl
takes_all (y ∷ l) h = absurd (true≢false (sym h))

takes_bad : {Q : Type 0} (l : List ℕ) → takes l bad ≡ true → Q
takes_bad [] h = absurd (true≢false (sym h))
takes_bad (y ∷ l) h = absurd (true≢false (sym h))

-- after a test
taken : {Q : Type 0} (b : Bool) (u v : Read) (l : List ℕ) → takes l (cond b u v) ≡ true → (b ≡ true → takes l u ≡ true → Q) → (b ≡ false → takes l v ≡ true → Q) → Q
taken true u v l h f g = f refl h
taken false u v l h f g = g refl h

one_of : (a b y : ℕ) (l : List ℕ) → takes l (cond (in_range a b y) all bad) ≡ true → One a b (y ∷ l)
one_of a b y l h =
    taken (in_range a b y) all bad l h
    (λ e g. let w = in_range_is a b y e in record { z = y; is = ap (λ (m : List ℕ). y ∷ m) (takes_all l g); from = w.0; to = w.1 })
    (λ _ g. takes_bad l g)

last : (l : List ℕ) → takes l (more one) ≡ true → One 128 191 l
last [] h = absurd (true≢false (sym h))
last (y ∷ l) h = one_of 128 191 y l h

two_of : (a b y : ℕ) (l : List ℕ) → takes l (cond (in_range a b y) (more one) bad) ≡ true → Two a b (y ∷ l)
two_of a b y l h =
    taken (in_range a b y) (more one) bad l h
    (λ e g. let w = in_range_is a b y e in record { y = y; l' = l; is = refl; from = w.0; to = w.1; then = last l g })
    (λ _ g. takes_bad l g)

last_two : (l : List ℕ) → takes l (more two) ≡ true → Two 128 191 l
last_two [] h = absurd (true≢false (sym h))
last_two (y ∷ l) h = two_of 128 191 y l h

three_of : (a b y : ℕ) (l : List ℕ) → takes l (cond (in_range a b y) (more two) bad) ≡ true → Three a b (y ∷ l)
three_of a b y l h =
    taken (in_range a b y) (more two) bad l h
    (λ e g. let w = in_range_is a b y e in record { x = y; l' = l; is = refl; from = w.0; to = w.1; then = last_two l g })
    (λ _ g. takes_bad l g)

-- two-, three- and four-byte characters from their bytes
enc2 : (x y c : ℕ) → 194 ≤ x → x < 224 → 128 ≤ y → y ≤ 191 → c ≡ (x - 192) * 64 + (y - 128) → encode c ≡ x ∷ y ∷ []
unfolding encode
enc2 x y c a b d e f =
    let p : 0xC0 + c / 64 ≡ x = omega arith in
    let q : 0x80 + c % 64 ≡ y = omega arith in
    rw (le-ltb c 0x80 (omega arith), lt-ltb c 0x800 (omega arith), p, q)

enc3 : (x y z c : ℕ) → 224 ≤ x → x < 240 → 128 ≤ y → y ≤ 191 → 128 ≤ z → z ≤ 191 → c ≡ (x - 224) * 4096 + (y - 128) * 64 + (z - 128) → 2048 ≤ c → encode c ≡ x ∷ y ∷ z ∷ []
unfolding encode
enc3 x y z c a b d e f g h k =
    let p : 0xE0 + c / 4096 ≡ x = omega arith in
    let q : 0x80 + c / 64 % 64 ≡ y = omega arith in
    let r : 0x80 + c % 64 ≡ z = omega arith in
    rw (le-ltb c 0x80 (omega arith), le-ltb c 0x800 (omega arith), lt-ltb c 0x10000 (omega arith), p, q, r)

enc4 : (x y z w c : ℕ) → 240 ≤ x → x < 245 → 128 ≤ y → y ≤ 191 → 128 ≤ z → z ≤ 191 → 128 ≤ w → w ≤ 191 → c ≡ (x - 240) * 262144 + (y - 128) * 4096 + (z - 128) * 64 + (w - 128) → 65536 ≤ c → encode c ≡ x ∷ y ∷ z ∷ w ∷ []
unfolding encode
enc4 x y z w c a b d e f g u v h k =
    let p : 0xF0 + c / 262144 ≡ x = omega arith in
    let q : 0x80 + c / 4096 % 64 ≡ y = omega arith in
    let r : 0x80 + c / 64 % 64 ≡ z = omega arith in
    let s : 0x80 + c % 64 ≡ w = omega arith in
    rw (le-ltb c 0x80 (omega arith), le-ltb c 0x800 (omega arith), le-ltb c 0x10000 (omega arith), p, q, r, s)

-- a longer piece by its bytes
pub record Found (x : ℕ) (l : List ℕ) : Type 0 where
  pub piece : Piece
  pub good : GoodPiece piece
  pub plain : Plain piece
  pub is : spell piece ≡ x ∷ l

found_char : (x c : ℕ) (l : List ℕ) → 128 ≤ c → XmlChar c → encode c ≡ x ∷ l → Found x l
found_char x c l h k e = record { piece = char c; good = (xml_char_yes c k, omega arith, omega arith); plain = h; is = e }

dec2 : (x : ℕ) (l : List ℕ) → 194 ≤ x → x < 224 → One 128 191 l → Found x l
dec2 x l a b o =
    let z = o.z in
    let p = o.from in
    let q = o.to in
    let c : ℕ = (x - 192) * 64 + (z - 128) in
    found_char x c l (omega arith) (low (omega arith) (omega arith)) (enc2 x z c a b p q refl ∙ ap (λ (m : List ℕ). x ∷ m) (sym o.is))

abbrev val3 : ℕ → ℕ → ℕ → ℕ
val3 x y z = (x - 224) * 4096 + (y - 128) * 64 + (z - 128)

dec3 : (x y z : ℕ) (l : List ℕ) → 224 ≤ x → x < 240 → 128 ≤ y → y ≤ 191 → 128 ≤ z → z ≤ 191 → 2048 ≤ val3 x y z → XmlChar (val3 x y z) → l ≡ y ∷ z ∷ [] → Found x l
dec3 x y z l a b c d e f h k is = found_char x (val3 x y z) l (omega arith) k (enc3 x y z (val3 x y z) a b c d e f refl h ∙ ap (λ (m : List ℕ). x ∷ m) (sym is))

abbrev val4 : ℕ → ℕ → ℕ → ℕ → ℕ
val4 x y z w = (x - 240) * 262144 + (y - 128) * 4096 + (z - 128) * 64 + (w - 128)

dec4 : (x y z w : ℕ) (l : List ℕ) → 240 ≤ x → x < 245 → 128 ≤ y → y ≤ 191 → 128 ≤ z → z ≤ 191 → 128 ≤ w → w ≤ 191 → 65536 ≤ val4 x y z w → val4 x y z w ≤ 0x10FFFF → l ≡ y ∷ z ∷ w ∷ [] → Found x l
dec4 x y z w l a b c d e f g h k m is = found_char x (val4 x y z w) l (omega arith) (high k m) (enc4 x y z w (val4 x y z w) a b c d e f g h refl k ∙ ap (λ (m : List ℕ). x ∷ m) (sym is))

found_two : (x a b : ℕ) (l : List ℕ) → 224 ≤ x → x < 240 → 128 ≤ a → b ≤ 191 → ((y z : ℕ) → a ≤ y → y ≤ b → 128 ≤ z → z ≤ 191 → (2048 ≤ val3 x y z) × XmlChar (val3 x y z)) → Two a b l → Found x l
found_two x a b l h k p q f o =
    let w = f o.y o.then.z o.from o.to o.then.from o.then.to in
    let r = o.from in
    let s = o.to in
    dec3 x o.y o.then.z l h k (omega arith) (omega arith) o.then.from o.then.to w.0 w.1 (o.is ∙ ap (λ (m : List ℕ). o.y ∷ m) o.then.is)

found_three : (x a b : ℕ) (l : List ℕ) → 240 ≤ x → x < 245 → 128 ≤ a → b ≤ 191 → ((y z w : ℕ) → a ≤ y → y ≤ b → 128 ≤ z → z ≤ 191 → 128 ≤ w → w ≤ 191 → (65536 ≤ val4 x y z w) × (val4 x y z w ≤ 0x10FFFF)) → Three a b l → Found x l
found_three x a b l h k p q f o =
    let t = o.then in
    let u = t.then in
    let w = f o.x t.y u.z o.from o.to t.from t.to u.from u.to in
    let r = o.from in
    let s = o.to in
    dec4 x o.x t.y u.z l h k (omega arith) (omega arith) t.from t.to u.from u.to w.0 w.1 (o.is ∙ ap (λ (m : List ℕ). o.x ∷ m) (t.is ∙ ap (λ (m : List ℕ). t.y ∷ m) u.is))

-- the part that a first byte leaves
want : {p q : Part} (l : List ℕ) → more q ≡ more p → takes l (more p) ≡ true → takes l (more q) ≡ true
want l e h = ap (takes l) e ∙ h

first_e0 : (l : List ℕ) → takes l (more e0) ≡ true → Two 160 191 l
first_e0 [] h = absurd (true≢false (sym h))
first_e0 (y ∷ l) h = two_of 160 191 y l h

first_ed : (l : List ℕ) → takes l (more ed) ≡ true → Two 128 159 l
first_ed [] h = absurd (true≢false (sym h))
first_ed (y ∷ l) h = two_of 128 159 y l h

first_f0 : (l : List ℕ) → takes l (more f0) ≡ true → Three 144 191 l
first_f0 [] h = absurd (true≢false (sym h))
first_f0 (y ∷ l) h = three_of 144 191 y l h

first_f4 : (l : List ℕ) → takes l (more f4) ≡ true → Three 128 143 l
first_f4 [] h = absurd (true≢false (sym h))
first_f4 (y ∷ l) h = three_of 128 143 y l h

first_three : (l : List ℕ) → takes l (more three) ≡ true → Three 128 191 l
first_three [] h = absurd (true≢false (sym h))
first_three (y ∷ l) h = three_of 128 191 y l h

efbf_of : (l : List ℕ) → takes l (more efbf) ≡ true → One 128 189 l
efbf_of [] h = absurd (true≢false (sym h))
efbf_of (y ∷ l) h = one_of 128 189 y l h

found_ef : (x : ℕ) (l : List ℕ) → x ≡ 239 → takes l (more ef) ≡ true → Found x l
found_ef x [] e h = absurd (true≢false (sym h))
found_ef x (y ∷ l) e h =
    taken (in_range 128 190 y) (more one) (cond (eqb y 191) (more efbf) bad) l h
    (λ i g. let w = in_range_is 128 190 y i in let o = last l g in let p = o.from in let q = o.to in
    dec3 x y o.z (y ∷ l) (omega arith) (omega arith) w.0 (omega arith) p q (omega arith) (middle (omega arith) (omega arith)) (ap (λ (m : List ℕ). y ∷ m) o.is))
    (λ _ g. taken (eqb y 191) (more efbf) bad l g
    (λ i g. let f : y ≡ 191 = eqb-true y 191 i in let o = efbf_of l g in let p = o.from in let q = o.to in
    dec3 x y o.z (y ∷ l) (omega arith) (omega arith) (omega arith) (omega arith) p (omega arith) (omega arith) (middle (omega arith) (omega arith)) (ap (λ (m : List ℕ). y ∷ m) o.is))
    (λ _ g. takes_bad l g))

found_long : (x : ℕ) (p : Part) (l : List ℕ) → long x ≡ more p → takes l (more p) ≡ true → Found x l
found_long x p l e h =
    by (ltb x 194) e (λ _ f. bad_more f)
    (λ a e. by (ltb x 224) e (λ b f. dec2 x l (ltb-false x 194 a) (ltb-true x 224 b) (last l (want l f h)))
    (λ a e. by (ltb x 225) e (λ b f. let i = ltb-false x 224 a in let j = ltb-true x 225 b in found_two x 160 191 l (omega arith) (omega arith) (omega arith) (omega arith) (λ y z m n o r. (omega arith, low (omega arith) (omega arith))) (first_e0 l (want l f h)))
    (λ a e. by (ltb x 237) e (λ b f. let i = ltb-false x 225 a in let j = ltb-true x 237 b in found_two x 128 191 l (omega arith) (omega arith) (omega arith) (omega arith) (λ y z m n o r. (omega arith, low (omega arith) (omega arith))) (last_two l (want l f h)))
    (λ a e. by (ltb x 238) e (λ b f. let i = ltb-false x 237 a in let j = ltb-true x 238 b in found_two x 128 159 l (omega arith) (omega arith) (omega arith) (omega arith) (λ y z m n o r. (omega arith, low (omega arith) (omega arith))) (first_ed l (want l f h)))
    (λ a e. by (ltb x 239) e (λ b f. let i = ltb-false x 238 a in let j = ltb-true x 239 b in found_two x 128 191 l (omega arith) (omega arith) (omega arith) (omega arith) (λ y z m n o r. (omega arith, middle (omega arith) (omega arith))) (last_two l (want l f h)))
    (λ a e. by (ltb x 240) e (λ b f. let i = ltb-false x 239 a in let j = ltb-true x 240 b in found_ef x l (omega arith) (want l f h))
    (λ a e. by (ltb x 241) e (λ b f. let i = ltb-false x 240 a in let j = ltb-true x 241 b in found_three x 144 191 l (omega arith) (omega arith) (omega arith) (omega arith) (λ y z w m n o r s t. (omega arith, omega arith)) (first_f0 l (want l f h)))
    (λ a e. by (ltb x 244) e (λ b f. let i = ltb-false x 241 a in let j = ltb-true x 244 b in found_three x 128 191 l (omega arith) (omega arith) (omega arith) (omega arith) (λ y z w m n o r s t. (omega arith, omega arith)) (first_three l (want l f h)))
    (λ a e. by (ltb x 245) e (λ b f. let i = ltb-false x 244 a in let j = ltb-true x 245 b in found_three x 128 143 l (omega arith) (omega arith) (omega arith) (omega arith) (λ y z w m n o r s t. (omega arith, omega arith)) (first_f4 l (want l f h)))
    (λ _ f. bad_more f))))))))))

-- entities
word_of : (q l : List ℕ) → takes l (to_word q) ≡ true → l ≡ q
word_of [] l h = takes_all l h
word_of (y ∷ q) [] h = absurd (true≢false (sym h))
word_of (y ∷ q) (z ∷ l) h = go (eqb z y) refl h (word_of q l)
  where
    go : (b : Bool) → eqb z y ≡ b → takes l (cond b (to_word q) bad) ≡ true → (takes l (to_word q) ≡ true → l ≡ q) → z ∷ l ≡ y ∷ q
    go true e g f = ap₂ ◌∷◌ (eqb-true z y e) (f g)
    go false e g f = takes_bad l g

found_word : (x : ℕ) (l : List ℕ) (e : Entity) → word e ≡ x ∷ l → Found x l
found_word x l e w = record { piece = entity e; good = tt; plain = tt; is = w }

front2 : (x y z w : ℕ) (l q : List ℕ) → x ≡ z → y ≡ w → l ≡ q → z ∷ w ∷ q ≡ x ∷ y ∷ l
front2 x y z w l q a b c = cc

found_a : (x y : ℕ) (l : List ℕ) → x ≡ 38 → y ≡ 97 → takes l (more ampersand_a) ≡ true → Found x (y ∷ l)
found_a x y [] e f h = absurd (true≢false (sym h))
found_a x y (z ∷ l) e f h =
    taken (eqb z 109) (to_word (ascii "p;")) (cond (eqb z 112) (to_word (ascii "os;")) bad) l h
    (λ i g. found_word x (y ∷ z ∷ l) amp (front2 x y 38 97 (z ∷ l) (ascii "mp;") e f (ap₂ ◌∷◌ (eqb-true z 109 i) (word_of (ascii "p;") l g))))
    (λ _ g. taken (eqb z 112) (to_word (ascii "os;")) bad l g
    (λ i g. found_word x (y ∷ z ∷ l) apos (front2 x y 38 97 (z ∷ l) (ascii "pos;") e f (ap₂ ◌∷◌ (eqb-true z 112 i) (word_of (ascii "os;") l g))))
    (λ _ g. takes_bad l g))

found_entity : (x : ℕ) (l : List ℕ) → x ≡ 38 → takes l (more ampersand) ≡ true → Found x l
found_entity x [] e h = absurd (true≢false (sym h))
found_entity x (y ∷ l) e h =
    taken (eqb y 97) (more ampersand_a) (cond (eqb y 108) (to_word (ascii "t;")) (cond (eqb y 103) (to_word (ascii "t;")) (cond (eqb y 113) (to_word (ascii "uot;")) bad))) l h
    (λ i g. found_a x y l e (eqb-true y 97 i) g)
    (λ _ g. taken (eqb y 108) (to_word (ascii "t;")) (cond (eqb y 103) (to_word (ascii "t;")) (cond (eqb y 113) (to_word (ascii "uot;")) bad)) l g
    (λ i g. found_word x (y ∷ l) lt (front2 x y 38 108 l (ascii "t;") e (eqb-true y 108 i) (word_of (ascii "t;") l g)))
    (λ _ g. taken (eqb y 103) (to_word (ascii "t;")) (cond (eqb y 113) (to_word (ascii "uot;")) bad) l g
    (λ i g. found_word x (y ∷ l) gt (front2 x y 38 103 l (ascii "t;") e (eqb-true y 103 i) (word_of (ascii "t;") l g)))
    (λ _ g. taken (eqb y 113) (to_word (ascii "uot;")) bad l g
    (λ i g. found_word x (y ∷ l) quot (front2 x y 38 113 l (ascii "uot;") e (eqb-true y 113 i) (word_of (ascii "uot;") l g)))
    (λ _ g. takes_bad l g))))

pub found : (x : ℕ) (p : Part) (l : List ℕ) → lead x ≡ more p → takes l (more p) ≡ true → Found x l
unfolding lead
found x p l e h =
    by (ltb x 128) e
    (λ _ e. by (eqb x 38) e (λ i f. found_entity x l (eqb-true x 38 i) (want l f h))
    (λ _ e. by (eqb x 60) e (λ _ f. bad_more f)
    (λ _ e. by (leb 32 x || eqb x 9 || eqb x 10 || eqb x 13) e (λ _ f. all_more f) (λ _ f. bad_more f))))
    (λ _ e. found_long x p l e h)

pub data Seen (p : Piece) : Type 0 where
  s_short : (c : ℕ) → p ≡ char c → lead c ≡ all → encode c ≡ c ∷ [] → Seen p
  s_long : Plain p → (x : ℕ) (l : List ℕ) (k : Part) → spell p ≡ x ∷ l → lead x ≡ more k → takes l (more k) ≡ true → Seen p

-- what a first byte says, and the bytes after it
lead_high : (x : ℕ) → 128 ≤ x → lead x ≡ long x
unfolding lead
lead_high x h = rw (le-ltb x 128 h)

lead_one : (x : ℕ) → 194 ≤ x → x < 224 → lead x ≡ more one
lead_one x a b = lead_high x (omega arith) ∙ rw (le-ltb x 194 a, lt-ltb x 224 b)

lead_e0 : (x : ℕ) → x ≡ 224 → lead x ≡ more e0
unfolding lead
lead_e0 x e = rw e refl

lead_two : (x : ℕ) → 225 ≤ x → x < 237 → lead x ≡ more two
lead_two x a b = lead_high x (omega arith) ∙ rw (le-ltb x 194 (omega arith), le-ltb x 224 (omega arith), le-ltb x 225 a, lt-ltb x 237 b)

lead_ed : (x : ℕ) → x ≡ 237 → lead x ≡ more ed
unfolding lead
lead_ed x e = rw e refl

lead_ee : (x : ℕ) → x ≡ 238 → lead x ≡ more two
unfolding lead
lead_ee x e = rw e refl

lead_ef : (x : ℕ) → x ≡ 239 → lead x ≡ more ef
unfolding lead
lead_ef x e = rw e refl

lead_f0 : (x : ℕ) → x ≡ 240 → lead x ≡ more f0
unfolding lead
lead_f0 x e = rw e refl

lead_three : (x : ℕ) → 241 ≤ x → x < 244 → lead x ≡ more three
lead_three x a b =
    lead_high x (omega arith)
    ∙ rw (le-ltb x 194 (omega arith), le-ltb x 224 (omega arith), le-ltb x 225 (omega arith), le-ltb x 237 (omega arith), le-ltb x 238 (omega arith), le-ltb x 239 (omega arith), le-ltb x 240 (omega arith), le-ltb x 241 a, lt-ltb x 244 b)

lead_f4 : (x : ℕ) → x ≡ 244 → lead x ≡ more f4
unfolding lead
lead_f4 x e = rw e refl

tested : (a b y : ℕ) (l : List ℕ) (u v : Read) → a ≤ y → y ≤ b → takes l u ≡ true → takes l (cond (in_range a b y) u v) ≡ true
tested a b y l u v p q h = ap (λ (t : Bool). takes l (cond t u v)) (in_range_lem a b y p q) ∙ h

ok1 : (z : ℕ) → 128 ≤ z → z ≤ 191 → takes (z ∷ []) (more one) ≡ true
ok1 z p q = tested 128 191 z [] all bad p q refl

ok2 : (y z : ℕ) → 128 ≤ y → y ≤ 191 → 128 ≤ z → z ≤ 191 → takes (y ∷ z ∷ []) (more two) ≡ true
ok2 y z a b p q = tested 128 191 y (z ∷ []) (more one) bad a b (ok1 z p q)

-- a character's bytes
seen2 : (c : ℕ) → 0x80 ≤ c → c < 0x800 → Seen (char c)
seen2 c a b = s_long a (0xC0 + c / 64) ((0x80 + c % 64) ∷ []) one (encode2 c a b) (lead_one (0xC0 + c / 64) (omega arith) (omega arith)) (ok1 (0x80 + c % 64) (omega arith) (omega arith))

seen3 : (c : ℕ) (k : Part) → 0x800 ≤ c → c < 0x10000 → lead (0xE0 + c / 4096) ≡ more k → takes ((0x80 + c / 64 % 64) ∷ (0x80 + c % 64) ∷ []) (more k) ≡ true → Seen (char c)
seen3 c k a b e h = s_long (omega arith) (0xE0 + c / 4096) ((0x80 + c / 64 % 64) ∷ (0x80 + c % 64) ∷ []) k (encode3 c a b) e h

seen4 : (c : ℕ) (k : Part) → 0x10000 ≤ c → lead (0xF0 + c / 262144) ≡ more k → takes ((0x80 + c / 4096 % 64) ∷ (0x80 + c / 64 % 64) ∷ (0x80 + c % 64) ∷ []) (more k) ≡ true → Seen (char c)
seen4 c k a e h = s_long (omega arith) (0xF0 + c / 262144) ((0x80 + c / 4096 % 64) ∷ (0x80 + c / 64 % 64) ∷ (0x80 + c % 64) ∷ []) k (encode4 c a) e h

split : {Q : Type 0} (a b : ℕ) → (a < b → Q) → (b ≤ a → Q) → Q
split {Q} a b f g = go (ltb a b) refl
  where
    go : (t : Bool) → ltb a b ≡ t → Q
    go true e = f (ltb-true a b e)
    go false e = g (ltb-false a b e)

seen_ascii : (c : ℕ) → 32 ≤ c → c < 128 → c ≢ 60 → c ≢ 38 → Seen (char c)
unfolding lead
seen_ascii c a b n m = s_short c refl (rw (lt-ltb c 128 b, ne_eqb c 38 m, ne_eqb c 60 n, le-leb 32 c a)) (encode1 c b)

seen_control : (c d : ℕ) → c ≡ d → lead d ≡ all → d < 128 → Seen (char c)
seen_control c d e h k = s_short c refl (ap lead e ∙ h) (encode1 c (omega arith))

seen_low : (c : ℕ) → 32 ≤ c → c ≤ 0xD7FF → c ≢ 60 → c ≢ 38 → Seen (char c)
seen_low c a b n m =
    split c 128 (λ h. seen_ascii c a h n m)
    (λ h. split c 0x800 (λ k. seen2 c h k)
    (λ h. split c 0x1000 (λ k. seen3 c e0 h (omega arith) (lead_e0 (0xE0 + c / 4096) (omega arith)) (tested 160 191 (0x80 + c / 64 % 64) ((0x80 + c % 64) ∷ []) (more one) bad (omega arith) (omega arith) (ok1 (0x80 + c % 64) (omega arith) (omega arith))))
    (λ i. split c 0xD000 (λ k. seen3 c two h (omega arith) (lead_two (0xE0 + c / 4096) (omega arith) (omega arith)) (ok2 (0x80 + c / 64 % 64) (0x80 + c % 64) (omega arith) (omega arith) (omega arith) (omega arith)))
    (λ j. seen3 c ed h (omega arith) (lead_ed (0xE0 + c / 4096) (omega arith)) (tested 128 159 (0x80 + c / 64 % 64) ((0x80 + c % 64) ∷ []) (more one) bad (omega arith) (omega arith) (ok1 (0x80 + c % 64) (omega arith) (omega arith)))))))

efbf_ok : (y z : ℕ) → y ≡ 191 → 128 ≤ z → z ≤ 189 → takes (y ∷ z ∷ []) (more ef) ≡ true
efbf_ok y z e p q = ap (λ (t : ℕ). takes (t ∷ z ∷ []) (more ef)) e ∙ tested 128 189 z [] all bad p q refl

seen_middle : (c : ℕ) → 0xE000 ≤ c → c ≤ 0xFFFD → Seen (char c)
seen_middle c a b =
    split c 0xF000 (λ k. seen3 c two (omega arith) (omega arith) (lead_ee (0xE0 + c / 4096) (omega arith)) (ok2 (0x80 + c / 64 % 64) (0x80 + c % 64) (omega arith) (omega arith) (omega arith) (omega arith)))
    (λ h. split c 0xFFC0
    (λ k. seen3 c ef (omega arith) (omega arith) (lead_ef (0xE0 + c / 4096) (omega arith)) (tested 128 190 (0x80 + c / 64 % 64) ((0x80 + c % 64) ∷ []) (more one) (cond (eqb (0x80 + c / 64 % 64) 191) (more efbf) bad) (omega arith) (omega arith) (ok1 (0x80 + c % 64) (omega arith) (omega arith))))
    (λ k. seen3 c ef (omega arith) (omega arith) (lead_ef (0xE0 + c / 4096) (omega arith)) (efbf_ok (0x80 + c / 64 % 64) (0x80 + c % 64) (omega arith) (omega arith) (omega arith))))

seen_high : (c : ℕ) → 0x10000 ≤ c → c ≤ 0x10FFFF → Seen (char c)
seen_high c a b =
    let two_ok : takes ((0x80 + c / 64 % 64) ∷ (0x80 + c % 64) ∷ []) (more two) ≡ true = ok2 (0x80 + c / 64 % 64) (0x80 + c % 64) (omega arith) (omega arith) (omega arith) (omega arith) in
    split c 0x40000 (λ k. seen4 c f0 a (lead_f0 (0xF0 + c / 262144) (omega arith)) (tested 144 191 (0x80 + c / 4096 % 64) ((0x80 + c / 64 % 64) ∷ (0x80 + c % 64) ∷ []) (more two) bad (omega arith) (omega arith) two_ok))
    (λ h. split c 0x100000 (λ k. seen4 c three a (lead_three (0xF0 + c / 262144) (omega arith) (omega arith)) (tested 128 191 (0x80 + c / 4096 % 64) ((0x80 + c / 64 % 64) ∷ (0x80 + c % 64) ∷ []) (more two) bad (omega arith) (omega arith) two_ok))
    (λ k. seen4 c f4 a (lead_f4 (0xF0 + c / 262144) (omega arith)) (tested 128 143 (0x80 + c / 4096 % 64) ((0x80 + c / 64 % 64) ∷ (0x80 + c % 64) ∷ []) (more two) bad (omega arith) (omega arith) two_ok)))

seen_char : (c : ℕ) → XmlChar c → c ≢ 60 → c ≢ 38 → Seen (char c)
unfolding lead
seen_char c (tab e) n m = seen_control c 9 e refl (omega arith)
seen_char c (line e) n m = seen_control c 10 e refl (omega arith)
seen_char c (return e) n m = seen_control c 13 e refl (omega arith)
seen_char c (low a b) n m = seen_low c a b n m
seen_char c (middle a b) n m = seen_middle c a b
seen_char c (high a b) n m = seen_high c a b

seen_entity : (e : Entity) → Seen (entity e)
unfolding lead
seen_entity amp = s_long tt 38 (ascii "amp;") ampersand refl refl refl
seen_entity lt = s_long tt 38 (ascii "lt;") ampersand refl refl refl
seen_entity gt = s_long tt 38 (ascii "gt;") ampersand refl refl refl
seen_entity quot = s_long tt 38 (ascii "quot;") ampersand refl refl refl
seen_entity apos = s_long tt 38 (ascii "apos;") ampersand refl refl refl

pub seen : (p : Piece) → GoodPiece p → Seen p
seen (char c) g = seen_char c (xml_char_is c g.0) g.1 g.2
seen (entity e) g = seen_entity e

pub plain_not : (p : Piece) (c : ℕ) → c < 128 → Plain p → p ≢ char c
plain_not (char d) c h q e = let f : d ≡ c = cc in omega arith
plain_not (entity d) c h q e = let z : ◌≡◌ {A = ℕ} 0 1 = cc in omega arith

pub plain_cuts : (r : ℕ) (p : Piece) → Plain p → cuts r p ≡ false
plain_cuts r (char c) q = rw (ne_eqb c 62 (omega arith))
plain_cuts r (entity e) q = refl

pub plain_brackets : (r : ℕ) (p : Piece) → Plain p → brackets r p ≡ 0
plain_brackets r (char c) q = rw (ne_eqb c 93 (omega arith))
plain_brackets r (entity e) q = refl
