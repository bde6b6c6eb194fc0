-- Characters and entities, by their bytes. Assumes nothing.
use mathlib.Core.Path.{◌≡◌, refl, sym, ◌∙◌, ap, subst}
use mathlib.Core.Bool.{Bool, true, false, cond, ◌||◌}
use mathlib.Core.Logic.{◌≢◌, ⊎_elim, inl, inr}
use mathlib.Core.List.{List, [], ◌∷◌}
use Prim.Native.Nat.{ℕ, ◌+◌, ◌≤◌, ◌<◌}
use native.Mathlib.Numerals.{add-one}
use native.Mathlib.Omega.{arith}
use native.Mathlib.Decide.{dec_lt}
use types.Run.{OneOf}
use lib.Dec.{ltb, eqb}
use lib.ListN.{length, get_or, drop, drop_of_length-le}
use lib.Seq.{drop-cons}
use borrow.Author.Tests.{lt-ltb, le-ltb, le-leb, lt-leb, ne_eqb}
use Rattle.text.specs.Bytes.{in_range, is_blank}
use Rattle.xml.proofs.Basics.{by_blank}
use Rattle.xml.specs.mirror.Auto.{Part, one, two, three, e0, ed, ef, f0, f4, ampersand, rest, Read, bad, all, more, to_word, lead, go_on}
use Rattle.xml_pieces.specs.Over.{Over}
use Rattle.xml_pieces.specs.Kinds.{IsPiece, IsWord}
use Rattle.xml_pieces.specs.mirror.Reading.{told, reading, ReadsOne, Ranged, ReadsTwo, ReadsThree, least_behind, greatest_behind}
use Rattle.xml_pieces.proofs.Words.{over_word, word_is}
use Rattle.xml_pieces.proofs.Readings.{piece_over}
use Rattle.std.specs.Prelude.{Result, Ok, Err}
use Rattle.xml_pieces.specs.declared.Stopped.{Stopped}
use Rattle.xml_pieces.specs.Over.{stop}

-- ---- the rest of an entity

rested : (q : List ℕ) (y : ℕ) (t : List ℕ) (i : ℕ) → reading (go_on (rest y q)) t i ≡ over_word (y ∷ q) t i
unfolding reading over_word
rested q y [] i = refl
rested [] y (x ∷ t) i = go (eqb x y)
  where
    go : (b : Bool) → told (cond b all bad) i (λ p. reading (go_on p) t (i + 1)) ≡ cond b (Ok (i + 1)) (stop i)
    go true = refl
    go false = refl
rested (z ∷ q) y (x ∷ t) i = go (eqb x y) (rested q z t (i + 1))
  where
    go : (b : Bool) → reading (go_on (rest z q)) t (i + 1) ≡ over_word (z ∷ q) t (i + 1)
        → told (cond b (more (rest z q)) bad) i (λ p. reading (go_on p) t (i + 1)) ≡ cond b (over_word (z ∷ q) t (i + 1)) (stop i)
    go true h = h
    go false h = refl

worded : (w t : List ℕ) (i : ℕ) → told (to_word w) i (λ p. reading (go_on p) t (i + 1)) ≡ over_word w t (i + 1)
unfolding over_word
worded [] t i = refl
worded (y ∷ q) t i = rested q y t (i + 1)

-- ---- the byte at a place

module _ (s : List ℕ) (i : ℕ) (f : ℕ → Read) where
  pub part_cut : length s ≤ i → stop i ≡ reading f (drop i s) i
  unfolding reading
  part_cut h = rw (drop_of_length-le s h) refl

  module _ (h : i < length s) where
    told_is : told (f (get_or s i 0)) i (λ p. reading (go_on p) (drop (i + 1) s) (i + 1)) ≡ reading f (drop i s) i
    unfolding reading
    told_is =
        ap (λ (k : ℕ). told (f (get_or s i 0)) i (λ p. reading (go_on p) (drop k s) (i + 1))) (add-one i)
        ∙ ap (λ (t : List ℕ). reading f t i) (sym (drop-cons s i 0 h))

    tells : (u : Read) → f (get_or s i 0) ≡ u → told u i (λ p. reading (go_on p) (drop (i + 1) s) (i + 1)) ≡ reading f (drop i s) i
    tells u e = ap (λ (z : Read). told z i (λ p. reading (go_on p) (drop (i + 1) s) (i + 1))) (sym e) ∙ told_is

    pub part_dead : f (get_or s i 0) ≡ bad → stop i ≡ reading f (drop i s) i
    part_dead e = tells bad e

    pub part_last : f (get_or s i 0) ≡ all → Ok (i + 1) ≡ reading f (drop i s) i
    part_last e = tells all e

    pub part_then : (p : Part) (r : Result ℕ Stopped) → f (get_or s i 0) ≡ more p → r ≡ reading (go_on p) (drop (i + 1) s) (i + 1) → r ≡ reading f (drop i s) i
    part_then p r e g = g ∙ tells (more p) e

    pub part_word : (w : List ℕ) (r : Result ℕ Stopped) → f (get_or s i 0) ≡ to_word w → Over (IsWord w) (drop (i + 1) s) (i + 1) r → r ≡ reading f (drop i s) i
    part_word w r e g = word_is w (drop (i + 1) s) (i + 1) r g ∙ sym (worded w (drop (i + 1) s) i) ∙ tells (to_word w) e

-- ---- one, two, three bytes

module _ (s : List ℕ) (i low high : ℕ) where
  pub one_cut : length s ≤ i → ReadsOne s i low high (stop i)
  one_cut h = (refl, λ k. absurd (omega arith))

  pub one_low : get_or s i 0 < low → ReadsOne s i low high (stop i)
  one_low e = (refl, λ k. rw (lt-leb low (get_or s i 0) e) refl)

  pub one_high : low ≤ get_or s i 0 → high < get_or s i 0 → ReadsOne s i low high (stop i)
  one_high d e = (refl, λ k. rw (le-leb low (get_or s i 0) d, lt-leb (get_or s i 0) high e) refl)

  pub one_on : i < length s → low ≤ get_or s i 0 → get_or s i 0 ≤ high → ReadsOne s i low high (Ok (i + 1))
  one_on h d e = (refl, h, rw (le-leb low (get_or s i 0) d, le-leb (get_or s i 0) high e) refl)

  module _ (f : ℕ → Read) (u : Read) (k : Ranged s i low high f u) where
    stops : (n : ℕ) → ReadsOne s i low high (stop n) → stop n ≡ reading f (drop i s) i
    stops n g = ap stop g.0 ∙ go (dec_lt i (length s))
      where
        go : Dec (i < length s) → stop i ≡ reading f (drop i s) i
        go (yes h) = part_dead s i f h (k h ∙ (rw (g.1 h) refl))
        go (no h) = part_cut s i f (omega arith)

    goes : (e : ℕ) → ReadsOne s i low high (Ok e) → f (get_or s i 0) ≡ u
    goes e g = k g.1 ∙ (rw g.2 refl)

  pub as_one : (f : ℕ → Read) (r : Result ℕ Stopped) → Ranged s i low high f all → ReadsOne s i low high r → r ≡ reading f (drop i s) i
  as_one f (Ok e) k g = ap Ok g.0 ∙ part_last s i f g.1 (goes f all k e g)
  as_one f (Err n) k g = stops f all k n.at g

  module _ (q : Result ℕ Stopped) (g : ReadsOne s i low high q) where
    pub two_stop : (n : ℕ) → q ≡ stop n → ReadsTwo s i low high (stop n)
    two_stop n e = λ f k. stops f (more one) k n (subst (ReadsOne s i low high) e g)

    pub three_stop : (n : ℕ) → q ≡ stop n → ReadsThree s i low high (stop n)
    three_stop n e = λ f k. stops f (more two) k n (subst (ReadsOne s i low high) e g)

    module _ (j : ℕ) (e : q ≡ Ok j) (r : Result ℕ Stopped) where
      over : ReadsOne s i low high (Ok j)
      over = subst (ReadsOne s i low high) e g

      then : (f : ℕ → Read) (p : Part) → Ranged s i low high f (more p) → r ≡ reading (go_on p) (drop j s) j → r ≡ reading f (drop i s) i
      then f p k h =
          part_then s i f over.1 p r (goes f (more p) k j over) (h ∙ ap (λ (n : ℕ). reading (go_on p) (drop n s) n) over.0)

    pub three_on : (j : ℕ) → q ≡ Ok j → (r : Result ℕ Stopped) → ReadsTwo s j 128 191 r → ReadsThree s i low high r
    three_on j e r h = λ f k. then j e r f two k (h (go_on two) (λ l. refl))

pub two_on : (s : List ℕ) (i low high : ℕ) (q : Result ℕ Stopped) → ReadsOne s i low high q → (j : ℕ) → q ≡ Ok j → (r : Result ℕ Stopped) → ReadsOne s j 128 191 r → ReadsTwo s i low high r
two_on s i low high q g j e r h = λ f k. then s i low high q g j e r f one k (as_one s j 128 191 (go_on one) r (λ l. refl) h)

-- ---- a piece by its first byte

-- the promise, from what was read
pub is_piece : (s : List ℕ) (i : ℕ) (r : Result ℕ Stopped) → r ≡ reading lead (drop i s) i → Over IsPiece (drop i s) i r
is_piece s i r e = subst (λ (z : Result ℕ Stopped). Over IsPiece (drop i s) i z) (sym e) (piece_over (drop i s) i)

module _ (x : ℕ) where
  pub lead_low : 128 ≤ x → x < 194 → lead x ≡ bad
  unfolding lead
  lead_low h k = rw (le-ltb x 128 h, lt-ltb x 194 k) refl

  pub lead_one : 194 ≤ x → x < 224 → lead x ≡ more one
  unfolding lead
  lead_one h k = rw (le-ltb x 128 (omega arith), le-ltb x 194 h, lt-ltb x 224 k) refl

  -- three bytes and four, by the byte after
  third : 224 ≤ x → lead x ≡ cond (ltb x 225) (more e0) (cond (ltb x 237) (more two) (cond (ltb x 238) (more ed) (cond (ltb x 239) (more two) (cond (ltb x 240) (more ef) (cond (ltb x 241) (more f0) (cond (ltb x 244) (more three) (cond (ltb x 245) (more f4) bad)))))))
  unfolding lead
  third h = rw (le-ltb x 128 (omega arith), le-ltb x 194 (omega arith), le-ltb x 224 h) refl

  pub lead_e0 : 224 ≤ x → x < 225 → lead x ≡ more e0
  lead_e0 h k = third h ∙ rw (lt-ltb x 225 k) refl

  pub lead_two : 225 ≤ x → x < 237 → lead x ≡ more two
  lead_two h k = third (omega arith) ∙ rw (le-ltb x 225 h, lt-ltb x 237 k) refl

  pub lead_ed : 237 ≤ x → x < 238 → lead x ≡ more ed
  lead_ed h k = third (omega arith) ∙ rw (le-ltb x 225 (omega arith), le-ltb x 237 h, lt-ltb x 238 k) refl

  pub lead_ee : 238 ≤ x → x < 239 → lead x ≡ more two
  lead_ee h k = third (omega arith) ∙ rw (le-ltb x 225 (omega arith), le-ltb x 237 (omega arith), le-ltb x 238 h, lt-ltb x 239 k) refl

  fourth : 239 ≤ x → lead x ≡ cond (ltb x 240) (more ef) (cond (ltb x 241) (more f0) (cond (ltb x 244) (more three) (cond (ltb x 245) (more f4) bad)))
  fourth h = third (omega arith) ∙ rw (le-ltb x 225 (omega arith), le-ltb x 237 (omega arith), le-ltb x 238 (omega arith), le-ltb x 239 h) refl

  pub lead_ef : 239 ≤ x → x < 240 → lead x ≡ more ef
  lead_ef h k = fourth h ∙ rw (lt-ltb x 240 k) refl

  pub lead_f0 : 240 ≤ x → x < 241 → lead x ≡ more f0
  lead_f0 h k = fourth (omega arith) ∙ rw (le-ltb x 240 h, lt-ltb x 241 k) refl

  pub lead_three : 241 ≤ x → x < 244 → lead x ≡ more three
  lead_three h k = fourth (omega arith) ∙ rw (le-ltb x 240 (omega arith), le-ltb x 241 h, lt-ltb x 244 k) refl

  pub lead_f4 : 244 ≤ x → x < 245 → lead x ≡ more f4
  lead_f4 h k = fourth (omega arith) ∙ rw (le-ltb x 240 (omega arith), le-ltb x 241 (omega arith), le-ltb x 244 h, lt-ltb x 245 k) refl

  pub lead_high : 245 ≤ x → lead x ≡ bad
  lead_high h = fourth (omega arith) ∙ rw (le-ltb x 240 (omega arith), le-ltb x 241 (omega arith), le-ltb x 244 (omega arith), le-ltb x 245 h) refl

  -- ASCII
  pub lead_char : 32 ≤ x → x < 128 → x ≢ 38 → x ≢ 60 → lead x ≡ all
  unfolding lead
  lead_char h k e f = rw (lt-ltb x 128 k, ne_eqb x 38 e, ne_eqb x 60 f, le-leb 32 x h) refl

  pub lead_control : x < 32 → is_blank x ≡ false → lead x ≡ bad
  unfolding lead is_blank
  lead_control h e =
      let t : (false || eqb x 9 || eqb x 10 || eqb x 13) ≡ false = rw (ne_eqb x 32 (omega arith)) at e in
      rw (lt-ltb x 128 (omega arith), ne_eqb x 38 (omega arith), ne_eqb x 60 (omega arith), lt-leb 32 x h, t) refl

  pub lead_blank : is_blank x ≡ true → lead x ≡ all
  unfolding lead
  lead_blank e = by_blank (λ (y : ℕ). lead y ≡ all) x e refl refl refl refl

  pub lead_is : (y : ℕ) (r : Read) → x ≡ y → lead y ≡ r → lead x ≡ r
  lead_is y r e f = ap lead e ∙ f

pub lead_less : lead 60 ≡ bad
unfolding lead
lead_less = refl

pub lead_ampersand : lead 38 ≡ more ampersand
unfolding lead
lead_ampersand = refl

-- ---- a piece of three bytes, or of four

-- what may follow its first byte x; u: what is to come then
pub record Follows (x : ℕ) (u : Read) : Type 0 where
  pub part : Part
  pub leads : lead x ≡ more part
  pub goes : (y : ℕ) → go_on part y ≡ cond (in_range (least_behind x) (greatest_behind x) y) u bad

-- one first byte, whose answers compute
here : (x y : ℕ) (u : Read) → y ≡ x → Follows y u → Follows x u
here x y u e w = subst (λ (z : ℕ). Follows z u) e w

-- a first byte after which any byte from 128 to 191 may follow
usual : (x : ℕ) (p : Part) (u : Read) → x ≢ 224 → x ≢ 240 → x ≢ 237 → x ≢ 244 → lead x ≡ more p → ((y : ℕ) → go_on p y ≡ cond (in_range 128 191 y) u bad) → Follows x u
usual x p u a b d e l g = record { part = p; leads = l; goes = λ y. rw (ne_eqb x 224 a, ne_eqb x 240 b, ne_eqb x 237 d, ne_eqb x 244 e) (g y) }

pub of_three : (x : ℕ) → 224 ≤ x → x < 240 → x ≢ 239 → Follows x (more one)
of_three x h k n = go (dec_lt x 225) (dec_lt x 237) (dec_lt x 238)
  where
    go : Dec (x < 225) → Dec (x < 237) → Dec (x < 238) → Follows x (more one)
    go (yes a) b d = here x 224 (more one) (omega arith) (record { part = e0; leads = lead_e0 224 (omega arith) (omega arith); goes = λ y. refl })
    go (no a) (yes b) d = usual x two (more one) (omega arith) (omega arith) (omega arith) (omega arith) (lead_two x (omega arith) b) (λ y. refl)
    go (no a) (no b) (yes d) = here x 237 (more one) (omega arith) (record { part = ed; leads = lead_ed 237 (omega arith) (omega arith); goes = λ y. refl })
    go (no a) (no b) (no d) = here x 238 (more one) (omega arith) (record { part = two; leads = lead_ee 238 (omega arith) (omega arith); goes = λ y. refl })

pub of_four : (x : ℕ) → 240 ≤ x → x < 245 → Follows x (more two)
of_four x h k = go (dec_lt x 241) (dec_lt x 244)
  where
    go : Dec (x < 241) → Dec (x < 244) → Follows x (more two)
    go (yes a) b = here x 240 (more two) (omega arith) (record { part = f0; leads = lead_f0 240 (omega arith) (omega arith); goes = λ y. refl })
    go (no a) (yes b) = usual x three (more two) (omega arith) (omega arith) (omega arith) (omega arith) (lead_three x (omega arith) b) (λ y. refl)
    go (no a) (no b) = here x 244 (more two) (omega arith) (record { part = f4; leads = lead_f4 244 (omega arith) (omega arith); goes = λ y. refl })

module _ (s : List ℕ) (i : ℕ) (h : i < length s) (low high : ℕ) (a : low ≡ least_behind (get_or s i 0)) (b : high ≡ greatest_behind (get_or s i 0)) (r : Result ℕ Stopped) where
  pub piece_two : Follows (get_or s i 0) (more one) → ReadsTwo s (i + 1) low high r → r ≡ reading lead (drop i s) i
  piece_two w g = part_then s i lead h w.part r w.leads (g (go_on w.part) (λ l. rw (a, b) (w.goes (get_or s (i + 1) 0))))

  pub piece_three : Follows (get_or s i 0) (more two) → ReadsThree s (i + 1) low high r → r ≡ reading lead (drop i s) i
  piece_three w g = part_then s i lead h w.part r w.leads (g (go_on w.part) (λ l. rw (a, b) (w.goes (get_or s (i + 1) 0))))

-- ---- an entity by its first byte

pub angle : (x : ℕ) → OneOf (103 ∷ 108 ∷ []) x → go_on ampersand x ≡ to_word (116 ∷ 59 ∷ [])
angle x w = ⊎_elim (λ e. ap (go_on ampersand) e) (λ e. ap (go_on ampersand) e) w

pub no_entity : (x : ℕ) → x ≢ 97 → (OneOf (103 ∷ 108 ∷ []) x → ⊥) → x ≢ 113 → go_on ampersand x ≡ bad
no_entity x a w q = rw (ne_eqb x 97 a, ne_eqb x 108 (λ e. w (inr e)), ne_eqb x 103 (λ e. w (inl e)), ne_eqb x 113 q) refl
