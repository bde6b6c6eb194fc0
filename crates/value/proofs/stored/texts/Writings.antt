-- TXTk, run by run of ASCII, with the characters between them. Assumes nothing.
use mathlib.Core.Path.{◌≡◌, refl, sym, ◌∙◌, ap}
use mathlib.Core.Bool.{Bool, true, false, true≢false, cond, ◌&&◌, ◌||◌, not, and-false}
use mathlib.Core.Logic.{◌≢◌}
use mathlib.Core.List.{List, [], ◌∷◌}
use Prim.Native.Nat.{ℕ, zero, suc, ◌+◌, ◌-◌, ◌≤◌, ◌<◌}
use native.Mathlib.Omega.{arith}
use lib.Dec.{leb, eqb}
use lib.ListN.{length, drop, length-drop, drop_of_length-le}
use lib.Seq.{drop-drop}
use borrow.Author.Tests.{eqb-true}
use Rattle.std.proofs.Common.{Option, Some, None, if◌then◌else◌}
use Rattle.std.specs.Bool.{then_some}
use Rattle.std.proofs.lemmas.Option.{none-some, same_Some}
use Rattle.text.specs.Lists.{span, Each}
use Rattle.text_characters.specs.Utf8.{Scalar, encode, encode_all}
use Rattle.text_characters.specs.Chars.{Decoded}
use Rattle.text_characters.specs.mirror.Decoding.{decoded}
use Rattle.text_characters.specs.declared.utf8.Char.{Char}
use Rattle.text_characters.proofs.Chars.{begun_within}
use Rattle.text_characters.proofs.Decoding.{encode1, decoded_one}
use Rattle.text.proofs.Spans.{span_le}
use Rattle.value.specs.types.Text.{is_txt}
use Rattle.value.specs.mirror.Tests.{not_space}
use Rattle.value.specs.mirror.Tests.{every, some}
use Rattle.value.specs.mirror.Chars.{chars_from, chars}
use Rattle.value.specs.mirror.Judges.{text_from, txt_len, is_writing}
use Rattle.value.proofs.stored.Listed.{every_all}
use Rattle.value.specs.mirror.Texts.{is_ascii_txt}
use Rattle.value.proofs.classes.Computed.{ascii_is}
use Rattle.value.proofs.stored.texts.Decoded.{chars_step, chars_first, chars_low, chars_ascii, chars_back, begun, begun_some}

zero_txt : is_txt 0 ≡ false
unfolding is_txt
zero_txt = refl

-- ---- one character, as it is decoded

pub len_is : (t : List ℕ) (r : Char) → Decoded t r → (b : Bool) → b ≡ is_txt r.code → (o : Option ℕ) → o ≡ then_some b r.len → o ≡ txt_len t
unfolding txt_len
len_is t r d b e o f = rw (sym (decoded_one t r d), sym e) (f ∙ some b)
  where
    some : (b : Bool) → then_some b r.len ≡ (if b then Some r.len else None)
    some true = refl
    some false = refl

-- ---- ink: a text that is all spaces is its own bytes

blanks : (cs : List ℕ) → some not_space cs ≡ false → Each (λ c. c ≡ 32) cs
unfolding some
blanks [] e = tt
blanks (c ∷ cs) e = go (eqb c 32) refl e (blanks cs)
  where
    go : (b : Bool) → eqb c 32 ≡ b → (not b || some not_space cs) ≡ false → (some not_space cs ≡ false → Each (λ c. c ≡ 32) cs) → Each (λ c. c ≡ 32) (c ∷ cs)
    go true f h more = (eqb-true c 32 f, more h)
    go false f h more = absurd (true≢false h)

blank_chars : (s : List ℕ) → some not_space s ≡ false → chars s ≡ s
blank_chars s e = chars_ascii s (lows s (blanks s e))
  where
    lows : (s : List ℕ) → Each (λ c. c ≡ 32) s → Each (λ x. x < 128) s
    lows [] h = tt
    lows (x ∷ s) h = (omega (arith, h.0), lows s h.1)

blank_bytes : (cs : List ℕ) → Each (λ c. c ≡ 32) cs → encode_all cs ≡ cs
blank_bytes [] h = refl
blank_bytes (c ∷ cs) h = rw (encode1 c (omega (arith, h.0))) (ap (λ (l : List ℕ). c ∷ l) (blank_bytes cs h.1))

pub uninked : (k : ℕ) (s : List ℕ) → some not_space s ≡ false → false ≡ is_writing k s
unfolding is_writing text_from
uninked k s e = rw (blank_chars s e, e, and-false (every is_txt s), and-false (leb (0 + length s) k))

ink : (s : List ℕ) → every is_txt (chars s) ≡ true → some not_space s ≡ true → some not_space (chars s) ≡ true
ink s e f = go (some not_space (chars s)) refl
  where
    go : (b : Bool) → some not_space (chars s) ≡ b → b ≡ true
    go true g = refl
    go false g =
        let z : chars s ≡ s = sym (blank_bytes (chars s) (blanks (chars s) g)) ∙ chars_back is_txt zero_txt s (every_all is_txt (chars s) e) in
        sym g ∙ ap (some not_space) z ∙ f

-- ---- a run of ASCII, one byte a character

run_class : (t : List ℕ) → every is_txt (chars t) ≡ every is_txt (chars (drop (span is_ascii_txt t) t))
unfolding span every
run_class [] = refl
run_class (x ∷ t) = go (is_ascii_txt x) refl (run_class t)
  where
    go : (b : Bool) → is_ascii_txt x ≡ b → every is_txt (chars t) ≡ every is_txt (chars (drop (span is_ascii_txt t) t))
        → every is_txt (chars (x ∷ t)) ≡ every is_txt (chars (drop (cond b (suc (span is_ascii_txt t)) zero) (x ∷ t)))
    go true e h = ap (every is_txt) (chars_low x t (ascii_is x e).0) ∙ ap (λ (b : Bool). b && every is_txt (chars t)) (ascii_is x e).1 ∙ h
    go false e h = refl

run_count : (t : List ℕ) → length (chars t) ≡ span is_ascii_txt t + length (chars (drop (span is_ascii_txt t) t))
unfolding span
run_count [] = omega arith
run_count (x ∷ t) = go (is_ascii_txt x) refl (run_count t)
  where
    go : (b : Bool) → is_ascii_txt x ≡ b → length (chars t) ≡ span is_ascii_txt t + length (chars (drop (span is_ascii_txt t) t))
        → length (chars (x ∷ t)) ≡ cond b (suc (span is_ascii_txt t)) zero + length (chars (drop (cond b (suc (span is_ascii_txt t)) zero) (x ∷ t)))
    go true e h = let z = ap length (chars_low x t (ascii_is x e).0) in omega arith
    go false e h = omega arith

-- ---- a loop that has passed the characters before i, `more` of whose bytes are not the first of theirs

pub record Passing (s : List ℕ) (i more : ℕ) : Type 0 where
  pub within : i ≤ length s
  pub spare : more ≤ i
  pub class : every is_txt (chars s) ≡ every is_txt (chars (drop i s))
  pub count : length (chars s) + more ≡ i + length (chars (drop i s))

pub pass_none : (s : List ℕ) → Passing s 0 0
pass_none s = record { within = omega arith; spare = omega arith; class = refl; count = omega arith }

module _ (s : List ℕ) (i more : ℕ) (w : Passing s i more) where
  pub pass_run : (j : ℕ) → j ≡ i + span is_ascii_txt (drop i s) → Passing s j more
  pass_run j e =
      let n = span is_ascii_txt (drop i s) in
      let d : drop n (drop i s) ≡ drop j s = drop-drop n i s ∙ ap (λ (m : ℕ). drop m s) (sym e) in
      record {
        within = omega (arith, e, w.within, span_le is_ascii_txt (drop i s), length-drop i s);
        spare = omega (arith, e, w.spare);
        class = w.class ∙ run_class (drop i s) ∙ ap (λ (l : List ℕ). every is_txt (chars l)) d;
        count = omega (arith, e, w.count, run_count (drop i s), ap (λ (l : List ℕ). length (chars l)) d);
      }

  pub pass_end : (k : ℕ) → some not_space s ≡ true → length s ≤ i → leb (length s - more) k ≡ is_writing k s
  unfolding is_writing text_from every chars_from
  pass_end k f h =
      let d : drop i s ≡ [] = drop_of_length-le s h in
      let g : every is_txt (chars s) ≡ true = w.class ∙ ap (λ (l : List ℕ). every is_txt (chars l)) d in
      let c = ap (λ (l : List ℕ). length (chars l)) d in
      let n : 0 + length (chars s) ≡ length s - more = omega (arith, w.count, w.within, w.spare, c) in
      sym (rw (g, ink s g f, n) (and-true (leb (length s - more) k)))
    where
      and-true : (b : Bool) → (b && true) ≡ b
      and-true true = refl
      and-true false = refl

  module _ (h : i < length s) where
    room : 0 < length (drop i s)
    room = omega (arith, length-drop i s)

    pub pass_bad : None ≡ txt_len (drop i s) → (k : ℕ) → false ≡ is_writing k s
    unfolding is_writing text_from every txt_len
    pass_bad e k = go (is_txt (decoded (drop i s)).code) refl e
      where
        go : (b : Bool) → is_txt (decoded (drop i s)).code ≡ b → None ≡ (if b then Some (decoded (drop i s)).len else None) → false ≡ is_writing k s
        go true f e = absurd (none-some _ e)
        go false f e =
            let c = chars_first (drop i s) room in
            let g : every is_txt (chars s) ≡ false = w.class ∙ ap (every is_txt) c.1 ∙ ap (λ (b : Bool). b && every is_txt c.0) f in
            sym (rw g (and-false (leb (0 + length (chars s)) k)))

    module _ (n : ℕ) (e : Some n ≡ txt_len (drop i s)) where
      good : is_txt (decoded (drop i s)).code ≡ true
      unfolding txt_len
      good = go (is_txt (decoded (drop i s)).code) e
        where
          go : (b : Bool) → Some n ≡ (if b then Some (decoded (drop i s)).len else None) → b ≡ true
          go true f = refl
          go false f = absurd (none-some n (sym f))

      long : n ≡ (decoded (drop i s)).len
      unfolding txt_len
      long = same_Some _ _ (e ∙ rw good)

      pub pass_some : n ≢ 0
      pass_some z = omega (arith, long, begun_some is_txt zero_txt (drop i s) good)

      pub pass_room : i + n ≤ length s
      pass_room =
          omega (arith, long, length-drop i s, begun_within Scalar encode (λ (c : ℕ). c) (drop i s) (decoded (drop i s)) (begun is_txt zero_txt (drop i s) good))

      pub pass_char : Passing s (i + n) (more + (n - 1))
      unfolding every
      pass_char =
          let p = begun_some is_txt zero_txt (drop i s) good in
          let d : drop (decoded (drop i s)).len (drop i s) ≡ drop (i + n) s = ap (λ (m : ℕ). drop m (drop i s)) (sym long) ∙ drop-drop n i s in
          let c : chars (drop i s) ≡ (decoded (drop i s)).code ∷ chars (drop (i + n) s) = chars_step (drop i s) room (omega arith) ∙ ap (λ (l : List ℕ). (decoded (drop i s)).code ∷ chars l) d in
          record {
            within = pass_room;
            spare = omega (arith, w.spare);
            class = w.class ∙ ap (every is_txt) c ∙ ap (λ (b : Bool). b && every is_txt (chars (drop (i + n) s))) good;
            count = omega (arith, w.count, ap length c, long, p);
          }
