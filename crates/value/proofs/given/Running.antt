-- The bytes between two entities stand for themselves, and an entity for one byte: a loop that copies the first and resolves the second. Assumes nothing.
use mathlib.Core.Path.{◌≡◌, refl, sym, ◌∙◌, ap, ap₂, subst, subst₂}
use mathlib.Core.Bool.{Bool, true, false, cond}
use mathlib.Core.List.{List, [], ◌∷◌, ◌++◌, append_assoc}
use mathlib.Core.Logic.{◌≢◌}
use Prim.Native.Nat.{ℕ, zero, suc, ◌+◌, ◌-◌, ◌/◌, ◌%◌, ◌≤◌, ◌<◌, zero-le}
use native.Mathlib.Omega.{arith}
use lib.ListN.{length, get_or, take, drop, drop_of_length-le, length-drop, length-take, length-append}
use lib.Seq.{slice, drop-drop, take-append-add, drop-append-add}
use borrow.Author.Tests.{eq-eqb, ne_eqb}
use Rattle.text.specs.Lists.{Each, All, span}
use Rattle.text_characters.specs.Utf8.{encode, encode_all}
use Rattle.text.specs.Pasting.{pasted}
use Rattle.text_characters.specs.Pieces.{ampersand, Entity, amp, lt, gt, quot, apos, word, stands, Piece, char, entity, spell, spells, resolved, resolved_all, GoodPiece, Spells}
use Rattle.text_characters.specs.Chars.{NextChar}
use Rattle.text_characters.specs.declared.utf8.Char.{Char}
use Rattle.text_characters.proofs.Chars as firsts
use Rattle.text_characters.proofs.Decoding as decoding
use Rattle.text_characters.proofs.Resolving.{stands_low, stands_one}
use Rattle.text.proofs.Parts.{part_take}
use Rattle.text.proofs.Pasting.{pasted_none, pasted_then}
use Rattle.text.proofs.Spans.{span_le, span_stop, span_go, span_append}
use Rattle.text_characters.proofs.Spelling.{Begins, Leads, next_begins, leads, none_spells, one_text}
use Rattle.value.specs.mirror.Runs.{is_own, Roomy, CharsPut}
use Rattle.value.proofs.given.Putting.{kept}

-- ---- bytes that are no ampersand

own_not : (x : ℕ) → x ≡ ampersand → is_own x ≡ false
unfolding is_own
own_not x e = rw (eq-eqb x ampersand e)

own_yes : (x : ℕ) → x ≢ ampersand → is_own x ≡ true
unfolding is_own
own_yes x h = rw (ne_eqb x ampersand h)

module _ (t : List ℕ) (i n : ℕ) (w : i + span is_own (drop i t) ≡ n) (h : i < length t) where
  pub run_found : get_or t i 0 ≡ 38 → i ≡ n
  run_found e = omega (arith, span_stop is_own t i h (own_not (get_or t i 0) e))

  pub run_again : get_or t i 0 ≢ 38 → i + 1 + span is_own (drop (i + 1) t) ≡ n
  run_again e = omega (arith, span_go is_own t i h (own_yes (get_or t i 0) e))

own_char : (c : ℕ) → c ≢ ampersand → All is_own (encode c)
own_char c h =
    decoding.by_length (All is_own) c (λ k. (own_yes c h, tt))
    (λ j k. (own_yes (0xC0 + c / 64) (omega arith), (own_yes (0x80 + c % 64) (omega arith), tt)))
    (λ j k. (own_yes (0xE0 + c / 4096) (omega arith), (own_yes (0x80 + c / 64 % 64) (omega arith), (own_yes (0x80 + c % 64) (omega arith), tt))))
    (λ k. (own_yes (0xF0 + c / 262144) (omega arith), (own_yes (0x80 + c / 4096 % 64) (omega arith), (own_yes (0x80 + c / 64 % 64) (omega arith), (own_yes (0x80 + c % 64) (omega arith), tt)))))

-- ---- spans of lists one after the other

span_ends : (p : ℕ → Bool) (l : List ℕ) → span p (drop (span p l) l) ≡ 0
unfolding span
span_ends p [] = refl
span_ends p (x ∷ l) = go (p x) refl (span_ends p l)
  where
    go : (b : Bool) → p x ≡ b → span p (drop (span p l) l) ≡ 0 → span p (drop (cond b (suc (span p l)) zero) (x ∷ l)) ≡ 0
    go true e h = h
    go false e h = rw e

encode_append : (a b : List ℕ) → encode_all (a ++ b) ≡ encode_all a ++ encode_all b
encode_append [] b = refl
encode_append (c ∷ a) b =
    ap (λ (l : List ℕ). encode c ++ l) (encode_append a b) ∙ sym (append_assoc (encode c) (encode_all a) (encode_all b))

-- ---- up to the next entity the bytes are those of the characters

record Run (l ds : List ℕ) : Type 0 where
  before : List ℕ
  behind : List ℕ
  is : ds ≡ before ++ behind
  bytes : take (span is_own l) l ≡ encode_all before
  spells : Spells (drop (span is_own l) l) behind

run_stop : (l ds : List ℕ) → span is_own l ≡ 0 → Spells l ds → Run l ds
run_stop l ds z w = record { before = []; behind = ds; is = refl; bytes = rw z; spells = rw z w }

word_stop : (e : Entity) (t : List ℕ) → span is_own (word e ++ t) ≡ 0
unfolding span is_own
word_stop amp t = refl
word_stop lt t = refl
word_stop gt t = refl
word_stop quot t = refl
word_stop apos t = refl

run_char : (c : ℕ) (l ds : List ℕ) → c ≢ ampersand → Run l ds → Run (encode c ++ l) (c ∷ ds)
run_char c l ds h w =
    let e : span is_own (encode c ++ l) ≡ length (encode c) + span is_own l = span_append is_own (encode c) l (own_char c h) in
    record {
      before = c ∷ w.before;
      behind = w.behind;
      is = ap (λ (u : List ℕ). c ∷ u) w.is;
      bytes =
          ap (λ (n : ℕ). take n (encode c ++ l)) e ∙ take-append-add (encode c) l (span is_own l)
          ∙ ap (λ (u : List ℕ). encode c ++ u) w.bytes;
      spells = subst (λ (u : List ℕ). Spells u w.behind) (sym (ap (λ (n : ℕ). drop n (encode c ++ l)) e ∙ drop-append-add (encode c) l (span is_own l))) w.spells;
    }

run_go : (ps : List Piece) → Each GoodPiece ps → Run (spells ps) (resolved_all ps)
unfolding span
run_go [] g = record { before = []; behind = []; is = refl; bytes = refl; spells = record { pieces = []; good = tt; is = refl; chars = refl } }
run_go (char c ∷ ps) g = run_char c (spells ps) (resolved_all ps) g.0.2 (run_go ps g.1)
run_go (entity e ∷ ps) g =
    run_stop (word e ++ spells ps) (stands e ∷ resolved_all ps) (word_stop e (spells ps))
    (record { pieces = entity e ∷ ps; good = g; is = refl; chars = refl })

run_of : (l ds : List ℕ) → Spells l ds → Run l ds
run_of l ds w = subst₂ Run (sym w.is) (sym w.chars) (run_go w.pieces w.good)

-- ---- a run copied: from the place f of t, where ds are spelled, up to e

-- up to the place e of t all is written: there an entity begins, or t ends, and what is left, put at q, is as ds put at p of d
pub record Ran (t d : List ℕ) (p : ℕ) (ds d' : List ℕ) (e q : ℕ) : Type 0 where
  pub within : e ≤ length t
  pub stop : span is_own (drop e t) ≡ 0
  pub left : List ℕ
  pub spells : Spells (drop e t) left
  pub room : q + length (encode_all left) ≤ length d'
  pub long : length d' ≡ length d
  pub here : pasted d' q (encode_all left) ≡ pasted d p (encode_all ds)

module _ (t d : List ℕ) (f p : ℕ) (ds : List ℕ) (sp : Spells (drop f t) ds) (i : f ≤ length t) (r : p + length (encode_all ds) ≤ length d) (e : ℕ) (g : e ≡ f + span is_own (drop f t)) where
  abbrev n : ℕ
  n = span is_own (drop f t)

  w : Run (drop f t) ds
  w = run_of (drop f t) ds sp

  part : slice f e t ≡ encode_all w.before
  part = ap (λ (x : ℕ). slice f x t) g ∙ part_take f n t ∙ w.bytes

  less : n ≤ length (drop f t)
  less = span_le is_own (drop f t)

  count : length (encode_all w.before) ≡ n
  count = sym (ap length w.bytes) ∙ omega (arith, length-take n (drop f t), less)

  rest : drop e t ≡ drop n (drop f t)
  rest = ap (λ (x : ℕ). drop x t) g ∙ sym (drop-drop n f t)

  both : encode_all ds ≡ encode_all w.before ++ encode_all w.behind
  both = ap encode_all w.is ∙ encode_append w.before w.behind

  both_long : length (encode_all ds) ≡ n + length (encode_all w.behind)
  both_long = ap length both ∙ omega (arith, length-append (encode_all w.before) (encode_all w.behind), count)

  pub run_room : p + (e - f) ≤ length d
  run_room = omega (arith, g, both_long, r)

  pub run_end : e ≤ length t
  run_end = omega (arith, g, less, length-drop f t, i)

  run_copied : (d' : List ℕ) (q : ℕ) → d' ≡ pasted d p (slice f e t) → q ≡ p + (e - f) → Ran t d p ds d' e q
  run_copied d' q a b =
      let k : d' ≡ pasted d p (encode_all w.before) = a ∙ ap (pasted d p) part in
      let m : length d' ≡ length d = kept d d' p (slice f e t) a in
      let o : q ≡ p + length (encode_all w.before) = omega (arith, b, g, count) in
      record {
        within = run_end;
        stop = ap (span is_own) rest ∙ span_ends is_own (drop f t);
        left = w.behind;
        spells = subst (λ (u : List ℕ). Spells u w.behind) (sym rest) w.spells;
        room = omega (arith, o, count, both_long, r, m);
        long = m;
        here =
            ap₂ (λ (l : List ℕ) (x : ℕ). pasted l x (encode_all w.behind)) k o
            ∙ pasted_then d p (encode_all w.before) (encode_all w.behind) (omega (arith, count, both_long, r))
            ∙ ap (pasted d p) (sym both);
      }

-- ---- the loop, which began at the place i₀ of t and the place j₀ of d₀

pub record Going (t d₀ : List ℕ) (i₀ j₀ : ℕ) (d : List ℕ) (i j : ℕ) : Type 0 where
  pub chars : List ℕ
  pub whole : Spells (drop i₀ t) chars
  pub ran : Ran t d₀ j₀ chars d i j

module _ (t d : List ℕ) (at : ℕ) (w : Roomy t d at) (i : ℕ) (g : i ≡ 0 + span is_own t) where
  pub start_room : at + i ≤ length d
  start_room = omega (arith, run_room t d 0 at w.chars w.spells zero-le w.room i g)

  module _ (d₀ : List ℕ) (a : d₀ ≡ pasted d at (slice 0 i t)) where
    first : Ran t d at w.chars d₀ i (at + i)
    first = run_copied t d 0 at w.chars w.spells zero-le w.room i g d₀ (at + i) a (omega arith)

    pub going_start : Going t d₀ i (at + i) d₀ i (at + i)
    going_start = record { chars = first.left; whole = first.spells; ran = record { within = first.within; stop = first.stop; left = first.left; spells = first.spells; room = first.room; long = refl; here = refl } }

    pub going_end : (d' : List ℕ) (i' j' : ℕ) → Going t d₀ i (at + i) d' i' j' → length t ≤ i' → CharsPut t d at d'
    going_end d' i' j' g' h cs sp =
        let x = g'.ran in
        let z : drop i' t ≡ [] = drop_of_length-le t h in
        let y : x.left ≡ [] = none_spells x.left (subst (λ (l : List ℕ). Spells l x.left) z x.spells) in
        sym (pasted_none d' j') ∙ ap (λ (l : List ℕ). pasted d' j' (encode_all l)) (sym y) ∙ x.here
        ∙ ap (λ (l : List ℕ). pasted d₀ (at + i) (encode_all l)) (one_text (drop i t) g'.chars first.left g'.whole first.spells)
        ∙ first.here
        ∙ ap (λ (l : List ℕ). pasted d at (encode_all l)) (one_text t w.chars cs w.spells sp)

module _ (t d₀ : List ℕ) (i₀ j₀ : ℕ) (d : List ℕ) (i j : ℕ) (g₀ : Going t d₀ i₀ j₀ d i j) where
  state : Ran t d₀ j₀ g₀.chars d i j
  state = g₀.ran

  module _ (h : i < length t) (c : Char) (nx : NextChar (drop i t) c) where
    lead : Leads (drop i t) state.left c
    lead = leads (drop i t) state.left c nx state.spells (omega (arith, length-drop i t))

    begins : Begins (drop i t) c
    begins = next_begins (drop i t) c nx lead.some

    -- the character that begins here is an entity's, one byte
    low : (p : Piece) (u : List ℕ) → GoodPiece p → drop i t ≡ spell p ++ u → (resolved p < 128) × (encode (resolved p) ≡ resolved p ∷ [])
    low (entity e) u g q = (stands_low e, stands_one e)
    low (char x) u g q =
        absurd
        (let z : 0 ≡ length (encode x) + span is_own u = sym state.stop ∙ ap (span is_own) q ∙ span_append is_own (encode x) u (own_char x g.2) in
        omega (arith, decoding.encode_some x))

    is_low : (c.code < 128) × (encode c.code ≡ c.code ∷ [])
    is_low =
        let b = low begins.sign begins.rest begins.good begins.is in
        let q : c.code ≡ resolved begins.sign = ap (λ (x : Char). x.code) begins.found in
        subst (λ (x : ℕ). (x < 128) × (encode x ≡ x ∷ [])) (sym q) b

    pub code_low : c.code < 128
    code_low = is_low.0

    some_left : encode_all state.left ≡ (c.code ∷ []) ++ encode_all lead.rest
    some_left = ap encode_all lead.is ∙ ap (λ (l : List ℕ). l ++ encode_all lead.rest) is_low.1

    more : Spells (drop (i + c.len) t) lead.rest
    more = subst (λ (l : List ℕ). Spells l lead.rest) (drop-drop c.len i t) lead.spells

    left_long : length (encode_all state.left) ≡ 1 + length (encode_all lead.rest)
    left_long = ap length some_left ∙ omega arith

    pub from_within : i + c.len ≤ length t
    from_within = omega (arith, firsts.begun_within GoodPiece spell resolved (drop i t) c begins, length-drop i t, h)

    pub some_len : 0 < c.len
    some_len = lead.some

    module _ (e : ℕ) (g : e ≡ i + c.len + span is_own (drop (i + c.len) t)) where
      room_left : j + 1 + length (encode_all lead.rest) ≤ length d
      room_left = omega (arith, left_long, state.room)

      pub next_room : j + (1 + (e - (i + c.len))) ≤ length d
      next_room = omega (arith, run_room t d (i + c.len) (j + 1) lead.rest more from_within room_left e g)

      pub next_within : e ≤ length t
      next_within = run_end t d (i + c.len) (j + 1) lead.rest more from_within room_left e g

      module _ (d₁ : List ℕ) (a : d₁ ≡ pasted d j (c.code ∷ [])) where
        k : length d₁ ≡ length d
        k = kept d d₁ j (c.code ∷ []) a

        pub going_again : (d₂ : List ℕ) → d₂ ≡ pasted d₁ (j + 1) (slice (i + c.len) e t) → Going t d₀ i₀ j₀ d₂ e (j + (1 + (e - (i + c.len))))
        going_again d₂ b =
            let x = run_copied t d₁ (i + c.len) (j + 1) lead.rest more from_within (omega (arith, k, room_left)) e g d₂ (j + (1 + (e - (i + c.len)))) b (omega arith) in
            record {
              chars = g₀.chars;
              whole = g₀.whole;
              ran = record {
                within = x.within;
                stop = x.stop;
                left = x.left;
                spells = x.spells;
                room = x.room;
                long = x.long ∙ k ∙ state.long;
                here =
                    x.here ∙ ap (λ (l : List ℕ). pasted l (j + 1) (encode_all lead.rest)) a
                    ∙ pasted_then d j (c.code ∷ []) (encode_all lead.rest) (omega (arith, left_long, state.room))
                    ∙ ap (pasted d j) (sym some_left)
                    ∙ state.here;
              };
            }
