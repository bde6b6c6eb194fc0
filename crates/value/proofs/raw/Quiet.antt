-- A run of quiet bytes: each is a character of the class, and all are counted at once. Assumes nothing.
use mathlib.Core.Path.{◌≡◌, refl, sym, ◌∙◌, ap, subst, subst₂}
use mathlib.Core.Bool.{Bool, true, false, cond, ◌&&◌, ◌||◌, true≢false}
use mathlib.Core.List.{List, [], ◌∷◌}
use mathlib.Core.Logic.{◌≢◌}
use Prim.Native.Nat.{ℕ, zero, suc, ◌+◌, ◌-◌, ◌≤◌, ◌<◌, zero-le, suc-le-suc}
use native.Mathlib.Omega.{arith}
use lib.Dec.{eqb}
use lib.ListN.{length, drop, get_or, length-drop}
use lib.Seq.{get_or-drop}
use borrow.Author.Tests.{ne_eqb}
use Rattle.text.specs.Lists.{span}
use Rattle.text_characters.specs.Pieces.{GoodPiece, spell, resolved}
use Rattle.text_characters.specs.Chars.{char_of, First, NextChar}
use Rattle.text_characters.specs.Passing.{Passes}
use Rattle.text_characters.specs.declared.utf8.Char.{Char}
use Rattle.text_characters.proofs.Chars as chars
use Rattle.text_characters.proofs.Resolving.{next_ascii, piece_some}
use Rattle.text.proofs.Spans.{span_le}
use Rattle.value.specs.types.Text.{is_txt, is_ref}
use Rattle.value.specs.mirror.Tests.{not_space}
use Rattle.value.specs.mirror.Texts.{class_of, text_of, width_of, quiet_of}
use Rattle.value.proofs.classes.Computed.{Own, ref_low, ref_own, quiet_is, ascii_is, quiet_txt_lem}
use Rattle.value.proofs.raw.Sizes.{Sized, sized_more, width_one}
use Rattle.value.proofs.classes.References.{Here, here_full, here_room, here_more}

-- ---- a character of a class is spelled by some bytes

zero_out : (strict : Bool) → class_of strict 0 ≡ false
unfolding is_txt is_ref
zero_out true = refl
zero_out false = refl

some_bytes : (strict : Bool) (l : List ℕ) (r : Char) → NextChar l r → class_of strict r.code ≡ true → r.len ≢ 0
some_bytes strict l r (First.begun b) e z = omega (arith, chars.begun_len GoodPiece spell resolved l r b, piece_some b.sign)
some_bytes strict l r (First.none f never) e z = true≢false (sym e ∙ ap (λ (x : Char). class_of strict x.code) f ∙ zero_out strict)

-- ---- a quiet byte

record Quiet (strict : Bool) (x : ℕ) : Type 0 where
  own : Own x
  high : x < 0x80
  class : class_of strict x ≡ true
  slash : (strict && eqb x 47) ≡ false

quiet : (strict : Bool) (x : ℕ) → quiet_of strict x ≡ true → Quiet strict x
quiet true x e =
    let w = quiet_is x e in
    record { own = ref_own x w.0; high = ref_low x w.0; class = w.0; slash = ne_eqb x 47 w.1 }
quiet false x e =
    let w = quiet_txt_lem x e in
    let a = ascii_is x w.0 in
    record { own = w.1; high = a.0; class = a.1; slash = refl }

-- ---- a run of them

span_at : (p : ℕ → Bool) (l : List ℕ) (j : ℕ) → j < span p l → p (get_or l j 0) ≡ true
unfolding span
span_at p [] j h = absurd (omega arith)
span_at p (x ∷ l) zero h = go (p x) refl h
  where
    go : (b : Bool) → p x ≡ b → zero < cond b (suc (span p l)) zero → p x ≡ true
    go true e h = e
    go false e h = absurd (omega arith)
span_at p (x ∷ l) (suc j) h = go (p x) h (span_at p l j)
  where
    go : (b : Bool) → suc j < cond b (suc (span p l)) zero → (j < span p l → p (get_or l j 0) ≡ true) → p (get_or l j 0) ≡ true
    go true h f = f (omega arith)
    go false h f = absurd (omega arith)

-- m bytes from i on; there are none before one that is no space was read
pub record Run (strict ink : Bool) (s : List ℕ) (i m : ℕ) : Type 0 where
  pub room : i + m ≤ length s
  quiet : (j : ℕ) → i ≤ j → j < i + m → Quiet strict (get_or s j 0)
  inked : 0 < m → ink ≡ true

pub run_is : (strict ink : Bool) (s : List ℕ) (i m : ℕ) → m ≡ cond ink (span (quiet_of strict) (drop i s)) 0 → i ≤ length s → Run strict ink s i m
run_is strict false s i m e h = record { room = omega arith; quiet = λ j a b. absurd (omega arith); inked = λ z. absurd (omega arith) }
run_is strict true s i m e h =
    record {
      room = omega (arith, span_le (quiet_of strict) (drop i s), length-drop i s);
      quiet = λ j a b.
          let q : i + (j - i) ≡ j = omega arith in
          let v : quiet_of strict (get_or (drop i s) (j - i) 0) ≡ true = span_at (quiet_of strict) (drop i s) (j - i) (omega arith) in
          quiet strict (get_or s j 0) (subst (λ (y : ℕ). quiet_of strict (get_or s y 0) ≡ true) q (rw (get_or-drop i s (j - i) 0) at v));
      inked = λ z. refl;
    }

-- no byte of a run is refused after a slash
abbrev Calm : Bool → Bool → Type 0
Calm strict slash = (x : ℕ) → (strict && eqb x 47) ≡ false → (slash && eqb x 47) ≡ false

calm : (strict b : Bool) → Calm strict (strict && b)
calm true true x e = e
calm true false x e = refl
calm false b x e = refl

module _ (strict : Bool) (k : ℕ) (s : List ℕ) where
  quiet_next : (i : ℕ) → i < length s → Quiet strict (get_or s i 0) → NextChar (drop i s) (char_of 1 (get_or s i 0))
  quiet_next i h q = next_ascii s i h (char_of 1 (get_or s i 0)) q.own.low q.high q.own.ampersand q.own.less refl

  here_one : (i n : ℕ) (slash : Bool) → Here strict k s i n true slash → Calm strict slash → i < length s → n < k → Quiet strict (get_or s i 0)
      → Here strict k s (i + 1) (n + 1) true false
  here_one i n slash w f h j q =
      subst (Here strict k s (i + 1) (n + 1) true) q.slash
      (here_more strict k s i n true slash w h (char_of 1 (get_or s i 0)) (quiet_next i h q) (omega arith) j q.class (f (get_or s i 0) q.slash))

  here_some : (m i n : ℕ) (slash : Bool) → Here strict k s i n true slash → Calm strict slash → i + suc m ≤ length s → n + suc m ≤ k
      → ((j : ℕ) → i ≤ j → j < i + suc m → Quiet strict (get_or s j 0)) → Here strict k s (i + suc m) (n + suc m) true false
  here_some zero i n slash w f h j q = here_one i n slash w f (omega arith) (omega arith) (q i (omega arith) (omega arith))
  here_some (suc m) i n slash w f h j q =
      let a : i + 1 + suc m ≡ i + suc (suc m) = omega arith in
      let b : n + 1 + suc m ≡ n + suc (suc m) = omega arith in
      subst₂ (λ (x y : ℕ). Here strict k s x y true false) a b
      (here_some m (i + 1) (n + 1) false (here_one i n slash w f (omega arith) (omega arith) (q i (omega arith) (omega arith))) (λ x e. refl) (omega arith) (omega arith)
      (λ x c d. q x (omega arith) (omega arith)))

  module _ (ink b : Bool) (i n m : ℕ) (w : Here strict k s i n ink (strict && b)) (r : Run strict ink s i m) where
    -- the run is counted
    pub here_run : n + m ≤ k → (i' n' : ℕ) → i' ≡ i + m → n' ≡ n + m → (slash : Bool) → slash ≡ (eqb m 0 && (strict && b)) → Here strict k s i' n' ink slash
    here_run h i' n' p q slash e = rw (p, q, e) (go m r h)
      where
        inked_some : (m : ℕ) (ink : Bool) → ink ≡ true → Here strict k s i n ink (strict && b) → Run strict ink s i (suc m) → n + suc m ≤ k
            → Here strict k s (i + suc m) (n + suc m) ink false
        inked_some m true e w r h = here_some m i n (strict && b) w (calm strict b) r.room h r.quiet
        inked_some m false e w r h = absurd (true≢false (sym e))

        go : (m : ℕ) → Run strict ink s i m → n + m ≤ k → Here strict k s (i + m) (n + m) ink (eqb m 0 && (strict && b))
        go zero r h =
            let p : i ≡ i + 0 = omega arith in
            let q : n ≡ n + 0 = omega arith in
            subst₂ (λ (x y : ℕ). Here strict k s x y ink (strict && b)) p q w
        go (suc m) r h = rw (ne_eqb (suc m) 0 (omega arith)) (inked_some m ink (r.inked (suc-le-suc zero-le)) w r h)

    -- the run is too long: at its k-th character none may follow
    pub here_overrun : n ≤ k → k < n + m → Passes (text_of strict k) s → ⊥
    here_overrun h o = go (k - n) (omega arith) (omega arith)
      where
        inked_full : (d : ℕ) (ink : Bool) → ink ≡ true → Here strict k s i n ink (strict && b) → n + suc d ≡ k → suc d < m → Passes (text_of strict k) s → ⊥
        inked_full d true e w c l =
            here_full strict k s (i + suc d) (n + suc d) true false
            (here_some d i n (strict && b) w (calm strict b) (omega (arith, r.room)) (omega arith) (λ x a z. r.quiet x a (omega arith)))
            (omega (arith, r.room)) (omega arith)
        inked_full d false e w c l = absurd (true≢false (sym e))

        go : (d : ℕ) → n + d ≡ k → d < m → Passes (text_of strict k) s → ⊥
        go zero c l = here_full strict k s i n ink (strict && b) w (omega (arith, r.room)) (omega arith)
        go (suc d) c l = inked_full d ink (r.inked (omega arith)) w c l

  -- each has one byte
  sized_many : (m i size : ℕ) → Sized s i size → i + m ≤ length s → ((j : ℕ) → i ≤ j → j < i + m → Quiet strict (get_or s j 0)) → Sized s (i + m) (size + m)
  sized_many zero i size w h q =
      let a : i ≡ i + 0 = omega arith in
      let b : size ≡ size + 0 = omega arith in
      subst₂ (Sized s) a b w
  sized_many (suc m) i size w h q =
      let a : i + 1 + m ≡ i + suc m = omega arith in
      let b : size + 1 + m ≡ size + suc m = omega arith in
      let y = q i (omega arith) (omega arith) in
      let v = sized_more s i size w (char_of 1 (get_or s i 0)) (quiet_next i (omega arith) y) (omega arith) 1 (sym (width_one 1 (get_or s i 0) y.high)) in
      subst₂ (Sized s) a b (sized_many m (i + 1) (size + 1) v (omega arith) (λ x c d. q x (omega arith) (omega arith)))

  pub sized_run : (ink : Bool) (i size m : ℕ) → Sized s i size → Run strict ink s i m → (i' size' : ℕ) → i' ≡ i + m → size' ≡ size + m → Sized s i' size'
  sized_run ink i size m w r i' size' p q = rw (p, q) (sized_many m i size w r.room r.quiet)

-- ---- a turn of the loop: the character r at i, and the run of m bytes after it

pub turn_some : (strict : Bool) (k : ℕ) (s : List ℕ) (i n : ℕ) (ink slash : Bool) → Here strict k s i n ink slash → (r : Char) → NextChar (drop i s) r → class_of strict r.code ≡ true → 0 < r.len
turn_some strict k s i n ink slash w r f e = omega (arith, some_bytes strict (drop i s) r f e)

module _ (strict : Bool) (k : ℕ) (s : List ℕ) (i n : ℕ) (ink slash : Bool) (w : Here strict k s i n ink slash) (h : i < length s) (r : Char) (f : NextChar (drop i s) r) (inked : Bool) (m : ℕ) (d : m ≡ cond inked (span (quiet_of strict) (drop (i + r.len) s)) 0) where
  turn_run : Run strict inked s (i + r.len) m
  turn_run = run_is strict inked s (i + r.len) m d (here_room strict k s i n ink slash w h r f)

  pub turn_room : i + r.len + m ≤ length s
  turn_room = turn_run.room

  module _ (a : n < k) (e : class_of strict r.code ≡ true) (g : (slash && eqb r.code 47) ≡ false) (t : inked ≡ (ink || not_space r.code)) where
    turn_here : Here strict k s (i + r.len) (n + 1) inked (strict && eqb r.code 47)
    turn_here =
        subst (λ (x : Bool). Here strict k s (i + r.len) (n + 1) x (strict && eqb r.code 47)) (sym t)
        (here_more strict k s i n ink slash w h r f (some_bytes strict (drop i s) r f e) a e g)

    pub turn_over : k - (n + 1) < m → Passes (text_of strict k) s → ⊥
    turn_over o = here_overrun strict k s inked (eqb r.code 47) (i + r.len) (n + 1) m turn_here turn_run (omega arith) (omega arith)

    pub turn_here_on : m ≤ k - (n + 1) → (b : Bool) → b ≡ (eqb m 0 && (strict && eqb r.code 47)) → Here strict k s (i + (r.len + m)) (n + 1 + m) inked b
    turn_here_on o b q =
        here_run strict k s inked (eqb r.code 47) (i + r.len) (n + 1) m turn_here turn_run (omega arith) (i + (r.len + m)) (n + 1 + m) (omega arith) (omega arith) b q

    pub turn_sized : (size v : ℕ) → Sized s i size → v ≡ width_of r.len r.code → Sized s (i + (r.len + m)) (size + (v + m))
    turn_sized size v z q =
        sized_run strict k s inked (i + r.len) (size + v) m (sized_more s i size z r f (some_bytes strict (drop i s) r f e) v q) turn_run (i + (r.len + m)) (size + (v + m)) (omega arith)
        (omega arith)
