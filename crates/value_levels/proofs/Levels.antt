-- Levels of bytes: each class lies within the one below it; over the bytes of one. Assumes nothing.
use mathlib.Core.Path.{◌≡◌, refl, sym, ◌∙◌, ap, ap₂, subst}
use mathlib.Core.Bool.{Bool, true, false, cond, not, ◌&&◌}
use mathlib.Core.Logic.{◌≢◌}
use mathlib.Core.List.{List, [], ◌∷◌, ◌++◌}
use Prim.Native.Nat.{ℕ, zero, suc, ◌+◌, ◌-◌, ◌≤◌, ◌<◌}
use native.Mathlib.Omega.{arith}
use native.Mathlib.Decide.{dec_lt}
use lib.Dec.{leb, eqb}
use lib.ListN.{length, get_or, take, drop, take-append-drop, get_or-eq_default}
use lib.Seq.{drop-drop, length-take-le}
use mir.Val.{bool_byte}
use borrow.Author.Tests.{eqb-true, eqb-false, leb-true, le-leb, lt-leb, not-true}
use Rattle.text.specs.Lists.{All, span}
use Rattle.text.specs.Bytes.{is_letter, is_digit}
use Rattle.text.proofs.Classes.{digit, and_is, every}
use Rattle.text.proofs.Classes as classes
use Rattle.text.proofs.Spans.{span_le, span_end, span_stop, span_go, span_next}
use Rattle.text_characters.specs.Pieces.{greater}
use Rattle.value.specs.types.Code.{is_letter_or_digit}
use Rattle.value.specs.types.Text.{is_txt, is_ref}
use Rattle.value.specs.mirror.Texts.{is_ascii_txt, quiet_txt, quiet_ref}
use Rattle.value.proofs.classes.Computed.{besides, quiet_none, quiet_far}
use Rattle.value.proofs.classes.Named.{letter_or_digit, reference}
use Rattle.value_levels.specs.mirror.Levels.{level_of, reaches, Leveled, Ran}
use Rattle.value_levels.specs.mirror.Runs.{Over}
use Rattle.value_levels.proofs.Passing.{over_none, over_start, block_of, block_long, over_item, over_block}

-- ---- no byte

past_go : (d a b c : Bool) → d ≡ false → a ≡ false → b ≡ false → c ≡ false → ◌≡◌ {A = ℕ} 0 (cond d 4 (cond a 3 (cond b 2 (cond c 1 0))))
past_go d a b c h e f g = rw (h, e, f, g)

quiet_past : (b c : Bool) → b ≡ false → (b && c) ≡ false
quiet_past b c e = rw e

level_past : (x : ℕ) → 256 ≤ x → 0 ≡ level_of x
unfolding level_of
level_past x h =
    past_go (is_digit x) (is_letter_or_digit x) (quiet_ref x) (quiet_txt x && not (eqb x greater)) (sym (classes.no digit (omega arith))) (sym (classes.no letter_or_digit (omega arith)))
    (sym (quiet_none x (classes.no reference (omega arith)))) (quiet_past (quiet_txt x) (not (eqb x greater)) (quiet_far x (omega arith)))

-- ---- what a level says: one computed test for each

level_byte : (m x : ℕ) → reaches (suc m) x ≡ true → x < 256
level_byte m x e = elim (dec_lt x 256) [ yes l ↦ l | no l ↦ absurd (omega (arith, leb-true (suc m) (level_of x) e, level_past x (omega arith))) ]

pub level_digit : (x : ℕ) → reaches 4 x ≡ true → is_digit x ≡ true
unfolding level_of quiet_txt is_ascii_txt is_txt is_ref is_letter_or_digit is_letter is_digit
level_digit x e = besides (reaches 4) is_digit 256 refl x (level_byte 3 x e) e

pub level_code : (x : ℕ) → reaches 3 x ≡ true → is_letter_or_digit x ≡ true
unfolding level_of quiet_txt is_ascii_txt is_txt is_ref is_letter_or_digit is_letter is_digit
level_code x e = besides (reaches 3) is_letter_or_digit 256 refl x (level_byte 2 x e) e

pub level_ref : (x : ℕ) → reaches 2 x ≡ true → quiet_ref x ≡ true
unfolding level_of quiet_txt is_ascii_txt is_txt is_ref is_letter_or_digit is_letter is_digit
level_ref x e = besides (reaches 2) quiet_ref 256 refl x (level_byte 1 x e) e

pub level_txt : (x : ℕ) → reaches 1 x ≡ true → (quiet_txt x ≡ true) × (x ≢ greater)
unfolding level_of quiet_txt is_ascii_txt is_txt is_ref is_letter_or_digit is_letter is_digit
level_txt x e =
    let w = and_is (quiet_txt x) (not (eqb x greater)) (besides (reaches 1) (λ (y : ℕ). quiet_txt y && not (eqb y greater)) 256 refl x (level_byte 0 x e) e) in
    (w.0, eqb-false x greater (not-true (eqb x greater) w.1))

-- a byte that a few comparisons find
abbrev found : ℕ → Bool
found x = ((((leb 32 x && not (eqb x 38)) && not (eqb x 60)) && not (eqb x 62)) && not (eqb x 96)) && leb x 126

found_level : (x : ℕ) → found x ≡ true → 1 ≤ level_of x
unfolding level_of quiet_txt is_ascii_txt is_txt is_ref is_letter_or_digit is_letter is_digit
found_level x e =
    let w = and_is ((((leb 32 x && not (eqb x 38)) && not (eqb x 60)) && not (eqb x 62)) && not (eqb x 96)) (leb x 126) e in
    leb-true 1 (level_of x) (besides found (reaches 1) 256 refl x (omega (arith, leb-true x 126 w.1)) e)

told_most : (b : Bool) → bool_byte b ≤ 1
told_most true = omega arith
told_most false = omega arith

told_is : (b : Bool) → bool_byte b ≢ 0 → b ≡ true
told_is true n = refl
told_is false n = absurd (n refl)

pub quiet_told : (x : ℕ) → (bool_byte (found x) ≤ 1) × (bool_byte (found x) ≢ 0 → 1 ≤ level_of x)
quiet_told x = (told_most (found x), λ n. found_level x (told_is (found x) n))

-- ---- a table, by one computed test

pub leveled : (t : List ℕ) → length t ≡ 256 → every (λ (x : ℕ). eqb (get_or t x 0) (level_of x)) 0 256 ≡ true → Leveled t
leveled t l e = record { is = λ x. go x (dec_lt x 256) }
  where
    go : (x : ℕ) → Dec (x < 256) → get_or t x 0 ≡ level_of x
    go x (yes h) = eqb-true (get_or t x 0) (level_of x) (classes.passes (λ (y : ℕ). eqb (get_or t y 0) (level_of y)) 0 256 e x (omega arith) (omega arith))
    go x (no h) = get_or-eq_default t 0 (omega arith) ∙ level_past x (omega arith)

-- w: a byte x, as a number that looks up
pub looked : (t : List ℕ) → Leveled t → (m w x : ℕ) → w ≡ x → m ≤ get_or t w 0 → m ≤ level_of x
looked t l m w x e h = subst (λ (y : ℕ). m ≤ level_of y) e (subst (λ (y : ℕ). m ≤ y) (l.is w) h)

pub looked_below : (t : List ℕ) → Leveled t → (m w x : ℕ) → w ≡ x → get_or t w 0 < m → level_of x < m
looked_below t l m w x e h = subst (λ (y : ℕ). level_of y < m) e (subst (λ (y : ℕ). y < m) (l.is w) h)

pub all_map : (p q : ℕ → Bool) → ((x : ℕ) → p x ≡ true → q x ≡ true) → (l : List ℕ) → All p l → All q l
all_map p q f [] h = tt
all_map p q f (x ∷ l) h = (f x h.0, all_map p q f l h.1)

-- ---- over bytes of a level

pub ran_over : (m : ℕ) (s : List ℕ) (i j : ℕ) → Over (reaches m) s i j → Ran m s i j
ran_over m s i j a = record { from = a.from; rest = a.rest }

pub ran_none : (m : ℕ) (s : List ℕ) (i : ℕ) → Ran m s i i
ran_none m s i = ran_over m s i i (over_none (reaches m) s i)

pub ran_start : (m : ℕ) (s : List ℕ) (at : ℕ) → Ran m s at (at + 0)
ran_start m s at = ran_over m s at (at + 0) (over_start (reaches m) s at)

pub ran_then : (m : ℕ) (s : List ℕ) (i j k : ℕ) → Ran m s i j → Ran m s j k → Ran m s i k
ran_then m s i j k a b = record { from = omega (arith, a.from, b.from); rest = b.rest ∙ a.rest }

pub ran_more : (m : ℕ) (s : List ℕ) (at j : ℕ) → Ran m s at (at + j) → at + j < length s → m ≤ level_of (get_or s (at + j) 0) → Ran m s at (at + (j + 1))
ran_more m s at j a h l =
    let g = span_go (reaches m) s (at + j) h (le-leb m (level_of (get_or s (at + j) 0)) l) in
    let q : at + j + 1 ≡ at + (j + 1) = omega arith in
    subst (Ran m s at) q (record { from = omega arith; rest = omega (arith, a.rest, g) })

pub ran_all : (m : ℕ) (s : List ℕ) (at j n : ℕ) → Ran m s at (at + j) → j ≤ n → n ≤ j → Ran m s at (at + n)
ran_all m s at j n a h k = let e : j ≡ n = omega arith in subst (λ (x : ℕ). Ran m s at (at + x)) e a

-- a run ends at a byte below its level; all of a run, from any place of it
pub ran_out : (m : ℕ) (s : List ℕ) (i : ℕ) → i < length s → level_of (get_or s i 0) < m → span (reaches m) (drop i s) ≡ 0
ran_out m s i h l = span_stop (reaches m) s i h (lt-leb m (level_of (get_or s i 0)) l)

pub ran_end : (m : ℕ) (s : List ℕ) (i j : ℕ) → Ran m s i j → span (reaches m) (drop j s) ≡ 0 → j ≡ i + span (reaches m) (drop i s)
ran_end m s i j a e = omega (arith, a.rest, e)

pub ran_whole : (m : ℕ) (s : List ℕ) (i j k : ℕ) → Ran m s i j → k ≡ j + span (reaches m) (drop j s) → k ≡ i + span (reaches m) (drop i s)
ran_whole m s i j k a e = e ∙ a.rest

-- bytes, compared at once: n of the first j are of the class, and they are passed where n is j
pub record Counted (p : ℕ → Bool) (s : List ℕ) (at j n : ℕ) : Type 0 where
  pub most : n ≤ j
  pub over : n ≡ j → Over p s at (at + j)

pub counted_start : (p : ℕ → Bool) (s : List ℕ) (at : ℕ) → Counted p s at 0 0
counted_start p s at = record { most = omega arith; over = λ e. over_start p s at }

pub counted_item : (p : ℕ → Bool) (s : List ℕ) (at k j n r : ℕ) → at + k ≤ length s → Counted p s at j n → j < length (block_of at k s) → r ≤ 1
    → (r ≢ 0 → p (get_or (block_of at k s) j 0) ≡ true) → Counted p s at (j + 1) (n + r)
counted_item p s at k j n r h w l o f =
    record {
      most = omega (arith, w.most, o);
      over = λ e. over_item p s at k j h (w.over (omega (arith, w.most, o, e))) l (f (λ z. omega (arith, w.most, o, e)));
    }

pub counted_block : (p : ℕ → Bool) (s : List ℕ) (at k j n : ℕ) → at + k ≤ length s → Counted p s at j n → j ≤ length (block_of at k s) → length (block_of at k s) ≤ j → n ≡ k → Over p s at (at + k)
counted_block p s at k j n h w u l e =
    over_block p s at k j h (w.over (omega (arith, e, u, l, block_long at k s h))) u l

span_same : (p q : ℕ → Bool) → ((x : ℕ) → p x ≡ q x) → (l : List ℕ) → span p l ≡ span q l
unfolding span
span_same p q f [] = refl
span_same p q f (x ∷ l) = ap₂ (λ (b : Bool) (n : ℕ). cond b (suc n) zero) (f x) (span_same p q f l)

span_done : (p : ℕ → Bool) (l : List ℕ) → span p (drop (span p l) l) ≡ 0
span_done p l =
    elim (dec_lt (span p l) (length l)) [ yes h ↦ span_stop p l (span p l) h (span_next p l h) | no h ↦ span_end p l (span p l) (omega arith) ]

-- to the end of a run, as far as the levels in the table reach
pub ran_ended : (t : List ℕ) (m : ℕ) (s : List ℕ) (at i r : ℕ) → at ≤ i → (Leveled t → Ran m s at i) → r ≡ i + span (λ (x : ℕ). leb m (get_or t x 0)) (drop i s)
    → (at ≤ r) × (Leveled t → Ran m s at r) × (Leveled t → r ≡ at + span (reaches m) (drop at s))
ran_ended t m s at i r h a e = (omega arith, λ l. ran_then m s at i r (a l) (on l), λ l. ran_whole m s at i r (a l) (is l))
  where
    is : Leveled t → r ≡ i + span (reaches m) (drop i s)
    is l = e ∙ ap (λ (n : ℕ). i + n) (span_same (λ (x : ℕ). leb m (get_or t x 0)) (reaches m) (λ x. ap (leb m) (l.is x)) (drop i s))

    over : Leveled t → span (reaches m) (drop r s) ≡ 0
    over l =
        ap (λ (n : ℕ). span (reaches m) (drop n s)) (is l)
        ∙ ap (span (reaches m)) (sym (drop-drop (span (reaches m) (drop i s)) i s))
        ∙ span_done (reaches m) (drop i s)

    on : Leveled t → Ran m s i r
    on l = record { from = omega (arith, is l); rest = omega (arith, is l, over l) }

pub ran_four : (m : ℕ) (s : List ℕ) (at i n : ℕ) → Ran m s at i → Ran m s i (i + n) → n ≡ 4 → Ran m s at (i + 4)
ran_four m s at i n a b e = subst (λ (x : ℕ). Ran m s at (i + x)) e (ran_then m s at i (i + n) a b)

front_all : (p : ℕ → Bool) (n : ℕ) (l : List ℕ) → n ≤ span p l → All p (take n l)
unfolding span
front_all p zero l h = tt
front_all p (suc n) [] h = tt
front_all p (suc n) (x ∷ l) h = go (p x) refl (front_all p n l) h
  where
    go : (b : Bool) → p x ≡ b → (n ≤ span p l → All p (take n l)) → suc n ≤ cond b (suc (span p l)) zero → All p (take (suc n) (x ∷ l))
    go true e f k = (e, f (omega arith))
    go false e f k = absurd (omega arith)

-- the bytes that were passed
module _ (m : ℕ) (s : List ℕ) (i j : ℕ) (e : Ran m s i j) where
  abbrev pub run_of : List ℕ
  run_of = take (j - i) (drop i s)

  run_most : j - i ≤ span (reaches m) (drop i s)
  run_most = omega (arith, e.from, e.rest)

  pub run_is : drop i s ≡ run_of ++ drop j s
  run_is =
      let q : i + (j - i) ≡ j = omega (arith, e.from) in
      sym (take-append-drop (j - i) (drop i s)) ∙ ap (λ (z : List ℕ). run_of ++ z) (drop-drop (j - i) i s ∙ ap (λ (x : ℕ). drop x s) q)

  pub run_long : i + length run_of ≡ j
  run_long = omega (arith, e.from, length-take-le (j - i) (drop i s) (omega (arith, run_most, span_le (reaches m) (drop i s))))

  pub run_all : All (reaches m) run_of
  run_all = front_all (reaches m) (j - i) (drop i s) run_most
