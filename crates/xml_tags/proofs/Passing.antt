-- Bytes that are passed at once, in a list that is known and at a place of any list. Assumes nothing.
use mathlib.Core.Path.{◌≡◌, refl, sym, ◌∙◌, ap}
use mathlib.Core.Bool.{Bool, true, false, not, ◌||◌, true≢false}
use mathlib.Core.List.{List, [], ◌∷◌, ◌++◌}
use Prim.Native.Nat.{ℕ, ◌+◌, ◌≤◌, ◌<◌}
use native.Mathlib.Omega.{arith}
use native.Mathlib.Decide.{dec_lt}
use lib.Dec.{eqb}
use lib.ListN.{length, get_or, take, drop, take-append-drop, drop_of_length-le}
use lib.Seq.{drop-append_seam, drop-append-add, drop-drop, drop-cons, length-take-le}
use borrow.Author.Tests.{eq-eqb, ne_eqb}
use Rattle.text.specs.Bytes.{is_blank, is_name_part}
use Rattle.text.specs.Lists.{All, span}
use Rattle.text_characters.specs.Pieces.{solidus, equal, greater}
use Rattle.text.proofs.Classes as classes
use Rattle.text.proofs.Classes.{Named, only, ◌or◌}
use Rattle.text.proofs.Spans.{span_of, span_le, span_all, span_stop, span_go, span_append}
use Rattle.xml.proofs.Basics.{all_weaken, is_full_part}
use Rattle.xml_tags.specs.Marks.{but, pass, one, head_is, behind}
use Rattle.xml_tags.specs.mirror.Passing.{no_quote, in_name}

-- ---- a byte that stops

pub but_other : (b x : ℕ) → (x ≡ b → ⊥) → but b x ≡ true
but_other b x n = ap not (ne_eqb x b n)

-- a test that b fails is passed by other bytes only
pub but_by : (p : ℕ → Bool) (b : ℕ) → p b ≡ false → (x : ℕ) → p x ≡ true → but b x ≡ true
but_by p b f x h = but_other b x (λ e. true≢false (sym h ∙ ap p e ∙ f))

pub stops : (p : ℕ → Bool) (x : ℕ) (l : List ℕ) → p x ≡ false → span p (x ∷ l) ≡ 0
unfolding span
stops p x l e = rw e

-- a wider test passes all that a narrower one does, and goes on from there
pub span_wider : (p q : ℕ → Bool) → ((x : ℕ) → p x ≡ true → q x ≡ true) → (l : List ℕ) → span q l ≡ span p l + span q (drop (span p l) l)
span_wider p q f l =
    let n = span p l in
    ap (span q) (sym (take-append-drop n l))
    ∙ span_append q (take n l) (drop n l) (all_weaken p q f (take n l) (span_all p l))
    ∙ ap (λ (m : ℕ). m + span q (drop n l)) (length-take-le n l (span_le p l))

pub wider_at : (p q : ℕ → Bool) → ((x : ℕ) → p x ≡ true → q x ≡ true) → (s : List ℕ) (at m r : ℕ) → m ≡ at + span p (drop at s)
    → r ≡ m + span q (drop m s) → r ≡ at + span q (drop at s)
wider_at p q f s at m r e h =
    let d : drop (span p (drop at s)) (drop at s) ≡ drop m s = drop-drop (span p (drop at s)) at s ∙ ap (λ (x : ℕ). drop x s) (sym e) in
    let w : span q (drop at s) ≡ span p (drop at s) + span q (drop m s) = span_wider p q f (drop at s) ∙ ap (λ (l : List ℕ). span p (drop at s) + span q l) d in
    omega (arith, w, e, h)

-- ---- passing

module _ {A : Type 0} (p : ℕ → Bool) (f : ℕ → List ℕ → A) where
  pub pass_over : (o : ℕ) (a w : List ℕ) → All p a → span p w ≡ 0 → pass p f o (a ++ w) ≡ f (o + length a) w
  unfolding pass
  pass_over o a w h e = rw (span_of p a w h e, drop-append_seam a w)

  -- some of them, and the rest later
  pub pass_skip : (o : ℕ) (a w : List ℕ) → All p a → pass p f o (a ++ w) ≡ pass p f (o + length a) w
  unfolding pass
  pass_skip o a w h =
      let e : o + (length a + span p w) ≡ o + length a + span p w = omega arith in
      rw (span_append p a w h, drop-append-add a w (span p w), e)

  -- none of them
  pub pass_none : (o : ℕ) (w : List ℕ) → span p w ≡ 0 → pass p f o w ≡ f o w
  unfolding pass
  pass_none o w e = let z : o + 0 ≡ o = omega arith in rw (e, z)

  -- a place of any list, passed by a span that was told
  pub pass_at : (s : List ℕ) (at r : ℕ) → r ≡ at + span p (drop at s) → pass p f at (drop at s) ≡ f r (drop r s)
  unfolding pass
  pass_at s at r e = rw (e, drop-drop)

  -- whatever was passed
  pub pass_any : (P : A → Type 0) (o : ℕ) (l : List ℕ) → ((n : ℕ) → n ≤ length l → P (f (o + n) (drop n l))) → P (pass p f o l)
  unfolding pass
  pass_any P o l h = h (span p l) (span_le p l)

pub one_le : (l : List ℕ) → one l ≤ length l
one_le [] = omega arith
one_le (x ∷ l) = omega arith

-- ---- at a place of any list

pub past_go : (s : List ℕ) (i : ℕ) → i < length s → i + 1 ≡ i + one (drop i s)
past_go s i h = rw (drop-cons s i 0 h)

pub past_end : (s : List ℕ) (i : ℕ) → length s ≤ i → i ≡ i + one (drop i s)
past_end s i h = rw (drop_of_length-le s h) (omega arith)

-- after the first such byte
pub behind_at : (b : ℕ) (s : List ℕ) (at i : ℕ) → i ≡ at + span (but b) (drop at s) → behind b at (drop at s) ≡ i + one (drop i s)
unfolding behind
behind_at b s at i e = pass_at (but b) (λ o l. o + one l) s at i e

pub head_at : (b : ℕ) (s : List ℕ) (i : ℕ) → i < length s → eqb (get_or s i 0) b ≡ head_is b (drop i s)
head_at b s i h = rw (drop-cons s i 0 h)

pub head_end : (b : ℕ) (s : List ℕ) (i : ℕ) → length s ≤ i → false ≡ head_is b (drop i s)
head_end b s i h = rw (drop_of_length-le s h)

-- a byte that was found is there
pub head_in : (b : ℕ) (s : List ℕ) (i : ℕ) → head_is b (drop i s) ≡ true → i < length s
head_in b s i e = go (dec_lt i (length s))
  where
    go : Dec (i < length s) → i < length s
    go (yes h) = h
    go (no h) = absurd (true≢false (sym e ∙ sym (head_end b s i (omega arith))))

-- a loop up to b that has come to i
module _ (b : ℕ) (s : List ℕ) (i n : ℕ) (w : i + span (but b) (drop i s) ≡ n) (h : i < length s) where
  pub until_found : get_or s i 0 ≡ b → i ≡ n
  until_found e = omega (arith, span_stop (but b) s i h (ap not (eq-eqb (get_or s i 0) b e)))

  pub until_again : (get_or s i 0 ≡ b → ⊥) → i + 1 + span (but b) (drop (i + 1) s) ≡ n
  until_again f = omega (arith, span_go (but b) s i h (but_other b (get_or s i 0) f))

-- a byte that is neither quote
pub no_quote_lem : (x : ℕ) → (x ≡ 34 → ⊥) → (x ≡ 39 → ⊥) → no_quote x ≡ true
unfolding no_quote
no_quote_lem x a b = rw (ne_eqb x 34 a, ne_eqb x 39 b)

-- ---- a name in a tag

-- the bytes that end it
pub name_stop : Named (λ (x : ℕ). is_blank x || eqb x solidus || eqb x equal || eqb x greater) (only 32 or only 9 or only 10 or only 13 or only 47 or only 61 or only 62)
unfolding is_blank
name_stop = record { is = λ x. refl }

pub blank_stops : (x : ℕ) → is_blank x ≡ true → in_name x ≡ false
unfolding in_name
blank_stops x e = rw e

-- it goes on over all that a good name has
pub part_in_name : (x : ℕ) → is_full_part x ≡ true → in_name x ≡ true
unfolding in_name is_name_part
part_in_name x e =
    let other : (k : ℕ) → is_full_part k ≡ false → x ≡ k → ⊥ = λ k f q. true≢false (sym e ∙ ap is_full_part q ∙ f) in
    ap not (sym (classes.no name_stop ((((((other 32 refl, other 9 refl), other 10 refl), other 13 refl), other 47 refl), other 61 refl), other 62 refl)))
