-- REF and TXTk: one loop over the characters of raw text; what it tests is what they are. Assumes nothing.
use mathlib.Core.Path.{◌≡◌, refl, sym, ◌∙◌, ap}
use mathlib.Core.Bool.{Bool, true, false, cond, ◌&&◌, ◌||◌, not, true≢false}
use mathlib.Core.List.{List, [], ◌∷◌, ◌++◌}
use mathlib.Core.Logic.{◌⊎◌, inl, inr, ⊎_elim, ◌≢◌}
use Prim.Native.Nat.{ℕ, suc, ◌+◌, ◌≤◌, ◌<◌, zero-le}
use native.Mathlib.Numerals.{add-one}
use native.Mathlib.Omega.{arith}
use lib.Dec.{ltb, eqb}
use lib.ListN.{length, drop, length-drop}
use borrow.Author.Tests.{lt-ltb, le-ltb, ltb-true, eqb-true}
use Rattle.text.specs.Lists.{All, Any}
use Rattle.text_characters.specs.Pieces.{GoodPiece, spell, resolved}
use Rattle.text_characters.specs.Chars.{First, NextChar}
use Rattle.text_characters.specs.Passing.{Passes}
use Rattle.text_characters.specs.mirror.Resolving.{char_at}
use Rattle.text_characters.specs.declared.utf8.Char.{Char}
use Rattle.text.proofs.Classes.{and_is, or_is}
use Rattle.text_characters.proofs.Chars as chars
use Rattle.text_characters.proofs.Resolving.{next_is}
use Rattle.text_characters.proofs.Spelling as spelling
use Rattle.value.specs.mirror.Tests.{not_space}
use Rattle.value.specs.types.Text.{is_txt, Chars, Ref}
use Rattle.value.specs.mirror.Texts.{class_of, text_from, text_of}
use Rattle.value.proofs.classes.Ink.{some_ink, ink_not, not_ink}

-- ---- a step of the test
module _ (strict : Bool) (k n : ℕ) (ink slash : Bool) (c : ℕ) (cs : List ℕ) where
  from_full : k ≤ n → text_from strict k n ink slash (c ∷ cs) ≡ false
  unfolding text_from
  from_full h = rw (le-ltb n k h)

  from_bad : n < k → class_of strict c ≡ false → text_from strict k n ink slash (c ∷ cs) ≡ false
  unfolding text_from
  from_bad h e = rw (lt-ltb n k h, e)

  from_slash : n < k → class_of strict c ≡ true → (slash && eqb c 47) ≡ true → text_from strict k n ink slash (c ∷ cs) ≡ false
  unfolding text_from
  from_slash h e f = rw (lt-ltb n k h, e, f)

  from_more : n < k → class_of strict c ≡ true → (slash && eqb c 47) ≡ false
      → text_from strict k n ink slash (c ∷ cs) ≡ text_from strict k (n + 1) (ink || not_space c) (strict && eqb c 47) cs
  unfolding text_from
  from_more h e f = rw (lt-ltb n k h, e, f, add-one n)

-- ---- the loop: that the rest passes is that all does
first_within : {A : Type 0} (Good : A → Type 0) (bytes : A → List ℕ) (stood : A → ℕ) (l : List ℕ) (r : Char) → First Good bytes stood l r → r.len ≤ length l
first_within Good bytes stood l r (First.begun b) = chars.begun_within Good bytes stood l r b
first_within Good bytes stood l r (First.none e f) = omega (arith, ap (λ (x : Char). x.len) e)

module _ (strict : Bool) (k : ℕ) (s : List ℕ) where
  pub record Here (i n : ℕ) (ink slash : Bool) : Type 0 where
    pub here : spelling.Here (text_of strict k) s i (text_from strict k n ink slash)

  pub here_start : Here 0 0 false strict
  here_start = record { here = spelling.here_none (text_of strict k) s }

  module _ (i n : ℕ) (ink slash : Bool) (w : Here i n ink slash) where
    module _ (h : i < length s) where
      -- a test that every list fails whose first character is r's
      fails : (r : Char) → NextChar (drop i s) r → ((cs : List ℕ) → text_from strict k n ink slash (r.code ∷ cs) ≡ false) → Passes (text_of strict k) s → ⊥
      fails r f b = spelling.here_bad (text_of strict k) s i (text_from strict k n ink slash) w.here h r f b

      pub here_full : k ≤ n → Passes (text_of strict k) s → ⊥
      here_full j = fails (char_at (drop i s)) (next_is (drop i s)) (λ cs. from_full strict k n ink slash (char_at (drop i s)).code cs j)

      pub here_bad : (r : Char) → NextChar (drop i s) r → n < k → class_of strict r.code ≡ false → Passes (text_of strict k) s → ⊥
      here_bad r f j e = fails r f (λ cs. from_bad strict k n ink slash r.code cs j e)

      pub here_slash : (r : Char) → NextChar (drop i s) r → n < k → class_of strict r.code ≡ true → (slash && eqb r.code 47) ≡ true → Passes (text_of strict k) s → ⊥
      here_slash r f j e g = fails r f (λ cs. from_slash strict k n ink slash r.code cs j e g)

      pub here_room : (r : Char) → NextChar (drop i s) r → i + r.len ≤ length s
      here_room r f = omega (arith, length-drop i s, first_within GoodPiece spell resolved (drop i s) r f)

      pub here_more : (r : Char) → NextChar (drop i s) r → r.len ≢ 0 → n < k → class_of strict r.code ≡ true → (slash && eqb r.code 47) ≡ false → Here (i + r.len) (n + 1) (ink || not_space r.code) (strict && eqb r.code 47)
      here_more r f z j e g =
          record {
            here = spelling.here_more (text_of strict k) s i (text_from strict k n ink slash) w.here h r f
                (text_from strict k (n + 1) (ink || not_space r.code) (strict && eqb r.code 47)) z (λ cs. from_more strict k n ink slash r.code cs j e g);
          }

    module _ (h : length s ≤ i) where
      ended : ((ink && not slash) ≡ true → Passes (text_of strict k) s) × (Passes (text_of strict k) s → (ink && not slash) ≡ true)
      unfolding text_from
      ended = spelling.here_end (text_of strict k) s i (text_from strict k n ink slash) (ink && not slash) w.here h refl

      pub end_slash : slash ≡ true → Passes (text_of strict k) s → ⊥
      end_slash e p = true≢false (sym (ended.1 p) ∙ ap (λ (b : Bool). ink && not b) e ∙ and-false ink)
        where
          and-false : (x : Bool) → (x && false) ≡ false
          and-false true = refl
          and-false false = refl

      pub end_blank : ink ≡ false → Passes (text_of strict k) s → ⊥
      end_blank e p = true≢false (sym (ended.1 p) ∙ ap (λ (b : Bool). b && not slash) e)

      pub end_good : ink ≡ true → slash ≡ false → Passes (text_of strict k) s
      end_good e f = ended.0 (rw (e, f))

-- ---- what the test tests
unfoldable slashes : Bool → Bool → List ℕ → Bool
slashes strict p [] = not p
slashes strict p (c ∷ cs) = cond (p && eqb c 47) false (slashes strict (strict && eqb c 47) cs)

record Left (strict : Bool) (k n : ℕ) (b p : Bool) (cs : List ℕ) : Type 0 where
  most : n + length cs ≤ k
  class : All (class_of strict) cs
  ink : (b ≡ true) ⊎ Any not_space cs
  slash : slashes strict p cs ≡ true

left_to : (strict : Bool) (k n : ℕ) (ink slash : Bool) (cs : List ℕ) → n ≤ k → text_from strict k n ink slash cs ≡ true → Left strict k n ink slash cs
unfolding text_from slashes
left_to strict k n ink slash [] h e = let w = and_is ink (not slash) e in record { most = omega arith; class = tt; ink = inl w.0; slash = w.1 }
left_to strict k n ink slash (c ∷ cs) h e = go (ltb n k) (class_of strict c) (slash && eqb c 47) refl refl refl e (λ j. left_to strict k (suc n) (ink || not_space c) (strict && eqb c 47) cs j)
  where
    go : (u v x : Bool) → ltb n k ≡ u → class_of strict c ≡ v → (slash && eqb c 47) ≡ x
        → cond u (cond v (cond x false (text_from strict k (suc n) (ink || not_space c) (strict && eqb c 47) cs)) false) false ≡ true
        → (suc n ≤ k → text_from strict k (suc n) (ink || not_space c) (strict && eqb c 47) cs ≡ true → Left strict k (suc n) (ink || not_space c) (strict && eqb c 47) cs) → Left strict k n ink slash (c ∷ cs)
    go false v x p q r e f = absurd (true≢false (sym e))
    go true false x p q r e f = absurd (true≢false (sym e))
    go true true true p q r e f = absurd (true≢false (sym e))
    go true true false p q r e f =
        let l = f (ltb-true n k p) e in
        record { most = omega (arith, l.most); class = (q, l.class); ink = ⊎_elim (λ y. ⊎_elim inl (λ z. inr (inl z)) (or_is ink (not_space c) y)) (λ y. inr (inr y)) l.ink; slash = rw r l.slash }

or_2 : (a b : Bool) → b ≡ true → (a || b) ≡ true
or_2 true b e = refl
or_2 false b e = e

left_from : (strict : Bool) (k n : ℕ) (ink slash : Bool) (cs : List ℕ) → Left strict k n ink slash cs → text_from strict k n ink slash cs ≡ true
unfolding text_from slashes
left_from strict k n ink slash [] l = rw (⊎_elim (λ x. x) (λ x. absurd x) l.ink, l.slash)
left_from strict k n ink slash (c ∷ cs) l =
    go (slash && eqb c 47) refl l.slash (λ e. left_from strict k (suc n) (ink || not_space c) (strict && eqb c 47) cs
    (record { most = omega (arith, l.most); class = l.class.1; ink = ⊎_elim (λ x. inl (rw x)) (λ x. ⊎_elim (λ y. inl (or_2 ink (not_space c) y)) (λ y. inr y) x) l.ink; slash = e }))
  where
    go : (x : Bool) → (slash && eqb c 47) ≡ x → cond x false (slashes strict (strict && eqb c 47) cs) ≡ true
        → (slashes strict (strict && eqb c 47) cs ≡ true → text_from strict k (suc n) (ink || not_space c) (strict && eqb c 47) cs ≡ true)
        → cond (ltb n k) (cond (class_of strict c) (cond (slash && eqb c 47) false (text_from strict k (suc n) (ink || not_space c) (strict && eqb c 47) cs)) false) false ≡ true
    go true p e f = absurd (true≢false (sym e))
    go false p e f = rw (lt-ltb n k (omega (arith, l.most)), l.class.0, p) (f e)

ink_of_lem : (cs : List ℕ) → (false ≡ true) ⊎ Any not_space cs → Any not_space cs
ink_of_lem cs o = ⊎_elim (λ x. absurd (true≢false (sym x))) (λ x. x) o

pub txt_to : (k : ℕ) (cs : List ℕ) → text_of false k cs ≡ true → Chars is_txt k cs
txt_to k cs e =
    let l = left_to false k 0 false false cs zero-le e in
    let a = ink_of_lem cs l.ink in
    record { some = some_ink cs a; most = omega (arith, l.most); class = l.class; ink = ink_not cs a }

no_slash : (cs : List ℕ) → slashes false false cs ≡ true
unfolding slashes
no_slash [] = refl
no_slash (c ∷ cs) = no_slash cs

pub txt_from : (k : ℕ) (cs : List ℕ) → Chars is_txt k cs → text_of false k cs ≡ true
txt_from k cs t = left_from false k 0 false false cs (record { most = omega (arith, t.most); class = t.class; ink = inr (not_ink cs t.ink); slash = no_slash cs })

-- where a slash may stand
no_last : (p : Bool) (t : List ℕ) → slashes true p (t ++ (47 ∷ [])) ≡ false
unfolding slashes
no_last true [] = refl
no_last false [] = refl
no_last p (x ∷ t) = go (p && eqb x 47) (no_last (eqb x 47) t)
  where
    go : (u : Bool) → slashes true (eqb x 47) (t ++ (47 ∷ [])) ≡ false → cond u false (slashes true (eqb x 47) (t ++ (47 ∷ []))) ≡ false
    go true e = refl
    go false e = e

no_twice : (p : Bool) (t w : List ℕ) → slashes true p (t ++ (47 ∷ 47 ∷ w)) ≡ false
unfolding slashes
no_twice true [] w = refl
no_twice false [] w = refl
no_twice p (x ∷ t) w = go (p && eqb x 47) (no_twice (eqb x 47) t w)
  where
    go : (u : Bool) → slashes true (eqb x 47) (t ++ (47 ∷ 47 ∷ w)) ≡ false → cond u false (slashes true (eqb x 47) (t ++ (47 ∷ 47 ∷ w))) ≡ false
    go true e = refl
    go false e = e

record Apart (p : Bool) (cs : List ℕ) : Type 0 where
  some : p ≡ true → cs ≡ [] → ⊥
  first : p ≡ true → (t : List ℕ) → cs ≡ 47 ∷ t → ⊥
  last : (t : List ℕ) → cs ≡ t ++ (47 ∷ []) → ⊥
  twice : (t u : List ℕ) → cs ≡ t ++ (47 ∷ 47 ∷ u) → ⊥

apart_from : (p : Bool) (cs : List ℕ) → Apart p cs → slashes true p cs ≡ true
unfolding slashes
apart_from true [] a = absurd (a.some refl refl)
apart_from false [] a = refl
apart_from p (c ∷ cs) a = go p (eqb c 47) refl refl (apart_from (eqb c 47) cs)
  where
    next : (eqb c 47 ≡ true → cs ≡ [] → ⊥) → (eqb c 47 ≡ true → (t : List ℕ) → cs ≡ 47 ∷ t → ⊥) → Apart (eqb c 47) cs
    next f g = record { some = f; first = g; last = λ t y. a.last (c ∷ t) (ap (λ (l : List ℕ). c ∷ l) y); twice = λ t u y. a.twice (c ∷ t) u (ap (λ (l : List ℕ). c ∷ l) y) }

    behind : Apart (eqb c 47) cs
    behind = next (λ e y. let k : c ≡ 47 = eqb-true c 47 e in a.last [] (cc)) (λ e t y. let k : c ≡ 47 = eqb-true c 47 e in a.twice [] t (cc))

    go : (q x : Bool) → p ≡ q → eqb c 47 ≡ x → (Apart (eqb c 47) cs → slashes true (eqb c 47) cs ≡ true) → cond (q && x) false (slashes true (eqb c 47) cs) ≡ true
    go true true z e f = absurd (a.first z cs (ap (λ (x : ℕ). x ∷ cs) (eqb-true c 47 e)))
    go true false z e f = f behind
    go false x z e f = f behind

pub ref_to : (cs : List ℕ) → text_of true 35 cs ≡ true → Ref cs
unfolding slashes
ref_to cs e =
    let l = left_to true 35 0 false true cs zero-le e in
    let a = ink_of_lem cs l.ink in
    record {
      chars = record { some = some_ink cs a; most = omega (arith, l.most); class = l.class; ink = ink_not cs a };
      first = λ t z. true≢false (sym l.slash ∙ ap (slashes true true) z);
      last = λ t z. true≢false (sym l.slash ∙ ap (slashes true true) z ∙ no_last true t);
      twice = λ t u z. true≢false (sym l.slash ∙ ap (slashes true true) z ∙ no_twice true t u);
    }

pub ref_from : (cs : List ℕ) → Ref cs → text_of true 35 cs ≡ true
ref_from cs r =
    left_from true 35 0 false true cs
    (record { most = omega (arith, r.chars.most); class = r.chars.class; ink = inr (not_ink cs r.chars.ink); slash = apart_from true cs (record { some = λ _ z. absurd (omega (arith, r.chars.some, ap length z)); first = λ _. r.first; last = r.last; twice = r.twice }) })
