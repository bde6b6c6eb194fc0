-- How images begin. Assumes nothing.
use mathlib.Core.Path.{◌≡◌, refl, sym, ◌∙◌, ap}
use mathlib.Core.Logic.{◌⊎◌, inl, inr}
use mathlib.Core.List.{List, [], ◌∷◌, ◌++◌, head-eq_of_cons-eq, tail-eq_of_cons-eq}
use Prim.Native.Nat.{ℕ, ◌≤◌}
use native.Mathlib.Omega.{arith}
use lib.ListN.{length, take}
use Rattle.text.specs.Bytes.{ascii}
use Rattle.text.specs.Numbers.{big_endian}
use Rattle.list.specs.Listing.{Listing}
use Rattle.image.specs.Image.{versioned, header}
use Rattle.image.specs.Place.{Front, current, earlier, Among, Apart}

-- the bytes of version 1, and of version 2
pub first_is : versioned 1 ≡ 75 ∷ 84 ∷ 79 ∷ 0 ∷ 1 ∷ []
unfolding big_endian
first_is = refl

pub second_is : versioned 2 ≡ 75 ∷ 84 ∷ 79 ∷ 0 ∷ 2 ∷ []
unfolding big_endian
second_is = refl

pub header_is : (l : Listing) → header l ≡ versioned 2 ++ (l.byte ∷ [])
unfolding header
header_is l = refl

pub header_bytes : (l : Listing) → header l ≡ 75 ∷ 84 ∷ 79 ∷ 0 ∷ 2 ∷ l.byte ∷ []
header_bytes l = header_is l ∙ ap (λ (v : List ℕ). v ++ (l.byte ∷ [])) second_is

pub header_length : (l : Listing) → length (header l) ≡ 6
header_length l = ap length (header_bytes l)

-- after `KTO` and the version's high byte
behind_four : {x y : ℕ} {u v : List ℕ} → 75 ∷ 84 ∷ 79 ∷ 0 ∷ x ∷ u ≡ 75 ∷ 84 ∷ 79 ∷ 0 ∷ y ∷ v → (x ≡ y) × (u ≡ v)
behind_four e =
    let w = tail-eq_of_cons-eq (tail-eq_of_cons-eq (tail-eq_of_cons-eq (tail-eq_of_cons-eq e))) in
    (head-eq_of_cons-eq w, tail-eq_of_cons-eq w)

-- a run that begins so has five bytes, is named and of a version
module _ (l : Listing) (h : List ℕ) where
  pub front_long : Front l h → 5 ≤ length h
  front_long (current e) = omega (arith, ap length e, header_length l)
  front_long (earlier b e) = omega (arith, ap length (e ∙ first_is))

  pub front_three : Front l h → (s : List ℕ) → take 3 (h ++ s) ≡ ascii "KTO"
  front_three (current e) s = rw (e ∙ header_bytes l)
  front_three (earlier b e) s = rw (e ∙ first_is)

  pub front_five : Front l h → (s : List ℕ) → (take 5 (h ++ s) ≡ versioned 1) ⊎ (take 5 (h ++ s) ≡ versioned 2)
  front_five (current e) s = inr (rw (e ∙ header_bytes l) (sym second_is))
  front_five (earlier b e) s = inl (rw (e ∙ first_is) (sym first_is))

  -- in version 2 the list's kind byte follows
  pub front_six : Front l h → (s : List ℕ) → take 5 (h ++ s) ≡ versioned 2 → take 6 (h ++ s) ≡ header l
  front_six (current e) s z = rw (e ∙ header_bytes l) (sym (header_bytes l))
  front_six (earlier b e) s z = absurd (omega (arith, (behind_four (sym (ap (λ (g : List ℕ). take 5 (g ++ s)) (e ∙ first_is)) ∙ z ∙ second_is)).0))

  -- its header has five bytes in version 1, six in version 2
  pub front_size : Front l h → (s : List ℕ) → (5 ≤ length h) × (take 5 (h ++ s) ≡ versioned 1 → length h ≡ 5) × (take 5 (h ++ s) ≡ versioned 2 → length h ≡ 6)
  front_size (current e) s =
      let n : length h ≡ 6 = ap length e ∙ header_length l in
      (omega (arith, n), (λ z. absurd (omega (arith, (behind_four (sym (ap (λ (g : List ℕ). take 5 (g ++ s)) (e ∙ header_bytes l)) ∙ z ∙ first_is)).0))), (λ z. n))
  front_size (earlier b e) s =
      let n : length h ≡ 5 = ap length (e ∙ first_is) in
      (omega (arith, n), (λ z. n), (λ z. absurd (omega (arith, (behind_four (sym (ap (λ (g : List ℕ). take 5 (g ++ s)) (e ∙ first_is)) ∙ z ∙ second_is)).0))))

-- a run of version 2 has five bytes and is named
pub second_named : (run : List ℕ) → take 5 run ≡ versioned 2 → (5 ≤ length run) × (take 3 run ≡ ascii "KTO")
second_named [] e = absurd (omega (arith, ap length (e ∙ second_is)))
second_named (a ∷ []) e = absurd (omega (arith, ap length (e ∙ second_is)))
second_named (a ∷ b ∷ []) e = absurd (omega (arith, ap length (e ∙ second_is)))
second_named (a ∷ b ∷ c ∷ []) e = absurd (omega (arith, ap length (e ∙ second_is)))
second_named (a ∷ b ∷ c ∷ d ∷ []) e = absurd (omega (arith, ap length (e ∙ second_is)))
second_named (a ∷ b ∷ c ∷ d ∷ f ∷ s) e = (omega arith, ap (take 3) (e ∙ second_is))

-- ---- what a run begins with is of one list, where kind bytes tell the lists

module _ (ls : List Listing) (tell : (l m : Listing) → Among l ls → Among m ls → l.byte ≡ m.byte → l ≡ m) where
  pub apart : Apart ls
  apart = record { one = go }
    where
      go : (l m : Listing) → Among l ls → Among m ls → (h g u v : List ℕ) → Front l h → Front m g → h ++ u ≡ g ++ v → (l ≡ m) × (h ≡ g) × (u ≡ v)
      go l m i j h g u v (current a) (current b) e =
          let w = behind_four (sym (ap (λ (x : List ℕ). x ++ u) (a ∙ header_bytes l)) ∙ e ∙ ap (λ (x : List ℕ). x ++ v) (b ∙ header_bytes m)) in
          let t = tell l m i j (head-eq_of_cons-eq w.1) in
          (t, a ∙ ap header t ∙ sym b, tail-eq_of_cons-eq w.1)
      go l m i j h g u v (current a) (earlier c b) e =
          absurd (omega (arith, (behind_four (sym (ap (λ (x : List ℕ). x ++ u) (a ∙ header_bytes l)) ∙ e ∙ ap (λ (x : List ℕ). x ++ v) (b ∙ first_is))).0))
      go l m i j h g u v (earlier c a) (current b) e =
          absurd (omega (arith, (behind_four (sym (ap (λ (x : List ℕ). x ++ u) (a ∙ first_is)) ∙ e ∙ ap (λ (x : List ℕ). x ++ v) (b ∙ header_bytes m))).0))
      go l m i j h g u v (earlier c a) (earlier d b) e =
          let w = behind_four (sym (ap (λ (x : List ℕ). x ++ u) (a ∙ first_is)) ∙ e ∙ ap (λ (x : List ℕ). x ++ v) (b ∙ first_is)) in
          (tell l m i j (c ∙ sym d), a ∙ sym b, w.1)
