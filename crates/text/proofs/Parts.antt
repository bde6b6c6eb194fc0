-- Lists and parts of lists, compared: the tests are equality, and element by element they go on. Assumes nothing.
use Rattle.std.proofs.Common.{◌≡◌, ℕ, zero, suc, Bool, ◌&&◌, ◌+◌, ◌-◌, ◌<◌, ◌≤◌, min, true, false, eqb, ◌≢◌, List, [], ◌∷◌, ◌++◌, length, get_or, take, drop, sym, refl, ap, ◌∙◌, true≢false, suc-add, zero-add, add-one, arith, length-append, length-drop, take-append-drop, drop_of_length-le, length-take, get_or-drop, take_all, drop-cons, get_or-take, eq-eqb, ne_eqb, eqb-true}
use lib.Seq.{slice, take-nil, take-length, take-append_seam}
use Rattle.std.specs.Cmp.Lexicographic.{pointwise}
use Rattle.text.specs.Lists.{same, LongestBeginning}
use Rattle.text.specs.Words.{starts}
use Rattle.text.proofs.Classes.{and_is, not_so}

-- ---- `same` is equality

pub same_eq : (u v : List ℕ) → same u v ≡ true → u ≡ v
unfolding same
same_eq [] [] e = refl
same_eq [] (y ∷ v) e = absurd (true≢false (sym e))
same_eq (x ∷ u) [] e = absurd (true≢false (sym e))
same_eq (x ∷ u) (y ∷ v) e =
    let w = and_is (eqb x y) (same u v) e in
    let p : x ≡ y = eqb-true x y w.0 in
    let q : u ≡ v = same_eq u v w.1 in
    cc

same_self : (u : List ℕ) → same u u ≡ true
unfolding same
same_self [] = refl
same_self (x ∷ u) = rw (eq-eqb x x refl) (same_self u)

pub same_of : (u v : List ℕ) → u ≡ v → same u v ≡ true
same_of u v e = rw e (same_self v)

pub same_not : (u v : List ℕ) → same u v ≡ false → u ≢ v
same_not u v e p = true≢false (sym (same_of u v p) ∙ e)

pub not_same : (u v : List ℕ) → u ≢ v → same u v ≡ false
not_same u v f = not_so (same u v) (λ e. f (same_eq u v e))

pub same_lengths : (u v : List ℕ) (m n : ℕ) → m ≡ length u → n ≡ length v → m ≢ n → false ≡ same u v
same_lengths u v m n e f ne = sym (not_same u v (λ p. ne (e ∙ ap length p ∙ sym f)))

-- it is the library's equality of slices
pub pointwise_same : (u v : List ℕ) → pointwise eqb u v ≡ same u v
unfolding same
pointwise_same [] [] = refl
pointwise_same [] (y ∷ v) = refl
pointwise_same (x ∷ u) [] = refl
pointwise_same (x ∷ u) (y ∷ v) = ap (λ (b : Bool). eqb x y && b) (pointwise_same u v)

-- ---- `starts` is `++`

pub starts_is : (w s : List ℕ) → starts w s ≡ true → s ≡ w ++ drop (length w) s
unfolding starts
starts_is w s e =
    sym (take-append-drop (length w) s) ∙ ap (λ (u : List ℕ). u ++ drop (length w) s) (sym (same_eq w (take (length w) s) e))

pub starts_of : (w t : List ℕ) → starts w (w ++ t) ≡ true
unfolding starts
starts_of w t = same_of w (take (length w) (w ++ t)) (sym (take-append_seam w t))

pub starts_not : (w s t : List ℕ) → starts w s ≡ false → s ≢ w ++ t
starts_not w s t e p = true≢false (sym (starts_of w t) ∙ ap (starts w) (sym p) ∙ e)

pub starts_short : (w s : List ℕ) → length s < length w → starts w s ≡ false
starts_short w s h =
    not_so (starts w s) (λ e. omega (arith, ap length (starts_is w s e), length-append w (drop (length w) s)))

-- ---- a part as a list

pub part_take : (a n : ℕ) (s : List ℕ) → slice a (a + n) s ≡ take n (drop a s)
part_take zero n s = rw zero-add
part_take (suc a) n [] = rw suc-add (sym (take-nil n))
part_take (suc a) n (x ∷ s) = rw suc-add (part_take a n s)

pub part_length : (a b : ℕ) (s : List ℕ) → length (slice a b s) ≡ min b (length s) - a
part_length a b s = simp (length-drop, length-take)

pub part_at : (a b k : ℕ) (s : List ℕ) → k < length (slice a b s) → get_or (slice a b s) k 0 ≡ get_or s (a + k) 0
part_at a b k s h = rw (get_or-drop a (take b s) k 0) (get_or-take b s (a + k) 0 (omega (arith, part_length a b s)))

-- ---- element by element

module _ (u v : List ℕ) (k : ℕ) where
  pub same_end : length u ≤ k → length v ≤ k → same (drop k u) (drop k v) ≡ true
  unfolding same
  same_end h i = rw (drop_of_length-le u h, drop_of_length-le v i)

  module _ (h : k < length u) (i : k < length v) where
    pub same_go : get_or u k 0 ≡ get_or v k 0 → same (drop k u) (drop k v) ≡ same (drop (k + 1) u) (drop (k + 1) v)
    unfolding same
    same_go e = rw (add-one k, drop-cons u k 0, drop-cons v k 0, eq-eqb (get_or u k 0) (get_or v k 0) e)

    pub same_stop : get_or u k 0 ≢ get_or v k 0 → same (drop k u) (drop k v) ≡ false
    unfolding same
    same_stop e = rw (drop-cons u k 0, drop-cons v k 0, ne_eqb (get_or u k 0) (get_or v k 0) e)

pub part_room : (a b k : ℕ) (s : List ℕ) → k < length (slice a b s) → a + k < length s
part_room a b k s h = omega (arith, part_length a b s)

-- ---- a part cut out, as far as the list goes

take_least : (b : ℕ) (s : List ℕ) (n : ℕ) → n ≡ min b (length s) → take n s ≡ take b s
take_least b [] n e = take-nil n ∙ sym (take-nil b)
take_least zero (x ∷ s) n e = let z : n ≡ 0 = omega (arith, e) in rw z
take_least (suc b) (x ∷ s) n e =
    let p : n ≡ suc (min b (length s)) = omega (arith, e) in
    rw p (ap (λ (t : List ℕ). x ∷ t) (take_least b s (min b (length s)) refl))

module _ (a b n : ℕ) (s : List ℕ) (e : n ≡ min b (length s)) where
  pub part_empty : n < a → [] ≡ slice a b s
  part_empty h = sym (drop_of_length-le (take b s) {i = a} (omega (arith, length-take b s, e)))

  pub part_cut : a ≤ n → take (n - a) (drop a s) ≡ slice a b s
  part_cut h =
      let f : a + (n - a) ≡ n = omega arith in
      sym (part_take a (n - a) s) ∙ ap (λ (m : ℕ). slice a m s) f ∙ ap (drop a) (take_least b s n e)

pub part_past : (a b : ℕ) (s : List ℕ) → length s ≤ b → slice a (length s) s ≡ slice a b s
part_past a b s h = ap (drop a) (take-length s ∙ sym (take_all b s h))

-- ---- the longest beginning of a kind is one

pub longest_one : (P : List ℕ → Type 0) (s : List ℕ) (m n : ℕ) → LongestBeginning P s m → LongestBeginning P s n → m ≡ n
longest_one P s m n a b = omega (arith, a.most n b.within b.begins, b.most m a.within a.begins)
