-- A list written into another: what stands where afterwards, and lists written one after the other. Assumes nothing.
use Rattle.std.proofs.Common.{◌≡◌, ℕ, ◌+◌, ◌-◌, ◌<◌, ◌≤◌, List, [], ◌∷◌, ◌++◌, length, get_or, take, drop, set, sym, refl, ap, ◌∙◌, ap₂, append_assoc, add-zero, add-one, arith, length-append, length-drop, take-append-drop, length-take-le, get_or-drop, get_or-take, take-take, drop-drop, take_at, drop_at, le-leb, drop_of_length-le, drop-cons}
use native.Mathlib.Decide.{dec_le}
use lib.ListN.{get_or-append}
use lib.Seq.{slice, set_split}
use borrow.Author.Tests.{lt-leb}
use Rattle.text.specs.Pasting.{pasted}
use Rattle.text.proofs.Parts.{part_take}

-- ---- where it does not fit, and where it does

module _ (d : List ℕ) (at : ℕ) (vs : List ℕ) where
  pub pasted_no : length d < at + length vs → pasted d at vs ≡ d
  unfolding pasted
  pasted_no h = rw (lt-leb (at + length vs) (length d) h)

  pub pasted_yes : at + length vs ≤ length d → pasted d at vs ≡ take at d ++ (vs ++ drop (at + length vs) d)
  unfolding pasted
  pasted_yes h = rw (le-leb (at + length vs) (length d) h)

  pub length_pasted : length (pasted d at vs) ≡ length d
  length_pasted = go (dec_le (at + length vs) (length d))
    where
      go : Dec (at + length vs ≤ length d) → length (pasted d at vs) ≡ length d
      go (no h) = ap length (pasted_no (omega arith))
      go (yes h) =
          ap length (pasted_yes h)
          ∙ omega (arith, length-append (take at d) (vs ++ drop (at + length vs) d), length-append vs (drop (at + length vs) d), length-take-le at d (omega arith), length-drop (at + length vs) d)

  module _ (h : at + length vs ≤ length d) where
    front : length (take at d) ≡ at
    front = length-take-le at d (omega arith)

    -- before, in and after
    pub take_pasted : take at (pasted d at vs) ≡ take at d
    take_pasted = ap (take at) (pasted_yes h) ∙ take_at (take at d) (vs ++ drop (at + length vs) d) at front

    pub rest_pasted : drop at (pasted d at vs) ≡ vs ++ drop (at + length vs) d
    rest_pasted = ap (drop at) (pasted_yes h) ∙ drop_at (take at d) (vs ++ drop (at + length vs) d) at front

    pub slice_pasted : slice at (at + length vs) (pasted d at vs) ≡ vs
    slice_pasted =
        part_take at (length vs) (pasted d at vs) ∙ ap (take (length vs)) rest_pasted
        ∙ take_at vs (drop (at + length vs) d) (length vs) refl

    pub drop_pasted : drop (at + length vs) (pasted d at vs) ≡ drop (at + length vs) d
    drop_pasted =
        sym (drop-drop (length vs) at (pasted d at vs)) ∙ ap (drop (length vs)) rest_pasted
        ∙ drop_at vs (drop (at + length vs) d) (length vs) refl

    pub head_pasted : take (at + length vs) (pasted d at vs) ≡ take at d ++ vs
    head_pasted =
        ap (take (at + length vs)) (pasted_yes h ∙ sym (append_assoc (take at d) vs (drop (at + length vs) d)))
        ∙ take_at (take at d ++ vs) (drop (at + length vs) d) (at + length vs) (omega (arith, length-append (take at d) vs, front))

-- every element
module _ (d : List ℕ) (at : ℕ) (vs : List ℕ) (i : ℕ) (h : at + length vs ≤ length d) where
  pub get_d_before : i < at → get_or (pasted d at vs) i 0 ≡ get_or d i 0
  get_d_before k =
      sym (get_or-take at (pasted d at vs) i 0 k) ∙ ap (λ (l : List ℕ). get_or l i 0) (take_pasted d at vs h) ∙ get_or-take at d i 0 k

  pub get_d_in : i < length vs → get_or (pasted d at vs) (at + i) 0 ≡ get_or vs i 0
  get_d_in k =
      sym (get_or-drop at (pasted d at vs) i 0) ∙ ap (λ (l : List ℕ). get_or l i 0) (rest_pasted d at vs h)
      ∙ get_or-append vs (drop (at + length vs) d) 0 i k

  pub get_d_behind : get_or (pasted d at vs) (at + length vs + i) 0 ≡ get_or d (at + length vs + i) 0
  get_d_behind =
      sym (get_or-drop (at + length vs) (pasted d at vs) i 0) ∙ ap (λ (l : List ℕ). get_or l i 0) (drop_pasted d at vs h)
      ∙ get_or-drop (at + length vs) d i 0

-- ---- nothing, one element, and two lists

pub pasted_none : (d : List ℕ) (at : ℕ) → pasted d at [] ≡ d
pasted_none d at = go (dec_le (at + 0) (length d))
  where
    go : Dec (at + 0 ≤ length d) → pasted d at [] ≡ d
    go (yes h) = pasted_yes d at [] h ∙ ap (λ (n : ℕ). take at d ++ drop n d) (add-zero at) ∙ take-append-drop at d
    go (no h) = pasted_no d at [] (omega arith)

pub pasted_one : (d : List ℕ) (at x : ℕ) → at < length d → pasted d at (x ∷ []) ≡ set d at x
pasted_one d at x h = pasted_yes d at (x ∷ []) (omega arith) ∙ sym (rw (add-one at) (set_split d at x h))

module _ (d : List ℕ) (at : ℕ) (u v : List ℕ) (h : at + (length u + length v) ≤ length d) where
  both : at + length (u ++ v) ≤ length d
  both = omega (arith, length-append u v)

  end : at + length u + length v ≡ at + length (u ++ v)
  end = omega (arith, length-append u v)

  whole : take at d ++ (u ++ (v ++ drop (at + length u + length v) d)) ≡ pasted d at (u ++ v)
  whole =
      ap (λ (n : ℕ). take at d ++ (u ++ (v ++ drop n d))) end
      ∙ ap (λ (l : List ℕ). take at d ++ l) (sym (append_assoc u v (drop (at + length (u ++ v)) d)))
      ∙ sym (pasted_yes d at (u ++ v) both)

  -- the second after the first
  pub pasted_then : pasted (pasted d at u) (at + length u) v ≡ pasted d at (u ++ v)
  pasted_then =
      pasted_yes (pasted d at u) (at + length u) v (omega (arith, length_pasted d at u))
      ∙ ap₂ (λ (l m : List ℕ). l ++ (v ++ m)) (head_pasted d at u (omega arith))
      (sym (drop-drop (length v) (at + length u) (pasted d at u)) ∙ ap (drop (length v)) (drop_pasted d at u (omega arith)) ∙ drop-drop (length v) (at + length u) d)
      ∙ append_assoc (take at d) u (v ++ drop (at + length u + length v) d)
      ∙ whole

  -- the first before the second
  pub pasted_before : pasted (pasted d (at + length u) v) at u ≡ pasted d at (u ++ v)
  pasted_before =
      pasted_yes (pasted d (at + length u) v) at u (omega (arith, length_pasted d (at + length u) v))
      ∙ ap₂ (λ (l m : List ℕ). l ++ (u ++ m))
      (sym (take-take at (at + length u) (pasted d (at + length u) v) (omega arith)) ∙ ap (take at) (take_pasted d (at + length u) v (omega arith)) ∙ take-take at (at + length u) d (omega arith))
      (rest_pasted d (at + length u) v (omega arith))
      ∙ whole

-- ---- an element at a time

pub pasted_first : (d : List ℕ) (at x : ℕ) (u : List ℕ) → at + (1 + length u) ≤ length d
    → pasted (set d at x) (at + 1) u ≡ pasted d at (x ∷ u)
pasted_first d at x u h = rw (← pasted_one d at x (omega arith)) (pasted_then d at (x ∷ []) u h)

pub pasted_last : (d : List ℕ) (at : ℕ) (u : List ℕ) (x : ℕ) → at + (length u + 1) ≤ length d
    → pasted (set d (at + length u) x) at u ≡ pasted d at (u ++ (x ∷ []))
pasted_last d at u x h = rw (← pasted_one d (at + length u) x (omega arith)) (pasted_before d at u (x ∷ []) h)

-- ---- a part written over

pub copy_not : (d : List ℕ) (at : ℕ) (vs : List ℕ) (n : ℕ) → n ≡ length vs → length d < at + n → d ≡ pasted d at vs
copy_not d at vs n e h = sym (pasted_no d at vs (omega arith))

pub copy_over : (d ys vs : List ℕ) (at : ℕ) → at + length vs ≤ length d → ys ≡ vs → take at d ++ (ys ++ drop (at + length vs - at) (drop at d)) ≡ pasted d at vs
copy_over d ys vs at h e =
    let f : at + (at + length vs - at) ≡ at + length vs = omega arith in
    let g : drop (at + length vs - at) (drop at d) ≡ drop (at + length vs) d = drop-drop (at + length vs - at) at d ∙ ap (λ (n : ℕ). drop n d) f in
    ap₂ (λ (y z : List ℕ). take at d ++ (y ++ z)) e g ∙ sym (pasted_yes d at vs h)

-- ---- a loop that has copied k elements

module _ (vs d₀ : List ℕ) (at : ℕ) where
  -- with the elements that are left, all of them stand there
  abbrev pub Copying : List ℕ → ℕ → Type 0
  Copying d k = pasted d (at + k) (drop k vs) ≡ pasted d₀ at vs

  module _ (d : List ℕ) (k : ℕ) (w : Copying d k) where
    pub copy_end : length vs ≤ k → d ≡ pasted d₀ at vs
    copy_end h = sym (pasted_none d (at + k)) ∙ ap (pasted d (at + k)) (sym (drop_of_length-le vs h)) ∙ w

    pub copy_again : k < length vs → at + length vs ≤ length d → Copying (set d (at + k) (get_or vs k 0)) (k + 1)
    copy_again h room =
        let x : ℕ = get_or vs k 0 in
        let e : drop k vs ≡ x ∷ drop (k + 1) vs = rw (add-one k) (drop-cons vs k 0 h) in
        let l : length (drop (k + 1) vs) ≡ length vs - (k + 1) = length-drop (k + 1) vs in
        let f : at + (k + 1) ≡ at + k + 1 = omega arith in
        ap (λ (n : ℕ). pasted (set d (at + k) x) n (drop (k + 1) vs)) f
        ∙ pasted_first d (at + k) x (drop (k + 1) vs) (omega (arith, room, l))
        ∙ ap (pasted d (at + k)) (sym e)
        ∙ w
