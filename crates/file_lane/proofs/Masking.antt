-- A word of at most sixteen bytes that is compared under masks stands in the text, and back. Assumes nothing.
use mathlib.Core.Path.{◌≡◌, refl, sym, ◌∙◌, ap, subst}
use mathlib.Core.List.{List, [], ◌∷◌, ◌++◌, append_assoc}
use Prim.Native.Nat.{ℕ, zero, suc, ◌+◌, ◌*◌, ◌^◌, ◌≤◌}
use native.Mathlib.Omega.{arith}
use native.Mathlib.Nat.{pow-suc}
use native.Mathlib.Decide.{dec_lt}
use lib.ListN.{length, get_or, take, drop, take-append-drop, length-take, length-drop}
use lib.Seq.{take_all, take-take, drop-drop, take-append_seam, get_or-drop}
use Rattle.text.specs.Lists.{Each}
use Rattle.text.specs.Little.{little, Loaded}
use Rattle.file_nodes.specs.mirror.Kept.{Inked, Masked}
use Rattle.file_lane.specs.mirror.Turn.{Matches}
use Rattle.file_lane.proofs.Chunks.{starts_with, masked_back}

-- in a table from a place on, and in the table
pub masked_at : (t : List ℕ) (m j : ℕ) (w : List ℕ) → Masked (drop m t) j w → Masked t (m + j) w
masked_at t m j w k = record {
  first = sym (get_or-drop m t j 0) ∙ k.first;
  first_mask = cell 1 ∙ k.first_mask;
  second = cell 2 ∙ k.second;
  second_mask = cell 3 ∙ k.second_mask;
  short = k.short;
  inked = k.inked;
}
  where
    cell : (i : ℕ) → get_or t (m + j + i) 0 ≡ get_or (drop m t) (j + i) 0
    cell i = ap (λ (n : ℕ). get_or t n 0) (omega arith) ∙ sym (get_or-drop m t (j + i) 0)

each_take : (P : ℕ → Type 0) (n : ℕ) (s : List ℕ) → Each P s → Each P (take n s)
each_take P zero s h = tt
each_take P (suc n) [] h = tt
each_take P (suc n) (x ∷ s) h = (h.0, each_take P n s h.1)

each_drop : (P : ℕ → Type 0) (n : ℕ) (s : List ℕ) → Each P s → Each P (drop n s)
each_drop P zero s h = h
each_drop P (suc n) [] h = tt
each_drop P (suc n) (x ∷ s) h = each_drop P n s h.1

pows : (n : ℕ) → 256 ^ n ≡ 2 ^ (8 * n)
pows zero = refl
pows (suc n) =
    let e : 8 * suc n ≡ suc (suc (suc (suc (suc (suc (suc (suc (8 * n)))))))) = omega arith in
    let p : ℕ = 2 ^ (8 * n) in
    let q : 2 ^ suc (suc (suc (suc (suc (suc (suc (suc (8 * n)))))))) ≡ p * 2 * 2 * 2 * 2 * 2 * 2 * 2 * 2 =
    rw (
      pow-suc 2 (suc (suc (suc (suc (suc (suc (suc (8 * n)))))))),
      pow-suc 2 (suc (suc (suc (suc (suc (suc (8 * n))))))),
      pow-suc 2 (suc (suc (suc (suc (suc (8 * n)))))),
      pow-suc 2 (suc (suc (suc (suc (8 * n))))),
      pow-suc 2 (suc (suc (suc (8 * n)))),
      pow-suc 2 (suc (suc (8 * n))),
      pow-suc 2 (suc (8 * n)),
      pow-suc 2 (8 * n),
    ) in
    let i = pows n in
    let r = pow-suc 256 n in
    let t : p * 256 ≡ p * 2 * 2 * 2 * 2 * 2 * 2 * 2 * 2 = omega arith in
    r ∙ ap (λ (z : ℕ). z * 256) i ∙ t ∙ sym q ∙ ap (λ (z : ℕ). 2 ^ z) (sym e)

-- a word of at most eight bytes at the front of a chunk
front_of : (w d : List ℕ) → length w ≤ 8 → take (length w) (take 8 d) ≡ w → d ≡ w ++ drop (length w) d
front_of w d h e = sym (take-append-drop (length w) d) ∙ ap (λ (z : List ℕ). z ++ drop (length w) d) (sym (take-take (length w) 8 d h) ∙ e)

-- two halves are the whole
halves : (w d : List ℕ) → d ≡ take 8 w ++ drop (length (take 8 w)) d → drop 8 d ≡ drop 8 w ++ drop (length (drop 8 w)) (drop 8 d) → (r : List ℕ) × (d ≡ w ++ r)
halves w d e f = elim (dec_lt (length w) 8) [
  | yes h ↦
      let y : take 8 w ≡ w = take_all 8 w (omega arith) in
      (drop (length (take 8 w)) d, e ∙ ap (λ (x : List ℕ). x ++ drop (length (take 8 w)) d) y)
  | no h ↦
      let n : length (take 8 w) ≡ 8 = length-take 8 w ∙ omega arith in
      let g : drop (length (take 8 w)) d ≡ drop 8 w ++ drop (length (drop 8 w)) (drop 8 d) = ap (λ (x : ℕ). drop x d) n ∙ f in (
        drop (length (drop 8 w)) (drop 8 d),
        e ∙ ap (λ (x : List ℕ). take 8 w ++ x) g ∙ sym (append_assoc (take 8 w) (drop 8 w) (drop (length (drop 8 w)) (drop 8 d))) ∙ ap (λ (x : List ℕ). x ++ drop (length (drop 8 w)) (drop 8 d)) (take-append-drop 8 w),
      )
]

seam : (w d r : List ℕ) → d ≡ w ++ r → d ≡ w ++ drop (length w) d
seam w d r e =
    let t : take (length w) d ≡ w = ap (take (length w)) e ∙ take-append_seam w r in
    sym (take-append-drop (length w) d) ∙ ap (λ (z : List ℕ). z ++ drop (length w) d) t

-- what the code compares stands in the text
pub stands : (t : List ℕ) (j : ℕ) (w s : List ℕ) (at x y : ℕ) → Masked t j w → Loaded 8 s at x → Loaded 8 s (at + 8) y → Matches t j x y → drop at s ≡ w ++ drop (at + length w) s
stands t j w s at x y m lx ly e =
    let la : length (take 8 w) ≤ 8 = subst (λ (n : ℕ). n ≤ 8) (sym (length-take 8 w)) (omega arith) in
    let lb : length (drop 8 w) ≤ 8 = subst (λ (n : ℕ). n ≤ 8) (sym (length-drop 8 w)) (omega (arith, m.short)) in
    let f = starts_with (take 8 w) s at x (get_or t (j + 1) 0) (get_or t j 0) lx (each_take Inked 8 w m.inked) m.first_mask (pows (length (take 8 w))) e.first m.first in
    let g = starts_with (drop 8 w) s (at + 8) y (get_or t (j + 3) 0) (get_or t (j + 2) 0) ly (each_drop Inked 8 w m.inked) m.second_mask (pows (length (drop 8 w))) e.second m.second in
    let p = front_of (take 8 w) (drop at s) la f in
    let q : drop 8 (drop at s) ≡ drop (at + 8) s = drop-drop 8 at s in
    let h = front_of (drop 8 w) (drop 8 (drop at s)) lb (ap (λ (z : List ℕ). take (length (drop 8 w)) (take 8 z)) q ∙ g) in
    let r = halves w (drop at s) p h in
    seam w (drop at s) r.0 r.1 ∙ ap (λ (z : List ℕ). w ++ z) (drop-drop (length w) at s)

-- and what stands in the text compares so
take_split : (n : ℕ) (w u : List ℕ) → (v : List ℕ) × (take n (w ++ u) ≡ take n w ++ v)
take_split zero w u = ([], refl)
take_split (suc n) [] u = (take (suc n) u, refl)
take_split (suc n) (x ∷ w) u = let r = take_split n w u in (r.0, ap (λ (z : List ℕ). x ∷ z) r.1)

drop_split : (n : ℕ) (w u : List ℕ) → (v : List ℕ) × (drop n (w ++ u) ≡ drop n w ++ v)
drop_split zero w u = (u, refl)
drop_split (suc n) [] u = (drop (suc n) u, refl)
drop_split (suc n) (x ∷ w) u = drop_split n w u

pub stood : (t : List ℕ) (j : ℕ) (w s : List ℕ) (at x y : ℕ) (u : List ℕ) → Masked t j w → Loaded 8 s at x → Loaded 8 s (at + 8) y → drop at s ≡ w ++ u → Matches t j x y
stood t j w s at x y u m lx ly e =
    let a = take_split 8 w u in
    let b = drop_split 8 w u in
    let c = take_split 8 (drop 8 w) b.0 in
    let lb : length (drop 8 w) ≤ 8 = subst (λ (n : ℕ). n ≤ 8) (sym (length-drop 8 w)) (omega (arith, m.short)) in
    let q : drop (at + 8) s ≡ drop 8 w ++ b.0 = sym (drop-drop 8 at s) ∙ ap (drop 8) e ∙ b.1 in
    let f : x ≡ little (take 8 w ++ a.0) = lx.is ∙ ap (λ (z : List ℕ). little (take 8 z)) e ∙ ap little a.1 in
    let g : y ≡ little (drop 8 w ++ c.0) = ly.is ∙ ap (λ (z : List ℕ). little (take 8 z)) q ∙ ap little c.1 ∙ ap (λ (z : List ℕ). little (z ++ c.0)) (take_all 8 (drop 8 w) lb) in
    record {
      first = masked_back x (get_or t (j + 1) 0) (take 8 w) a.0 f (each_take Inked 8 w m.inked) m.first_mask (pows (length (take 8 w))) ∙ sym m.first;
      second = masked_back y (get_or t (j + 3) 0) (drop 8 w) c.0 g (each_drop Inked 8 w m.inked) m.second_mask (pows (length (drop 8 w))) ∙ sym m.second;
    }
