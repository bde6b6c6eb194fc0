-- What the functions of `xml_pieces` say of the automaton. Assumes nothing.
use mathlib.Core.Path.{◌≡◌, refl, sym, ◌∙◌, ap, subst}
use mathlib.Core.Bool.{Bool, true, false, cond}
use mathlib.Core.List.{List, [], ◌∷◌}
use Prim.Native.Nat.{ℕ, suc, ◌+◌, ◌≤◌, ◌<◌, zero-le, suc-le-suc}
use native.Mathlib.Nat.{add-zero}
use native.Mathlib.Omega.{arith}
use lib.Dec.{eqb}
use lib.ListN.{length, get_or, drop, length-drop}
use lib.Seq.{drop-cons, drop-drop}
use Rattle.xml.specs.mirror.Auto.{Part, Read, bad, all, more, lead, go_on, At, St, dead, at, next}
use Rattle.xml_pieces.specs.Over.{Over}
use Rattle.xml_pieces.specs.Kinds.{IsPiece, IsWord}
use Rattle.xml_pieces.specs.mirror.Reading.{told, reading}
use Rattle.xml_pieces.proofs.Words.{over_word, word_is}
use Rattle.xml_pieces.proofs.Readings.{piece_is}
use Rattle.xml_scan.specs.mirror.Goes.{may_end, comes, fate, Goes}
use Rattle.xml_scan.proofs.Fate.{comes_none, comes_dead, comes_byte}
use Rattle.std.specs.Prelude.{Result, Ok, Err}
use Rattle.xml_pieces.specs.declared.Stopped.{Stopped}
use Rattle.xml_pieces.specs.Over.{stop}

-- from a on to b over m bytes at least of t, which stand at place i; or the text stops
abbrev Came : ℕ → List ℕ → ℕ → At → At → Result ℕ Stopped → Type 0
Came m t i a b (Ok e) = (n : ℕ) × (e ≡ i + n) × (m ≤ n) × (n ≤ length t) × (comes t i a ≡ comes (drop n t) e b)
Came m t i a b (Err e) = comes t i a ≡ (false, e.at)

came_byte : (m : ℕ) (x : ℕ) (t : List ℕ) (i : ℕ) (a c b : At) (r : Result ℕ Stopped) → next a x ≡ at c → Came m t (i + 1) c b r → Came (suc m) (x ∷ t) i a b r
came_byte m x t i a c b (Ok e) f h =
    let k = h.1 in
    (suc h.0, omega arith, suc-le-suc h.2, suc-le-suc h.3, comes_byte x t i a c f ∙ h.4)
came_byte m x t i a c b (Err e) f h = comes_byte x t i a c f ∙ h

came_less : (m : ℕ) (t : List ℕ) (i : ℕ) (a b : At) (r : Result ℕ Stopped) → Came (suc m) t i a b r → Came m t i a b r
came_less m t i a b (Ok e) h = let k = h.2 in (h.0, h.1, omega arith, h.3, h.4)
came_less m t i a b (Err e) h = h

-- where the bytes are those of a text from a place on
came_fate : (m : ℕ) (s : List ℕ) (i : ℕ) (a b : At) (e : ℕ) → Came m (drop i s) i a b (Ok e) → fate s i a ≡ fate s e b
came_fate m s i a b e h =
    h.4 ∙ ap (λ (t : List ℕ). comes t e b) (drop-drop h.0 i s) ∙ ap (λ (k : ℕ). comes (drop k s) e b) (sym h.1)

came_goes : (s : List ℕ) (i : ℕ) (a b : At) (r : Result ℕ Stopped) → Came 1 (drop i s) i a b r → Goes s i a b r
came_goes s i a b (Ok e) h =
    let k = h.1 in
    let l = h.2 in
    let u = h.3 in
    (omega arith, omega (arith, length-drop i s), came_fate 1 s i a b e h)
came_goes s i a b (Err e) h = h

-- ---- given bytes: g q is the state in which the bytes q are to come

pub record Literal (g : List ℕ → At) : Type 0 where
  pub waits : (y : ℕ) (q : List ℕ) → may_end (g (y ∷ q)) ≡ false
  pub steps : (y : ℕ) (q : List ℕ) (x : ℕ) → next (g (y ∷ q)) x ≡ cond (eqb x y) (at (g q)) dead

abbrev pub Spelled : List ℕ → ℕ → List ℕ → Result ℕ Stopped → Type 0
Spelled s i w (Ok e) = (i ≤ e) × (e ≤ length s) × ((g : List ℕ → At) → Literal g → fate s i (g w) ≡ fate s e (g []))
Spelled s i w (Err n) = (g : List ℕ → At) → Literal g → fate s i (g w) ≡ (false, n.at)

came_word : (g : List ℕ → At) → Literal g → (w t : List ℕ) (i : ℕ) → Came 0 t i (g w) (g []) (over_word w t i)
unfolding over_word
came_word g l [] t i = (0, sym (add-zero i), zero-le, zero-le, refl)
came_word g l (y ∷ q) [] i = comes_none i (g (y ∷ q)) (l.waits y q)
came_word g l (y ∷ q) (x ∷ t) i = go (eqb x y) refl (came_word g l q t (i + 1))
  where
    go : (b : Bool) → eqb x y ≡ b → Came 0 t (i + 1) (g q) (g []) (over_word q t (i + 1))
        → Came 0 (x ∷ t) i (g (y ∷ q)) (g []) (cond b (over_word q t (i + 1)) (stop i))
    go true e h =
        came_less 0 (x ∷ t) i (g (y ∷ q)) (g []) (over_word q t (i + 1))
        (came_byte 0 x t i (g (y ∷ q)) (g q) (g []) (over_word q t (i + 1)) (l.steps y q x ∙ (rw e refl)) h)
    go false e h = comes_dead x t i (g (y ∷ q)) (l.steps y q x ∙ (rw e refl))

pub word_spelled : (s : List ℕ) (i : ℕ) (w : List ℕ) (r : Result ℕ Stopped) → i ≤ length s → Over (IsWord w) (drop i s) i r → Spelled s i w r
word_spelled s i w (Ok e) h o =
    let k = o.1 in
    let u = o.2.within in
    (omega arith, omega (arith, length-drop i s), λ g l. came_fate 0 s i (g w) (g []) e (came g l))
  where
    came : (g : List ℕ → At) → Literal g → Came 0 (drop i s) i (g w) (g []) (Ok e)
    came g l = subst (Came 0 (drop i s) i (g w) (g [])) (sym (word_is w (drop i s) i (Ok e) o)) (came_word g l w (drop i s) i)
word_spelled s i w (Err n) h o =
    λ g l. subst (Came 0 (drop i s) i (g w) (g [])) (sym (word_is w (drop i s) i (Err n) o)) (came_word g l w (drop i s) i)

-- ---- pieces: f p is the state within a piece, b the state after it

abbrev pub hosted : Read → (Part → At) → At → St
hosted bad f b = dead
hosted all f b = at b
hosted (more p) f b = at (f p)

pub record Hosts (f : Part → At) (b : At) : Type 0 where
  pub waits : (p : Part) → may_end (f p) ≡ false
  pub steps : (p : Part) (y : ℕ) → next (f p) y ≡ hosted (go_on p y) f b

abbrev pub GoesPiece : List ℕ → ℕ → Result ℕ Stopped → Type 0
GoesPiece s i r =
    (a : At) (f : Part → At) (b : At) → Hosts f b → next a (get_or s i 0) ≡ hosted (lead (get_or s i 0)) f b → Goes s i a b r

module _ (f : Part → At) (b : At) (h : Hosts f b) where
  came_first : (x : ℕ) (t : List ℕ) (k : ℕ → Read) (a : At) (i : ℕ) → next a x ≡ hosted (k x) f b
      → ((p : Part) → Came 0 t (i + 1) (f p) b (reading (go_on p) t (i + 1))) → Came 1 (x ∷ t) i a b (reading k (x ∷ t) i)
  unfolding reading
  came_first x t k a i e w = go (k x) e
    where
      go : (u : Read) → next a x ≡ hosted u f b → Came 1 (x ∷ t) i a b (told u i (λ p. reading (go_on p) t (i + 1)))
      go bad n = comes_dead x t i a n
      go all n = (1, refl, suc-le-suc zero-le, suc-le-suc zero-le, comes_byte x t i a b n)
      go (more p) n = came_byte 0 x t i a (f p) b (reading (go_on p) t (i + 1)) n (w p)

  came_part : (t : List ℕ) (p : Part) (i : ℕ) → Came 0 t i (f p) b (reading (go_on p) t i)
  unfolding reading
  came_part [] p i = comes_none i (f p) (h.waits p)
  came_part (x ∷ t) p i =
      came_less 0 (x ∷ t) i (f p) b (reading (go_on p) (x ∷ t) i)
      (came_first x t (go_on p) (f p) i (h.steps p x) (λ q. came_part t q (i + 1)))

pub piece_goes : (s : List ℕ) (i : ℕ) (r : Result ℕ Stopped) → i < length s → Over IsPiece (drop i s) i r → GoesPiece s i r
piece_goes s i r l o =
    λ a f b h e. came_goes s i a b r (subst (Came 1 (drop i s) i a b) (sym (piece_is (drop i s) i r o)) (came a f b h e))
  where
    came : (a : At) (f : Part → At) (b : At) → Hosts f b → next a (get_or s i 0) ≡ hosted (lead (get_or s i 0)) f b → Came 1 (drop i s) i a b (reading lead (drop i s) i)
    came a f b h e =
        subst (λ (t : List ℕ). Came 1 t i a b (reading lead t i)) (sym (drop-cons s i 0 l))
        (came_first f b h (get_or s i 0) (drop (suc i) s) lead a i e (λ p. came_part f b h (drop (suc i) s) p (i + 1)))
