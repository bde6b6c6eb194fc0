-- Over a construct, a byte at a time, and that only one answer fits. Assumes nothing.
use mathlib.Core.Path.{◌≡◌, refl, sym, ◌∙◌, ap}
use mathlib.Core.List.{List, [], ◌∷◌, ◌++◌}
use Prim.Native.Nat.{ℕ, zero, suc, ◌+◌, ◌≤◌, zero-le, suc-le-suc}
use native.Mathlib.Nat.{add-zero, le_of_suc-le-suc}
use native.Mathlib.Omega.{arith}
use lib.ListN.{length, take}
use Rattle.xml_pieces.specs.Over.{Ends, Begun, Breaks, Over}
use Rattle.std.specs.Prelude.{Result, Ok, Err}
use Rattle.xml_pieces.specs.declared.Stopped.{Stopped}
use Rattle.xml_pieces.specs.Over.{stop}

module _ (L : List ℕ → Type 0) where
  -- no text begins with two constructs of this kind
  abbrev pub Lone : Type 0
  Lone = (t : List ℕ) (m n : ℕ) → Ends L t m → Ends L t n → m ≡ n

  -- so only one answer fits
  pub over_one : Lone → (t : List ℕ) (i : ℕ) (a b : Result ℕ Stopped) → Over L t i a → Over L t i b → a ≡ b
  over_one lone t i (Ok a) (Ok b) p q = ap Ok (p.1 ∙ ap (λ (n : ℕ). i + n) (lone t p.0 q.0 p.2 q.2) ∙ sym q.1)
  over_one lone t i (Ok a) (Err b) p q = absurd (q.2.none p.0 p.2)
  over_one lone t i (Err a) (Ok b) p q = absurd (p.2.none q.0 q.2)
  over_one lone t i (Err a) (Err b) p q =
      let u = p.2.most q.0 q.2.within q.2.begun in
      let v = q.2.most p.0 p.2.within p.2.begun in
      let e : p.0 ≡ q.0 = omega arith in
      ap stop (p.1 ∙ ap (λ (n : ℕ). i + n) e ∙ sym q.1)

  module _ (some : Begun L []) (not_None : L [] → ⊥) where
    -- the text ends here
    pub over_end : (i : ℕ) → Over L [] i (stop i)
    over_end i = (0, sym (add-zero i), record { none = none; within = zero-le; begun = some; most = λ k h b. h })
      where
        none : (k : ℕ) → Ends L [] k → ⊥
        none zero h = not_None h.is
        none (suc k) h = omega (arith, h.within)

    -- none goes on with this byte
    pub over_dead : (x : ℕ) (t : List ℕ) (i : ℕ) → ((l : List ℕ) → L (x ∷ l) → ⊥) → Over L (x ∷ t) i (stop i)
    over_dead x t i no_more = (0, sym (add-zero i), record { none = none; within = zero-le; begun = some; most = most })
      where
        none : (k : ℕ) → Ends L (x ∷ t) k → ⊥
        none zero h = not_None h.is
        none (suc k) h = no_more (take k t) h.is

        most : (k : ℕ) → k ≤ length (x ∷ t) → Begun L (take k (x ∷ t)) → k ≤ 0
        most zero h b = zero-le
        most (suc k) h b = absurd (no_more (take k t ++ b.0) b.1)

  -- it is the last byte
  pub over_last : (x : ℕ) (t : List ℕ) (i : ℕ) → L (x ∷ []) → Over L (x ∷ t) i (Ok (i + 1))
  over_last x t i h = (1, refl, record { within = suc-le-suc zero-le; is = h })

  -- a byte, after which M says what is still to come
  module _ (M : List ℕ → Type 0) (x : ℕ) (to : (l : List ℕ) → M l → L (x ∷ l)) (from : (l : List ℕ) → L (x ∷ l) → M l) (not_None : L [] → ⊥) where
    pub over_byte : (t : List ℕ) (i : ℕ) (r : Result ℕ Stopped) → Over M t (i + 1) r → Over L (x ∷ t) i r
    over_byte t i (Ok e) h =
        let f = h.1 in
        (suc h.0, omega arith, record { within = suc-le-suc h.2.within; is = to (take h.0 t) h.2.is })
    over_byte t i (Err e) h =
        let f = h.1 in
        let b = h.2 in
        (suc h.0, omega arith, record { none = none b; within = suc-le-suc b.within; begun = (b.begun.0, to (take h.0 t ++ b.begun.0) b.begun.1); most = most b })
      where
        none : Breaks M t h.0 → (k : ℕ) → Ends L (x ∷ t) k → ⊥
        none b zero w = not_None w.is
        none b (suc k) w = b.none k (record { within = le_of_suc-le-suc w.within; is = from (take k t) w.is })

        most : Breaks M t h.0 → (k : ℕ) → k ≤ length (x ∷ t) → Begun L (take k (x ∷ t)) → k ≤ suc h.0
        most b zero w v = zero-le
        most b (suc k) w v = suc-le-suc (b.most k (le_of_suc-le-suc w) (v.0, from (take k t ++ v.0) v.1))

-- two ways of saying which bytes are such a construct
pub over_as : (L M : List ℕ → Type 0) → ((l : List ℕ) → L l → M l) → ((l : List ℕ) → M l → L l) → (t : List ℕ) (i : ℕ) (r : Result ℕ Stopped)
    → Over L t i r → Over M t i r
over_as L M to from t i (Ok e) h = (h.0, h.1, record { within = h.2.within; is = to (take h.0 t) h.2.is })
over_as L M to from t i (Err e) h =
    let b = h.2 in (
      h.0,
      h.1,
      record {
        none = λ k w. b.none k (record { within = w.within; is = from (take k t) w.is });
        within = b.within;
        begun = (b.begun.0, to (take h.0 t ++ b.begun.0) b.begun.1);
        most = λ k w v. b.most k w (v.0, from (take k t ++ v.0) v.1);
      },
    )
