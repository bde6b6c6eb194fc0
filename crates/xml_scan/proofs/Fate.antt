-- What comes of a text from a place and a state on, a byte or a run of bytes at a time. Assumes nothing.
use mathlib.Core.Path.{◌≡◌, refl, sym, ◌∙◌, ap, ap₂, subst}
use mathlib.Core.Bool.{Bool, true, false, cond, true≢false}
use mathlib.Core.List.{List, [], ◌∷◌, ◌++◌, append_assoc, append-nil}
use Prim.Native.Nat.{ℕ, zero, suc, ◌+◌, ◌≤◌, ◌<◌}
use native.Mathlib.Numerals.{add-one}
use native.Mathlib.Nat.{add-zero}
use native.Mathlib.Decide.{dec_lt}
use native.Mathlib.Omega.{arith}
use lib.ListN.{length, get_or, drop, take, length-drop, drop_of_length-le}
use lib.Seq.{drop-cons, drop-drop, get_or-drop}
use Rattle.text.specs.Lists.{span, LongestBeginning}
use Rattle.text.proofs.Spans.{span_le, span_next, span_end, span_stop}
use Rattle.xml.specs.House.{HouseXml, Viable}
use Rattle.xml.specs.mirror.Auto.{At, done, start, first, before, root, declare, name, tail, gap, attr, equals, quote, value, within, slash, content, part, less, close, St, dead, at, next, step, run, is_dead, live_len}
use Rattle.xml.proofs.Theorem.{accepts, accepted, longest, dead_run}
use Rattle.xml_scan.specs.mirror.Goes.{may_end, ends, comes, fate}

pair : {u v : Bool} {m n : ℕ} → u ≡ v → m ≡ n → ◌≡◌ {A = Bool × ℕ} (u, m) (v, n)
pair e f = ap₂ (λ (b : Bool) (k : ℕ). (b, k)) e f

-- ---- one byte

pub comes_none : (i : ℕ) (a : At) → may_end a ≡ false → comes [] i a ≡ (false, i)
unfolding comes run live_len
comes_none i a e = pair e (add-zero i)

pub comes_dead : (x : ℕ) (t : List ℕ) (i : ℕ) (a : At) → next a x ≡ dead → comes (x ∷ t) i a ≡ (false, i)
unfolding comes run live_len step
comes_dead x t i a e = pair (ap (λ (z : St). ends (run z t)) e ∙ ap ends (dead_run t)) (rw e (add-zero i))

pub comes_byte : (x : ℕ) (t : List ℕ) (i : ℕ) (a b : At) → next a x ≡ at b → comes (x ∷ t) i a ≡ comes t (i + 1) b
unfolding comes run live_len step
comes_byte x t i a b e = pair (ap (λ (z : St). ends (run z t)) e) (rw e (omega arith))

comes_alike : (t : List ℕ) (i : ℕ) (a b : At) → may_end a ≡ may_end b → (0 < length t → next a (get_or t 0 0) ≡ next b (get_or t 0 0))
    → comes t i a ≡ comes t i b
unfolding comes run live_len step
comes_alike [] i a b e f = pair e refl
comes_alike (x ∷ t) i a b e f =
    let m : next a x ≡ next b x = f (omega arith) in
    pair (ap (λ (z : St). ends (run z t)) m) (ap (λ (z : St). i + cond (is_dead z) zero (suc (live_len z t))) m)

module _ (s : List ℕ) (i : ℕ) (a : At) where
  -- the text ends here
  pub fate_end : length s ≤ i → may_end a ≡ false → fate s i a ≡ (false, i)
  fate_end h e = rw (drop_of_length-le s h) (comes_none i a e)

  -- no text goes on with this byte
  pub fate_dead : i < length s → next a (get_or s i 0) ≡ dead → fate s i a ≡ (false, i)
  fate_dead h e = rw (drop-cons s i 0) (comes_dead (get_or s i 0) (drop (suc i) s) i a e)

  pub fate_byte : (b : At) → i < length s → next a (get_or s i 0) ≡ at b → fate s i a ≡ fate s (i + 1) b
  fate_byte b h e = rw (drop-cons s i 0) (comes_byte (get_or s i 0) (drop (suc i) s) i a b e ∙ rw (add-one i) refl)

  -- two states that do the same
  pub fate_alike : (b : At) → may_end a ≡ may_end b → (i < length s → next a (get_or s i 0) ≡ next b (get_or s i 0)) → fate s i a ≡ fate s i b
  fate_alike b e f =
      comes_alike (drop i s) i a b e
      (λ h. let k : i < length s = omega (arith, length-drop i s) in
      subst (λ (y : ℕ). next a y ≡ next b y) (ap (λ (t : List ℕ). get_or t 0 0) (sym (drop-cons s i 0 k))) (f k))

pub fate_done : (s : List ℕ) (i : ℕ) → length s ≤ i → fate s i done ≡ (true, i)
unfolding comes run live_len
fate_done s i h = rw (drop_of_length-le s h) (pair refl (add-zero i))

-- ---- runs of bytes of one class

module _ (p : ℕ → Bool) where
  -- bytes that change nothing
  comes_span : (a : At) → ((x : ℕ) → p x ≡ true → next a x ≡ at a) → (t : List ℕ) (i : ℕ)
      → comes t i a ≡ comes (drop (span p t) t) (i + span p t) a
  unfolding span
  comes_span a f [] i = rw (add-zero i) refl
  comes_span a f (x ∷ t) i = go (p x) refl (comes_span a f t (i + 1))
    where
      go : (b : Bool) → p x ≡ b → comes t (i + 1) a ≡ comes (drop (span p t) t) (i + 1 + span p t) a
          → comes (x ∷ t) i a ≡ comes (drop (cond b (suc (span p t)) zero) (x ∷ t)) (i + cond b (suc (span p t)) zero) a
      go false e h = rw (add-zero i) refl
      go true e h =
          comes_byte x t i a a (f x e) ∙ h ∙ ap (λ (n : ℕ). comes (drop (span p t) t) n a) (omega arith)

  pub fate_span : (a : At) → ((x : ℕ) → p x ≡ true → next a x ≡ at a) → (s : List ℕ) (i : ℕ)
      → fate s i a ≡ fate s (i + span p (drop i s)) a
  fate_span a f s i = comes_span a f (drop i s) i ∙ ap (λ (t : List ℕ). comes t (i + span p (drop i s)) a) (drop-drop (span p (drop i s)) i s)

  -- bytes that a name grows by
  comes_grow : (g : List ℕ → At) → ((m : List ℕ) (x : ℕ) → p x ≡ true → next (g m) x ≡ at (g (m ++ (x ∷ [])))) → (t m : List ℕ) (i : ℕ)
      → comes t i (g m) ≡ comes (drop (span p t) t) (i + span p t) (g (m ++ take (span p t) t))
  unfolding span
  comes_grow g f [] m i = rw (add-zero i, append-nil m) refl
  comes_grow g f (x ∷ t) m i = go (p x) refl (comes_grow g f t (m ++ (x ∷ [])) (i + 1))
    where
      go : (b : Bool) → p x ≡ b → comes t (i + 1) (g (m ++ (x ∷ []))) ≡ comes (drop (span p t) t) (i + 1 + span p t) (g ((m ++ (x ∷ [])) ++ take (span p t) t))
          → comes (x ∷ t) i (g m)
          ≡ comes (drop (cond b (suc (span p t)) zero) (x ∷ t)) (i + cond b (suc (span p t)) zero) (g (m ++ take (cond b (suc (span p t)) zero) (x ∷ t)))
      go false e h = rw (add-zero i, append-nil m) refl
      go true e h =
          comes_byte x t i (g m) (g (m ++ (x ∷ []))) (f m x e) ∙ h
          ∙ ap₂ (λ (n : ℕ) (l : List ℕ). comes (drop (span p t) t) n (g l)) (omega arith) (append_assoc m (x ∷ []) (take (span p t) t))

  pub fate_grow : (g : List ℕ → At) → ((m : List ℕ) (x : ℕ) → p x ≡ true → next (g m) x ≡ at (g (m ++ (x ∷ [])))) → (s m : List ℕ) (i : ℕ)
      → fate s i (g m) ≡ fate s (i + span p (drop i s)) (g (m ++ take (span p (drop i s)) (drop i s)))
  fate_grow g f s m i =
      comes_grow g f (drop i s) m i
      ∙ ap (λ (t : List ℕ). comes t (i + span p (drop i s)) (g (m ++ take (span p (drop i s)) (drop i s)))) (drop-drop (span p (drop i s)) i s)

  -- ---- the place b at which such a run ends

  module _ (s : List ℕ) (i b : ℕ) (e : b ≡ i + span p (drop i s)) where
    pub run_within : i ≤ length s → b ≤ length s
    run_within h = omega (arith, span_le p (drop i s), length-drop i s)

    pub run_behind : i ≤ length s → b < length s → p (get_or s b 0) ≡ false
    run_behind h k =
        ap (λ (n : ℕ). p (get_or s n 0)) e ∙ ap p (sym (get_or-drop i s (span p (drop i s)) 0))
        ∙ span_next p (drop i s) (omega (arith, length-drop i s))

    pub run_over : (a : At) → ((x : ℕ) → p x ≡ true → next a x ≡ at a) → fate s i a ≡ fate s b a
    run_over a f = fate_span a f s i ∙ ap (λ (n : ℕ). fate s n a) (sym e)

    -- its first byte
    pub run_first : i < b → p (get_or s i 0) ≡ true
    run_first h = go (p (get_or s i 0)) refl (dec_lt i (length s))
      where
        go : (v : Bool) → p (get_or s i 0) ≡ v → Dec (i < length s) → v ≡ true
        go true q d = refl
        go false q (yes k) = absurd (omega (arith, span_stop p s i k q))
        go false q (no k) = absurd (omega (arith, span_end p s i (omega arith)))

-- ---- the whole text

done_at : (a : At) → may_end a ≡ true → a ≡ done
done_at done e = refl
done_at start e = absurd (true≢false (sym e))
done_at first e = absurd (true≢false (sym e))
done_at before e = absurd (true≢false (sym e))
done_at root e = absurd (true≢false (sym e))
done_at (declare y q) e = absurd (true≢false (sym e))
done_at (name d n ns) e = absurd (true≢false (sym e))
done_at (tail k ss d n ns) e = absurd (true≢false (sym e))
done_at (gap k ss d n ns) e = absurd (true≢false (sym e))
done_at (attr m b k ss d n ns) e = absurd (true≢false (sym e))
done_at (equals k ss d n ns) e = absurd (true≢false (sym e))
done_at (quote k ss d n ns) e = absurd (true≢false (sym e))
done_at (value q k ss d n ns) e = absurd (true≢false (sym e))
done_at (within p q k ss d n ns) e = absurd (true≢false (sym e))
done_at (slash d ns) e = absurd (true≢false (sym e))
done_at (content r d n ns) e = absurd (true≢false (sym e))
done_at (part p d n ns) e = absurd (true≢false (sym e))
done_at (less d n ns) e = absurd (true≢false (sym e))
done_at (close q d ns) e = absurd (true≢false (sym e))

done_is : (st : St) → ends st ≡ true → st ≡ at done
done_is dead e = absurd (true≢false (sym e))
done_is (at a) e = ap at (done_at a e)

pub whole : (s : List ℕ) (n : ℕ) → fate s 0 start ≡ (true, n) → HouseXml s
unfolding comes
whole s n e = accepted s (done_is (run (at start) s) (ap (λ (w : Bool × ℕ). w.0) e))

pub stopped : (s : List ℕ) (n : ℕ) → fate s 0 start ≡ (false, n) → (HouseXml s → ⊥) × LongestBeginning Viable s n
unfolding comes
stopped s n e =
    let k : live_len (at start) s ≡ n = omega (arith, ap (λ (w : Bool × ℕ). w.1) e) in
    (λ h. true≢false (ap ends (sym (accepts s h)) ∙ ap (λ (w : Bool × ℕ). w.0) e), rw k at (longest s))
