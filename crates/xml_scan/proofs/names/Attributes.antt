-- Attributes. Assumes nothing.
use mathlib.Core.Path.{◌≡◌, refl, sym, ◌∙◌, subst}
use mathlib.Core.Bool.{true, false}
use mathlib.Core.Logic.{◌≢◌, ⊎_elim}
use mathlib.Core.List.{List, [], ◌∷◌}
use Prim.Native.Nat.{ℕ, ◌+◌, ◌≤◌, ◌<◌}
use native.Mathlib.Omega.{arith}
use types.Run.{OneOf}
use lib.ListN.{length, get_or, drop}
use borrow.Author.Tests.{eq-eqb, ne_eqb}
use Rattle.text.specs.Bytes.{is_blank}
use Rattle.text.specs.Lists.{span}
use Rattle.xml.specs.House.{Quote, single_quote, double, mark}
use Rattle.xml.specs.mirror.Auto.{Read, bad, all, more, lead, go_on, tail, equals, quote, value, within, dead, at, value_next, next}
use Rattle.xml_scan.specs.mirror.Goes.{fate, Goes, Marked, GoesValue, GoesEquals}
use Rattle.xml_pieces.specs.Over.{Over}
use Rattle.xml_pieces.specs.Kinds.{IsPiece}
use Rattle.xml_scan.proofs.Fate.{fate_end, fate_dead, fate_byte, run_behind, run_over}
use Rattle.xml_scan.proofs.Passed.{hosted, Hosts, piece_goes}
use Rattle.xml_scan.proofs.Goes.{goes_after, goes_byte, goes_stop}
use Rattle.std.specs.Prelude.{Result, Ok}
use Rattle.xml_pieces.specs.declared.Stopped.{Stopped}
use Rattle.xml_pieces.specs.Over.{stop}

-- either quote
pub a_mark : (x : ℕ) → OneOf (34 ∷ 39 ∷ []) x → Marked x
a_mark x w = ⊎_elim (λ e. record { quote = double; is = sym e }) (λ e. record { quote = single_quote; is = sym e }) w

-- ---- the automaton at a byte of a value, before it, before `=`

module _ (q : Quote) (k : ℕ) (ss : List (List ℕ)) (d : ℕ) (n : List ℕ) (ns : List (List ℕ)) where
  value_ends : (x : ℕ) → x ≡ mark q → next (value q k ss d n ns) x ≡ at (tail k ss d n ns)
  unfolding next
  value_ends x e = rw (eq-eqb x (mark q) e) refl

  value_next_lem : (r : Read) → value_next r q k ss d n ns ≡ hosted r (λ p. within p q k ss d n ns) (value q k ss d n ns)
  value_next_lem bad = refl
  value_next_lem all = refl
  value_next_lem (more p) = refl

  value_hosts : Hosts (λ p. within p q k ss d n ns) (value q k ss d n ns)
  unfolding next
  value_hosts = record { waits = λ p. refl; steps = λ p y. value_next_lem (go_on p y) }

  value_piece : (x : ℕ) → x ≢ mark q → next (value q k ss d n ns) x ≡ hosted (lead x) (λ p. within p q k ss d n ns) (value q k ss d n ns)
  unfolding next
  value_piece x e = rw (ne_eqb x (mark q) e) (value_next_lem (lead x))

module _ (k : ℕ) (ss : List (List ℕ)) (d : ℕ) (n : List ℕ) (ns : List (List ℕ)) where
  equals_blank : (x : ℕ) → is_blank x ≡ true → next (equals k ss d n ns) x ≡ at (equals k ss d n ns)
  unfolding next
  equals_blank x e = rw e refl

  equals_sign : (x : ℕ) → x ≡ 61 → next (equals k ss d n ns) x ≡ at (quote k ss d n ns)
  unfolding next is_blank
  equals_sign x e = rw e refl

  equals_dead : (x : ℕ) → is_blank x ≡ false → x ≢ 61 → next (equals k ss d n ns) x ≡ dead
  unfolding next
  equals_dead x e f = rw (e, ne_eqb x 61 f) refl

  quote_blank : (x : ℕ) → is_blank x ≡ true → next (quote k ss d n ns) x ≡ at (quote k ss d n ns)
  unfolding next
  quote_blank x e = rw e refl

  quote_mark : (q : Quote) (x : ℕ) → x ≡ mark q → next (quote k ss d n ns) x ≡ at (value q k ss d n ns)
  unfolding next is_blank
  quote_mark single_quote x e = rw e refl
  quote_mark double x e = rw e refl

  quote_dead : (x : ℕ) → is_blank x ≡ false → x ≢ 39 → x ≢ 34 → next (quote k ss d n ns) x ≡ dead
  unfolding next
  quote_dead x e f g = rw (e, ne_eqb x 39 f, ne_eqb x 34 g) refl

-- ---- the loop over a value

pub record Valuing (s : List ℕ) (at : ℕ) (m : ℕ) (i : ℕ) : Type 0 where
  pub from : at ≤ i
  pub within : i ≤ length s
  pub so : (q : Quote) (k : ℕ) (ss : List (List ℕ)) (d : ℕ) (n : List ℕ) (ns : List (List ℕ))
      → mark q ≡ m → fate s at (value q k ss d n ns) ≡ fate s i (value q k ss d n ns)

pub valuing_none : (s : List ℕ) (i m : ℕ) → i ≤ length s → Valuing s i m i
valuing_none s i m h = record { from = omega arith; within = h; so = λ q k ss d n ns e. refl }

module _ (s : List ℕ) (o m i : ℕ) (a : Marked m) (v : Valuing s o m i) where
  pub value_cut : length s ≤ i → GoesValue s o m (stop i)
  value_cut h = λ q k ss d n ns e. v.so q k ss d n ns e ∙ fate_end s i (value q k ss d n ns) h refl

  module _ (h : i < length s) where
    pub value_quote : get_or s i 0 ≡ m → GoesValue s o m (Ok (i + 1))
    value_quote f =
        λ q k ss d n ns e. (
          omega (arith, v.from),
          omega arith,
          v.so q k ss d n ns e ∙ fate_byte s i (value q k ss d n ns) (tail k ss d n ns) h (value_ends q k ss d n ns (get_or s i 0) (f ∙ sym e)),
        )

    module _ (f : get_or s i 0 ≢ m) (r : Result ℕ Stopped) (g : Over IsPiece (drop i s) i r) where
      goes : (q : Quote) (k : ℕ) (ss : List (List ℕ)) (d : ℕ) (n : List ℕ) (ns : List (List ℕ)) → mark q ≡ m
          → Goes s i (value q k ss d n ns) (value q k ss d n ns) r
      goes q k ss d n ns e =
          piece_goes s i r h g (value q k ss d n ns) (λ p. within p q k ss d n ns) (value q k ss d n ns) (value_hosts q k ss d n ns)
          (value_piece q k ss d n ns (get_or s i 0) (λ t. f (t ∙ e)))

      pub value_stop : (n : ℕ) → r ≡ stop n → GoesValue s o m (stop n)
      value_stop p t = λ q k ss d n ns e. v.so q k ss d n ns e ∙ goes_stop s i (value q k ss d n ns) (value q k ss d n ns) r p (goes q k ss d n ns e) t

      pub piece_on : (j : ℕ) → r ≡ Ok j → (i < j) × (j ≤ length s)
      piece_on j t =
          let w = subst (λ (z : Result ℕ Stopped). Goes s i (value a.quote 0 [] 0 [] []) (value a.quote 0 [] 0 [] []) z) t (goes a.quote 0 [] 0 [] [] a.is) in
          (w.0, w.1)

      pub valuing_on : (j : ℕ) → r ≡ Ok j → Valuing s o m j
      valuing_on j t =
          let w = piece_on j t in
          record {
            from = omega (arith, v.from, w.0);
            within = w.1;
            so = λ q k ss d n ns e. v.so q k ss d n ns e ∙ (subst (λ (z : Result ℕ Stopped). Goes s i (value q k ss d n ns) (value q k ss d n ns) z) t (goes q k ss d n ns e)).2;
          }

-- ---- blanks, `=`, blanks, and a quote

module _ (s : List ℕ) (i b : ℕ) (is : b ≡ i + span is_blank (drop i s)) (h : i ≤ length s) where
  sign : (k : ℕ) (ss : List (List ℕ)) (d : ℕ) (n : List ℕ) (ns : List (List ℕ)) → fate s i (equals k ss d n ns) ≡ fate s b (equals k ss d n ns)
  sign k ss d n ns = run_over is_blank s i b is (equals k ss d n ns) (equals_blank k ss d n ns)

  pub equals_cut : length s ≤ b → GoesEquals s i (stop b)
  equals_cut e = λ k ss d n ns. sign k ss d n ns ∙ fate_end s b (equals k ss d n ns) e refl

  module _ (l : b < length s) where
    pub equals_other : get_or s b 0 ≢ 61 → GoesEquals s i (stop b)
    equals_other e =
        λ k ss d n ns. sign k ss d n ns ∙ fate_dead s b (equals k ss d n ns) l (equals_dead k ss d n ns (get_or s b 0) (run_behind is_blank s i b is h l) e)

    module _ (f : get_or s b 0 ≡ 61) (c : ℕ) (is' : c ≡ b + 1 + span is_blank (drop (b + 1) s)) where
      first : (k : ℕ) (ss : List (List ℕ)) (d : ℕ) (n : List ℕ) (ns : List (List ℕ)) → fate s i (equals k ss d n ns) ≡ fate s c (quote k ss d n ns)
      first k ss d n ns =
          sign k ss d n ns ∙ fate_byte s b (equals k ss d n ns) (quote k ss d n ns) l (equals_sign k ss d n ns (get_or s b 0) f)
          ∙ run_over is_blank s (b + 1) c is' (quote k ss d n ns) (quote_blank k ss d n ns)

      pub quote_cut : length s ≤ c → GoesEquals s i (stop c)
      quote_cut e = λ k ss d n ns. first k ss d n ns ∙ fate_end s c (quote k ss d n ns) e refl

      module _ (m : c < length s) where
        pub quote_other : get_or s c 0 ≢ 39 → get_or s c 0 ≢ 34 → GoesEquals s i (stop c)
        quote_other e g =
            λ k ss d n ns. first k ss d n ns ∙ fate_dead s c (quote k ss d n ns) m
            (quote_dead k ss d n ns (get_or s c 0) (run_behind is_blank s (b + 1) c is' (omega arith) m) e g)

        pub quoted : (q : Quote) (r : Result ℕ Stopped) → get_or s c 0 ≡ mark q → GoesValue s (c + 1) (get_or s c 0) r → GoesEquals s i r
        quoted q r e g =
            λ k ss d n ns. goes_after s i (equals k ss d n ns) c (quote k ss d n ns) (tail k ss d n ns) r (omega arith) (first k ss d n ns)
            (goes_byte s c (quote k ss d n ns) (value q k ss d n ns) (tail k ss d n ns) r m (quote_mark k ss d n ns q (get_or s c 0) e) (g q k ss d n ns (sym e)))
