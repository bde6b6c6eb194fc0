-- What stands before the first element. Assumes nothing.
use mathlib.Core.Path.{◌≡◌, refl, sym, ◌∙◌, ap, ap₂, subst}
use mathlib.Core.Bool.{true, false}
use mathlib.Core.Logic.{◌≢◌}
use mathlib.Core.List.{List, [], ◌∷◌}
use Prim.Native.Nat.{ℕ, ◌+◌, ◌≤◌, ◌<◌}
use native.Mathlib.Decide.{ℕ_discrete, dec_lt}
use native.Mathlib.Omega.{arith}
use lib.ListN.{length, get_or, drop}
use borrow.Author.Tests.{ne_eqb}
use Rattle.text.specs.Bytes.{ascii, is_blank, is_name_start}
use Rattle.text.specs.Lists.{span}
use Rattle.text.specs.Words.{starts}
use Rattle.text.proofs.Parts.{starts_is, starts_not}
use Rattle.xml.specs.mirror.Auto.{start, first, before, root, dead, at, declare_next, next}
use Rattle.xml_scan.specs.mirror.Goes.{fate, Goes}
use Rattle.xml_pieces.specs.Over.{Over}
use Rattle.xml_pieces.specs.Kinds.{IsWord}
use Rattle.xml_scan.proofs.Fate.{fate_end, fate_dead, fate_byte, fate_alike, run_behind, run_over}
use Rattle.xml_scan.proofs.Passed.{Literal, Spelled, word_spelled}
use Rattle.xml_scan.proofs.Goes.{goes_after}
use Rattle.std.specs.Prelude.{Result, Ok}
use Rattle.xml_pieces.specs.declared.Stopped.{Stopped}
use Rattle.xml_pieces.specs.Over.{stop}

-- ---- the automaton at a byte before the first element

before_blank : (x : ℕ) → is_blank x ≡ true → next before x ≡ at before
unfolding next
before_blank x e = rw e refl

before_less : (x : ℕ) → x ≡ 60 → next before x ≡ at root
unfolding next is_blank
before_less x e = rw e refl

before_dead : (x : ℕ) → is_blank x ≡ false → x ≢ 60 → next before x ≡ dead
unfolding next
before_dead x e f = rw (e, ne_eqb x 60 f) refl

start_less : (x : ℕ) → x ≡ 60 → next start x ≡ at first
unfolding next is_blank
start_less x e = rw e refl

start_before : (x : ℕ) → x ≢ 60 → next start x ≡ next before x
unfolding next
start_before x e = rw (ne_eqb x 60 e) refl

first_question : (x : ℕ) → x ≡ 63 → next first x ≡ at (declare_next (ascii "xml version=\"1.0\" encoding=\"UTF-8\"?>"))
unfolding next is_name_start
first_question x e = rw e refl

first_root : (x : ℕ) → x ≢ 63 → next first x ≡ next root x
unfolding next
first_root x e = rw (ne_eqb x 63 e) refl

declare_literal : Literal declare_next
unfolding next
declare_literal = record { waits = λ y q. refl; steps = λ y q x. refl }

-- ---- blanks, and `<`

module _ (s : List ℕ) (i b : ℕ) (is : b ≡ i + span is_blank (drop i s)) (h : i ≤ length s) where
  blanks : fate s i before ≡ fate s b before
  blanks = run_over is_blank s i b is before before_blank

  pub root_cut : length s ≤ b → Goes s i before root (stop b)
  root_cut e = blanks ∙ fate_end s b before e refl

  module _ (l : b < length s) where
    pub root_other : get_or s b 0 ≢ 60 → Goes s i before root (stop b)
    root_other e = blanks ∙ fate_dead s b before l (before_dead (get_or s b 0) (run_behind is_blank s i b is h l) e)

    pub root_less : get_or s b 0 ≡ 60 → Goes s i before root (Ok (b + 1))
    root_less e = (omega arith, omega arith, blanks ∙ fate_byte s b before root l (before_less (get_or s b 0) e))

-- ---- no declaration

pair_is : (s : List ℕ) → 1 < length s → get_or s 0 0 ≡ 60 → get_or s 1 0 ≡ 63 → s ≡ 60 ∷ 63 ∷ drop 2 s
pair_is [] h e f = absurd (omega arith)
pair_is (x ∷ []) h e f = absurd (omega arith)
pair_is (x ∷ y ∷ s) h e f = ap₂ (λ (u v : ℕ). u ∷ v ∷ s) e f

undeclared : (s : List ℕ) → starts (60 ∷ 63 ∷ []) s ≡ false → fate s 0 start ≡ fate s 0 before
undeclared s n = go (dec_lt 0 (length s)) (ℕ_discrete (get_or s 0 0) 60)
  where
    behind : (0 < length s) → get_or s 0 0 ≡ 60 → 1 < length s → next first (get_or s 1 0) ≡ next root (get_or s 1 0)
    behind h e l = first_root (get_or s 1 0) (λ f. starts_not (60 ∷ 63 ∷ []) s (drop 2 s) n (pair_is s l e f))

    go : Dec (0 < length s) → Dec (get_or s 0 0 ≡ 60) → fate s 0 start ≡ fate s 0 before
    go (no h) d = fate_alike s 0 start before refl (λ l. absurd (h l))
    go (yes h) (no d) = fate_alike s 0 start before refl (λ l. start_before (get_or s 0 0) d)
    go (yes h) (yes d) =
        fate_byte s 0 start first h (start_less (get_or s 0 0) d) ∙ fate_alike s (0 + 1) first root refl (λ l. behind h d l)
        ∙ sym (fate_byte s 0 before root h (before_less (get_or s 0 0) d))

pub prolog_plain : (s : List ℕ) (r : Result ℕ Stopped) → starts (60 ∷ 63 ∷ []) s ≡ false → Goes s 0 before root r → Goes s 0 start root r
prolog_plain s r e g = goes_after s 0 start 0 before root r (omega arith) (undeclared s e) g

-- ---- a declaration

module _ (s : List ℕ) (e : starts (60 ∷ 63 ∷ []) s ≡ true) where
  is : s ≡ 60 ∷ 63 ∷ drop 2 s
  is = starts_is (60 ∷ 63 ∷ []) s e

  opener_within : 2 ≤ length s
  opener_within = omega (arith, ap length is)

  opened : fate s 0 start ≡ fate s 2 (declare_next (ascii "xml version=\"1.0\" encoding=\"UTF-8\"?>"))
  opened =
      let h = opener_within in
      fate_byte s 0 start first (omega arith) (start_less (get_or s 0 0) (ap (λ (l : List ℕ). get_or l 0 0) is))
      ∙ fate_byte s 1 first (declare_next (ascii "xml version=\"1.0\" encoding=\"UTF-8\"?>")) (omega arith) (first_question (get_or s 1 0) (ap (λ (l : List ℕ). get_or l 1 0) is))

  module _ (q : Result ℕ Stopped) (g : Over (IsWord (ascii "xml version=\"1.0\" encoding=\"UTF-8\"?>")) (drop 2 s) 2 q) where
    spelled : (r : Result ℕ Stopped) → q ≡ r → Spelled s 2 (ascii "xml version=\"1.0\" encoding=\"UTF-8\"?>") r
    spelled r w = subst (Spelled s 2 (ascii "xml version=\"1.0\" encoding=\"UTF-8\"?>")) w (word_spelled s 2 (ascii "xml version=\"1.0\" encoding=\"UTF-8\"?>") q opener_within g)

    pub declared_stop : (p : ℕ) → q ≡ stop p → Goes s 0 start root (stop p)
    declared_stop p w = opened ∙ spelled (stop p) w declare_next declare_literal

    module _ (j : ℕ) (w : q ≡ Ok j) where
      pub declared_within : j ≤ length s
      declared_within = (spelled (Ok j) w).1

      pub declared_on : (r : Result ℕ Stopped) → Goes s j before root r → Goes s 0 start root r
      declared_on r k = goes_after s 0 start j before root r (omega arith) (opened ∙ (spelled (Ok j) w).2 declare_next declare_literal) k
