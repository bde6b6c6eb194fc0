-- A head: its numbers one after the other, and what it asks for, test by test. Assumes nothing.
use mathlib.Core.Path.{◌≡◌, refl, sym, ◌∙◌, ap, subst}
use mathlib.Core.Bool.{Bool, true, false, cond}
use mathlib.Core.List.{List, [], ◌∷◌}
use Prim.Native.Nat.{ℕ, ◌+◌, ◌≤◌, ◌<◌, min}
use native.Mathlib.Decide.{dec_lt}
use native.Mathlib.Omega.{arith}
use lib.Dec.{ltb, eqb}
use lib.ListN.{length, get_or, take, drop, length-drop}
use lib.Seq.{drop-drop}
use borrow.Author.Tests.{lt-ltb, le-ltb, ltb-false}
use Rattle.std.proofs.Common.{w32}
use Rattle.std.proofs.lemmas.Option.{none-some}
use Rattle.std.specs.Prelude.{Option, Some, None}
use Rattle.std.specs.Int.{from_le_bytes}
use Rattle.std.specs.List.{IsFirstAndRest}
use Rattle.text.specs.Little.{little}
use Rattle.answer.specs.Table.{limit}
use Rattle.program_feed.specs.declared.case.Ask.{Ask}
use Rattle.program_feed.specs.declared.case.Ask.TheVariants.{Check, Read, Pick, Write, Count, Tidy}
use Rattle.program_feed.specs.declared.case.Case.{Case}
use Rattle.program_feed.specs.Cases.{number_at, longest, case, op_by, case_by, case_of, size_of, case_in}

-- ---- four bytes

pub four : (s bytes : List ℕ) → 4 ≤ length s → bytes ≡ take 4 s → from_le_bytes w32 bytes ≡ little (take 4 s)
unfolding little
four [] bytes h e = absurd (omega arith)
four (a ∷ []) bytes h e = absurd (omega arith)
four (a ∷ b ∷ []) bytes h e = absurd (omega arith)
four (a ∷ b ∷ c ∷ []) bytes h e = absurd (omega arith)
four (a ∷ b ∷ c ∷ d ∷ s) bytes h e = ap (from_le_bytes w32) e ∙ omega arith

-- ---- what a head asks for

pub case_short : (s : List ℕ) → length s < 13 → None ≡ case_of s
unfolding case_of
case_short s h = rw (lt-ltb (length s) 13 h)

-- a head with its op and three numbers, one behind the other
module _ {s : List ℕ} {op : ℕ} {t u v : List ℕ} {first second size : ℕ} (e : IsFirstAndRest s op t)
    (f : (4 ≤ length t) × (first ≡ little (take 4 t)) × (u ≡ drop 4 t))
    (g : (4 ≤ length u) × (second ≡ little (take 4 u)) × (v ≡ drop 4 u))
    (h : (4 ≤ length v) × (size ≡ little (take 4 v))) where
  at_first : little (take 4 t) ≡ number_at 1 s
  at_first = ap (number_at 1) (sym e.0)

  at_second : u ≡ drop 5 s
  at_second = f.2 ∙ ap (drop 5) (sym e.0)

  at_size : v ≡ drop 9 s
  at_size = g.2 ∙ ap (drop 4) at_second ∙ drop-drop 4 5 s

  long : 13 ≤ length s
  long = omega (arith, e.1, f.0, g.0, h.0, ap length f.2, ap length g.2, length-drop 4 t, length-drop 4 u)

  case_is : case_of s ≡ case_by op first second size
  unfolding case_of
  case_is =
      rw (le-ltb (length s) 13 long)
      (ap (λ (n : ℕ). case_by n (number_at 1 s) (number_at 5 s) (number_at 9 s)) (ap (λ (x : List ℕ). get_or x 0 0) e.0)
      ∙ ap (λ (n : ℕ). case_by op n (number_at 5 s) (number_at 9 s)) (sym (f.1 ∙ at_first))
      ∙ ap (λ (n : ℕ). case_by op first n (number_at 9 s)) (sym (g.1 ∙ ap (λ (x : List ℕ). little (take 4 x)) at_second))
      ∙ ap (case_by op first second) (sym (h.1 ∙ ap (λ (x : List ℕ). little (take 4 x)) at_size)))

  pub case_long : longest < size → None ≡ case_of s
  unfolding case_by
  case_long k = sym (case_is ∙ rw (lt-ltb longest size k))

  pub case_whole : size ≤ longest → {c : Option Case} → c ≡ op_by op first second size → c ≡ case_of s
  unfolding case_by
  case_whole k c = c ∙ sym (case_is ∙ rw (le-ltb longest size k))

-- the rooms of a check, of a write and of a tidying are there
abbrev pub Roomy : Ask → Type 0
Roomy (Check room) = room ≤ limit
Roomy Read = Unit {0}
Roomy (Pick row n) = Unit {0}
Roomy (Write room) = room ≤ limit
Roomy Count = Unit {0}
Roomy (Tidy room space) = (room ≤ limit) × (space ≤ limit)

-- no case is longer than the longest, or asks for more room than there is
abbrev pub Kept : Option Case → Type 0
Kept (Some c) = (c.size ≤ longest) × Roomy c.ask
Kept None = Unit {0}

by_tests : (u v w x y z : Bool) (room n size : ℕ) → size ≤ longest →
    Kept (cond u (Some (case (Check (min room limit)) size)) (cond v (Some (case Read size)) (cond w (Some (case (Pick room n) size)) (cond x (Some (case (Write (min room limit)) size)) (cond y (Some (case Count size)) (cond z (Some (case (Tidy (min room limit) (min n limit)) size)) None))))))
by_tests true v w x y z room n size h = (h, omega arith)
by_tests false true w x y z room n size h = (h, tt)
by_tests false false true x y z room n size h = (h, tt)
by_tests false false false true y z room n size h = (h, omega arith)
by_tests false false false false true z room n size h = (h, tt)
by_tests false false false false false true room n size h = (h, (omega arith, omega arith))
by_tests false false false false false false room n size h = tt

by_length : (t : Bool) (op room n size : ℕ) → (t ≡ false → size ≤ longest) → Kept (cond t None (op_by op room n size))
unfolding op_by
by_length true op room n size h = tt
by_length false op room n size h = by_tests (eqb op 0) (eqb op 1) (eqb op 2) (eqb op 3) (eqb op 6) (eqb op 8) room n size (h refl)

pub kept : (s : List ℕ) → Kept (case_of s)
unfolding case_of case_by
kept s = go (ltb (length s) 13)
  where
    go : (b : Bool) → Kept (cond b None (case_by (get_or s 0 0) (number_at 1 s) (number_at 5 s) (number_at 9 s)))
    go true = tt
    go false = by_length (ltb longest (number_at 9 s)) (get_or s 0 0) (number_at 1 s) (number_at 5 s) (number_at 9 s) (ltb-false longest (number_at 9 s))

-- ---- the case that a feed begins with

in_short : (s : List ℕ) → length s < 13 + size_of (case_of s) → None ≡ case_in s
unfolding case_in
in_short s h = rw (lt-ltb (length s) (13 + size_of (case_of s)) h)

in_whole : (s : List ℕ) → 13 + size_of (case_of s) ≤ length s → case_of s ≡ case_in s
unfolding case_in
in_whole s h = rw (le-ltb (length s) (13 + size_of (case_of s)) h)

-- none where its head asks for nothing
pub in_none : (s : List ℕ) → None ≡ case_of s → None ≡ case_in s
in_none s e = go (dec_lt (length s) (13 + size_of (case_of s)))
  where
    go : Dec (length s < 13 + size_of (case_of s)) → None ≡ case_in s
    go (yes h) = in_short s h
    go (no h) = e ∙ in_whole s (omega arith)

module _ (s : List ℕ) (c : Case) (e : Some c ≡ case_of s) where
  pub kept_case : Kept (Some c)
  kept_case = subst Kept (sym e) (kept s)

  pub in_cut : length s < 13 + c.size → None ≡ case_in s
  in_cut h = in_short s (omega (arith, ap size_of e))

  pub in_all : 13 + c.size ≤ length s → Some c ≡ case_in s
  in_all h = e ∙ in_whole s (omega (arith, ap size_of e))

-- what is not broken stands there whole
pub whole : (s : List ℕ) (c : Case) → Some c ≡ case_in s → (case_of s ≡ Some c) × (13 + c.size ≤ length s)
whole s c e = go (dec_lt (length s) (13 + size_of (case_of s)))
  where
    go : Dec (length s < 13 + size_of (case_of s)) → (case_of s ≡ Some c) × (13 + c.size ≤ length s)
    go (yes h) = absurd (none-some c (in_short s h ∙ sym e))
    go (no h) =
        let w : 13 + size_of (case_of s) ≤ length s = omega arith in
        let f : case_of s ≡ Some c = in_whole s w ∙ sym e in
        (f, subst (λ (x : Option Case). 13 + size_of x ≤ length s) f w)
