-- An attribute's name, which may hold one colon between two names. Assumes nothing.
use mathlib.Core.Path.{◌≡◌, refl, sym, ◌∙◌, subst}
use mathlib.Core.Bool.{true, false}
use mathlib.Core.Logic.{◌≢◌}
use mathlib.Core.List.{List, [], ◌∷◌, ◌++◌}
use Prim.Native.Nat.{ℕ, suc, ◌+◌, ◌≤◌, ◌<◌}
use native.Mathlib.Omega.{arith}
use lib.ListN.{length, get_or, drop}
use lib.Seq.{slice}
use borrow.Author.Tests.{ne_eqb}
use Rattle.text.specs.Bytes.{is_name_start, is_name_part}
use Rattle.text.specs.Lists.{span}
use Rattle.xml.specs.mirror.Auto.{early, colon, late, grows, gap, attr, dead, at, next}
use Rattle.xml.proofs.Basics.{no_colon}
use Rattle.xml_scan.specs.mirror.Classes.{above}
use Rattle.xml_scan.specs.mirror.Goes.{fate}
use Rattle.xml_scan.specs.mirror.Tags.{Named, GoesName}
use Rattle.xml_scan.proofs.Classes.{above_name}
use Rattle.xml_scan.proofs.Fate.{fate_end, fate_dead, run_within, run_behind}
use Rattle.xml_scan.proofs.names.Grown.{grown_byte, grown_first, grown_run}
use Rattle.std.specs.Prelude.{Result, Ok}
use Rattle.xml_pieces.specs.declared.Stopped.{Stopped}
use Rattle.xml_pieces.specs.Over.{stop}

-- ---- the automaton at a byte of it

module _ (k : ℕ) (ss : List (List ℕ)) (d : ℕ) (n : List ℕ) (ns : List (List ℕ)) where
  gap_name : (x : ℕ) → is_name_start x ≡ true → next (gap (suc k) ss d n ns) x ≡ at (attr early (x ∷ []) k ss d n ns)
  unfolding next
  gap_name x e = rw e refl

  early_part : (b : List ℕ) (x : ℕ) → above 1 x ≡ true → next (attr early b k ss d n ns) x ≡ at (attr early (b ++ (x ∷ [])) k ss d n ns)
  unfolding next
  early_part b x e = let p = sym (above_name x) ∙ e in rw (p, no_colon x p) refl

  early_colon : (b : List ℕ) (x : ℕ) → x ≡ 58 → next (attr early b k ss d n ns) x ≡ at (attr colon (b ++ (x ∷ [])) k ss d n ns)
  unfolding next is_name_part
  early_colon b x e = rw e refl

  colon_start : (b : List ℕ) (x : ℕ) → is_name_start x ≡ true → next (attr colon b k ss d n ns) x ≡ at (attr late (b ++ (x ∷ [])) k ss d n ns)
  unfolding next
  colon_start b x e = rw e refl

  colon_other : (b : List ℕ) (x : ℕ) → is_name_start x ≡ false → next (attr colon b k ss d n ns) x ≡ dead
  unfolding next
  colon_other b x e = rw e refl

  late_part : (b : List ℕ) (x : ℕ) → above 1 x ≡ true → next (attr late b k ss d n ns) x ≡ at (attr late (b ++ (x ∷ [])) k ss d n ns)
  unfolding next
  late_part b x e = rw (sym (above_name x) ∙ e) refl

no_part : (x : ℕ) → above 1 x ≡ false → is_name_part x ≡ false
no_part x e = sym (above_name x) ∙ e

no_early : (x : ℕ) → above 1 x ≡ false → x ≢ 58 → grows early x ≡ false
no_early x e f = rw (no_part x e, ne_eqb x 58 f) refl

-- ---- the first name, from b to c

module _ (s : List ℕ) (b : ℕ) (h : b < length s) (e : is_name_start (get_or s b 0) ≡ true) (c : ℕ) (is : c ≡ b + 1 + span (above 1) (drop (b + 1) s)) where
  first : (k : ℕ) (ss : List (List ℕ)) (d : ℕ) (n : List ℕ) (ns : List (List ℕ)) → fate s b (gap (suc k) ss d n ns) ≡ fate s c (attr early (slice b c s) k ss d n ns)
  first k ss d n ns =
      grown_first (λ l. attr early l k ss d n ns) s b (gap (suc k) ss d n ns) h (gap_name k ss d n ns (get_or s b 0) e)
      ∙ grown_run (λ l. attr early l k ss d n ns) s b (above 1) (early_part k ss d n ns) (b + 1) c (omega arith) (omega arith) is

  pub name_cut : length s ≤ c → Named s b c
  name_cut l =
      record { some = omega (arith, is); within = run_within (above 1) s (b + 1) c is (omega arith); mode = early; stops = refl; behind = λ m. absurd (omega arith); so = first }

  module _ (l : c < length s) where
    behind : above 1 (get_or s c 0) ≡ false
    behind = run_behind (above 1) s (b + 1) c is (omega arith) l

    pub name_plain : get_or s c 0 ≢ 58 → Named s b c
    name_plain f = record { some = omega (arith, is); within = omega arith; mode = early; stops = refl; behind = λ m. no_early (get_or s c 0) behind f; so = first }

    -- ---- the colon, and the second name, up to z
    module _ (f : get_or s c 0 ≡ 58) where
      second : (k : ℕ) (ss : List (List ℕ)) (d : ℕ) (n : List ℕ) (ns : List (List ℕ))
          → fate s b (gap (suc k) ss d n ns) ≡ fate s (c + 1) (attr colon (slice b (c + 1) s) k ss d n ns)
      second k ss d n ns =
          first k ss d n ns
          ∙ grown_byte (λ l. attr colon l k ss d n ns) s b (attr early (slice b c s) k ss d n ns) c (omega (arith, is)) l (early_colon k ss d n ns (slice b c s) (get_or s c 0) f)

      pub colon_cut : length s ≤ c + 1 → GoesName s b (stop (c + 1))
      colon_cut m = λ k ss d n ns. second k ss d n ns ∙ fate_end s (c + 1) (attr colon (slice b (c + 1) s) k ss d n ns) m refl

      module _ (m : c + 1 < length s) where
        pub colon_bare : is_name_start (get_or s (c + 1) 0) ≡ false → GoesName s b (stop (c + 1))
        colon_bare g =
            λ k ss d n ns. second k ss d n ns
            ∙ fate_dead s (c + 1) (attr colon (slice b (c + 1) s) k ss d n ns) m (colon_other k ss d n ns (slice b (c + 1) s) (get_or s (c + 1) 0) g)

        pub name_full : is_name_start (get_or s (c + 1) 0) ≡ true → (z : ℕ) → z ≡ c + 1 + 1 + span (above 1) (drop (c + 1 + 1) s) → Named s b z
        name_full g z at_z =
            record {
              some = omega (arith, is, at_z);
              within = run_within (above 1) s (c + 1 + 1) z at_z (omega arith);
              mode = late;
              stops = refl;
              behind = λ w. no_part (get_or s z 0) (run_behind (above 1) s (c + 1 + 1) z at_z (omega arith) w);
              so = λ k ss d n ns. second k ss d n ns
                  ∙ grown_byte (λ l. attr late l k ss d n ns) s b (attr colon (slice b (c + 1) s) k ss d n ns) (c + 1) (omega (arith, is)) m (colon_start k ss d n ns (slice b (c + 1) s) (get_or s (c + 1) 0) g)
                  ∙ grown_run (λ l. attr late l k ss d n ns) s b (above 1) (late_part k ss d n ns) (c + 1 + 1) z (omega (arith, is)) (omega arith) at_z;
            }

-- a name that was found ends within the text
pub name_within : (s : List ℕ) (b : ℕ) (r : Result ℕ Stopped) → GoesName s b r → (c : ℕ) → r ≡ Ok c → c ≤ length s
name_within s b r o c w = let n : Named s b c = subst (GoesName s b) w o in n.within
