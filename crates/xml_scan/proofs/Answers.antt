-- The scanner's answer, and that no other fits. Assumes nothing.
use mathlib.Core.Path.{◌≡◌, refl, ◌∙◌, ap, subst}
use mathlib.Core.Bool.{true, false}
use mathlib.Core.List.{List}
use Prim.Native.Nat.{ℕ, ◌+◌, ◌≤◌, ◌<◌}
use lib.ListN.{length, get_or, drop}
use Rattle.std.specs.Prelude.{Result, Ok, Err}
use Rattle.text.specs.Bytes.{is_blank}
use Rattle.text.specs.Lists.{span}
use Rattle.text.proofs.Parts.{longest_one}
use Rattle.xml.specs.mirror.Auto.{done, start, root, dead, at, next}
use Rattle.xml.specs.House.{Viable}
use Rattle.xml_pieces.specs.declared.Stopped.{Stopped}
use Rattle.xml_pieces.specs.Over.{stop}
use Rattle.xml_scan.specs.mirror.Goes.{fate, Goes}
use Rattle.xml_scan.specs.Right.{Right}
use Rattle.xml_scan.proofs.Fate.{fate_done, fate_dead, run_behind, run_over, whole, stopped}
use Rattle.xml_scan.proofs.Goes.{goes_stop}

-- only one answer fits a text
pub right_one : (s : List ℕ) (a b : Result (Unit {0}) Stopped) → Right s a → Right s b → a ≡ b
right_one s (Ok u) (Ok v) p q = refl
right_one s (Ok u) (Err n) p q = absurd (q.0 p)
right_one s (Err m) (Ok v) p q = absurd (p.0 q)
right_one s (Err m) (Err n) p q = ap stop (longest_one Viable s m.at n.at p.1 q.1)

done_blank : (x : ℕ) → is_blank x ≡ true → next done x ≡ at done
unfolding next
done_blank x e = rw e refl

done_dead : (x : ℕ) → is_blank x ≡ false → next done x ≡ dead
unfolding next
done_dead x e = rw e refl

module _ (s : List ℕ) (q : Result ℕ Stopped) (g : Goes s 0 start root q) where
  pub prolog_stops : (n : ℕ) → q ≡ stop n → Right s (stop n)
  prolog_stops n w = stopped s n (goes_stop s 0 start root q n g w)

  module _ (i : ℕ) (w : q ≡ Ok i) where
    first : Goes s 0 start root (Ok i)
    first = subst (Goes s 0 start root) w g

    pub prolog_within : i ≤ length s
    prolog_within = first.1

    module _ (r : Result ℕ Stopped) (k : Goes s i root done r) where
      pub elements_stop : (n : ℕ) → r ≡ stop n → Right s (stop n)
      elements_stop n v = stopped s n (first.2 ∙ goes_stop s i root done r n k v)

      module _ (j : ℕ) (v : r ≡ Ok j) (b : ℕ) (is : b ≡ j + span is_blank (drop j s)) where
        second : Goes s i root done (Ok j)
        second = subst (Goes s i root done) v k

        behind : fate s 0 start ≡ fate s b done
        behind = first.2 ∙ second.2 ∙ run_over is_blank s j b is done done_blank

        pub more_stops : b < length s → Right s (stop b)
        more_stops h = stopped s b (behind ∙ fate_dead s b done h (done_dead (get_or s b 0) (run_behind is_blank s j b is second.1 h)))

        pub all_whole : length s ≤ b → Right s (Ok tt)
        all_whole h = whole s b (behind ∙ fate_done s b h)
