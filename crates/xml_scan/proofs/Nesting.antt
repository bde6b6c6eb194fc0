-- Elements within elements. Assumes nothing.
use mathlib.Core.Path.{◌≡◌, refl, sym, ◌∙◌, ap, subst}
use mathlib.Core.Bool.{true, false, cond}
use mathlib.Core.Logic.{◌≢◌}
use mathlib.Core.List.{List, [], ◌∷◌, ◌++◌}
use Prim.Native.Nat.{ℕ, zero, suc, ◌+◌, ◌-◌, ◌≤◌, ◌<◌}
use native.Mathlib.Omega.{arith}
use lib.ListN.{length, get_or, drop, take}
use lib.Seq.{slice}
use borrow.Author.Tests.{ne_eqb}
use Rattle.text.specs.Bytes.{is_blank, is_name_start}
use Rattle.text.specs.Lists.{span}
use Rattle.xml.specs.mirror.Auto.{At, root, name, tail, content, less, close, St, dead, at, after, push, next}
use Rattle.xml_scan.specs.mirror.Classes.{above}
use Rattle.xml_scan.specs.mirror.Goes.{fate, Goes, GoesText}
use Rattle.xml_scan.specs.mirror.Tags.{Turns, GoesTag, begun, Opens, inside, marked, GoesStart, GoesClose}
use Rattle.xml_pieces.specs.Over.{Over as Passes}
use Rattle.xml_pieces.specs.Kinds.{IsWord}
use Rattle.std.specs.Prelude.{Result, Ok}
use Rattle.xml_pieces.specs.declared.Stopped.{Stopped}
use Rattle.xml_pieces.specs.Over.{stop}
use Rattle.xml_scan.specs.declared.tag.Ending.{Ending}
use Rattle.xml_scan.specs.declared.tag.Ending.TheVariants.{Open, Empty}
use Rattle.xml_scan.proofs.Classes.{above_name}
use Rattle.xml_scan.proofs.Fate.{fate_end, fate_dead, fate_byte, fate_alike, run_within, run_behind, run_over}
use Rattle.xml_scan.proofs.Passed.{Literal, Spelled, word_spelled}
use Rattle.xml_scan.proofs.names.Names.{lent}
use Rattle.xml_scan.proofs.Goes.{goes_byte}
use Rattle.xml_scan.proofs.names.Grown.{grown_first, grown_run}

-- ---- the automaton at a byte of a tag

name_grow : (d : ℕ) (ns : List (List ℕ)) (n : List ℕ) (x : ℕ) → above 1 x ≡ true → next (name d n ns) x ≡ at (name d (n ++ (x ∷ [])) ns)
unfolding next
name_grow d ns n x e = rw (sym (above_name x) ∙ e) refl

name_tail : (d : ℕ) (ns : List (List ℕ)) (n : List ℕ) (x : ℕ) → above 1 x ≡ false → next (name d n ns) x ≡ next (tail 4 [] d n ns) x
unfolding next
name_tail d ns n x e = rw (sym (above_name x) ∙ e) refl

less_slash : (d : ℕ) (n : List ℕ) (ns : List (List ℕ)) (x : ℕ) → x ≡ 47 → next (less d n ns) x ≡ at (close n (suc d) ns)
unfolding next is_name_start
less_slash d n ns x e = rw e refl

pushed : (d : ℕ) (n : List ℕ) (ns : List (List ℕ)) (x : ℕ) → push d n ns x ≡ begun d (n ∷ ns) x
pushed zero n ns x = refl
pushed (suc d) n ns x = refl

less_other : (d : ℕ) (n : List ℕ) (ns : List (List ℕ)) (x : ℕ) → x ≢ 47 → next (less d n ns) x ≡ cond (is_name_start x) (begun d (n ∷ ns) x) dead
unfolding next
less_other d n ns x e = rw (ne_eqb x 47 e) (ap (λ (z : St). cond (is_name_start x) z dead) (pushed d n ns x))

close_blank : (d : ℕ) (ns : List (List ℕ)) (x : ℕ) → is_blank x ≡ true → next (close [] d ns) x ≡ at (close [] d ns)
unfolding next
close_blank d ns x e = rw e refl

close_greater : (d : ℕ) (ns : List (List ℕ)) (x : ℕ) → x ≡ 62 → next (close [] d ns) x ≡ at (after d ns)
unfolding next is_blank
close_greater d ns x e = rw e refl

close_dead : (d : ℕ) (ns : List (List ℕ)) (x : ℕ) → is_blank x ≡ false → x ≢ 62 → next (close [] d ns) x ≡ dead
unfolding next
close_dead d ns x e f = rw (e, ne_eqb x 62 f) refl

close_literal : (d : ℕ) (ns : List (List ℕ)) → Literal (λ q. close q d ns)
unfolding next
close_literal d ns = record { waits = λ y q. refl; steps = λ y q x. refl }

-- ---- a start tag after its `<`

module _ (s : List ℕ) (i : ℕ) (ns : List (List ℕ)) where
  pub start_cut : length s ≤ i → GoesStart s i ns ns (stop i)
  start_cut h = λ a o. fate_end s i a h o.waits

  module _ (h : i < length s) where
    pub start_other : is_name_start (get_or s i 0) ≡ false → GoesStart s i ns ns (stop i)
    start_other e = λ a o. fate_dead s i a h (o.steps h ∙ (rw e refl))

    module _ (e : is_name_start (get_or s i 0) ≡ true) where
      pub start_deep : 16 ≤ length ns → GoesStart s i ns ns (stop i)
      start_deep z =
          λ a o. fate_dead s i a h (o.steps h ∙ (rw e refl) ∙ ap (λ (k : ℕ). begun k ns (get_or s i 0)) none)
        where
          none : 16 - length ns ≡ 0
          none = omega arith

      module _ (few : length ns < 16) (c : ℕ) (is : c ≡ i + 1 + span (above 1) (drop (i + 1) s)) where
        left : 16 - length ns ≡ suc (16 - suc (length ns))
        left = omega arith

        pub name_within : c ≤ length s
        name_within = run_within (above 1) s (i + 1) c is (omega arith)

        named : (a : At) → Opens s i a (16 - length ns) ns → fate s i a ≡ fate s c (tail 4 [] (16 - suc (length ns)) (slice i c s) ns)
        named a o =
            let d = 16 - suc (length ns) in
            grown_first (λ l. name d l ns) s i a h (o.steps h ∙ (rw e refl) ∙ ap (λ (k : ℕ). begun k ns (get_or s i 0)) left)
            ∙ grown_run (λ l. name d l ns) s i (above 1) (name_grow d ns) (i + 1) c (omega arith) (omega arith) is
            ∙ fate_alike s c (name d (slice i c s) ns) (tail 4 [] d (slice i c s) ns) refl
            (λ l. name_tail d ns (slice i c s) (get_or s c 0) (run_behind (above 1) s (i + 1) c is (omega arith) l))

        module _ (r : Result Ending Stopped) (g : GoesTag s c r) where
          turns : (q : Result Ending Stopped) → r ≡ q → Turns s c (tail 4 [] (16 - suc (length ns)) (slice i c s) ns) (content 0 (16 - suc (length ns)) (slice i c s) ns) (after (suc (16 - suc (length ns))) ns) q
          turns q w = subst (GoesTag s c) w g (16 - suc (length ns)) (slice i c s) ns

          pub start_stop : (p : ℕ) → r ≡ stop p → GoesStart s i ns ns (stop p)
          start_stop p w = λ a o. named a o ∙ turns (stop p) w

          pub start_empty : (j : ℕ) → r ≡ Ok (Empty j) → GoesStart s i ns ns (Ok j)
          start_empty j w =
              λ a o. let v = turns (Ok (Empty j)) w in let l = v.0 in
              (omega (arith, is), v.1, named a o ∙ v.2 ∙ ap (λ (k : ℕ). fate s j (after k ns)) (sym left))

          pub start_open : (j : ℕ) → r ≡ Ok (Open j) → (ns' : List (List ℕ)) → ns' ≡ take (c - i) (drop i s) ∷ ns → GoesStart s i ns ns' (Ok j)
          start_open j w ns' e' = subst (λ (ms : List (List ℕ)). GoesStart s i ns ms (Ok j)) (sym (e' ∙ ap (λ (n : List ℕ). n ∷ ns) (lent s i c (omega (arith, is))))) opened
            where
              opened : GoesStart s i ns (slice i c s ∷ ns) (Ok j)
              opened = λ a o. let v = turns (Ok (Open j)) w in let l = v.0 in (omega (arith, is), v.1, named a o ∙ v.2)

-- ---- an end tag after its `</`

module _ (s : List ℕ) (i : ℕ) (w : List ℕ) (h : i ≤ length s) (q : Result ℕ Stopped) (o : Passes (IsWord w) (drop i s) i q) where
  g : Spelled s i w q
  g = word_spelled s i w q h o

  pub close_stop : (p : ℕ) → q ≡ stop p → GoesClose s i w (stop p)
  close_stop p e = λ d ns. subst (Spelled s i w) e g (λ l. close l d ns) (close_literal d ns)

  module _ (e : ℕ) (is : q ≡ Ok e) where
    spelled : Spelled s i w (Ok e)
    spelled = subst (Spelled s i w) is g

    pub word_within : e ≤ length s
    word_within = spelled.1

    closing : (d : ℕ) (ns : List (List ℕ)) → fate s i (close w d ns) ≡ fate s e (close [] d ns)
    closing d ns = spelled.2 (λ l. close l d ns) (close_literal d ns)

    pub close_now : e < length s → get_or s e 0 ≡ 62 → GoesClose s i w (Ok (e + 1))
    close_now h k =
        λ d ns. (omega (arith, spelled.0), omega arith, closing d ns ∙ fate_byte s e (close [] d ns) (after d ns) h (close_greater d ns (get_or s e 0) k))

    module _ (b : ℕ) (is' : b ≡ e + span is_blank (drop e s)) where
      behind : (d : ℕ) (ns : List (List ℕ)) → fate s i (close w d ns) ≡ fate s b (close [] d ns)
      behind d ns = closing d ns ∙ run_over is_blank s e b is' (close [] d ns) (close_blank d ns)

      pub close_cut : length s ≤ b → GoesClose s i w (stop b)
      close_cut h = λ d ns. behind d ns ∙ fate_end s b (close [] d ns) h refl

      pub close_other : b < length s → get_or s b 0 ≢ 62 → GoesClose s i w (stop b)
      close_other h k =
          λ d ns. behind d ns ∙ fate_dead s b (close [] d ns) h (close_dead d ns (get_or s b 0) (run_behind is_blank s e b is' word_within h) k)

      pub close_end : b < length s → get_or s b 0 ≡ 62 → GoesClose s i w (Ok (b + 1))
      close_end h k =
          λ d ns. (omega (arith, spelled.0), omega arith, behind d ns ∙ fate_byte s b (close [] d ns) (after d ns) h (close_greater d ns (get_or s b 0) k))

-- ---- a tag, and text before it

pub any_cut : (s : List ℕ) (i : ℕ) (ns : List (List ℕ)) → 0 < length ns → length s ≤ i → fate s i (marked ns) ≡ (false, i)
any_cut s i [] o h = absurd (omega arith)
any_cut s i (n ∷ ns) o h = fate_end s i (marked (n ∷ ns)) h refl

pub any_start : (s : List ℕ) (i : ℕ) (ns : List (List ℕ)) → 0 < length ns → get_or s i 0 ≢ 47 → (ns' : List (List ℕ)) (r : Result ℕ Stopped)
    → GoesStart s i ns ns' r → Goes s i (marked ns) (inside ns') r
any_start s i [] o e ns' r g = absurd (omega arith)
any_start s i (n ∷ ns) o e ns' r g =
    g (marked (n ∷ ns)) (record { waits = refl; steps = λ l. less_other (16 - length (n ∷ ns)) n ns (get_or s i 0) e })

pub any_close : (s : List ℕ) (i : ℕ) (os : List (List ℕ)) (n : List ℕ) (ns : List (List ℕ)) → os ≡ n ∷ ns → length os ≤ 16 → i < length s → get_or s i 0 ≡ 47
    → (r : Result ℕ Stopped) → GoesClose s (i + 1) n r → Goes s i (marked os) (inside ns) r
any_close s i os n ns w few h e r g =
    subst (λ (ms : List (List ℕ)). Goes s i (marked ms) (inside ns) r) (sym w)
    (goes_byte s i (marked (n ∷ ns)) (close n (suc (16 - suc (length ns))) ns) (inside ns) r h (less_slash (16 - suc (length ns)) n ns (get_or s i 0) e)
    (subst (λ (k : ℕ). Goes s (i + 1) (close n (suc (16 - suc (length ns))) ns) (after k ns) r) levels (g (suc (16 - suc (length ns))) ns)))
  where
    levels : suc (16 - suc (length ns)) ≡ 16 - length ns
    levels = omega (arith, few, ap length w)

-- text brings on to a `<`
pub text_marked : (s : List ℕ) (i : ℕ) (ns : List (List ℕ)) → 0 < length ns → (q : Result ℕ Stopped) → GoesText s i q → Goes s i (inside ns) (marked ns) q
text_marked s i [] o q g = absurd (omega arith)
text_marked s i (n ∷ ns) o q g = g (16 - length (n ∷ ns)) n ns

-- ---- the loop

pub root_opens : (s : List ℕ) (i : ℕ) (ns : List (List ℕ)) → ns ≡ [] → Opens s i root (16 - length ns) ns
unfolding next
root_opens s i ns e = subst (λ (ms : List (List ℕ)). Opens s i root (16 - length ms) ms) (sym e) (record { waits = refl; steps = λ h. refl })
