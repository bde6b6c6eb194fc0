-- A mirror: what the scanner's functions over tags say of the automaton. Assumes nothing.
use Rattle.std.specs.Prelude.{Result, Ok, Err, ◌≡◌, true, false, cond, List, [], ◌∷◌, ℕ, zero, suc, ◌-◌, ◌≤◌, ◌<◌, length, get_or}
use Rattle.std.proofs.Math.Seq.{slice}
use Rattle.text.specs.Bytes.{is_name_start}
use Rattle.xml.specs.mirror.Auto.{Mode, grows, may_stop, At, done, name, tail, gap, attr, content, less, close, St, dead, at, after, next}
use Rattle.xml_pieces.specs.declared.Stopped.{Stopped}
use Rattle.xml_scan.specs.mirror.Goes.{may_end, fate, Goes}
use Rattle.xml_scan.specs.declared.tag.Ending.{Ending}
use Rattle.xml_scan.specs.declared.tag.Ending.TheVariants.{Open, Empty}

-- from a at i: after `>` on to b, after `/>` on to c; or the text stops
abbrev pub Turns : List ℕ → ℕ → At → At → At → Result Ending Stopped → Type 0
Turns s i a b c (Ok (Open e)) = (i < e) × (e ≤ length s) × (fate s i a ≡ fate s e b)
Turns s i a b c (Ok (Empty e)) = (i < e) × (e ≤ length s) × (fate s i a ≡ fate s e c)
Turns s i a b c (Err n) = fate s i a ≡ (false, n.at)

-- an attribute's name from i to e: it may stop there, and it does not go on
pub record Named (s : List ℕ) (i e : ℕ) : Type 0 where
  pub some : i < e
  pub within : e ≤ length s
  pub mode : Mode
  pub stops : may_stop mode ≡ true
  pub behind : e < length s → grows mode (get_or s e 0) ≡ false
  pub so : (k : ℕ) (ss : List (List ℕ)) (d : ℕ) (n : List ℕ) (ns : List (List ℕ))
      → fate s i (gap (suc k) ss d n ns) ≡ fate s e (attr mode (slice i e s) k ss d n ns)

abbrev pub GoesName : List ℕ → ℕ → Result ℕ Stopped → Type 0
GoesName s i (Ok e) = Named s i e
GoesName s i (Err p) =
    (k : ℕ) (ss : List (List ℕ)) (d : ℕ) (n : List ℕ) (ns : List (List ℕ)) → fate s i (gap (suc k) ss d n ns) ≡ (false, p.at)

-- an attribute after blanks and those of the names ss: its name becomes the first of them
abbrev pub GoesAttribute : List ℕ → ℕ → List (List ℕ) → List (List ℕ) → Result ℕ Stopped → Type 0
GoesAttribute s i ss ss' (Ok e) =
    (i < e) × (e ≤ length s)
    × ((d : ℕ) (n : List ℕ) (ns : List (List ℕ)) → fate s i (gap (4 - length ss) ss d n ns) ≡ fate s e (tail (4 - length ss') ss' d n ns))
GoesAttribute s i ss ss' (Err p) =
    (d : ℕ) (n : List ℕ) (ns : List (List ℕ)) → fate s i (gap (4 - length ss) ss d n ns) ≡ (false, p.at)

abbrev pub GoesEnd : List ℕ → ℕ → Result Ending Stopped → Type 0
GoesEnd s i r =
    (k : ℕ) (ss : List (List ℕ)) (d : ℕ) (n : List ℕ) (ns : List (List ℕ))
    → Turns s i (tail k ss d n ns) (content 0 d n ns) (after (suc d) ns) r

abbrev pub GoesTag : List ℕ → ℕ → Result Ending Stopped → Type 0
GoesTag s i r = (d : ℕ) (n : List ℕ) (ns : List (List ℕ)) → Turns s i (tail 4 [] d n ns) (content 0 d n ns) (after (suc d) ns) r

-- at i, state a may begin a name, with k levels left and the names ns around it
abbrev pub begun : ℕ → List (List ℕ) → ℕ → St
begun zero ns x = dead
begun (suc d) ns x = at (name d (x ∷ []) ns)

pub record Opens (s : List ℕ) (i : ℕ) (a : At) (k : ℕ) (ns : List (List ℕ)) : Type 0 where
  pub waits : may_end a ≡ false
  pub steps : i < length s → next a (get_or s i 0) ≡ cond (is_name_start (get_or s i 0)) (begun k ns (get_or s i 0)) dead

-- the state in which the named elements are open, the innermost first
abbrev pub inside : List (List ℕ) → At
inside ns = after (16 - length ns) ns

-- the state after a `<` in the innermost of them
abbrev pub marked : List (List ℕ) → At
marked [] = done
marked (n ∷ ns) = less (16 - length (n ∷ ns)) n ns

abbrev pub GoesStart : List ℕ → ℕ → List (List ℕ) → List (List ℕ) → Result ℕ Stopped → Type 0
GoesStart s i ns ns' r = (a : At) → Opens s i a (16 - length ns) ns → Goes s i a (inside ns') r

abbrev pub GoesClose : List ℕ → ℕ → List ℕ → Result ℕ Stopped → Type 0
GoesClose s i w r = (d : ℕ) (ns : List (List ℕ)) → Goes s i (close w d ns) (after d ns) r
