-- A mirror: what the scanner's functions say of the automaton that reads house XML a byte at a time. Each is said for every
-- automaton's state that the construct can begin in, so that no function needs to know what stands around its construct.
-- Assumes nothing.
use Rattle.std.specs.Prelude.{Result, Ok, Err, ◌≡◌, Bool, true, false, List, ℕ, ◌+◌, ◌≤◌, ◌<◌, length, drop}
use Rattle.xml.specs.House.{Quote, mark}
use Rattle.xml.specs.mirror.Auto.{At, done, start, first, before, root, declare, name, tail, gap, attr, equals, quote, value, within, slash, content, part, less, close, St, dead, at, run, live_len}
use Rattle.xml_pieces.specs.declared.Stopped.{Stopped}

-- a text may end in this state
abbrev pub may_end : At → Bool
may_end done = true
may_end start = false
may_end first = false
may_end before = false
may_end root = false
may_end (declare y q) = false
may_end (name d n ns) = false
may_end (tail k ss d n ns) = false
may_end (gap k ss d n ns) = false
may_end (attr m b k ss d n ns) = false
may_end (equals k ss d n ns) = false
may_end (quote k ss d n ns) = false
may_end (value q k ss d n ns) = false
may_end (within p q k ss d n ns) = false
may_end (slash d ns) = false
may_end (content r d n ns) = false
may_end (part p d n ns) = false
may_end (less d n ns) = false
may_end (close q d ns) = false

abbrev pub ends : St → Bool
ends dead = false
ends (at a) = may_end a

-- what comes of the bytes t, which stand at place i, from state a on: whether they are taken to their end, and where the
-- automaton dies
unfoldable pub comes : List ℕ → ℕ → At → Bool × ℕ
comes t i a = (ends (run (at a) t), i + live_len (at a) t)

abbrev pub fate : List ℕ → ℕ → At → Bool × ℕ
fate s i a = comes (drop i s) i a

-- from a at i: on to b after at least one byte; or the text stops
abbrev pub Goes : List ℕ → ℕ → At → At → Result ℕ Stopped → Type 0
Goes s i a b (Ok e) = (i < e) × (e ≤ length s) × (fate s i a ≡ fate s e b)
Goes s i a b (Err n) = fate s i a ≡ (false, n.at)

-- ---- text
abbrev pub GoesOther : List ℕ → ℕ → Result ℕ Stopped → Type 0
GoesOther s i r = (d : ℕ) (n : List ℕ) (ns : List (List ℕ)) → Goes s i (content 0 d n ns) (content 0 d n ns) r

abbrev pub GoesText : List ℕ → ℕ → Result ℕ Stopped → Type 0
GoesText s i r = (d : ℕ) (n : List ℕ) (ns : List (List ℕ)) → Goes s i (content 0 d n ns) (less d n ns) r

-- ---- attributes
pub record Marked (m : ℕ) : Type 0 where
  pub quote : Quote
  pub is : mark quote ≡ m

abbrev pub GoesValue : List ℕ → ℕ → ℕ → Result ℕ Stopped → Type 0
GoesValue s i m r =
    (q : Quote) (k : ℕ) (ss : List (List ℕ)) (d : ℕ) (n : List ℕ) (ns : List (List ℕ))
    → mark q ≡ m → Goes s i (value q k ss d n ns) (tail k ss d n ns) r

abbrev pub GoesEquals : List ℕ → ℕ → Result ℕ Stopped → Type 0
GoesEquals s i r =
    (k : ℕ) (ss : List (List ℕ)) (d : ℕ) (n : List ℕ) (ns : List (List ℕ)) → Goes s i (equals k ss d n ns) (tail k ss d n ns) r
