-- Bytes of text over which a scanner may jump: the automaton stays where it is. Assumes nothing.
use mathlib.Core.Path.{◌≡◌, refl}
use mathlib.Core.Bool.{false}
use mathlib.Core.List.{List}
use Prim.Native.Nat.{ℕ}
use lib.Dec.{eqb}
use Rattle.xml.specs.mirror.Auto.{all, lead, content, at, next}

-- a byte that is a character by itself, and neither `<`, nor `>`, nor `]`
pub record Easy (x : ℕ) : Type 0 where
  pub reads : lead x ≡ all
  pub less : eqb x 60 ≡ false
  pub more : eqb x 62 ≡ false
  pub bracket : eqb x 93 ≡ false

pub easy_next : (r d : ℕ) (n : List ℕ) (ns : List (List ℕ)) (x : ℕ) → Easy x → next (content r d n ns) x ≡ at (content 0 d n ns)
unfolding next
easy_next r d n ns x h = rw (h.less, h.more, h.reads, h.bracket) refl
