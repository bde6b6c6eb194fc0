-- `piece::spells` meets its contract: the answer from here on is the answer from the start. Assumes nothing.
use Rattle.std.proofs.Common.{◌≡◌, ◌≢◌, ◌∙◌, sym, ap, ℕ, ◌+◌, ◌<◌, ◌≤◌, Bool, true, false, List, length, take, drop, get_or, arith, length-take, get_or-take}
use Rattle.text.specs.Lists.{same}
use Rattle.text.specs.Words.{starts}
use Rattle.text.proofs.Parts.{starts_short, same_end, same_go, same_stop}
use Rattle.text_characters.proofs.piece.spells.Goals as goal

short : (w s t : List ℕ) → t ≡ s → length t < length w → false ≡ starts w s
short w s t e h = sym (starts_short w s (omega (arith, ap length e, h)))

begun : (w s t : List ℕ) → t ≡ s → starts w s ≡ same (drop 0 w) (drop 0 (take (length w) t))
unfolding starts
begun w s t e = ap (starts w) (sym e)

-- as far as k the two are alike
module _ (w t : List ℕ) (k : ℕ) (b : Bool) (e : b ≡ same (drop k w) (drop k (take (length w) t))) (r : length w ≤ length t) where
  all : length w ≤ k → true ≡ b
  all h = sym (e ∙ same_end w (take (length w) t) k h (omega (arith, length-take (length w) t)))

  module _ (h : k < length w) where
    more : get_or t k 0 ≡ get_or w k 0 → b ≡ same (drop (k + 1) w) (drop (k + 1) (take (length w) t))
    more q = e ∙ same_go w (take (length w) t) k h (omega (arith, length-take (length w) t)) (sym (get_or-take (length w) t k 0 h ∙ q))

    other : get_or t k 0 ≢ get_or w k 0 → false ≡ b
    other q =
        sym (e ∙ same_stop w (take (length w) t) k h (omega (arith, length-take (length w) t)) (λ z. q (sym (get_or-take (length w) t k 0 h) ∙ sym z)))

pub returns-then-there-word : goal.returns-then-there-word
returns-then-there-word c = short _ _ _ c.rest-there.ensures c.if-there-word.true

pub loop-k-init : goal.loop-k-init
loop-k-init c = begun _ _ _ c.rest-there.ensures

pub returns-then-there-k : goal.returns-then-there-k
returns-then-there-k c = other _ _ _ _ c.loop-k.invariant c.if-there-word.false c.loop-k-test.true c.if-there-k.true

pub loop-k-preserved : goal.loop-k-preserved
loop-k-preserved c = more _ _ _ _ c.loop-k.invariant c.if-there-word.false c.loop-k-test.true c.if-there-k.false

pub returns : goal.returns
returns c = all _ _ _ _ c.loop-k.invariant c.if-there-word.false c.loop-k-test.false
