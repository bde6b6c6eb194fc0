-- A run of bytes by a table of classes, a byte at a time. Assumes nothing.
use mathlib.Core.Path.{◌≡◌, ap, ◌∙◌, sym}
use mathlib.Core.List.{List}
use Prim.Native.Nat.{ℕ, ◌+◌, ◌≤◌, ◌<◌}
use lib.Dec.{ltb}
use lib.ListN.{length, get_or, drop}
use borrow.Author.Tests.{lt-ltb, le-ltb}
use Rattle.text.specs.Lists.{span}
use Rattle.text.proofs.Spans.{span_stop, span_go}
use Rattle.xml_pieces.specs.Kinds.{above}

-- w: the byte at i, as a number that looks up
module _ (t : List ℕ) (level : ℕ) (s : List ℕ) (i : ℕ) (h : i < length s) (w : ℕ) (e : w ≡ get_or s i 0) where
  pub run_stop : get_or t w 0 ≤ level → span (above t level) (drop i s) ≡ 0
  run_stop k = span_stop (above t level) s i h (ap (λ (x : ℕ). ltb level (get_or t x 0)) (sym e) ∙ le-ltb level (get_or t w 0) k)

  pub run_go : level < get_or t w 0 → span (above t level) (drop i s) ≡ 1 + span (above t level) (drop (i + 1) s)
  run_go k = span_go (above t level) s i h (ap (λ (x : ℕ). ltb level (get_or t x 0)) (sym e) ∙ lt-ltb level (get_or t w 0) k)
