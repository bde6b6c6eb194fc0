-- The items that are taken of a body are one number only, and no more than its bytes. Assumes nothing.
use mathlib.Core.Path.{◌≡◌, sym, ◌∙◌, ap}
use mathlib.Core.List.{List, [], ◌∷◌}
use Prim.Native.Nat.{ℕ, suc, ◌≤◌}
use native.Mathlib.Omega.{arith}
use lib.ListN.{length, length-append}
use Rattle.answer.specs.declared.Answer.{Answer}
use Rattle.list.specs.Listing.{Listing, row_at}
use Rattle.list.specs.WellFormed.{WellFormed}
use Rattle.list.specs.Content.{Content, items}
use Rattle.image.specs.Image.{Values, Lawful, Item, value_bytes, items_bytes}
use Rattle.image.specs.Place.{Holds}
use Rattle.image.specs.Count.{Taken, closed, unclosed}
use Rattle.image.proofs.content.Stops.{holds_content, most_whole}

module _ (vs : Values) (lw : Lawful vs) (l : Listing) (wf : WellFormed l) where
  -- only one number
  pub taken_one : (s : List ℕ) (a : Answer) (m n : ℕ) → Taken vs l s a m → Taken vs l s a n → m ≡ n
  taken_one s a m n (closed k w z e) (closed j v y f) = e ∙ ap (λ (c : Content vs.Value). suc (length (items c))) (holds_content vs lw l wf s k j w v) ∙ sym f
  taken_one s a m n (closed k w z e) (unclosed j b y f) = absurd (omega (arith, z, y))
  taken_one s a m n (unclosed k b z e) (closed j v y f) = absurd (omega (arith, z, y))
  taken_one s a m n (unclosed k b z e) (unclosed j d y f) = e ∙ ap length (most_whole vs lw l wf s k j b.most d.most) ∙ sym f

-- every item has a byte, the closing 0 one
module _ (vs : Values) (l : Listing) where
  items_few : (is : List (Item vs)) → length is ≤ length (items_bytes vs l is)
  items_few [] = omega arith
  items_few (i ∷ is) = omega (arith, items_few is, length-append (value_bytes vs l (row_at l i.0).kind i.1) (items_bytes vs l is))

  pub body_few : (s : List ℕ) (k : ℕ) (w : Holds vs l s k) → suc (length (items w.content)) ≤ k
  body_few s k w = omega (arith, w.long, items_few (items w.content), length-append (items_bytes vs l (items w.content)) (0 ∷ []))
