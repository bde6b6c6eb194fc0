-- What a list asks of files, and what another keeps to that images are stored by: one list within another. Assumes nothing.
use Rattle.std.specs.Prelude.{◌≡◌, ◌⊎◌, List, [], ◌∷◌, ℕ}
use Rattle.list.specs.Listing.{Listing, size, row_at}
use Rattle.list.specs.Content.{CountOk}

-- l is one of the lists
abbrev pub Among : Listing → List Listing → Type 0
Among l [] = ⊥
Among l (m ∷ ms) = (l ≡ m) ⊎ Among l ms

-- l has the rows of m, under the same parents, of the same kinds, with the same rules and the same kind byte, and no count of l is wider than the
-- one of m. Names and namespaces may differ: images have none
pub record Within (l m : Listing) : Type 0 where
  pub many : size l ≡ size m
  pub parents : (r : ℕ) → (row_at l r).parent ≡ (row_at m r).parent
  pub kinds : (r : ℕ) → (row_at l r).kind ≡ (row_at m r).kind
  pub counts : (r n : ℕ) → CountOk (row_at l r).count n → CountOk (row_at m r).count n
  pub rules : l.rules ≡ m.rules
  pub byte : l.byte ≡ m.byte

-- l lies within one of the lists
pub record Kept (l : Listing) (ms : List Listing) : Type 0 where
  pub list : Listing
  pub among : Among list ms
  pub within : Within l list
