-- A mirror: how the reader goes, from the row of the last item on, item by item. Assumes nothing.
use Rattle.std.specs.Prelude.{◌≡◌, List, ◌∷◌, ◌++◌, ℕ, ◌+◌, length}
use Rattle.std.proofs.Math.Option.{Option}
use Rattle.list.specs.Listing.{Listing, row_at}
use Rattle.image.specs.Image.{Values, Item, value_bytes, items_bytes}
use Rattle.image.specs.mirror.Follow.{Simple, Next, Over, ItemOk, Trail, last_row}

module _ (vs : Values) (l : Listing) where
  -- no item may come next
  abbrev pub Stuck : ℕ → List ℕ → Type 0
  Stuck q t = (x : ℕ) (v : Option vs.Value) (u : List ℕ) → t ≡ x ∷ (value_bytes vs l (row_at l x).kind v ++ u) → Next l x q → ItemOk vs l x v → ⊥

  -- nor may the image end
  abbrev pub Open : ℕ → List ℕ → Type 0
  Open q t = (u : List ℕ) → t ≡ 0 ∷ u → Simple l q → Over l q → ⊥

  -- n bytes of m items, and then neither
  pub record Stops (q : ℕ) (s : List ℕ) (n m : ℕ) : Type 0 where
    pub whole : List (Item vs)
    pub rest : List ℕ
    pub at : s ≡ items_bytes vs l whole ++ rest
    pub trail : Trail vs l q whole
    pub stuck : Stuck (last_row vs l q whole) rest
    pub open' : Open (last_row vs l q whole) rest
    pub long : n ≡ length (items_bytes vs l whole)
    pub many : m ≡ length whole

  -- m items and the closing 0, n bytes of both
  pub record Ends (q : ℕ) (s : List ℕ) (n m : ℕ) : Type 0 where
    pub whole : List (Item vs)
    pub rest : List ℕ
    pub at : s ≡ items_bytes vs l whole ++ (0 ∷ rest)
    pub trail : Trail vs l q whole
    pub leaf : Simple l (last_row vs l q whole)
    pub over : Over l (last_row vs l q whole)
    pub long : n ≡ length (items_bytes vs l whole) + 1
    pub many : m ≡ length whole
