-- What a function that goes over a construct answers: where the construct ends, or where none goes on. Assumes nothing.
use Rattle.std.specs.Prelude.{Result, Ok, Err, ◌≡◌, List, ◌++◌, ℕ, ◌+◌, ◌≤◌, length, take}
use Rattle.xml_pieces.specs.declared.Stopped.{Stopped}

-- none goes on at a place
abbrev pub stop : {A : Type 0} → ℕ → Result A Stopped
stop n = Err (record { at = n })

-- L says which bytes are such a construct: the first n bytes of t are one
pub record Ends (L : List ℕ → Type 0) (t : List ℕ) (n : ℕ) : Type 0 where
  pub within : n ≤ length t
  pub is : L (take n t)

-- some construct begins so
abbrev pub Begun : (List ℕ → Type 0) → List ℕ → Type 0
Begun L p = (u : List ℕ) × L (p ++ u)

-- t begins with none, and n are the most leading bytes that still begin one
pub record Breaks (L : List ℕ → Type 0) (t : List ℕ) (n : ℕ) : Type 0 where
  pub none : (k : ℕ) → Ends L t k → ⊥
  pub within : n ≤ length t
  pub begun : Begun L (take n t)
  pub most : (k : ℕ) → k ≤ length t → Begun L (take k t) → k ≤ n

-- over the construct that the bytes t begin with, which stand at place i
abbrev pub Over : (List ℕ → Type 0) → List ℕ → ℕ → Result ℕ Stopped → Type 0
Over L t i (Ok e) = (n : ℕ) × (e ≡ i + n) × Ends L t n
Over L t i (Err e) = (n : ℕ) × (e.at ≡ i + n) × Breaks L t n
