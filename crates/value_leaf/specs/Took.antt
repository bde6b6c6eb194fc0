-- That the raw text of a leaf spells a value with these bytes, and is good character data. Assumes nothing.
use Rattle.std.specs.Prelude.{◌≡◌, List, ◌∷◌, ◌++◌, ℕ}
use Rattle.text_characters.specs.Pieces.{greater, bracket, Spells}
use Rattle.list.specs.Listing.{Leaf}
use Rattle.value.specs.Value.{Spelt, bytes}

-- nowhere `]]>`
pub record Uncut (s : List ℕ) : Type 0 where
  pub nowhere : (a b : List ℕ) → s ≡ a ++ (bracket ∷ bracket ∷ greater ∷ b) → ⊥

-- over any values: which characters spell which, beside which currency, and the bytes of each
module _ {A : Type 0} (S : Leaf → List ℕ → List ℕ → A → Type 0) (B : Leaf → A → List ℕ) where
  -- the raw text of a leaf f, beside the currency cur, spells a value with the bytes vs
  pub record TookAs (f : Leaf) (cur raw vs : List ℕ) : Type 0 where
    pub chars : List ℕ
    pub value : A
    pub spells : Spells raw chars
    pub uncut : Uncut raw
    pub spelt : S f cur chars value
    pub is : vs ≡ B f value

-- with document 01's types
abbrev pub Took : Leaf → List ℕ → List ℕ → List ℕ → Type 0
Took f cur raw vs = TookAs Spelt (λ k v. bytes v) f cur raw vs
