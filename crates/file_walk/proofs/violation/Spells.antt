-- What `Denotes` asks of a leaf's element, by the kind of its row. Assumes nothing.
use mathlib.Core.Path.{◌≡◌, refl, sym, subst}
use mathlib.Core.Bool.{Bool, true, false, false≢true}
use mathlib.Core.List.{[], nil≢cons}
use Prim.Native.Nat.{ℕ}
use Rattle.list.specs.Listing.{Leaf, Kind, group, choice, leaf, Listing, row_at}
use Rattle.xml.specs.Message.{Attrs, Inside, nothing_inside, character, element}
use Rattle.file_walk.specs.Types.{Types, LeafAttrs}
use Rattle.file_walk.specs.First.{text_of, currency_given, child_rows}

-- no element stands in it
abbrev pub plain : Inside → Bool
plain nothing_inside = true
plain (character o x k) = plain k
plain (element o n ats i k) = false

module _ (l : Listing) where
  pub plain_rows : (i : Inside) (r : ℕ) → plain i ≡ true → child_rows l r i ≡ []
  unfolding child_rows
  plain_rows nothing_inside r e = refl
  plain_rows (character o x k) r e = plain_rows k r e
  plain_rows (element o n ats i k) r e = absurd (false≢true e)

  pub rows_plain : (i : Inside) (r : ℕ) → child_rows l r i ≡ [] → plain i ≡ true
  unfolding child_rows
  rows_plain nothing_inside r e = refl
  rows_plain (character o x k) r e = rows_plain k r e
  rows_plain (element o n ats i k) r e = absurd (nil≢cons (sym e))

module _ (t : Types) (l : Listing) where
  -- an element with these attributes and parts spells a leaf's value
  abbrev pub Spells : Kind → Attrs → Inside → t.A → Type 0
  Spells group ats i v = ⊥
  Spells choice ats i v = ⊥
  Spells (leaf k) ats i v = (plain i ≡ true) × LeafAttrs t k ats × t.Spelt k (currency_given ats) (text_of i) v

  -- in the words of `Denotes`
  abbrev pub Told : ℕ → Attrs → Inside → t.A → Type 0
  Told r ats i v = (f : Leaf) × ((row_at l r).kind ≡ leaf f) × LeafAttrs t f ats × (child_rows l r i ≡ []) × t.Spelt f (currency_given ats) (text_of i) v

  pub spells_of : (r : ℕ) (ats : Attrs) (i : Inside) (v : t.A) → Told r ats i v → Spells (row_at l r).kind ats i v
  spells_of r ats i v s = subst (λ (k : Kind). Spells k ats i v) (sym s.1) (rows_plain l i r s.3, s.2, s.4)

  pub of_spells : (r : ℕ) (ats : Attrs) (i : Inside) (v : t.A) (k : Kind) → (row_at l r).kind ≡ k → Spells k ats i v → Told r ats i v
  of_spells r ats i v group e s = absurd s
  of_spells r ats i v choice e s = absurd s
  of_spells r ats i v (leaf f) e s = (f, e, s.1, plain_rows l i r s.0, s.2)
