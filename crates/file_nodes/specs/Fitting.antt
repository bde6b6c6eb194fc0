-- Nodes that say a list: where each may be met, and what it is there. Assumes nothing.
use Rattle.std.specs.Prelude.{◌≡◌, Bool, true, false, List, [], ◌∷◌, ◌++◌, ℕ, ◌<◌}
use Rattle.std.proofs.Math.Option.{Option, none, some}
use Rattle.text.specs.Bytes.{ascii}
use Rattle.text_characters.specs.Pieces.{less, greater, solidus}
use Rattle.list.specs.Listing.{Leaf, ref, iban, ccy, bool, num, amt, date, dtm, txt, enum, Listing, row_at, is_group}
use Rattle.list.specs.Listing as list
use Rattle.xml.specs.House.{Quote, mark, IsName}
use Rattle.image.specs.mirror.Follow.{Fits, Shut, parent_of}
use Rattle.file_nodes.specs.Run.{Sort, over, shut, group, leaf, Node}

-- "AMT has one attribute, Ccy", and no other type has one
abbrev pub coined : Leaf → Bool
coined amt = true
coined ref = false
coined iban = false
coined ccy = false
coined bool = false
coined num = false
coined date = false
coined dtm = false
coined (txt k) = false
coined (enum ws) = false

abbrev pub given : Option Quote → Bool
given none = false
given (some q) = true

-- after the name in a leaf's opening tag
abbrev pub front : Option Quote → List ℕ
front none = greater ∷ []
front (some q) = ascii " Ccy=" ++ (mark q ∷ [])

module _ (l : Listing) where
  abbrev pub opening : ℕ → List ℕ → List ℕ
  opening r e = less ∷ ((row_at l r).name ++ e)

  abbrev pub closing : ℕ → List ℕ
  closing r = less ∷ solidus ∷ ((row_at l r).name ++ (greater ∷ []))

  -- r may stand in p after its child q, and it has a name
  pub record Enters (p q r : ℕ) : Type 0 where
    pub fits : Fits l p q r
    pub name : IsName (row_at l r).name

  -- May n p q: node n may be met in an element of row p after its child of row q (0: none yet)
  module _ (May : ℕ → ℕ → ℕ → Type 0) where
    abbrev pub Fit : Sort → Node → ℕ → ℕ → Type 0
    Fit over n p q = (p ≡ 1) × Shut l p q × (n.tag ≡ closing p)
    Fit shut n p q = (1 < p) × Shut l p q × (n.tag ≡ closing p) × May n.next (parent_of l p) p
    Fit group n p q = (1 < n.row) × Enters p q n.row × (is_group (row_at l n.row).kind ≡ true) × (n.tag ≡ opening n.row (greater ∷ [])) × May n.next n.row 0
    Fit (leaf f h) n p q =
        ((row_at l n.row).kind ≡ list.leaf f) × Enters p q n.row × (coined f ≡ given h) × (n.tag ≡ opening n.row (front h)) × (n.close ≡ closing n.row)
        × May n.next p n.row

    pub record NodesFit (at : ℕ → Node) : Type 0 where
      pub fit : (n p q : ℕ) → May n p q → Fit (at n).sort (at n) p q
      pub handed : (n p q : ℕ) → May n p q → 0 < (at n).other → May (at n).other p q
