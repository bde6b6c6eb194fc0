-- The pass that writes: where it stands, what it asks, and what it leaves in the buffer. Assumes nothing.
use Rattle.std.specs.Prelude.{◌≡◌, cond, List, ℕ, ◌≤◌, eqb, length, Option, IfSome}
use Rattle.text.specs.Pasting.{pasted}
use Rattle.list.specs.Listing.{Listing, size, Child, child}
use Rattle.list.specs.Content.{Content}
use Rattle.list.specs.tables.Columns.{CHILD}
use Rattle.list.specs.tables.Table.{cell, list_of}
use Rattle.list.specs.tables.Sound.{Sound}
use Rattle.file.specs.Instance.{Kinds}
use Rattle.file.specs.File.{image_of}
use Rattle.file_measure.specs.Measured.{Faultless, Message}
use Rattle.file_measure.specs.Pass.{Ready}
use Rattle.file_check.specs.declared.fill.Spot.{Spot}

-- where the pass stands that writes
abbrev pub spot_at : ℕ → Option ℕ → ℕ → Spot
spot_at r q o = record { row = r; last = q; at = o }

-- a child of a row, and after the last one (0) the first again
abbrev pub round_in : List ℕ → ℕ → ℕ → ℕ
round_in t row r = cond (eqb r 0) (cell t row CHILD) r

-- the group of this row has a child called n; its last child, where one has come, is one of its own
pub record Comes (t pool : List ℕ) (row : ℕ) (last : Option ℕ) (n : List ℕ) : Type 0 where
  pub sound : Sound t pool
  pub within : row ≤ size (list_of t pool)
  pub from : IfSome last (Child (list_of t pool) row)
  pub its : Child (list_of t pool) row (child (list_of t pool) row n)

-- what the pass asks: a message without violation, and the kind byte of the list
pub record Fillable (k : Kinds) (t pool s : List ℕ) (n : ℕ) : Type 0 where
  pub ready : Ready t pool s
  pub none : Faultless k (list_of t pool) s
  pub kind : (list_of t pool).byte ≡ n

module _ (k : Kinds) (l : Listing) where
  -- the buffer d' is d with the image at its start, where it fits in
  abbrev pub FilledIn : List ℕ → List ℕ → List ℕ → Type 0
  FilledIn s d d' = (c : Content k.types.A) → Message k l s c → length (image_of k l c) ≤ length d → d' ≡ pasted d 0 (image_of k l c)
