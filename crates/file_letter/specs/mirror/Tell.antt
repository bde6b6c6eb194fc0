-- A mirror: the file told from an image's items, with the innermost open group as all that is kept. Assumes nothing.
use Rattle.std.specs.Prelude.{cond, List, [], ◌∷◌, ◌++◌, ℕ, zero, suc, eqb}
use Rattle.std.proofs.Math.Option.{Option, none, some}
use Prim.Native.Char.{code}
use Rattle.list.specs.Listing.{Listing, row_at}
use Rattle.value.specs.Value.{Value}
use Rattle.xml.specs.House.{Attr, tag, render}
use Rattle.file_letter.specs.Letter.{text_in, tag_of, coin_of, words_in}

-- closing tags at most: those of 16 levels, and a turn more to end with
abbrev pub rungs : ℕ
rungs = 17

module _ (l : Listing) where
  abbrev pub opens : ℕ → List Attr → List ℕ
  opens r as' = code "<" ∷ (tag (tag_of (row_at l r).name as') ++ (code ">" ∷ []))

  abbrev pub shuts : ℕ → List ℕ
  shuts r = code "<" ∷ code "/" ∷ ((row_at l r).name ++ (code ">" ∷ []))

  -- the closing tags from g up to p, at most k
  unfoldable pub closes : ℕ → ℕ → ℕ → List ℕ
  closes zero g p = []
  closes (suc k) g p = cond (eqb g p) [] (cond (eqb g 0) [] (shuts g ++ closes k (row_at l g).parent p))

  -- g is the innermost open group
  unfoldable pub tell : ℕ → List (ℕ × Option Value) → List ℕ
  tell g [] = closes rungs g 0
  tell g ((r, none) ∷ is) = closes rungs g (row_at l r).parent ++ (opens r [] ++ tell r is)
  tell g ((r, some v) ∷ is) =
      closes rungs g (row_at l r).parent ++ (opens r (coin_of v) ++ (render (text_in (words_in (row_at l r).kind v)) ++ (shuts r ++ tell (row_at l r).parent is)))
