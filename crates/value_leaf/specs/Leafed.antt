-- The text of a leaf from a place of a file on: where it ends, and how many bytes its value has. Assumes nothing.
use Rattle.std.specs.Prelude.{◌≡◌, Bool, true, false, not, cond, Option, Some, None, List, ℕ, ◌+◌, eqb, drop}
use Rattle.std.proofs.Math.Seq.{slice}
use Rattle.text.specs.Lists.{span}
use Rattle.text_characters.specs.Pieces.{less}
use Rattle.value.specs.given.Giving.{Sized}
use Rattle.value_leaf.specs.Took.{Uncut}
use Rattle.value_leaf.specs.declared.found.Found.{Found}

-- how many bytes a value has, if there is one: none has 0
abbrev pub some_size : ℕ → Option ℕ
some_size n = cond (eqb n 0) None (Some n)

abbrev pub found_of : ℕ → ℕ → Found
found_of e n = record { end = e; size = some_size n }

-- a byte of text: a tag begins with `<`
unfoldable pub is_inside : ℕ → Bool
is_inside x = not (eqb x less)

-- n bytes has the value that the raw text s of a leaf of this kind spells, 0 where it spells none; and 0 where `]]>` stands in it, which
-- no text of a good file has
pub record Weighs (kind k : ℕ) (s : List ℕ) (n : ℕ) : Type 0 where
  pub whole : Uncut s → Sized kind k s n
  pub cut : (Uncut s → ⊥) → n ≡ 0

-- the text from `at` on ends at the next `<`, or where s ends
pub record Leafed (kind k : ℕ) (s : List ℕ) (at : ℕ) (r : Found) : Type 0 where
  pub ends : r.end ≡ at + span is_inside (drop at s)
  pub bytes : ℕ
  pub size : r.size ≡ some_size bytes
  pub weighs : Weighs kind k (slice at r.end s) bytes

-- r says whether `]]>` stands in s
pub record CutTold (s : List ℕ) (r : Bool) : Type 0 where
  pub no : r ≡ false → Uncut s
  pub yes : r ≡ true → Uncut s → ⊥
