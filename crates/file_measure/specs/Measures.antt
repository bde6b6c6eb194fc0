-- What measuring a file tells: what check answers where there is room, and the kind byte of a good file's list. Assumes nothing.
use Rattle.std.specs.Prelude.{◌≡◌, ◌≢◌, List, ℕ, length, Result, Ok, Err}
use Rattle.answer.specs.declared.Answer.{Answer}
use Rattle.answer.specs.Table.{accepted}
use Rattle.list.specs.Listing.{Listing}
use Rattle.list.specs.Content.{Content}
use Rattle.value.specs.Value.{Value}
use Rattle.file.specs.Instance.{house_kinds}
use Rattle.file.specs.File.{image_of}
use Rattle.file.specs.Checks.{Filed, Finds}
use Rattle.file_measure.specs.declared.Good.{Good}

-- a good file: its image's length, and "a kind byte", that of the list which it chooses
pub record Fits (s : List ℕ) (g : Good) : Type 0 where
  pub list : Listing
  pub content : Content Value
  pub filed : Filed s list content
  pub size : g.size ≡ length (image_of house_kinds list content)
  pub kind : g.kind ≡ list.byte

-- that; or of any other file its answer, 1 to 13
abbrev pub Measures : List ℕ → Result Good Answer → Type 0
Measures s (Ok g) = Fits s g
Measures s (Err a) = Finds s a × (a.code ≢ 0)

-- the answer alone
abbrev pub answer_of : Result Good Answer → Answer
answer_of (Ok g) = accepted g.size
answer_of (Err a) = a
