-- What the reader over a body tells, by what it hands back. Assumes nothing.
use Rattle.std.specs.Prelude.{List, ℕ, eqb, ◌&&◌, if◌then◌else◌, Option, None, Some, Result, Ok, Err}
use Rattle.answer.specs.declared.Answer.{Answer}
use Rattle.answer.specs.Table.{accepted, broken_image}
use Rattle.image.specs.mirror.Ends.{item_end}
use Rattle.image.specs.mirror.Step.{is_leaf}
use Rattle.image_reader.specs.declared.Items.{Items}
use Rattle.image_reader.specs.declared.Broken.{Broken}

-- the place where an item ends, 0 where none stands
abbrev pub end_of : Option ℕ → ℕ
end_of None = 0
end_of (Some e) = e

-- what is handed back of the item of row x whose row byte stands before i: no value ends at 0, so of a leaf that is none; a group ends wherever i is
abbrev pub taken_end : List ℕ → List ℕ → ℕ → ℕ → Option ℕ
taken_end t s x i = if is_leaf t x && eqb (item_end t s x i) 0 then None else Some (item_end t s x i)

-- the answer that says where items end or break, and how many were taken
abbrev pub answer_of : Result Items Broken → Answer
answer_of (Ok w) = accepted w.end
answer_of (Err b) = broken_image b.at

abbrev pub count_of : Result Items Broken → ℕ
count_of (Ok w) = w.count
count_of (Err b) = b.count
