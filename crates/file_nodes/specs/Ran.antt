-- What the lane has found when it answers: a run over all of a file, and the image's bytes after the root's item. Assumes nothing.
use Rattle.std.specs.Prelude.{List, ℕ, ◌≤◌, length}
use Rattle.answer.specs.Table.{limit}
use Rattle.list.specs.Listing.{Listing}
use Rattle.file.specs.Instance.{Kinds}
use Rattle.file_front.specs.Opens.{RootOpened}
use Rattle.file_nodes.specs.Run.{Node, Run}

-- a file is not too long, its root is opened at its front, and a run goes over the rest, from the node `start` on
pub record Ran (k : Kinds) (l : Listing) (at : ℕ → Node) (start : ℕ) (s bs : List ℕ) : Type 0 where
  pub size : length s ≤ limit
  pub rest : List ℕ
  pub opened : RootOpened l s rest
  pub run : Run k at start rest bs
