-- What the lane has seen of a file that it knows to be good. Assumes nothing.
use Rattle.std.specs.Prelude.{◌≡◌, List, ℕ, ◌+◌, ◌≤◌, length, drop}
use Rattle.answer.specs.Table.{limit}
use Rattle.file.specs.Instance.{house_kinds}
use Rattle.file_front.specs.Opens.{Opens}
use Rattle.file_nodes.specs.Run.{Run}
use Rattle.file_nodes.specs.mirror.ByKind.{nodes_of}

-- "`KTO`, version .. in 16 bits", the kind byte, and the root's row byte
abbrev pub head_size : ℕ
head_size = 7

-- its list has the kind byte b, its root's tag ends at a place, from there on a run goes by the list's nodes, and its image has n bytes
pub record Seen (s : List ℕ) (n b from : ℕ) : Type 0 where
  pub opens : Opens s b from
  pub small : length s ≤ limit
  pub bytes : List ℕ
  pub run : Run house_kinds (nodes_of opens.list) 1 (drop from s) bytes
  pub size : n ≡ head_size + length bytes
