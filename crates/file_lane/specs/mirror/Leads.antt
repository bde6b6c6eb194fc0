-- A mirror: the invariant of the lane's loop, what comes from here on comes from the start. Assumes nothing.
use Rattle.std.specs.Prelude.{◌≡◌, List, ℕ, ◌+◌, length, drop}
use Rattle.file.specs.Instance.{Kinds}
use Rattle.file_nodes.specs.Run.{Node, Run}
use Rattle.file_lane.specs.Seen.{head_size}

-- nodes, a text, and the node and the place after the root's tag
module _ (k : Kinds) (at : ℕ → Node) (s : List ℕ) (start o : ℕ) where
  -- a run from the start on, in an image of so many bytes
  pub record Comes (total : ℕ) : Type 0 where
    pub bytes : List ℕ
    pub run : Run k at start (drop o s) bytes
    pub is : total ≡ head_size + length bytes

  -- at node n and place i, with this sum so far
  pub record Leads (n i sum : ℕ) : Type 0 where
    pub go : (bs : List ℕ) → Run k at n (drop i s) bs → Comes (sum + length bs)
