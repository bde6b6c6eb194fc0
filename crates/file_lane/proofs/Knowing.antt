-- What the calls of the lane told, one after the other, is what it has seen of a file, and so what is known of it. Assumes nothing.
use Rattle.std.specs.Prelude.{Option, Some, None, IfSome, Ok}
use mathlib.Core.Path.{◌≡◌, sym, ◌∙◌, ap, subst}
use mathlib.Core.List.{List}
use Prim.Native.Nat.{ℕ, ◌≤◌}
use lib.ListN.{length, drop}
use Rattle.answer.specs.Table.{limit}
use Rattle.file.specs.Instance.{house_kinds}
use Rattle.file_measure.specs.Measures.{Measures}
use Rattle.file_front.specs.Opens.{Opens}
use Rattle.file_nodes.specs.Run.{Node}
use Rattle.file_nodes.specs.Ran.{Ran}
use Rattle.file_nodes.specs.mirror.ByKind.{table_of, nodes_of}
use Rattle.file_nodes.specs.mirror.Kept.{Tabled}
use Rattle.file_nodes.proofs.House.{ran_content, ran_filed, ran_long, lists_tabled}
use Rattle.file_lane.specs.Seen.{Seen}
use Rattle.file_lane.specs.mirror.Leads.{Comes}

-- a run over the nodes of the list whose root's tag was found
pub seen_by : (s t : List ℕ) (from n : ℕ) → length s ≤ limit → ((at : ℕ → Node) → Tabled t at → Comes house_kinds at s 1 from n) → (b : ℕ) → Opens s b from → t ≡ table_of b → Seen s n b from
seen_by s t from n h c b o e =
    let l = o.list in
    let k = c (nodes_of l) (subst (λ (x : List ℕ). Tabled x (nodes_of l)) (sym (e ∙ ap table_of o.kind)) (lists_tabled l o.among)) in
    record { opens = o; small = h; bytes = k.bytes; run = k.run; size = k.is }

-- the same of what may not be known
abbrev LengthFrom : List ℕ → List ℕ → ℕ → Option ℕ → Type 0
LengthFrom s t from r = IfSome r (λ n. (length s ≤ limit) × ((at : ℕ → Node) → Tabled t at → Comes house_kinds at s 1 from n))

pub seen_length : (s t : List ℕ) (from : ℕ) (r : Option ℕ) → LengthFrom s t from r → IfSome r (λ n. (b : ℕ) → Opens s b from → t ≡ table_of b → Seen s n b from)
seen_length s t from None w = tt
seen_length s t from (Some n) w = seen_by s t from n w.0 w.1

pub seen_length_of : (s t : List ℕ) (from : ℕ) (r : Option ℕ) → LengthFrom s t from r → (b : ℕ) → Opens s b from → t ≡ table_of b → IfSome r (λ n. Seen s n b from)
seen_length_of s t from None w b o e = tt
seen_length_of s t from (Some n) w b o e = seen_by s t from n w.0 w.1 b o e

-- it is a good file's
pub seen_ran : (s : List ℕ) (n b from : ℕ) (w : Seen s n b from) → Ran house_kinds w.opens.list (nodes_of w.opens.list) 1 s w.bytes
seen_ran s n b from w = record { size = w.small; rest = drop from s; opened = w.opens.opened; run = w.run }

-- and told
pub seen_told : (s : List ℕ) (n b from : ℕ) → Seen s n b from → Measures s (Ok (record { kind = b; size = n }))
seen_told s n b from w =
    let l = w.opens.list in
    let q = seen_ran s n b from w in
    record {
      list = l;
      content = ran_content l w.opens.among s w.bytes q;
      filed = ran_filed l w.opens.among s w.bytes q;
      size = w.size ∙ sym (ran_long l w.opens.among s w.bytes q);
      kind = w.opens.kind;
    }
