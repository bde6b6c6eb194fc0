-- The nodes of a list, from what each says: an opening or a closing tag of a row, the nodes after it and beside it, and the rows that it may stand
-- after. Assumes nothing.
use Rattle.std.specs.Prelude.{cond, List, [], ℕ, eqb, get_or}
use Rattle.std.proofs.Math.Option.{Option, none, some}
use Rattle.list.specs.Listing.{Kind, Listing, row_at}
use Rattle.list.specs.Listing as list
use Rattle.xml.specs.House.{Quote, single_quote, double}
use Rattle.image.specs.mirror.Follow.{parent_of}
use Rattle.file_nodes.specs.Run.{Sort, over, shut, group, leaf, Node}
use Rattle.file_nodes.specs.Fitting.{front, opening, closing}

-- an opening tag, with the quote of its currency, or a closing tag
pub data Form : Type 0 where
  opens : Option Quote → Form
  closes : Form

-- last: the children of the element that may have come last, 0 for none (a ghost: the code has no use for it)
pub record Entry : Type 0 where
  pub form : Form
  pub row : ℕ
  pub next : ℕ
  pub other : ℕ
  pub last : List ℕ

-- an opening tag; one with a currency in double or in single quotes; a closing tag: row, node after it, node of what else may come, the rows that it
-- may stand after
abbrev pub plain : ℕ → ℕ → ℕ → List ℕ → Entry
plain r n o bs = record { form = opens none; row = r; next = n; other = o; last = bs }

abbrev pub doubly : ℕ → ℕ → ℕ → List ℕ → Entry
doubly r n o bs = record { form = opens (some double); row = r; next = n; other = o; last = bs }

abbrev pub singly : ℕ → ℕ → ℕ → List ℕ → Entry
singly r n o bs = record { form = opens (some single_quote); row = r; next = n; other = o; last = bs }

abbrev pub shuts : ℕ → ℕ → ℕ → List ℕ → Entry
shuts r n o bs = record { form = closes; row = r; next = n; other = o; last = bs }

-- node 0, which no tag is of
abbrev pub no_entry : Entry
no_entry = shuts 0 0 0 []

abbrev pub entry_at : List Entry → ℕ → Entry
entry_at es n = get_or es n no_entry

abbrev pub open_sort : Kind → Option Quote → Sort
open_sort list.group h = group
open_sort list.choice h = group
open_sort (list.leaf f) h = leaf f h

abbrev pub sort_of : Listing → Form → ℕ → Sort
sort_of l (opens h) r = open_sort (row_at l r).kind h
sort_of l closes r = cond (eqb r 1) over shut

abbrev pub tag_of : Listing → Form → ℕ → List ℕ
tag_of l (opens h) r = opening l r (front h)
tag_of l closes r = closing l r

-- the row of the element in which it stands
abbrev pub group_of : Listing → Form → ℕ → ℕ
group_of l (opens h) r = parent_of l r
group_of l closes r = r

abbrev pub node_of : Listing → Entry → Node
node_of l e = record { tag = tag_of l e.form e.row; sort = sort_of l e.form e.row; row = e.row; next = e.next; other = e.other; close = closing l e.row }

abbrev pub node_at : Listing → List Entry → ℕ → Node
node_at l es n = node_of l (entry_at es n)
