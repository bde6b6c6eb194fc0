-- A mirror: the tags of a row, as the two tables say them. Assumes nothing.
use Rattle.std.specs.Prelude.{List, ◌++◌, ℕ, ◌≤◌, length}
use Rattle.std.proofs.Math.Seq.{slice}
use Rattle.text.specs.Bytes.{ascii}
use Rattle.list.specs.Listing.{size}
use Rattle.list.specs.tables.Columns.{SPACE, SPACE-END}
use Rattle.list.specs.tables.Table.{cell, name_in, list_of}
use Rattle.list.specs.tables.Sound.{Sound}
use Rattle.text.specs.Puts.{far}

-- the pool that cells of 16 bits can name
abbrev pub longest_pool : ℕ
longest_pool = 65535

module _ (t pool : List ℕ) where
  -- `<` and its name, the opening tag without attributes, the closing tag
  abbrev pub start_in : ℕ → List ℕ
  start_in r = ascii "<" ++ name_in t pool r

  abbrev pub open_in : ℕ → List ℕ
  open_in r = start_in r ++ ascii ">"

  abbrev pub shut_in : ℕ → List ℕ
  shut_in r = ascii "</" ++ (name_in t pool r ++ ascii ">")

  -- the root's tag, with the namespace
  abbrev pub root_in : List ℕ
  root_in = start_in 1 ++ (ascii " xmlns=\"" ++ (slice (cell t 0 SPACE) (cell t 0 SPACE-END) pool ++ ascii "\">"))

-- the attribute of an amount
abbrev pub coin_in : List ℕ → List ℕ
coin_in w = ascii " Ccy=\"" ++ (w ++ ascii "\"")

-- what closing tags ask: tables that are a well-formed list, an open group of it, and sums that do not overflow
pub record Opened (t pool : List ℕ) (g at : ℕ) : Type 0 where
  pub sound : Sound t pool
  pub within : g ≤ size (list_of t pool)
  pub small : length pool ≤ longest_pool
  pub low : at ≤ far
