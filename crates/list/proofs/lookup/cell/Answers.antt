-- `lookup::cell` meets its contract. Assumes nothing.
use Rattle.std.proofs.Common.{◌≡◌, ◌+◌, ◌*◌, get_or, sym, ◌∙◌, inl, inr, rules}
use Rattle.list.proofs.rows.Cells.{no_column, no_row, cell_at}
use Rattle.list.proofs.lookup.cell.Goals as goal

pub returns-then-column-gt-WORD_COUNT : goal.returns-then-column-gt-WORD_COUNT
returns-then-column-gt-WORD_COUNT c = elim c.then-column-gt-WORD_COUNT.either [
  | inl h ↦ no_column _ _ _ h
  | inr h ↦ no_row _ _ _ h.0 h.1
]

pub returns : goal.returns
returns c =
    let found : c.map_or.result ≡ get_or c.args.rows.now (16 * c.args.r + c.args.column) 0 = search rules in
    found ∙ sym (cell_at _ _ _ c.if-column-gt-WORD_COUNT.false c.if-r-gt-MOST_ROWS.false)
