-- `to_text::put_places` meets its contract. Assumes nothing.
use native.Mathlib.Omega.{arith}
use Rattle.value.proofs.script.Moments.{places_put}
use Rattle.value_dates_put.proofs.to_text.put_places.Goals as goal

pub returns : goal.returns
returns c =
    (omega arith, places_put c.args.buf.now c.args.at c.args.k c.args.n _ _ c.requires c.copy.ensures c.pad.ensures)
