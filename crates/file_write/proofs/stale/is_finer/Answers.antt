-- `stale::is_finer` meets its contract. Assumes nothing.
use Rattle.file_write.proofs.Passing.{finer_other, finer_dtm}
use Rattle.file_write.proofs.stale.is_finer.Goals as goal

pub returns-then-kind-ne-DTM : goal.returns-then-kind-ne-DTM
returns-then-kind-ne-DTM c = finer_other _ _ c.if-kind-ne-DTM.true

pub returns : goal.returns
returns c =
    finer_dtm c.args.kind c.args.run.now c.args.i _ c.if-kind-ne-DTM.false c.get32.ensures
