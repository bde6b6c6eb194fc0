-- `walked` meets its contract, from what the walk told. Assumes nothing.
use mathlib.Core.Path.{sym, ◌∙◌, subst}
use Rattle.std.proofs.Common.{rules}
use Rattle.std.specs.Prelude.{Ok, Err}
use Rattle.std.proofs.lemmas.Result.{err_from_is_err_and}
use Rattle.file.specs.Instance.{house_kinds}
use Rattle.list.specs.tables.Table.{list_of}
use Rattle.file_measure.specs.Measured.{Measured}
use Rattle.file_measure.proofs.House.{Handed, handed_root, begins_handed}
use Rattle.file_measure.proofs.Finds.{tables_ready, tells_message}
use Rattle.file_measure.proofs.walked.Goals as goal

pub returns-in_err-root : goal.returns-in_err-root
returns-in_err-root c =
    let p = err_from_is_err_and c.from_residual.result c.from_residual.ensures.1 in
    let m : Handed c.map_err.result c.begun.result = search rules in
    rw (p.1, p.2) (tells_message _ _ _ _ _ c.requires (Err _) (begins_handed _ _ _ (tables_ready _ _ _ _ _ c.requires) _ c.begun.ensures _ m _ c.in_err-root.was))

pub found-requires : goal.found-requires
found-requires c =
    let m : Handed c.map_err.result c.begun.result = search rules in
    (tables_ready _ _ _ _ _ c.requires, sym c.begun.ensures ∙ handed_root c.map_err.result c.begun.result m _ c.in_ok-root.was)

pub returns-in_err-size : goal.returns-in_err-size
returns-in_err-size c =
    let p = err_from_is_err_and c.from_residual-in_err-size.result c.from_residual-in_err-size.ensures.1 in
    rw (p.1, p.2) (tells_message _ _ _ _ _ c.requires (Err _) (subst (Measured house_kinds (list_of c.args.rows.now c.args.pool.now) c.args.input.now) c.in_err-size.was c.found.ensures))

pub returns : goal.returns
returns c =
    tells_message _ _ _ _ _ c.requires (Ok c.in_ok-size.size) (subst (Measured house_kinds (list_of c.args.rows.now c.args.pool.now) c.args.input.now) c.in_ok-size.was c.found.ensures)
