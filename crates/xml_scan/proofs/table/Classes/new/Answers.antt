-- `table::Classes::new` meets its contract. Assumes nothing.
use mathlib.Core.Path.{refl}
use Rattle.text.specs.Bytes.{is_blank, is_name_part}
use Rattle.xml_scan.specs.mirror.Classes.{is_plain, class_of}
use Rattle.xml_scan.proofs.Classes.{classed}
use Rattle.xml_scan.proofs.table.Classes.new.Goals as goal

pub invariant_of-result : goal.invariant_of-result
unfolding class_of is_name_part is_plain is_blank
invariant_of-result c = record { classed = classed _ refl refl }
