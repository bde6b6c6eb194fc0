-- `seen::Seen::contains` meets its contract. Assumes nothing.
use mathlib.Core.Path.{◌∙◌, ap}
use Rattle.xml.specs.mirror.Auto.{member}
use Rattle.xml_scan.proofs.names.Names.{held_has}
use Rattle.xml_scan.proofs.seen.Seen.contains.Goals as goal

pub returns : goal.returns
returns c =
    c.any_same.ensures ∙ held_has _ _ ∙ ap (member c.args.name.now) c.self.view_is
