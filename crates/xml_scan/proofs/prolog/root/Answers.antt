-- `prolog::root` meets its contract. Assumes nothing.
use Rattle.xml_scan.proofs.Before.{root_cut, root_less, root_other}
use Rattle.xml_scan.proofs.prolog.root.Goals as goal

pub returns-then-s-b : goal.returns-then-s-b
returns-then-s-b c =
    root_cut _ _ _ c.blanks_end-b.ensures c.requires c.if-s-b.true

pub returns-then-s-b-eq60 : goal.returns-then-s-b-eq60
returns-then-s-b-eq60 c =
    root_less _ _ _ c.blanks_end-b.ensures c.requires c.if-s-b.false c.if-s-b-eq60.true

pub returns : goal.returns
returns c =
    root_other _ _ _ c.blanks_end-b.ensures c.requires c.if-s-b.false c.if-s-b-eq60.false
