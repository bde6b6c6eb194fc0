-- A mirror: the namespaces of the code's constants. Assumes nothing.
-- Written by tools/lists/make.
use Rattle.std.specs.Prelude.{List, ℕ}
use Rattle.text.specs.Bytes.{ascii}

unfoldable pub house_space : List ℕ
house_space = ascii "urn:iso:std:iso:20022:tech:xsd:camt.053.001.08"

unfoldable pub report_space : List ℕ
report_space = ascii "urn:iso:std:iso:20022:tech:xsd:camt.052.001.08"
