-- A mirror: an opening tag, as a pass needs it that tests no attribute. Assumes nothing.
use Rattle.xml_tags.specs.declared.token.Token.{Token}
use Rattle.xml_tags.specs.declared.skim.Tag.{Tag}

-- where its name stops, where it ends, and where its first attribute has its value
abbrev pub tag_of : Token → Tag
tag_of k = record { stop = k.stop; end = k.end; value = k.first.value; quote = k.first.quote }
