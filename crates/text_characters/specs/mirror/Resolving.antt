-- A mirror: how the next character of a text is read, entities resolved. Assumes nothing.
use Rattle.std.specs.Prelude.{cond, List, [], ◌∷◌, ℕ, eqb, length}
use Rattle.text.specs.Words.{starts}
use Rattle.text_characters.specs.Pieces.{ampersand, less, is_xml_char, Entity, amp, lt, gt, quot, apos, word, stands}
use Rattle.text_characters.specs.Chars.{char_of}
use Rattle.text_characters.specs.mirror.Decoding.{decoded}
use Rattle.text_characters.specs.declared.utf8.Char.{Char}

-- an entity, where the text begins with it, or what else is there
abbrev pub or_else : Entity → List ℕ → Char → Char
or_else e s r = cond (starts (word e) s) (char_of (length (word e)) (stands e)) r

unfoldable pub entity_at : List ℕ → Char
entity_at s = or_else amp s (or_else lt s (or_else gt s (or_else quot s (or_else apos s (char_of 0 0)))))

unfoldable pub plain_at : Char → Char
plain_at r = cond (is_xml_char r.code) r (char_of 0 0)

unfoldable pub char_at : List ℕ → Char
char_at [] = char_of 0 0
char_at (x ∷ t) =
    cond (eqb x ampersand) (entity_at (x ∷ t)) (cond (eqb x less) (char_of 0 0) (plain_at (decoded (x ∷ t))))
