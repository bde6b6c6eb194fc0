-- A mirror: how the cursor passes attributes, from the place after a tag's name or after the attribute before. Assumes nothing.
use Rattle.std.specs.Prelude.{Bool, cond, List, [], ◌∷◌, ℕ, zero, suc, ◌+◌, ◌-◌, eqb, length, drop}
use Rattle.text.specs.Bytes.{is_blank}
use Rattle.text.specs.Lists.{span}
use Rattle.xml_tags.specs.declared.attribute.Attribute.{Attribute}
use Rattle.xml_tags.specs.declared.attribute.Passed.{Passed}
use Rattle.xml_tags.specs.Marks.{but, pass, one}
use Rattle.xml_tags.specs.mirror.Passing.{no_quote, in_name}

-- no attribute
abbrev pub nowhere : ℕ → Attribute
nowhere o = record { name = o; stop = o; value = o; quote = o; end = o }

-- the name is at a .. b, and the quote at o, if the bytes go so far
unfoldable pub value_at : ℕ → ℕ → ℕ → List ℕ → Attribute
value_at a b o [] = record { name = a; stop = b; value = o; quote = o; end = o }
value_at a b o (q ∷ l) =
    record {
      name = a;
      stop = b;
      value = o + 1;
      quote = o + 1 + span (but q) l;
      end = o + 1 + span (but q) l + one (drop (span (but q) l) l);
    }

-- the name is at a .. o
abbrev pub quote_at : ℕ → ℕ → List ℕ → Attribute
quote_at a o l = pass no_quote (value_at a o) o l

-- the name, if there is one, is at o
unfoldable pub named_at : ℕ → List ℕ → Attribute
named_at o l = cond (eqb (span in_name l) 0) (nowhere o) (pass in_name (quote_at o) o l)

unfoldable pub attribute_at : ℕ → List ℕ → Attribute
attribute_at o l = pass is_blank named_at o l

-- no name was found
abbrev pub is_none : Attribute → Bool
is_none a = eqb a.stop a.name

abbrev pub counted : Passed → Passed
counted p = record { count = p.count + 1; end = p.end }

-- attributes one after the other, fewer than f, and the blanks after them
unfoldable pub passed_from : ℕ → ℕ → List ℕ → Passed
passed_from zero o l = record { count = 0; end = o }
passed_from (suc f) o l =
    cond (is_none (attribute_at o l))
    (record { count = 0; end = (attribute_at o l).name })
    (counted (passed_from f (attribute_at o l).end (drop ((attribute_at o l).end - o) l)))

-- all of them: there are not more than bytes
unfoldable pub passed_at : ℕ → List ℕ → Passed
passed_at o l = passed_from (suc (length l)) o l
