-- The table of document 01, "Numbers handed back": each case with its code, its row and its place; then the codes of document 02. Assumes nothing.
use Rattle.std.specs.Prelude.{ℕ}
use Rattle.answer.specs.declared.Answer.{Answer}

-- "An answer is a code, row and place"
abbrev pub answer : ℕ → ℕ → ℕ → Answer
answer c r p = record { code = c; row = r; place = p }

-- "Acceptance is 0, row 0, image length"
abbrev pub accepted : ℕ → Answer
accepted n = answer 0 0 n

-- of a pick: "Acceptance is code 0, the asked row, and the place where the part begins"
abbrev pub picked : ℕ → ℕ → Answer
picked r p = answer 0 r p

-- "input over 1,048,576 bytes"
abbrev pub limit : ℕ
limit = 1048576

abbrev pub too_long : Answer
too_long = answer 1 0 limit

-- "not UTF-8 .. start of first bad sequence"
abbrev pub not_utf8 : ℕ → Answer
not_utf8 p = answer 2 0 p

-- "not house XML .. most leading bytes that still begin some house XML text"
abbrev pub not_house_xml : ℕ → Answer
not_house_xml p = answer 3 0 p

-- "root not Document, or its only attribute isn't xmlns .. 1 .. root's `<`"
abbrev pub wrong_root : ℕ → Answer
wrong_root p = answer 4 1 p

-- "not a child of its parent .. parent .. its `<`"
abbrev pub not_a_child : ℕ → ℕ → Answer
not_a_child r p = answer 5 r p

-- "later sibling already seen .. own .. its `<`"
abbrev pub out_of_order : ℕ → ℕ → Answer
out_of_order r p = answer 6 r p

-- "over its count, or second child in a choice .. own .. its `<`"
abbrev pub too_many : ℕ → ℕ → Answer
too_many r p = answer 7 r p

-- "required child absent from a group that has some child .. lowest absent .. the parent's `<`"
abbrev pub absent : ℕ → ℕ → Answer
absent r p = answer 8 r p

-- "below the root: attributes not exactly the type's, or bad Ccy .. own .. its `<`"
abbrev pub wrong_attributes : ℕ → ℕ → Answer
wrong_attributes r p = answer 9 r p

-- "non-blank text in a group .. group .. first such byte"
abbrev pub text_in_group : ℕ → ℕ → Answer
text_in_group r p = answer 10 r p

-- "no child in a group, no character in a leaf .. own .. its `<`"
abbrev pub empty : ℕ → ℕ → Answer
empty r p = answer 11 r p

-- "value breaks its type .. own .. its `<`"
abbrev pub bad_value : ℕ → ℕ → Answer
bad_value r p = answer 12 r p

-- "row 43's rule broken .. 43 .. its `<`": the row of the rule's group
abbrev pub rule_broken : ℕ → ℕ → Answer
rule_broken r p = answer 13 r p

-- "valid, but image longer than the buffer .. 0 .. bytes needed"
abbrev pub no_room : ℕ → Answer
no_room n = answer 14 0 n

-- "15 fewer than five bytes or no `KTO`, place 0"
abbrev pub no_header : Answer
no_header = answer 15 0 0

-- "16 .., place 3"; document 02, section 5: "16 now means version neither 1 nor 2"
abbrev pub wrong_version : Answer
wrong_version = answer 16 0 3

-- "17 no image of a rule-meeting content begins here, place 5 plus the bytes of the most whole items that begin some image"; section 5: "a missing or
-- bad kind byte is 17, place 5; item places in version 2 count from 6"
abbrev pub broken_image : ℕ → Answer
broken_image p = answer 17 0 p

-- "code 18 .. if the row is no leaf or has no such item, row 0 and place 0"
abbrev pub no_such_leaf : Answer
no_such_leaf = answer 18 0 0

-- document 02, section 1: "19 where the file would be over 1,048,576 bytes .. place is the bytes needed, row 0"
abbrev pub too_large : ℕ → Answer
too_large n = answer 19 0 n

-- section 3: "20, before 19, row of the date-time, place of its item"
abbrev pub too_fine : ℕ → ℕ → Answer
too_fine r p = answer 20 r p

-- section 9: "26, before 20, row 40, place of the first such item"
abbrev pub retired : ℕ → ℕ → Answer
retired r p = answer 26 r p
