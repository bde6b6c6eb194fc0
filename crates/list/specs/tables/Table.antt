-- A list as two tables: what they say, whatever they hold. Assumes nothing.
-- The first has sixteen cells a row (Columns), where row 0, which stands above the root, has the list's own; the second is the pool.
use Rattle.std.specs.Prelude.{cond, List, [], ◌∷◌, ℕ, zero, suc, ◌+◌, ◌*◌, eqb, leb, get_or}
use Prim.Native.Char.{code}
use Rattle.std.proofs.Math.Seq.{slice}
use Rattle.text.specs.Lists.{same}
use Rattle.list.specs.Listing.{ref, iban, ccy, bool, num, amt, date, dtm, txt, enum, Kind, group, choice, leaf, Count, one, optional, several, any, alternative, Row, Rule, both, Listing}
use Rattle.list.specs.tables.Columns.{PARENT, COUNT, KIND, MOST, NAME, NAME-END, WORDS, WORDS-END, MATE, SIZE, SPACE, SPACE-END, BYTE, WORD-COUNT, COLUMNS}

-- column j of row r; 0 in a row above 255, in a column above the last, and past the table's end
unfoldable pub cell : List ℕ → ℕ → ℕ → ℕ
cell t r j = cond (leb j WORD-COUNT) (cond (leb r 255) (get_or t (COLUMNS * r + j) 0) 0) 0

-- the first word grows by a byte at its front
abbrev pub longer : ℕ → List (List ℕ) → List (List ℕ)
longer x [] = []
longer x (w ∷ ws) = (x ∷ w) ∷ ws

-- the words of a text, separated by single spaces
unfoldable pub words : List ℕ → List (List ℕ)
words [] = [] ∷ []
words (x ∷ xs) = cond (eqb x (code " ")) ([] ∷ words xs) (longer x (words xs))

-- a text without a byte has none
abbrev pub words_of : List ℕ → List (List ℕ)
words_of [] = []
words_of (x ∷ xs) = words (x ∷ xs)

-- "place in its list from 1", the places of these words counted from i on: the first that has the word; 0 where none has
unfoldable pub place_from : ℕ → List (List ℕ) → List ℕ → ℕ
place_from i [] w = 0
place_from i (v ∷ vs) w = cond (same v w) i (place_from (suc i) vs w)

abbrev pub place_in : List (List ℕ) → List ℕ → ℕ
place_in ws w = place_from 1 ws w

-- a place as one byte; 0 where no byte has it
abbrev pub byte_of : ℕ → ℕ
byte_of n = cond (leb n 255) n 0

-- counts and kinds in the order of their numbers
abbrev pub counts : List Count
counts = one ∷ optional ∷ several ∷ any ∷ []

abbrev pub kinds : ℕ → List (List ℕ) → List Kind
kinds k ws =
    group ∷ choice ∷ leaf ref ∷ leaf (txt k) ∷ leaf iban ∷ leaf ccy ∷
    leaf (enum ws) ∷ leaf bool ∷ leaf num ∷ leaf amt ∷ leaf date ∷ leaf dtm ∷ []

-- any other number says no count, or G
abbrev pub count_of : ℕ → Count
count_of c = get_or counts c alternative

abbrev pub kind_of : ℕ → ℕ → List (List ℕ) → Kind
kind_of c k ws = get_or (kinds k ws) c group

-- the parts of the pool that row r names
abbrev pub name_in : List ℕ → List ℕ → ℕ → List ℕ
name_in t pool r = slice (cell t r NAME) (cell t r NAME-END) pool

abbrev pub words_in : List ℕ → List ℕ → ℕ → List (List ℕ)
words_in t pool r = words_of (slice (cell t r WORDS) (cell t r WORDS-END) pool)

unfoldable pub row_of : List ℕ → List ℕ → ℕ → Row
row_of t pool r = record {
  name = name_in t pool r;
  parent = cell t r PARENT;
  count = count_of (cell t r COUNT);
  kind = kind_of (cell t r KIND) (cell t r MOST) (words_in t pool r);
}

-- k rows from i on
unfoldable pub rows_from : List ℕ → List ℕ → ℕ → ℕ → List Row
rows_from t pool i zero = []
rows_from t pool i (suc k) = row_of t pool i ∷ rows_from t pool (suc i) k

-- the rules whose second row is among the k rows from i on
unfoldable pub rules_from : List ℕ → ℕ → ℕ → List Rule
rules_from t i zero = []
rules_from t i (suc k) =
    cond (eqb (cell t i MATE) 0) (rules_from t (suc i) k) (both (cell t i PARENT) (cell t i MATE) i ∷ rules_from t (suc i) k)

-- the list that the two tables say
unfoldable pub list_of : List ℕ → List ℕ → Listing
list_of t pool = record {
  rows = rows_from t pool 1 (cell t 0 SIZE);
  rules = rules_from t 1 (cell t 0 SIZE);
  space = slice (cell t 0 SPACE) (cell t 0 SPACE-END) pool;
  byte = cell t 0 BYTE;
}
