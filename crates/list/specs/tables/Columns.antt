-- The columns of a table of rows, and the numbers that stand in it for counts and kinds: the code's constants. Assumes nothing.
use Rattle.std.specs.Prelude.{ℕ}

-- a row's own: its parent, its count, its kind, the k of TXTk, where its name and an ENUM's words, separated by single spaces, start and end
-- in the pool, the first row of the rule whose second row it is
abbrev pub PARENT : ℕ
PARENT = 0

abbrev pub COUNT : ℕ
COUNT = 1

abbrev pub KIND : ℕ
KIND = 2

abbrev pub MOST : ℕ
MOST = 3

abbrev pub NAME : ℕ
NAME = 4

abbrev pub NAME-END : ℕ
NAME-END = 5

abbrev pub WORDS : ℕ
WORDS = 6

abbrev pub WORDS-END : ℕ
WORDS-END = 7

abbrev pub MATE : ℕ
MATE = 8

-- what follows from these, so that no one need search for it (Sound): its first child, its next sibling, its first required child, its next
-- required sibling, the second row of the rule whose first row it is, its level, how many words an ENUM has; 0 for none
abbrev pub CHILD : ℕ
CHILD = 9

abbrev pub SIBLING : ℕ
SIBLING = 10

abbrev pub DUE-CHILD : ℕ
DUE-CHILD = 11

abbrev pub DUE-SIBLING : ℕ
DUE-SIBLING = 12

abbrev pub PAIR : ℕ
PAIR = 13

abbrev pub LEVEL : ℕ
LEVEL = 14

abbrev pub WORD-COUNT : ℕ
WORD-COUNT = 15

-- row 0's, which are the list's own: how many rows it has, where its namespace starts and ends in the pool, its kind byte
abbrev pub SIZE : ℕ
SIZE = 0

abbrev pub SPACE : ℕ
SPACE = 1

abbrev pub SPACE-END : ℕ
SPACE-END = 2

abbrev pub BYTE : ℕ
BYTE = 3

-- counts: 1..1, 0..1, 1..n, 0..n, none
abbrev pub ONE : ℕ
ONE = 0

abbrev pub OPTIONAL : ℕ
OPTIONAL = 1

abbrev pub SOME : ℕ
SOME = 2

abbrev pub ANY : ℕ
ANY = 3

abbrev pub ALTERNATIVE : ℕ
ALTERNATIVE = 4

-- kinds: G, C, and document 01's types
abbrev pub GROUP : ℕ
GROUP = 0

abbrev pub CHOICE : ℕ
CHOICE = 1

abbrev pub REF : ℕ
REF = 2

abbrev pub TXT : ℕ
TXT = 3

abbrev pub IBAN : ℕ
IBAN = 4

abbrev pub CCY : ℕ
CCY = 5

abbrev pub ENUM : ℕ
ENUM = 6

abbrev pub BOOL : ℕ
BOOL = 7

abbrev pub NUM : ℕ
NUM = 8

abbrev pub AMT : ℕ
AMT = 9

abbrev pub DATE : ℕ
DATE = 10

abbrev pub DTM : ℕ
DTM = 11

-- the table's shape: how many columns there are, and the cells of 256 rows, one for each row byte
abbrev pub COLUMNS : ℕ
COLUMNS = 16

abbrev pub CELLS : ℕ
CELLS = 4096
