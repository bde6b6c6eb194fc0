-- A mirror: the automaton that reads house XML a byte at a time. Assumes nothing.
use Rattle.std.specs.Prelude.{Bool, true, false, cond, ◌&&◌, ◌||◌, List, [], ◌∷◌, ◌++◌, ℕ, zero, suc, leb, ltb, eqb}
use Prim.Native.Char.{code}
use Rattle.text.specs.Lists.{same}
use Rattle.text.specs.Bytes.{ascii, in_range, is_blank, is_name_start, is_name_part}
use Rattle.xml.specs.House.{Quote, single_quote, double, mark}

-- within a piece: so many continuation bytes are left, or those after E0, ED, EF, EF BF, F0, F4 (Unicode, table 3-7, without
-- U+FFFE and U+FFFF); after `&`, after `&a`, or the next byte of an entity and the rest of it
pub data Part : Type 0 where
  one two three e0 ed ef efbf f0 f4 ampersand ampersand_a : Part
  rest : ℕ → List ℕ → Part

-- a piece after some of its bytes
pub data Read : Type 0 where
  bad all : Read
  more : Part → Read

abbrev pub to_word : List ℕ → Read
to_word [] = all
to_word (y ∷ q) = more (rest y q)

abbrev pub ascii_lead : ℕ → Read
ascii_lead x = cond (eqb x (code "&")) (more ampersand) (cond (eqb x (code "<")) bad (cond (leb (code " ") x || eqb x (code "\t") || eqb x (code "\n") || eqb x (code "\r")) all bad))

abbrev pub long : ℕ → Read
long x =
    cond (ltb x 0xC2) bad
    (cond (ltb x 0xE0) (more one)
    (cond (ltb x 0xE1) (more e0)
    (cond (ltb x 0xED) (more two)
    (cond (ltb x 0xEE) (more ed)
    (cond (ltb x 0xEF) (more two)
    (cond (ltb x 0xF0) (more ef)
    (cond (ltb x 0xF1) (more f0)
    (cond (ltb x 0xF4) (more three)
    (cond (ltb x 0xF5) (more f4) bad)))))))))

-- by its first byte
unfoldable pub lead : ℕ → Read
lead x = cond (ltb x 0x80) (ascii_lead x) (long x)

abbrev pub go_on : Part → ℕ → Read
go_on one y = cond (in_range 0x80 0xBF y) all bad
go_on two y = cond (in_range 0x80 0xBF y) (more one) bad
go_on three y = cond (in_range 0x80 0xBF y) (more two) bad
go_on e0 y = cond (in_range 0xA0 0xBF y) (more one) bad
go_on ed y = cond (in_range 0x80 0x9F y) (more one) bad
go_on ef y = cond (in_range 0x80 0xBE y) (more one) (cond (eqb y 0xBF) (more efbf) bad)
go_on efbf y = cond (in_range 0x80 0xBD y) all bad
go_on f0 y = cond (in_range 0x90 0xBF y) (more two) bad
go_on f4 y = cond (in_range 0x80 0x8F y) (more two) bad
go_on ampersand y =
    cond (eqb y (code "a")) (more ampersand_a)
    (cond (eqb y (code "l")) (to_word (ascii "t;"))
    (cond (eqb y (code "g")) (to_word (ascii "t;"))
    (cond (eqb y (code "q")) (to_word (ascii "uot;")) bad)))
go_on ampersand_a y = cond (eqb y (code "m")) (to_word (ascii "p;")) (cond (eqb y (code "p")) (to_word (ascii "os;")) bad)
go_on (rest z q) y = cond (eqb y z) (to_word q) bad

-- the bytes are just those that the piece still wants
abbrev pub takes : List ℕ → Read → Bool
takes [] bad = false
takes [] all = true
takes [] (more p) = false
takes (y ∷ l) bad = false
takes (y ∷ l) all = false
takes (y ∷ l) (more p) = takes l (go_on p y)

-- within an attribute's name: in the first name, just after the colon, in the second name
pub data Mode : Type 0 where
  early colon late : Mode

abbrev pub grows : Mode → ℕ → Bool
grows early x = is_name_part x || eqb x (code ":")
grows colon x = is_name_start x
grows late x = is_name_part x

abbrev pub goes_to : Mode → ℕ → Mode
goes_to early x = cond (eqb x (code ":")) colon early
goes_to colon x = late
goes_to late x = late

abbrev pub may_stop : Mode → Bool
may_stop early = true
may_stop colon = false
may_stop late = true

-- The states that some text goes on from. d: levels left below the element; n: its name; ns: the names around it; k: attributes
-- that may still come; ss: attribute names seen; r: brackets seen
pub data At : Type 0 where
  done start first before root : At
  declare : ℕ → List ℕ → At
  name : ℕ → List ℕ → List (List ℕ) → At
  tail : ℕ → List (List ℕ) → ℕ → List ℕ → List (List ℕ) → At
  gap : ℕ → List (List ℕ) → ℕ → List ℕ → List (List ℕ) → At
  attr : Mode → List ℕ → ℕ → List (List ℕ) → ℕ → List ℕ → List (List ℕ) → At
  equals : ℕ → List (List ℕ) → ℕ → List ℕ → List (List ℕ) → At
  quote : ℕ → List (List ℕ) → ℕ → List ℕ → List (List ℕ) → At
  value : Quote → ℕ → List (List ℕ) → ℕ → List ℕ → List (List ℕ) → At
  within : Part → Quote → ℕ → List (List ℕ) → ℕ → List ℕ → List (List ℕ) → At
  slash : ℕ → List (List ℕ) → At
  content : ℕ → ℕ → List ℕ → List (List ℕ) → At
  part : Part → ℕ → List ℕ → List (List ℕ) → At
  less : ℕ → List ℕ → List (List ℕ) → At
  close : List ℕ → ℕ → List (List ℕ) → At

pub data St : Type 0 where
  dead : St
  at : At → St

abbrev pub member : List ℕ → List (List ℕ) → Bool
member n [] = false
member n (m ∷ ms) = same n m || member n ms

abbrev pub after : ℕ → List (List ℕ) → At
after d [] = done
after d (n ∷ ns) = content 0 d n ns

abbrev pub end_step : ℕ → List ℕ → List (List ℕ) → ℕ → St
end_step d n ns x = cond (eqb x (code ">")) (at (content 0 d n ns)) (cond (eqb x (code "/")) (at (slash d ns)) dead)

abbrev pub tail_step : ℕ → List (List ℕ) → ℕ → List ℕ → List (List ℕ) → ℕ → St
tail_step k ss d n ns x = cond (is_blank x) (at (gap k ss d n ns)) (end_step d n ns x)

abbrev pub gap_step : ℕ → List (List ℕ) → ℕ → List ℕ → List (List ℕ) → ℕ → St
gap_step zero ss d n ns x = dead
gap_step (suc k) ss d n ns x = at (attr early (x ∷ []) k ss d n ns)

abbrev pub equals_step : ℕ → List (List ℕ) → ℕ → List ℕ → List (List ℕ) → ℕ → St
equals_step k ss d n ns x = cond (is_blank x) (at (equals k ss d n ns)) (cond (eqb x (code "=")) (at (quote k ss d n ns)) dead)

abbrev pub value_next : Read → Quote → ℕ → List (List ℕ) → ℕ → List ℕ → List (List ℕ) → St
value_next bad q k ss d n ns = dead
value_next all q k ss d n ns = at (value q k ss d n ns)
value_next (more p) q k ss d n ns = at (within p q k ss d n ns)

abbrev pub content_next : Read → ℕ → ℕ → List ℕ → List (List ℕ) → St
content_next bad r d n ns = dead
content_next all r d n ns = at (content r d n ns)
content_next (more p) r d n ns = at (part p d n ns)

abbrev pub push : ℕ → List ℕ → List (List ℕ) → ℕ → St
push zero n ns x = dead
push (suc d) n ns x = at (name d (x ∷ []) (n ∷ ns))

abbrev pub close_step : List ℕ → ℕ → List (List ℕ) → ℕ → St
close_step [] d ns x = cond (is_blank x) (at (close [] d ns)) (cond (eqb x (code ">")) (at (after d ns)) dead)
close_step (y ∷ q) d ns x = cond (eqb x y) (at (close q d ns)) dead

abbrev pub declare_next : List ℕ → At
declare_next [] = before
declare_next (y ∷ q) = declare y q

-- "Nesting is at most 16, the root being 1": levels below it
abbrev pub below_root : ℕ
below_root = 15

unfoldable pub next : At → ℕ → St
next done x = cond (is_blank x) (at done) dead
next start x = cond (is_blank x) (at before) (cond (eqb x (code "<")) (at first) dead)
next first x =
    cond (is_name_start x) (at (name below_root (x ∷ []) []))
    (cond (eqb x (code "?")) (at (declare_next (ascii "xml version=\"1.0\" encoding=\"UTF-8\"?>"))) dead)
next before x = cond (is_blank x) (at before) (cond (eqb x (code "<")) (at root) dead)
next root x = cond (is_name_start x) (at (name below_root (x ∷ []) [])) dead
next (declare y q) x = cond (eqb x y) (at (declare_next q)) dead
next (name d n ns) x = cond (is_name_part x) (at (name d (n ++ (x ∷ [])) ns)) (tail_step 4 [] d n ns x)
next (tail k ss d n ns) x = tail_step k ss d n ns x
next (gap k ss d n ns) x = cond (is_name_start x) (gap_step k ss d n ns x) (tail_step k ss d n ns x)
next (attr m b k ss d n ns) x =
    cond (grows m x) (at (attr (goes_to m x) (b ++ (x ∷ [])) k ss d n ns)) (cond (may_stop m) (cond (member b ss) dead (equals_step k (b ∷ ss) d n ns x)) dead)
next (equals k ss d n ns) x = equals_step k ss d n ns x
next (quote k ss d n ns) x =
    cond (is_blank x) (at (quote k ss d n ns))
    (cond (eqb x (code "'")) (at (value single_quote k ss d n ns)) (cond (eqb x (code "\"")) (at (value double k ss d n ns)) dead))
next (value q k ss d n ns) x = cond (eqb x (mark q)) (at (tail k ss d n ns)) (value_next (lead x) q k ss d n ns)
next (within p q k ss d n ns) x = value_next (go_on p x) q k ss d n ns
next (slash d ns) x = cond (eqb x (code ">")) (at (after (suc d) ns)) dead
next (content r d n ns) x =
    cond (eqb x (code "<")) (at (less d n ns))
    (cond (eqb x (code ">") && leb 2 r) dead (content_next (lead x) (cond (eqb x (code "]")) (suc r) 0) d n ns))
next (part p d n ns) x = content_next (go_on p x) 0 d n ns
next (less d n ns) x = cond (is_name_start x) (push d n ns x) (cond (eqb x (code "/")) (at (close n (suc d) ns)) dead)
next (close q d ns) x = close_step q d ns x

unfoldable pub step : St → ℕ → St
step dead x = dead
step (at s) x = next s x

unfoldable pub run : St → List ℕ → St
run st [] = st
run st (x ∷ xs) = run (step st x) xs

abbrev pub is_dead : St → Bool
is_dead dead = true
is_dead (at s) = false

-- the bytes before the first that leads to `dead`
unfoldable pub live_len : St → List ℕ → ℕ
live_len st [] = zero
live_len st (x ∷ xs) = cond (is_dead (step st x)) zero (suc (live_len (step st x) xs))
