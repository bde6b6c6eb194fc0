-- A mirror: how the reader and the picker go over a run, whatever the tables say. Assumes nothing.
use Rattle.std.specs.Prelude.{◌≡◌, ◌≢◌, ◌⊎◌, true, false, cond, List, [], ℕ, suc, ◌+◌, ◌-◌, ◌≤◌, ◌<◌, leb, eqb, length, get_or}
use Rattle.std.proofs.Math.Seq.{slice}
use Rattle.answer.specs.declared.Answer.{Answer}
use Rattle.answer.specs.Table.{accepted, picked, broken_image, no_such_leaf}
use Rattle.list.specs.tables.Columns.{KIND, CCY}
use Rattle.list.specs.tables.Table.{cell}
use Rattle.image.specs.mirror.Step.{is_leaf, follows, ended}

-- a result, or on to other numbers
pub data Turn (A : Type 0) : Type 0 where
  stop : A → Turn A
  next : ℕ → ℕ → Turn A

-- turn by turn, from two numbers on, to a result
pub data Comes {A : Type 0} (turn : ℕ → ℕ → Turn A) (a : A) : ℕ → ℕ → Type 0 where
  halts : {q i : ℕ} → turn q i ≡ stop a → Comes turn a q i
  moves : {q i : ℕ} (x j : ℕ) → turn q i ≡ next x j → Comes turn a x j → Comes turn a q i

-- how many turns go on
abbrev pub steps : {A : Type 0} {turn : ℕ → ℕ → Turn A} {a : A} {q i : ℕ} → Comes turn a q i → ℕ
steps (halts e) = 0
steps (moves x j e g) = suc (steps g)

-- an answer that accepts has met the closing 0
unfoldable pub closing : Answer → ℕ
closing a = cond (eqb a.code 0) 1 0

-- the bytes before a value's own, by the number of its kind
unfoldable pub head_of : List ℕ → ℕ → ℕ
head_of t r = cond (leb (cell t r KIND) CCY) 2 0

-- t is the first table; `fin x i` is the end of the value of row x at i, 0 where none stands there; s is the run
module _ (t : List ℕ) (fin : ℕ → ℕ → ℕ) (s : List ℕ) where
  -- at i, after an item of row q
  unfoldable pub turn : ℕ → ℕ → Turn Answer
  turn q i =
      cond (leb (length s) i) (stop (broken_image i))
      (cond (eqb (get_or s i 0) 0) (cond (ended t q) (stop (accepted (i + 1))) (stop (broken_image i)))
      (cond (follows t q (get_or s i 0))
      (cond (eqb (fin (get_or s i 0) (i + 1)) 0) (stop (broken_image i)) (next (get_or s i 0) (fin (get_or s i 0) (i + 1))))
      (stop (broken_image i))))

  abbrev pub Goes : Answer → ℕ → ℕ → Type 0
  Goes a q i = Comes turn a q i

  -- from after the root on, with the items so far: the root's, one for each turn that goes on, the closing 0
  pub record Took (from : ℕ) (a : Answer) (n : ℕ) : Type 0 where
    pub goes : Goes a 1 from
    pub many : n ≡ suc (steps goes) + closing a

  -- from a place on: the root's row byte, and on from there
  pub data Behind (from : ℕ) (a : Answer) (n : ℕ) : Type 0 where
    rootless : (length s ≤ from) ⊎ (get_or s from 0 ≢ 1) → a ≡ broken_image from → n ≡ 0 → Behind from a n
    rooted : from < length s → get_or s from 0 ≡ 1 → Took (from + 1) a n → Behind from a n

  -- for a leaf of row r: at i, when n such leaves are to be passed; the place of the value, 0 where there is none
  unfoldable pub hunt : ℕ → ℕ → ℕ → Turn ℕ
  hunt r n i =
      cond (leb (length s) i) (stop 0)
      (cond (eqb (get_or s i 0) 0) (stop 0)
      (cond (eqb (fin (get_or s i 0) (i + 1)) 0) (stop 0)
      (cond (eqb (get_or s i 0) r) (cond (eqb n 0) (stop (i + 1)) (next (n - 1) (fin (get_or s i 0) (i + 1)))) (next n (fin (get_or s i 0) (i + 1))))))

  -- from the root's row byte on
  pub data Finds (from r n p : ℕ) : Type 0 where
    groups : is_leaf t r ≡ false → p ≡ 0 → Finds from r n p
    leaves : is_leaf t r ≡ true → Comes (hunt r) p n from → Finds from r n p

  -- the picker's answer and its part
  pub data Chooses (from r n : ℕ) (a : Answer) (part : List ℕ) : Type 0 where
    missing : Finds from r n 0 → a ≡ no_such_leaf → part ≡ [] → Chooses from r n a part
    found : (p : ℕ) → 0 < p → Finds from r n p → a ≡ picked r (p + head_of t r) → part ≡ slice (p + head_of t r) (fin r p) s → Chooses from r n a part

-- what the two calls of the picker say: there is a part to the answer, an answer to the part
pub record Answered (t : List ℕ) (fin : ℕ → ℕ → ℕ) (s : List ℕ) (from r n : ℕ) (a : Answer) : Type 0 where
  pub part : List ℕ
  pub chooses : Chooses t fin s from r n a part

pub record Handed (t : List ℕ) (fin : ℕ → ℕ → ℕ) (s : List ℕ) (from r n : ℕ) (part : List ℕ) : Type 0 where
  pub answer : Answer
  pub chooses : Chooses t fin s from r n answer part
