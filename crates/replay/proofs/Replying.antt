-- The line for a case, op by op; and that no other fits. Assumes nothing.
use mathlib.Core.Path.{◌≡◌, refl, sym, ◌∙◌, ap, ap₂, subst}
use mathlib.Core.Bool.{Bool, true, false, cond}
use mathlib.Core.List.{List, []}
use Prim.Native.Nat.{ℕ, ◌+◌, ◌≤◌, ◌<◌, zero-le}
use native.Mathlib.Omega.{arith}
use native.Mathlib.Decide.{ℕ_discrete}
use lib.Dec.{eqb}
use lib.ListN.{length, take, drop, length-take}
use borrow.Author.Tests.{eqb-true}
use Rattle.std.specs.Prelude.{Option, Some, None}
use Rattle.io.specs.Counts.{IsPrefixLen}
use Rattle.text.specs.Numbers.{big_endian}
use Rattle.text.proofs.Pasting.{length_pasted}
use Rattle.answer.specs.declared.Answer.{Answer}
use Rattle.answer.specs.Table.{limit}
use Rattle.image_reading.proofs.House.{house_reads_one, house_counts_one, house_picks_one}
use Rattle.image_reading.specs.Reads.{HouseCounts}
use Rattle.file.specs.Checks.{Checks, Finds}
use Rattle.file_letter.specs.Writes.{Writes}
use Rattle.file_letter.proofs.Rooms.{written_alike}
use Rattle.file.proofs.Rooms.{rooms_alike}
use Rattle.file.proofs.answers.House.{accepted_exactly, accepted_image, image_no_longer}
use Rattle.file_letter.specs.Tidies.{Tidies, turned_away, handed_on}
use Rattle.file_letter.proofs.Tidying.{tidied_fits, tidied_alike}
use Rattle.program_feed.specs.declared.case.Ask.{Ask}
use Rattle.program_feed.specs.declared.case.Ask.TheVariants.{Check, Read, Pick, Write, Count, Tidy}
use Rattle.program_feed.specs.declared.case.Case.{Case}
use Rattle.program_feed.specs.Cases.{longest, case, case_of, size_of, case_in, bytes_in}
use Rattle.program_reply.specs.Reply.{answer_line, pair_line, broken_line, held_length, Put}
use Rattle.program_feed.proofs.Heads.{whole, Roomy, Kept, kept}
use Rattle.program_held.proofs.Holding.{held_none, held_some}
use Rattle.program_reply.proofs.Replies.{put_told, put_length, put_taken}
use Rattle.program_line.proofs.Lines.{counts}
use Rattle.replay.specs.Replies.{held_by, ImageHeld, Filled, Checked, Measured, Tallied, Picked, Written, Tidied, Replies, checked, measured, tallied, picked, written, tidied, broken}

-- ---- what check holds in a buffer, by the file's size alone

module _ (s d : List ℕ) (a : Answer) (d' : List ℕ) (q : Checks s d a d') (b : Answer) (f : Finds s b) where
  -- an accepted file with room for its image is accepted with that length
  finds_accepts : b.code ≡ 0 → b.place ≤ length d → a ≡ b
  finds_accepts z h =
      let x = f.roomy s (omega arith) in
      let g = (accepted_exactly s s b x.0 x.1).0 z in
      let i = (accepted_image s s b x.0 x.1 g.0 g.1 g.2 g.3).0 in
      (accepted_image s d a d' q g.0 g.1 g.2 (omega (arith, h, ap (λ (y : Answer). y.place) i))).0 ∙ sym i

  -- and no other
  finds_not : a.code ≡ 0 → (b.code ≡ 0) × (b.place ≤ length d)
  finds_not z =
      let x = f.roomy s (omega arith) in
      let g = (accepted_exactly s d a d' q).0 z in
      let i = (accepted_image s s b x.0 x.1 g.0 g.1 g.2 (image_no_longer s g.0 g.1 g.2)).0 in
      (ap (λ (y : Answer). y.code) i, omega (arith, g.3, ap (λ (y : Answer). y.place) i))

  pub image_fits : held_length b ≤ length d → held_length b ≡ held_length a
  image_fits h =
      elim (ℕ_discrete b.code 0) [
        | yes z ↦ ap (λ (x : Answer). held_length x) (sym (finds_accepts z (omega (arith, h, held_some b z))))
        | no n ↦ sym (held_none b n) ∙ held_none a (λ z. n (finds_not z).0)
      ]

  pub image_over : length d < held_length b → 0 ≡ held_length a
  image_over h = held_none a (λ z. omega (arith, h, (finds_not z).1, held_some b (finds_not z).0))

-- what tidying leaves in the first buffer is what check leaves
pub tidies_checks : (s d e : List ℕ) (a : Answer) (d' e' : List ℕ) → Tidies s d e a d' e' → (b : Answer) × Checks s d b d'
tidies_checks s d e a d' e' (turned_away p n g) = (a, p)
tidies_checks s d e a d' e' (handed_on b p z w) = (b, p)

-- and what stands in the second fits there
pub tidied_room : (s d e : List ℕ) (a : Answer) (d' e' : List ℕ) → Tidies s d e a d' e' → held_length a ≤ length e
tidied_room s d e a d' e' t =
    elim (ℕ_discrete a.code 0) [
      | yes z ↦ omega (arith, tidied_fits s d e a d' e' t z, held_some a z)
      | no n ↦ omega (arith, held_none a n)
    ]

-- ---- what stands there of a case

module _ (s : List ℕ) (c : Case) (e : Some c ≡ case_in s) where
  there : 13 + c.size ≤ length s
  there = (whole s c e).1

  keeps : Kept (Some c)
  keeps = subst Kept (whole s c e).0 (kept s)

  pub case_there : (13 + c.size ≤ length s) × (c.size ≤ longest)
  case_there = (there, keeps.0)

  -- what it asks for
  module _ {a : Ask} (f : c.ask ≡ a) where
    pub roomy : Roomy a
    roomy = subst Roomy f keeps.1

    pub asked : case_in s ≡ Some (case a c.size)
    asked = sym e ∙ ap (λ (x : Ask). Some (case x c.size)) f

-- of a head that asks for nothing there are none
pub size_most : (s : List ℕ) (o : Option Case) (n : ℕ) → o ≡ case_of s → n ≡ size_of o → n ≤ longest
size_most s o n e f = omega (arith, f, go o (subst Kept (sym e) (kept s)))
  where
    go : (x : Option Case) → Kept x → size_of x ≤ longest
    go None w = zero-le
    go (Some c) w = w.0

pub bytes_most : (s b : List ℕ) (size : ℕ) → b ≡ bytes_in size s → size ≤ longest → length b ≤ longest
bytes_most s b size e h = omega (arith, ap length e, length-take size (drop 13 s))

pub take_most : (n : ℕ) (xs : List ℕ) (k : ℕ) → n ≤ k → length (take n xs) ≤ k
take_most n xs k h = omega (arith, length-take n xs)

-- ---- a line that fits

pub put_fitting : (l d : List ℕ) {r : Option ℕ} {after : List ℕ} → length l ≤ length d → Put l d r after → (n : ℕ) → r ≡ Some n → (take n after ≡ l) × IsPrefixLen n after
put_fitting l d {r} {after} h p n e =
    (put_taken l d r after h p n e, counts n after (omega (arith, put_length l d r after h p n e, ap length p.buffer, length_pasted d 0 l)))

-- a tidying: the answer's line with what stands in either buffer
module _ (s d e d' e' : List ℕ) (a : Answer) (t : Tidies s d e a d' e') (room m n : ℕ) (h : ImageHeld s room m) (k : n ≡ held_length a) where
  pub put_tidied : length d ≡ room → (l : List ℕ) → l ≡ pair_line a (take m d') (take n e') → Tidied s d e d' e' l
  put_tidied i l g =
      let q = tidies_checks s d e a d' e' t in
      let f : m ≡ held_length q.0 = h d q.0 d' i q.1 in
      record { answer = a; tidies = t; checked = q.0; checks = q.1; line = g ∙ ap₂ (λ (j u : ℕ). pair_line a (take j d') (take u e')) f k }

  pub tidied_long : m ≤ limit → n ≤ limit → length (pair_line a (take m d') (take n e')) ≤ 65 + (length (take m d') + length (take m d')) + (length (take n e') + length (take n e')) → length (pair_line a (take m d') (take n e')) ≤ 4194369
  tidied_long x y w = omega (arith, w, take_most m d' limit x, take_most n e' limit y)

-- what a call puts for a case is the case's line: b are its bytes, l is the line
module _ (s : List ℕ) (k : ℕ) (c : Case) (e : Some c ≡ case_in s) (b : List ℕ) (i : b ≡ bytes_in c.size s) (l : List ℕ) where
  pub put_check : (room : ℕ) → c.ask ≡ Check room → (d d' : List ℕ) → length d ≡ room → Checked b d d' l → Replies s k l
  put_check room f d d' n p = checked room c.size (asked s c e f) d d' n (subst (λ (x : List ℕ). Checked x d d' l) i p)

  pub put_read : c.ask ≡ Read → Measured b l → Replies s k l
  put_read f p = measured c.size (asked s c e f) (subst (λ (x : List ℕ). Measured x l) i p)

  pub put_pick : (row n : ℕ) → c.ask ≡ Pick row n → Picked b row n l → Replies s k l
  put_pick row n f p = picked row n c.size (asked s c e f) (subst (λ (x : List ℕ). Picked x row n l) i p)

  pub put_write : (room : ℕ) → c.ask ≡ Write room → (d d' : List ℕ) → length d ≡ room → Written b d d' l → Replies s k l
  put_write room f d d' n p = written room c.size (asked s c e f) d d' n (subst (λ (x : List ℕ). Written x d d' l) i p)

  pub put_count : c.ask ≡ Count → Tallied b l → Replies s k l
  put_count f p = tallied c.size (asked s c e f) (subst (λ (x : List ℕ). Tallied x l) i p)

  pub put_tidy : (room space : ℕ) → c.ask ≡ Tidy room space → (d g d' g' : List ℕ) → length d ≡ room → length g ≡ space → Tidied b d g d' g' l → Replies s k l
  put_tidy room space f d g d' g' m n p = tidied room space c.size (asked s c e f) d g d' g' m n (subst (λ (x : List ℕ). Tidied x d g d' g' l) i p)

-- ---- only one line fits

-- two calls with one answer, and one beginning of their buffers where it is accepted
abbrev Alike : Answer → Answer → List ℕ → List ℕ → Type 0
Alike a b d e = (a ≡ b) × (a.code ≡ 0 → take a.place d ≡ take b.place e)

held_one : (a b : Answer) (d e : List ℕ) → Alike a b d e → held_by a d ≡ held_by b e
held_one a b d e o = go (eqb a.code 0) refl
  where
    other : eqb b.code 0 ≡ eqb a.code 0
    other = ap (λ (x : Answer). eqb x.code 0) (sym o.0)

    go : (t : Bool) → eqb a.code 0 ≡ t → held_by a d ≡ held_by b e
    go true h = rw (h, other ∙ h) (o.1 (eqb-true a.code 0 h))
    go false h = rw (h, other ∙ h)

filled_one : (P Q : Answer → List ℕ → Type 0) (d e l m : List ℕ) → ((a b : Answer) → P a d → Q b e → Alike a b d e) → Filled P d l → Filled Q e m → l ≡ m
filled_one P Q d e l m f p q =
    let o = f p.answer q.answer p.called q.called in
    p.line ∙ ap₂ answer_line o.0 (held_one p.answer q.answer d e o) ∙ sym q.line

module _ (s : List ℕ) where
  read_one : (l m : List ℕ) → Measured s l → Measured s m → l ≡ m
  read_one l m p q =
      p.line ∙ ap (λ (x : Answer). answer_line x []) (house_reads_one s p.answer q.answer p.reads q.reads) ∙ sym q.line

  count_one : (l m : List ℕ) → Tallied s l → Tallied s m → l ≡ m
  count_one l m p q =
      let e = house_reads_one s p.answer q.answer p.reads q.reads in
      let n = house_counts_one s q.answer p.count q.count (subst (λ (a : Answer). HouseCounts s a p.count) e p.counts) q.counts in
      p.line ∙ ap₂ (λ (x : Answer) (k : ℕ). answer_line x (big_endian 4 k)) e n ∙ sym q.line

  pick_one : (row n : ℕ) (l m : List ℕ) → Picked s row n l → Picked s row n m → l ≡ m
  pick_one row n l m p q =
      let o = house_picks_one s row n p.answer q.answer p.part q.part p.picks q.picks in
      p.line ∙ ap₂ answer_line o.0 o.1 ∙ sym q.line

-- a tidying: the answer and both buffers' beginnings are one
tidy_one : (s d e d' e' g h g' h' l m : List ℕ) → length d ≡ length g → length e ≡ length h → Tidied s d e d' e' l → Tidied s g h g' h' m → l ≡ m
tidy_one s d e d' e' g h g' h' l m i j p q =
    let o = tidied_alike s d g e h i j p.answer q.answer d' e' g' h' p.tidies q.tidies in
    let c = rooms_alike s d g i p.checked q.checked d' g' p.checks q.checks in
    p.line
    ∙ ap (λ (x : Answer). pair_line x (held_by p.checked d') (held_by p.answer e')) o.0
    ∙ ap₂ (pair_line q.answer) (held_one p.checked q.checked d' g' c) (held_one p.answer q.answer e' h' o)
    ∙ sym q.line

-- what a case asks of its line
abbrev Asked : List ℕ → ℕ → List ℕ → Ask → Type 0
Asked s size l (Check room) = (d : List ℕ) × (d' : List ℕ) × (length d ≡ room) × Checked (bytes_in size s) d d' l
Asked s size l Read = Measured (bytes_in size s) l
Asked s size l (Pick row n) = Picked (bytes_in size s) row n l
Asked s size l (Write room) = (d : List ℕ) × (d' : List ℕ) × (length d ≡ room) × Written (bytes_in size s) d d' l
Asked s size l Count = Tallied (bytes_in size s) l
Asked s size l (Tidy room space) =
    (d : List ℕ) × (e : List ℕ) × (d' : List ℕ) × (e' : List ℕ) × (length d ≡ room) × (length e ≡ space) × Tidied (bytes_in size s) d e d' e' l

abbrev Asks : List ℕ → ℕ → List ℕ → Option Case → Type 0
Asks s k l None = l ≡ broken_line k
Asks s k l (Some c) = Asked s c.size l c.ask

asks : (s : List ℕ) (k : ℕ) (l : List ℕ) → Replies s k l → Asks s k l (case_in s)
asks s k l (checked r z e d d' n p) = subst (Asks s k l) (sym e) (d, d', n, p)
asks s k l (measured z e p) = subst (Asks s k l) (sym e) p
asks s k l (picked w n z e p) = subst (Asks s k l) (sym e) p
asks s k l (written r z e d d' n p) = subst (Asks s k l) (sym e) (d, d', n, p)
asks s k l (tallied z e p) = subst (Asks s k l) (sym e) p
asks s k l (tidied r x z q d e d' e' m n p) = subst (Asks s k l) (sym q) (d, e, d', e', m, n, p)
asks s k l (broken e q) = subst (Asks s k l) (sym e) q

asked_one : (s : List ℕ) (z : ℕ) (l m : List ℕ) (a : Ask) → Asked s z l a → Asked s z m a → l ≡ m
asked_one s z l m (Check r) (d, d', n, p) (e, e', i, q) =
    filled_one (Checks (bytes_in z s) d) (Checks (bytes_in z s) e) d' e' l m (λ a b. rooms_alike (bytes_in z s) d e (n ∙ sym i) a b d' e') p q
asked_one s z l m Read p q = read_one (bytes_in z s) l m p q
asked_one s z l m (Pick w n) p q = pick_one (bytes_in z s) w n l m p q
asked_one s z l m (Write r) (d, d', n, p) (e, e', i, q) =
    filled_one (Writes (bytes_in z s) d) (Writes (bytes_in z s) e) d' e' l m (λ a b. written_alike d e (n ∙ sym i) (bytes_in z s) a b d' e') p q
asked_one s z l m Count p q = count_one (bytes_in z s) l m p q
asked_one s z l m (Tidy r x) (d, e, d', e', i, j, p) (g, h, g', h', u, v, q) =
    tidy_one (bytes_in z s) d e d' e' g h g' h' l m (i ∙ sym u) (j ∙ sym v) p q

asks_one : (s : List ℕ) (k : ℕ) (l m : List ℕ) (c : Option Case) → Asks s k l c → Asks s k m c → l ≡ m
asks_one s k l m None p q = p ∙ sym q
asks_one s k l m (Some c) p q = asked_one s c.size l m c.ask p q

pub replies_one : (s : List ℕ) (k : ℕ) (l m : List ℕ) → Replies s k l → Replies s k m → l ≡ m
replies_one s k l m p q = asks_one s k l m (case_in s) (asks s k l p) (asks s k m q)
