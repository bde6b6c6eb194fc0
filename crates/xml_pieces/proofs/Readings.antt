-- A piece read a byte at a time is gone over. Assumes nothing.
use mathlib.Core.Path.{◌≡◌, refl, sym, ◌∙◌, ap}
use mathlib.Core.Bool.{Bool, true, false, true≢false}
use mathlib.Core.List.{List, [], ◌∷◌}
use Prim.Native.Nat.{ℕ, zero, suc, ◌+◌, ◌≤◌}
use native.Mathlib.Nat.{le_of_suc-le-suc}
use native.Mathlib.Omega.{arith}
use lib.ListN.{length, take}
use lib.Seq.{length-take-le}
use Rattle.text_characters.specs.Pieces.{Piece, char, spell}
use Rattle.xml.specs.mirror.Auto.{Part, Read, bad, all, more, lead, go_on, takes, part}
use Rattle.xml.proofs.Pieces.{short, found, Seen, s_short, s_long, seen}
use Rattle.xml.proofs.Lang.{live}
use Rattle.xml_pieces.specs.Over.{Ends, Begun, Over}
use Rattle.xml_pieces.specs.Kinds.{IsPiece}
use Rattle.xml_pieces.specs.mirror.Reading.{told, reading}
use Rattle.xml_pieces.proofs.Overs.{Lone, over_one, over_end, over_dead, over_last, over_byte, over_as}
use Rattle.std.specs.Prelude.{Result}
use Rattle.xml_pieces.specs.declared.Stopped.{Stopped}

-- the bytes are just a construct, where f says what its first byte does
abbrev takes_by : (ℕ → Read) → List ℕ → Bool
takes_by f [] = false
takes_by f (x ∷ l) = takes l (f x)

abbrev Taken : (ℕ → Read) → List ℕ → Type 0
Taken f l = takes_by f l ≡ true

takes_by_lem : (p : Part) (l : List ℕ) → takes l (more p) ≡ takes_by (go_on p) l
takes_by_lem p [] = refl
takes_by_lem p (x ∷ l) = refl

takes_bad : (l : List ℕ) → takes l bad ≡ true → ⊥
takes_bad [] e = true≢false (sym e)
takes_bad (x ∷ l) e = true≢false (sym e)

takes_all : (l : List ℕ) → takes l all ≡ true → l ≡ []
takes_all [] e = refl
takes_all (x ∷ l) e = absurd (true≢false (sym e))

-- ---- what is read is what is taken

-- every part can be finished
part_live : (p : Part) → Begun (Taken (go_on p)) []
part_live p = let w = (live (part p 0 [] [])).1 in (w.bytes, sym (takes_by_lem p w.bytes) ∙ w.ok)

none_taken : (f : ℕ → Read) → Taken f [] → ⊥
none_taken f e = true≢false (sym e)

reading_over : (t : List ℕ) (f : ℕ → Read) (i : ℕ) → Begun (Taken f) [] → Over (Taken f) t i (reading f t i)
unfolding reading
reading_over [] f i b = over_end (Taken f) b (none_taken f) i
reading_over (x ∷ t) f i b = go (f x) refl (λ p. reading_over t (go_on p) (i + 1) (part_live p))
  where
    go : (u : Read) → f x ≡ u → ((p : Part) → Over (Taken (go_on p)) t (i + 1) (reading (go_on p) t (i + 1)))
        → Over (Taken f) (x ∷ t) i (told u i (λ p. reading (go_on p) t (i + 1)))
    go bad e h = over_dead (Taken f) b (none_taken f) x t i (λ l k. takes_bad l (sym (ap (takes l) e) ∙ k))
    go all e h = over_last (Taken f) x t i (ap (takes []) e)
    go (more p) e h =
        over_byte (Taken f) (Taken (go_on p)) x (λ l k. ap (takes l) e ∙ takes_by_lem p l ∙ k) (λ l k. sym (ap (takes l) e ∙ takes_by_lem p l) ∙ k)
        (none_taken f) t i (reading (go_on p) t (i + 1)) (h p)

taken_lone : (t : List ℕ) (f : ℕ → Read) (m n : ℕ) → Ends (Taken f) t m → Ends (Taken f) t n → m ≡ n
taken_lone t f zero n p q = absurd (true≢false (sym p.is))
taken_lone t f (suc m) zero p q = absurd (true≢false (sym q.is))
taken_lone [] f (suc m) (suc n) p q = absurd (omega (arith, p.within))
taken_lone (x ∷ t) f (suc m) (suc n) p q =
    ap suc (go (f x) refl (λ z. taken_lone t (go_on z) m n))
  where
    a : m ≤ length t
    a = le_of_suc-le-suc p.within

    b : n ≤ length t
    b = le_of_suc-le-suc q.within

    go : (u : Read) → f x ≡ u → ((z : Part) → Ends (Taken (go_on z)) t m → Ends (Taken (go_on z)) t n → m ≡ n) → m ≡ n
    go bad e h = absurd (takes_bad (take m t) (sym (ap (takes (take m t)) e) ∙ p.is))
    go all e h =
        let u : length (take m t) ≡ 0 = ap length (takes_all (take m t) (sym (ap (takes (take m t)) e) ∙ p.is)) in
        let v : length (take n t) ≡ 0 = ap length (takes_all (take n t) (sym (ap (takes (take n t)) e) ∙ q.is)) in
        omega (arith, length-take-le m t a, length-take-le n t b)
    go (more z) e h =
        h z (record { within = a; is = sym (ap (takes (take m t)) e ∙ takes_by_lem z (take m t)) ∙ p.is })
        (record { within = b; is = sym (ap (takes (take n t)) e ∙ takes_by_lem z (take n t)) ∙ q.is })

-- ---- a piece is what a first byte begins

to_piece : (l : List ℕ) → Taken lead l → IsPiece l
to_piece [] k = absurd (true≢false (sym k))
to_piece (x ∷ l) k = go (lead x) refl
  where
    go : (u : Read) → lead x ≡ u → IsPiece (x ∷ l)
    go bad e = absurd (takes_bad l (sym (ap (takes l) e) ∙ k))
    go all e =
        let w = short x e in
        record { piece = char x; good = w.good; is = ap (λ (m : List ℕ). x ∷ m) (takes_all l (sym (ap (takes l) e) ∙ k)) ∙ sym w.is }
    go (more p) e = let w = found x p l e (sym (ap (takes l) e) ∙ k) in record { piece = w.piece; good = w.good; is = sym w.is }

taken_piece : (p : Piece) → Seen p → Taken lead (spell p)
taken_piece p (s_short c e k n) = ap (λ (q : Piece). takes_by lead (spell q)) e ∙ ap (takes_by lead) n ∙ ap (takes []) k
taken_piece p (s_long g x l m e k o) = ap (takes_by lead) e ∙ ap (takes l) k ∙ o

from_piece : (l : List ℕ) → IsPiece l → Taken lead l
from_piece l w = ap (takes_by lead) w.is ∙ taken_piece w.piece (seen w.piece w.good)

-- some piece there is
a_piece : Begun (Taken lead) []
unfolding lead
a_piece = (32 ∷ [], refl)

-- over a piece by reading it
pub piece_over : (t : List ℕ) (i : ℕ) → Over IsPiece t i (reading lead t i)
piece_over t i = over_as (Taken lead) IsPiece to_piece from_piece t i (reading lead t i) (reading_over t lead i a_piece)

-- only one answer fits
pub piece_one : (t : List ℕ) (i : ℕ) (a b : Result ℕ Stopped) → Over IsPiece t i a → Over IsPiece t i b → a ≡ b
piece_one t i a b p q = over_one IsPiece lone t i a b p q
  where
    lone : Lone IsPiece
    lone t m n p q =
        taken_lone t lead m n (record { within = p.within; is = from_piece (take m t) p.is })
        (record { within = q.within; is = from_piece (take n t) q.is })

-- and it is this
pub piece_is : (t : List ℕ) (i : ℕ) (r : Result ℕ Stopped) → Over IsPiece t i r → r ≡ reading lead t i
piece_is t i r h = piece_one t i r (reading lead t i) h (piece_over t i)
