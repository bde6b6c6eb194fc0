-- `]]>` by counting: how many `]` stand directly before a piece. Assumes nothing.
use mathlib.Core.Path.{◌≡◌, refl, sym, ◌∙◌}
use mathlib.Core.Bool.{Bool, true, false, cond, ◌&&◌, ◌||◌}
use Prim.Native.Nat.{ℕ, zero, suc}
use native.Mathlib.Omega.{arith}
use lib.Dec.{leb, eqb}
use borrow.Author.Tests.{eqb-true, ne_eqb, le-leb, lt-leb, leb-true, leb-false}
use Rattle.text_characters.specs.Pieces.{Piece, char, entity, GoodPiece}
use Rattle.text.specs.Bytes.{is_blank}
use Rattle.text.specs.Lists.{All}
use Rattle.text.proofs.Classes.{or_not}
use Rattle.xml.specs.House.{GoodTag, Markup, no_more, piece, empty_tag, full, GoodMarkup}
use Rattle.xml.proofs.Cuts.{begins, following, is_cut, no_cut, cut_no}

abbrev pub cuts : ℕ → Piece → Bool
cuts r (char c) = eqb c 62 && leb 2 r
cuts r (entity e) = false

abbrev pub brackets : ℕ → Piece → ℕ
brackets r (char c) = cond (eqb c 93) (suc r) 0
brackets r (entity e) = 0

-- good with d levels left, after r brackets
abbrev pub GoodAfter : ℕ → ℕ → Markup → Type 0
GoodAfter d r no_more = Unit {0}
GoodAfter d r (piece p k) = GoodPiece p × (cuts r p ≡ false) × GoodAfter d (brackets r p) k
GoodAfter zero r (empty_tag t k) = ⊥
GoodAfter (suc d) r (empty_tag t k) = GoodTag t × GoodAfter (suc d) 0 k
GoodAfter zero r (full t i g k) = ⊥
GoodAfter (suc d) r (full t i g k) = GoodTag t × GoodAfter d 0 i × All is_blank g × GoodAfter (suc d) 0 k

-- `]]>` begins at one of the r brackets before
abbrev ends : ℕ → Markup → Bool
ends r c = (leb 2 r && begins 62 c) || (leb 1 r && (begins 93 c && begins 62 (following c)))

leb_suc : (r : ℕ) → leb 2 (suc r) ≡ leb 1 r
leb_suc r = go (leb 1 r) refl
  where
    go : (b : Bool) → leb 1 r ≡ b → leb 2 (suc r) ≡ b
    go true e = let h = leb-true 1 r e in le-leb 2 (suc r) (omega arith)
    go false e = let h = leb-false 1 r e in lt-leb 2 (suc r) (omega arith)

-- tests in another order
swap : (x y z : Bool) → (x || ((y && false) || z)) ≡ (z || x)
swap true true true = refl
swap true true false = refl
swap true false true = refl
swap true false false = refl
swap false true true = refl
swap false true false = refl
swap false false true = refl
swap false false false = refl

same : (x y z : Bool) → ((x && y) || (z && false)) ≡ ((y && x) || false)
same true true true = refl
same true true false = refl
same true false true = refl
same true false false = refl
same false true true = refl
same false true false = refl
same false false true = refl
same false false false = refl

none : (x y : Bool) → ((x && false) || (y && false)) ≡ false
none true true = refl
none true false = refl
none false true = refl
none false false = refl

turn : (r : ℕ) (p : Piece) (k : Markup) → (is_cut (piece p k) || ends r (piece p k)) ≡ (cuts r p || ends (brackets r p) k)
turn r (entity e) k = none (leb 2 r) (leb 1 r)
turn r (char c) k = go (eqb c 93) refl
  where
    x : Bool
    x = begins 93 k && begins 62 (following k)

    go : (b : Bool) → eqb c 93 ≡ b
        → ((b && x) || ((leb 2 r && eqb c 62) || (leb 1 r && (b && begins 62 k)))) ≡ ((eqb c 62 && leb 2 r) || ends (cond b (suc r) 0) k)
    go true e =
        let f : c ≡ 93 = eqb-true c 93 e in
        rw (ne_eqb c 62 (omega arith), leb_suc r, le-leb 1 (suc r) (omega arith)) (swap x (leb 2 r) (leb 1 r && begins 62 k))
    go false e = same (leb 2 r) (eqb c 62) (leb 1 r)

or_in : (a b : Bool) → a ≡ false → b ≡ false → (a || b) ≡ false
or_in a b e f = rw (e, f) refl

after_good : (c : Markup) (d r : ℕ) → GoodMarkup d c → ends r c ≡ false → GoodAfter d r c
after_good no_more d r g e = tt
after_good (piece p k) d r g e =
    let w = or_not (cuts r p) (ends (brackets r p) k) (sym (turn r p k) ∙ or_in (is_cut (piece p k)) (ends r (piece p k)) (cut_no (piece p k) g.1) e) in
    (g.0, w.0, after_good k d (brackets r p) g.2 w.1)
after_good (empty_tag t k) zero r g e = absurd g
after_good (empty_tag t k) (suc d) r g e = (g.0, after_good k (suc d) 0 g.1 refl)
after_good (full t i b k) zero r g e = absurd g
after_good (full t i b k) (suc d) r g e = (g.0, after_good i d 0 g.1 refl, g.2, after_good k (suc d) 0 g.3 refl)

good_after : (c : Markup) (d r : ℕ) → GoodAfter d r c → GoodMarkup d c × (ends r c ≡ false)
good_after no_more d r g = (tt, none (leb 2 r) (leb 1 r))
good_after (piece p k) d r g =
    let ih = good_after k d (brackets r p) g.2 in
    let w = or_not (is_cut (piece p k)) (ends r (piece p k)) (turn r p k ∙ or_in (cuts r p) (ends (brackets r p) k) g.1 ih.1) in
    ((g.0, no_cut (piece p k) w.0, ih.0), w.1)
good_after (empty_tag t k) zero r g = absurd g
good_after (empty_tag t k) (suc d) r g = ((g.0, (good_after k (suc d) 0 g.1).0), none (leb 2 r) (leb 1 r))
good_after (full t i b k) zero r g = absurd g
good_after (full t i b k) (suc d) r g = ((g.0, (good_after i d 0 g.1).0, g.2, (good_after k (suc d) 0 g.3).0), none (leb 2 r) (leb 1 r))

-- the two ways of saying it agree
pub to_after : (c : Markup) (d : ℕ) → GoodMarkup d c → GoodAfter d 0 c
to_after c d g = after_good c d 0 g refl

pub from_after : (c : Markup) (d : ℕ) → GoodAfter d 0 c → GoodMarkup d c
from_after c d g = (good_after c d 0 g).0
