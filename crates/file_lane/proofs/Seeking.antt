-- The first tag that is matched, from a node on. Assumes nothing.
use mathlib.Core.Path.{◌≡◌, sym, ◌∙◌, ap, ap₂, subst}
use mathlib.Core.Bool.{Bool, ◌&&◌}
use mathlib.Core.List.{List}
use Prim.Native.Nat.{ℕ, ◌+◌, ◌*◌, ◌/◌, ◌%◌, ◌<◌}
use native.Mathlib.Omega.{arith}
use lib.Dec.{eqb}
use lib.Bits.{bit_and}
use lib.ListN.{length, get_or, drop}
use lib.Seq.{get_or-drop}
use borrow.Author.Tests.{eqb-true, eq-eqb}
use Rattle.text.proofs.Classes.{and_is}
use Rattle.value.specs.Judged.{Exactly}
use Rattle.file_nodes.specs.Run.{Node}
use Rattle.file_nodes.specs.mirror.Kept.{In, Tabled}
use Rattle.file_lane.specs.mirror.Turn.{Matches, other_in, Sought, here, beside}

match_exactly : (t : List ℕ) (k x y : ℕ) → Exactly (eqb (bit_and x (get_or t (k + 1) 0)) (get_or t k 0) && eqb (bit_and y (get_or t (k + 3) 0)) (get_or t (k + 2) 0)) (Matches t k x y)
match_exactly t k x y = (
  (λ e.
      let a = and_is (eqb (bit_and x (get_or t (k + 1) 0)) (get_or t k 0)) (eqb (bit_and y (get_or t (k + 3) 0)) (get_or t (k + 2) 0)) e in
      record { first = eqb-true (bit_and x (get_or t (k + 1) 0)) (get_or t k 0) a.0; second = eqb-true (bit_and y (get_or t (k + 3) 0)) (get_or t (k + 2) 0) a.1 }),
  (λ m. ap₂ ◌&&◌ (eq-eqb (bit_and x (get_or t (k + 1) 0)) (get_or t k 0) m.first) (eq-eqb (bit_and y (get_or t (k + 3) 0)) (get_or t (k + 2) 0) m.second)),
)

pub match_told : (t : List ℕ) (k x y : ℕ) (r : Bool) → r ≡ (eqb (bit_and x (get_or t (k + 1) 0)) (get_or t k 0) && eqb (bit_and y (get_or t (k + 3) 0)) (get_or t (k + 2) 0)) → Exactly r (Matches t k x y)
match_told t k x y r e = subst (λ (b : Bool). Exactly b (Matches t k x y)) (sym e) (match_exactly t k x y)

-- a node's number of many parts, in the table
pub info_at : (t : List ℕ) (n : ℕ) → get_or (drop (11 * n) t) 4 0 ≡ get_or t (11 * n + 4) 0
info_at t n = get_or-drop (11 * n) t 4 0

pub other_at : (t : List ℕ) (at : ℕ → Node) (n : ℕ) → Tabled t at → In t n → other_in t n ≡ (at n).other
other_at t at n b h = ap (λ (i : ℕ). i / 16777216 % 256) (sym (info_at t n)) ∙ (b.kept n h).other

-- what is sought from n on is sought from the start
pub record Seeks (t : List ℕ) (x y from n : ℕ) : Type 0 where
  pub on : (r : ℕ) → Sought t x y n r → Sought t x y from r

pub seek_start : (t : List ℕ) (x y from : ℕ) → Seeks t x y from from
seek_start t x y from = record { on = λ r s. s }

pub seek_found : (t : List ℕ) (x y from n : ℕ) → length t ≡ 1045 → n < 95 → Seeks t x y from n → Matches t (11 * n) x y → 0 < n → Sought t x y from n × In t n
seek_found t x y from n l h s m z = (s.on n (here m), (omega arith, omega arith))

-- a later node
pub seek_next : (t : List ℕ) (x y from n m : ℕ) → Seeks t x y from n → m ≡ other_in t n → n < m → (Matches t (11 * n) x y → ⊥) → Seeks t x y from m
seek_next t x y from n m s e h f = record {
  on = λ r z. s.on r (beside f (subst (λ (i : ℕ). 0 < i) e (omega arith)) (subst (λ (i : ℕ). Sought t x y i r) e z));
}
