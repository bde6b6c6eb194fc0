-- What a call leaves in a buffer; a count in the last four of eight bytes. Assumes nothing.
use mathlib.Core.Path.{◌≡◌, refl, sym, ◌∙◌, ap, subst}
use mathlib.Core.Logic.{◌≢◌}
use mathlib.Core.Bool.{Bool, cond}
use mathlib.Core.List.{List, [], ◌∷◌}
use Prim.Native.Nat.{ℕ, ◌+◌, ◌≤◌}
use native.Mathlib.Omega.{arith}
use lib.ListN.{length, take, drop}
use Rattle.std.proofs.Common.{w64}
use Rattle.std.specs.Int.{to_be_bytes}
use borrow.Author.Tests.{eq-eqb, ne_eqb}
use Rattle.std.specs.Prelude.{Option}
use Rattle.text.specs.Numbers.{big_endian}
use Rattle.answer.specs.declared.Answer.{Answer}
use Rattle.program_reply.specs.Reply.{answer_line, held_length, Put}

-- ---- what a buffer holds

module _ (a : Answer) where
  pub held_none : a.code ≢ 0 → 0 ≡ held_length a
  held_none n = ap (λ (t : Bool). cond t a.place 0) (sym (ne_eqb a.code 0 n))

  pub held_some : a.code ≡ 0 → a.place ≡ held_length a
  held_some z = ap (λ (t : Bool). cond t a.place 0) (sym (eq-eqb a.code 0 z))

-- ---- a count

-- four bytes, one by one
alike : {a b c d p q r s : ℕ} → a ≡ p → b ≡ q → c ≡ r → d ≡ s → ◌≡◌ {A = List ℕ} (a ∷ b ∷ c ∷ d ∷ []) (p ∷ q ∷ r ∷ s ∷ [])
alike e f g h = rw (e, f, g, h) refl

-- the last four of a count's eight bytes
last_four : (n : ℕ) → take 4 (drop 4 (to_be_bytes w64 n)) ≡ big_endian 4 n
unfolding big_endian
last_four n = alike (omega arith) (omega arith) (omega arith) refl

four_long : (n : ℕ) → length (big_endian 4 n) ≡ 4
unfolding big_endian
four_long n = refl

-- the answer's line with these is its line with the count
module _ (a : Answer) (n : ℕ) {bytes : List ℕ} (e : bytes ≡ to_be_bytes w64 n) where
  abbrev b : List ℕ
  b = take 4 (drop 4 bytes)

  is_four : b ≡ big_endian 4 n
  is_four = ap (λ (x : List ℕ). take 4 (drop 4 x)) e ∙ last_four n

  pub counted : {d : List ℕ} {r : Option ℕ} {after : List ℕ} → Put (answer_line a b) d r after → Put (answer_line a (big_endian 4 n)) d r after
  counted {d} {r} {after} = subst (λ (x : List ℕ). Put (answer_line a x) d r after) is_four

  pub counted_most : length (answer_line a b) ≤ 64 + (length b + length b) → length (answer_line a (big_endian 4 n)) ≤ 72
  counted_most m = omega (arith, m, ap length is_four, four_long n, ap (λ (x : List ℕ). length (answer_line a x)) is_four)
