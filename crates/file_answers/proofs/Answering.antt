-- What writing answers, case by case. Assumes nothing.
use mathlib.Core.Path.{◌≡◌, sym, ◌∙◌, ap, ap₂, subst}
use mathlib.Core.Logic.{◌≢◌}
use mathlib.Core.Bool.{Bool, true, false, cond}
use mathlib.Core.List.{List}
use Prim.Native.Nat.{ℕ, ◌≤◌, ◌<◌}
use native.Mathlib.Decide.{dec_lt}
use native.Mathlib.Omega.{arith}
use lib.Dec.{ltb, eqb}
use lib.ListN.{length}
use lib.Seq.{slice}
use borrow.Author.Tests.{lt-ltb, le-ltb}
use Rattle.answer.specs.declared.Answer.{Answer}
use Rattle.answer.specs.Table.{limit, accepted, no_room, too_large, too_fine, retired}
use Rattle.list.specs.tables.Table.{cell}
use Rattle.file_answers.specs.Answers.{gone_by, refused_by, sized_by}

pub gone_test : (t pool : List ℕ) (r a b n : ℕ) → a ≡ cell t r 4 → b ≡ cell t r 5 → n ≡ length (slice a b pool) → eqb n 0 ≡ gone_by t pool r
unfolding gone_by
gone_test t pool r a b n ea eb en = ap (λ (k : ℕ). eqb k 0) (en ∙ ap₂ (λ (u v : ℕ). length (slice u v pool)) ea eb)

-- ---- an item that no file may say

module _ (t pool : List ℕ) (r p : ℕ) (g : Bool) (e : g ≡ gone_by t pool r) (a : Answer) where
  refused_by_lem : refused_by t pool r p ≡ cond g (retired r p) (too_fine r p)
  unfolding refused_by
  refused_by_lem = ap (λ (x : Bool). cond x (retired r p) (too_fine r p)) (sym e)

  pub refused_gone : g ≡ true → a ≡ retired r p → a ≡ refused_by t pool r p
  refused_gone q h = h ∙ sym (refused_by_lem ∙ ap (λ (x : Bool). cond x (retired r p) (too_fine r p)) q)

  pub refused_finer : g ≡ false → a ≡ too_fine r p → a ≡ refused_by t pool r p
  refused_finer q h = h ∙ sym (refused_by_lem ∙ ap (λ (x : Bool). cond x (retired r p) (too_fine r p)) q)

-- ---- a file's length

module _ (n room : ℕ) where
  by_length : (t : Bool) → ltb limit n ≡ t → sized_by n room ≡ cond t (too_large n) (cond (ltb room n) (no_room n) (accepted n))
  unfolding sized_by
  by_length t e = ap (λ (x : Bool). cond x (too_large n) (cond (ltb room n) (no_room n) (accepted n))) e

  by_room : n ≤ limit → (t : Bool) → ltb room n ≡ t → sized_by n room ≡ cond t (no_room n) (accepted n)
  by_room h t e = by_length false (le-ltb limit n h) ∙ ap (λ (x : Bool). cond x (no_room n) (accepted n)) e

  pub sized_large : limit < n → sized_by n room ≡ too_large n
  sized_large h = by_length true (lt-ltb limit n h)

  pub sized_short : n ≤ limit → room < n → sized_by n room ≡ no_room n
  sized_short h k = by_room h true (lt-ltb room n k)

  pub sized_whole : n ≤ limit → n ≤ room → sized_by n room ≡ accepted n
  sized_whole h k = by_room h false (le-ltb room n k)

  module _ (a : Answer) (e : a ≡ sized_by n room) where
    -- a refusal is one of two
    pub sized_refused : (P : Answer → Type 0) → (limit < n → P (too_large n)) → (n ≤ limit → room < n → P (no_room n)) → a.code ≢ 0 → P a
    sized_refused P p q z = go (dec_lt limit n) (dec_lt room n)
      where
        go : Dec (limit < n) → Dec (room < n) → P a
        go (yes h) k = subst P (sym (e ∙ sized_large h)) (p h)
        go (no h) (yes k) = subst P (sym (e ∙ sized_short (omega arith) k)) (q (omega arith) k)
        go (no h) (no k) = absurd (z (ap (λ (x : Answer). x.code) (e ∙ sized_whole (omega arith) (omega arith))))

    -- an acceptance has room for the file
    pub sized_accepted : a.code ≡ 0 → (n ≤ limit) × ((n ≤ room) × (a ≡ accepted n))
    sized_accepted z = go (dec_lt limit n) (dec_lt room n)
      where
        go : Dec (limit < n) → Dec (room < n) → (n ≤ limit) × ((n ≤ room) × (a ≡ accepted n))
        go (yes h) k = absurd (omega (arith, z, ap (λ (x : Answer). x.code) (e ∙ sized_large h)))
        go (no h) (yes k) = absurd (omega (arith, z, ap (λ (x : Answer). x.code) (e ∙ sized_short (omega arith) k)))
        go (no h) (no k) = (omega arith, (omega arith, e ∙ sized_whole (omega arith) (omega arith)))
