-- Children that pass the opening tests one after the other are in order and not over their counts. Assumes nothing.
use mathlib.Core.Path.{◌≡◌, refl, ap, subst}
use mathlib.Core.Logic.{◌≢◌}
use mathlib.Core.Bool.{Bool, true}
use mathlib.Core.List.{List, [], ◌∷◌}
use Prim.Native.Nat.{ℕ, suc, ◌+◌, ◌≤◌, ◌<◌}
use native.Mathlib.Omega.{arith}
use native.Mathlib.Decide.{ℕ_discrete}
use lib.ListN.{length}
use borrow.Author.Tests.{eq-eqb}
use Rattle.text.specs.Lists.{Each}
use Rattle.list.specs.Words.{times, Ordered}
use Rattle.list.specs.Listing.{Kind, group, choice, leaf, Count, one, optional, any, alternative, Listing, row_at, Child, at_most_once, required}
use Rattle.list.specs.Content.{CountOk}
use Rattle.list.proofs.sound.Tests.{clash}
use Rattle.list.proofs.rows.Words.{each_at, each_of, times_hit, times_miss, times_more}

module _ (l : Listing) where
  abbrev once : ℕ → Bool
  once r = at_most_once (row_at l r).count

  -- r may follow the rows seen
  abbrev pub Fits : Kind → List ℕ → ℕ → Type 0
  Fits group seen r = Each (λ q. q ≤ r) seen × (once r ≡ true → times r seen ≡ 0)
  Fits choice seen r = seen ≡ []
  Fits (leaf k) seen r = ⊥

  abbrev pub Steps : Kind → List ℕ → List ℕ → Type 0
  Steps k seen [] = Unit {0}
  Steps k seen (r ∷ rs) = Fits k seen r × Steps k (r ∷ seen) rs

  above : (seen rs : List ℕ) (q : ℕ) → Steps group seen rs → 0 < times q seen → Each (λ r. q ≤ r) rs
  above seen [] q s h = tt
  above seen (r ∷ rs) q s h = (each_at (λ x. x ≤ r) seen q s.0.0 h, above (r ∷ seen) rs q s.1 (omega (arith, times_more q r seen)))

  pub ordered : (seen rs : List ℕ) → Steps group seen rs → Ordered rs
  ordered seen [] s = tt
  ordered seen (r ∷ rs) s = (above (r ∷ seen) rs r s.1 (rw (eq-eqb r r refl) (omega arith)), ordered (r ∷ seen) rs s.1)

  pub at_most : (seen rs : List ℕ) (r : ℕ) → Steps group seen rs → once r ≡ true → times r seen ≤ 1 → times r seen + times r rs ≤ 1
  at_most seen [] r s o h = omega arith
  at_most seen (q ∷ rs) r s o h = elim (ℕ_discrete q r) [
    | yes e ↦ let z : times r seen ≡ 0 = subst (λ m. once m ≡ true → times m seen ≡ 0) e s.0.1 o in
        let a : times r (q ∷ seen) ≡ suc (times r seen) = times_hit r q seen e in
        let b : times r (q ∷ rs) ≡ suc (times r rs) = times_hit r q rs e in
        omega (arith, at_most (q ∷ seen) rs r s.1 o (omega arith))
    | no ne ↦ let a : times r (q ∷ seen) ≡ times r seen = times_miss r q seen ne in
        let b : times r (q ∷ rs) ≡ times r rs = times_miss r q rs ne in
        omega (arith, at_most (q ∷ seen) rs r s.1 o (omega arith))
  ]

  pub steps : (p : ℕ) (seen rs : List ℕ) → Each (Child l p) rs → Ordered rs → ((q : ℕ) → 0 < times q seen → Each (λ r. q ≤ r) rs)
      → ((r : ℕ) → Child l p r → once r ≡ true → times r seen + times r rs ≤ 1) → Steps group seen rs
  steps p seen [] c o b m = tt
  steps p seen (r ∷ rs) c o b m =
      let a : times r (r ∷ rs) ≡ suc (times r rs) = times_hit r r rs refl in (
        (each_of (λ q. q ≤ r) seen (λ q h. (b q h).0), λ e. omega (arith, m r c.0 e)),
        steps p (r ∷ seen) rs c.1 o.1
            (λ q h. elim (ℕ_discrete r q) [ yes e ↦ subst (λ x. Each (λ y. x ≤ y) rs) e o.0 | no ne ↦ (b q (subst (λ x. 0 < x) (times_miss q r seen ne) h)).1 ])
            (λ q d e. elim (ℕ_discrete r q) [
              | yes z ↦ let f : times q (r ∷ rs) ≡ suc (times q rs) = times_hit q r rs z in let g : times q (r ∷ seen) ≡ suc (times q seen) = times_hit q r seen z in omega (arith, m q d e)
              | no z ↦ let f : times q (r ∷ rs) ≡ times q rs = times_miss q r rs z in let g : times q (r ∷ seen) ≡ times q seen = times_miss q r seen z in omega (arith, m q d e)
            ]),
      )

  -- a choice takes one
  pub one_step : (rs : List ℕ) → length rs ≡ 1 → Steps choice [] rs
  one_step [] e = tt
  one_step (r ∷ []) e = (refl, tt)
  one_step (r ∷ q ∷ rs) e = absurd (omega arith)

  pub step_one : (rs : List ℕ) → Steps choice [] rs → 0 < length rs → length rs ≡ 1
  step_one [] s h = absurd (omega arith)
  step_one (r ∷ []) s h = refl
  step_one (r ∷ q ∷ rs) s h = absurd (let z : ◌≡◌ {A = ℕ} 1 0 = ap length s.1.0 in omega arith)

-- a count, as a limit and a need
pub counted : (c : Count) (n : ℕ) → c ≢ alternative → (at_most_once c ≡ true → n ≤ 1) → (required c ≡ true → 0 < n) → CountOk c n
counted one n a f g = let y = f refl in let z = g refl in omega arith
counted optional n a f g = f refl
counted Count.several n a f g = g refl
counted any n a f g = tt
counted alternative n a f g = absurd (a refl)

pub limit : (c : Count) (n : ℕ) → CountOk c n → at_most_once c ≡ true → n ≤ 1
limit one n h e = omega arith
limit optional n h e = h
limit Count.several n h e = clash (at_most_once Count.several) e refl
limit any n h e = clash (at_most_once any) e refl
limit alternative n h e = h

pub need : (c : Count) (n : ℕ) → CountOk c n → required c ≡ true → 0 < n
need one n h e = omega arith
need optional n h e = clash (required optional) e refl
need Count.several n h e = h
need any n h e = clash (required any) e refl
need alternative n h e = clash (required alternative) e refl
