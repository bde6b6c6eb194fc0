-- The first item that a property holds of: there is one, or none; and no second. Assumes nothing.
use mathlib.Core.Path.{◌≡◌, refl, sym, ◌∙◌, ap, subst}
use mathlib.Core.Logic.{◌⊎◌, inl, inr}
use mathlib.Core.List.{List, [], ◌∷◌, ◌++◌, head-eq_of_cons-eq, tail-eq_of_cons-eq}
use mathlib.Core.Option.{none, some}
use Prim.Native.Nat.{ℕ, ◌+◌}
use native.Mathlib.Omega.{arith}
use lib.ListN.{length, length-append}
use Rattle.list.specs.Listing.{Listing, row_at}
use Rattle.value.specs.Rules.{InThousandths}
use Rattle.image.specs.Kinds.{values}
use Rattle.image.specs.Image.{Item, item_bytes, items_bytes}
use Rattle.file_letter.specs.Stale.{NoneOf, FirstAt, Withdrawn, Finer}
use Rattle.file_letter.proofs.Meeting.{fine_or, finer_none, finer_not, not_finer, each_last}

pub finer_or : (i : Item values) → Dec (Finer i)
finer_or (r, none) = no (finer_none r)
finer_or (r, some v) = go (fine_or v)
  where
    go : Dec (InThousandths v) → Dec (Finer (r, some v))
    go (yes f) = no (λ g. finer_not r v g f)
    go (no f) = yes (not_finer r v f)

pub withdrawn_or : (l : Listing) (i : Item values) → Dec (Withdrawn l i)
withdrawn_or l i = go (row_at l i.0).name
  where
    go : (n : List ℕ) → Dec (n ≡ [])
    go [] = yes refl
    go (x ∷ n) = no (λ e. omega (arith, ap length e))

module _ (l : Listing) (P : Item values → Type 0) where
  -- some item, whatever its row and place
  pub record Some (from : ℕ) (is : List (Item values)) : Type 0 where
    pub row : ℕ
    pub place : ℕ
    pub first : FirstAt l P from is row place

  later : (i : Item values) (is : List (Item values)) (from : ℕ) → (P i → ⊥) → Some (from + length (item_bytes values l i)) is → Some from (i ∷ is)
  later i is from n s =
      let f = s.first in
      record {
        row = s.row;
        place = s.place;
        first = record {
          before = i ∷ f.before;
          item = f.item;
          rest = f.rest;
          at = ap (λ (u : List (Item values)). i ∷ u) f.at;
          its = f.its;
          clean = (n, f.clean);
          own = f.own;
          stands = omega (arith, f.stands, length-append (item_bytes values l i) (items_bytes values l f.before));
        };
      }

  pub first_or_none : ((i : Item values) → Dec (P i)) → (is : List (Item values)) (from : ℕ) → Some from is ⊎ NoneOf P is
  first_or_none d [] from = inr tt
  first_or_none d (i ∷ is) from = go (d i) (first_or_none d is (from + length (item_bytes values l i)))
    where
      go : Dec (P i) → Some (from + length (item_bytes values l i)) is ⊎ NoneOf P is → Some from (i ∷ is) ⊎ NoneOf P (i ∷ is)
      go (yes p) s = inl (record { row = i.0; place = from; first = record { before = []; item = i; rest = is; at = refl; its = p; clean = tt; own = refl; stands = omega arith } })
      go (no n) (inl s) = inl (later i is from n s)
      go (no n) (inr s) = inr (n, s)

  pub first_not : (from : ℕ) (is : List (Item values)) (r p : ℕ) → FirstAt l P from is r p → NoneOf P is → ⊥
  first_not from is r p f n = (each_last (λ (i : Item values). P i → ⊥) f.before (f.item ∷ f.rest) (subst (NoneOf P) f.at n)).0 f.its

  -- what stands before the first, and the first
  pub record Same (a b : List (Item values)) (x z : Item values) : Type 0 where
    pub front : a ≡ b
    pub one : x ≡ z

  same_first : (a b : List (Item values)) (x z : Item values) (u v : List (Item values)) → a ++ (x ∷ u) ≡ b ++ (z ∷ v) → P x → P z → NoneOf P a → NoneOf P b → Same a b x z
  same_first [] [] x z u v e p q n m = record { front = refl; one = head-eq_of_cons-eq e }
  same_first [] (y ∷ b) x z u v e p q n m = absurd (m.0 (subst P (head-eq_of_cons-eq e) p))
  same_first (y ∷ a) [] x z u v e p q n m = absurd (n.0 (subst P (sym (head-eq_of_cons-eq e)) q))
  same_first (y ∷ a) (w ∷ b) x z u v e p q n m =
      let s = same_first a b x z u v (tail-eq_of_cons-eq e) p q n.1 m.1 in
      record { front = ap (λ (i : Item values). i ∷ a) (head-eq_of_cons-eq e) ∙ ap (λ (t : List (Item values)). w ∷ t) s.front; one = s.one }

  pub first_one : (from : ℕ) (is : List (Item values)) (r p s q : ℕ) → FirstAt l P from is r p → FirstAt l P from is s q → (r ≡ s) × (p ≡ q)
  first_one from is r p s q f g =
      let o = same_first f.before g.before f.item g.item f.rest g.rest (sym f.at ∙ g.at) f.its g.its f.clean g.clean in (
        f.own ∙ ap (λ (i : Item values). i.0) o.one ∙ sym g.own,
        f.stands ∙ ap (λ (b : List (Item values)). from + length (items_bytes values l b)) o.front ∙ sym g.stands,
      )
