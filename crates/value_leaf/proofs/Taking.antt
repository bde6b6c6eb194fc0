-- A leaf whose text was weighed is taken, and no second answer fits the promise. Assumes nothing.
use Rattle.std.specs.Prelude.{Bool, true, false, cond, Some, None, eqb}
use mathlib.Core.Path.{◌≡◌, refl, sym, ◌∙◌, ap, subst}
use mathlib.Core.Logic.{◌≢◌}
use mathlib.Core.List.{List}
use Prim.Native.Nat.{ℕ, ◌<◌}
use native.Mathlib.Omega.{arith}
use native.Mathlib.Decide.{ℕ_discrete}
use lib.ListN.{length}
use borrow.Author.Tests.{eqb-false}
use lib.Seq.{slice}
use Rattle.list.specs.Listing.{Leaf}
use Rattle.value.specs.types.Code.{Ccy}
use Rattle.value.specs.Kind.{code, Given}
use Rattle.value.specs.Value.{Spelt}
use Rattle.value.specs.given.Giving.{Gives, some, none, Long}
use Rattle.value.proofs.given.Unique.{leaf_one, spelt_any, euro, euro_is, size_one}
use Rattle.value_leaf.specs.Took.{Uncut, Took}
use Rattle.value_leaf.specs.Leafed.{some_size, Weighs, Leafed}
use Rattle.value_leaf.specs.declared.found.Found.{Found}

-- a text is taken, n is how many bytes its value has
pub record Weighed (f : Leaf) (cur raw : List ℕ) (n : ℕ) : Type 0 where
  pub bytes : List ℕ
  pub took : Took f cur raw bytes
  pub long : n ≡ length bytes

module _ (f : Leaf) (kind k : ℕ) (raw : List ℕ) (n : ℕ) (e : code f ≡ kind) (o : kind ≢ 6) (g : Given f k 0) (w : Weighs kind k raw n) (h : 0 < n) where
  uncut : Uncut raw
  uncut = record { nowhere = λ a b i. omega (arith, h, w.cut (λ u. u.nowhere a b i)) }

  -- beside a currency, as an amount has it
  pub weighed_coin : (cur : List ℕ) → Ccy cur → Weighed f cur raw n
  weighed_coin cur c = let x = w.whole uncut cur c in go x x.gives
    where
      go : (x : Long kind k cur raw n) → Gives kind k cur raw x.found → Weighed f cur raw n
      go x (some v t z i) =
          let same : t.leaf ≡ f = leaf_one kind k t.leaf f o t.number t.given e g in
          record {
            bytes = x.found;
            took = record { chars = t.chars; value = v; spells = t.spells; uncut = uncut; spelt = subst (λ (l : Leaf). Spelt l cur t.chars v) same t.spelt; is = i };
            long = x.count;
          }
      go x (none z i) = absurd (omega (arith, h, x.count, ap length i))

  -- any other kind, beside anything
  pub weighed_plain : kind ≢ 9 → (cur : List ℕ) → Weighed f cur raw n
  weighed_plain a cur =
      let x = weighed_coin euro euro_is in
      let t = x.took in
      record {
        bytes = x.bytes;
        took = record { chars = t.chars; value = t.value; spells = t.spells; uncut = uncut; spelt = spelt_any f euro cur t.chars t.value (λ z. a (sym e ∙ z)) t.spelt; is = t.is };
        long = x.long;
      }

-- a size that is told is that of a value
size_some : (n m : ℕ) → (b : Bool) → eqb n 0 ≡ b → Some m ≡ cond b None (Some n) → (n ≡ m) × (0 < n)
size_some n m true q e = absurd (cc)
size_some n m false q e = let d : n ≢ 0 = eqb-false n 0 q in (cc, omega arith)

pub told_size : (kind k : ℕ) (s : List ℕ) (at m : ℕ) (r : Found) (w : Leafed kind k s at r) → r.size ≡ Some m → (w.bytes ≡ m) × (0 < w.bytes)
told_size kind k s at m r w e = size_some w.bytes m (eqb w.bytes 0) refl (sym e ∙ w.size)

-- ---- no second answer

weighs_one : (kind k : ℕ) (raw : List ℕ) (m n : ℕ) → Weighs kind k raw m → Weighs kind k raw n → m ≡ n
weighs_one kind k raw m n a b = go (ℕ_discrete m n)
  where
    go : Dec (m ≡ n) → m ≡ n
    go (yes d) = d
    go (no d) =
        let u : Uncut raw → ⊥ = λ c. d (size_one kind k raw m n (a.whole c) (b.whole c)) in
        a.cut u ∙ sym (b.cut u)

pub leafed_one : (kind k : ℕ) (s : List ℕ) (at : ℕ) (q r : Found) → Leafed kind k s at q → Leafed kind k s at r → (q.end ≡ r.end) × (q.size ≡ r.size)
leafed_one kind k s at q r a b =
    let e : q.end ≡ r.end = a.ends ∙ sym b.ends in
    let n : a.bytes ≡ b.bytes = weighs_one kind k (slice at r.end s) a.bytes b.bytes (subst (λ (x : ℕ). Weighs kind k (slice at x s) a.bytes) e a.weighs) b.weighs in
    (e, a.size ∙ ap some_size n ∙ sym b.size)
