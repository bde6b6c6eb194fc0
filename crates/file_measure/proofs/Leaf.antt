-- What is put at the beginning and at the end of an element, from what the code's calls told. Over any types. Assumes nothing.
use Rattle.std.specs.Prelude.{Option as Told, None, Some}
use Rattle.std.proofs.lemmas.Option.{none-some}
use mathlib.Core.Path.{◌≡◌, refl, sym, ◌∙◌, ap}
use mathlib.Core.Bool.{Bool, true, false, not, true≢false, false≢true}
use mathlib.Core.List.{List, [], ◌∷◌}
use mathlib.Core.Option.{Option, none, some}
use Prim.Native.Nat.{ℕ, ◌+◌, ◌≤◌}
use native.Mathlib.Omega.{arith}
use lib.ListN.{length}
use Rattle.text.specs.Bytes.{in_range}
use Rattle.text.specs.Pasting.{pasted}
use Rattle.text.specs.Puts.{Puts}
use Rattle.text.proofs.Pasting.{length_pasted}
use Rattle.text.proofs.Puts.{puts_none, puts_pasted, puts_then}
use Rattle.list.specs.Listing.{Leaf, is_group}
use Rattle.list.specs.tables.Table.{cell, words_in}
use Rattle.list.proofs.rows.Codes.{group_is}
use Rattle.list.specs.tables.Numbers.{is_group_in}
use Rattle.file.specs.Instance.{Kinds}
use Rattle.value.specs.Places.{longest_value}
use Rattle.file_measure.specs.Pass.{kind_in, ValuePut, Valued, ItemPut, Shuts, Opens}

-- the test of the code is that of the list
module _ (t : List ℕ) (row q : ℕ) (e : q ≡ cell t row 2) (g : Bool) (f : g ≡ is_group_in q) where
  group_told : (pool : List ℕ) → is_group (kind_in t pool row) ≡ g
  unfolding is_group_in
  group_told pool = group_is (cell t row 3) (words_in t pool row) (cell t row 2) ∙ ap (λ n. not (in_range 2 11 n)) (sym e) ∙ sym (group_is 0 [] q) ∙ sym f

  module _ (k : Kinds) (d : List ℕ) (at : ℕ) where
    -- the beginning
    pub opens_group : g ≡ true → (x : ℕ) → x ≡ row → (d' : List ℕ) → d' ≡ pasted d at (x ∷ []) → Opens k t row d at (at + 1) d'
    opens_group h x i d' j = record {
      most = omega arith;
      group = λ pool z. puts_pasted d at (row ∷ []) 1 d' refl (j ∙ ap (λ n. pasted d at (n ∷ [])) i);
      leaf = λ pool z. absurd (true≢false (sym h ∙ sym (group_told pool) ∙ z));
    }

    pub opens_leaf : g ≡ false → Opens k t row d at at d
    opens_leaf h = record {
      most = omega arith;
      group = λ pool z. absurd (true≢false (sym z ∙ group_told pool ∙ h));
      leaf = λ pool z. puts_none d at;
    }

    -- the end
    module _ (pool cur raw : List ℕ) where
      pub shuts_group : g ≡ true → Shuts k t pool row cur raw d at (Some at) d
      shuts_group h = record {
        most = let low : at ≤ at + (1 + longest_value) = omega arith in low;
        long = refl;
        group = λ z. puts_none d at;
        leaf = λ l w cs s u i. absurd (false≢true (sym (ap is_group s.kind) ∙ group_told pool ∙ h));
      }

      module _ (h : g ≡ false) (x : ℕ) (i : x ≡ row) (d₁ : List ℕ) (j : d₁ ≡ pasted d at (x ∷ [])) where
        no_group_lem : is_group (kind_in t pool row) ≡ true → ⊥
        no_group_lem z = true≢false (sym z ∙ group_told pool ∙ h)

        long_is : (n : Told ℕ) (d₂ : List ℕ) → Valued k t pool row cur raw d₁ (at + 1) n d₂ → length d₂ ≡ length d
        long_is n d₂ v = v.long ∙ ap length j ∙ length_pasted d at (x ∷ [])

        row_put : Puts d at (row ∷ []) (at + 1) d₁
        row_put = puts_pasted d at (row ∷ []) 1 d₁ refl (j ∙ ap (λ m. pasted d at (m ∷ [])) i)

        bad : (d₂ : List ℕ) (l : Leaf) (u : Option k.types.A) → ValuePut k l u d₁ (at + 1) None d₂ → ItemPut k t pool row l u d at None d₂
        bad d₂ l none p = refl
        bad d₂ l (some y) p = p

        pub shuts_none : (d₂ : List ℕ) → Valued k t pool row cur raw d₁ (at + 1) None d₂ → Shuts k t pool row cur raw d at None d₂
        shuts_none d₂ v = record {
          most = tt;
          long = long_is None d₂ v;
          group = λ y. absurd (no_group_lem y);
          leaf = λ l w cs s u i. bad d₂ l u (v.value l w cs s u i);
        }

        good : (n : ℕ) (d₂ : List ℕ) (l : Leaf) (u : Option k.types.A) → ValuePut k l u d₁ (at + 1) (Some n) d₂ → ItemPut k t pool row l u d at (Some (at + 1 + n)) d₂
        good n d₂ l none p = absurd (none-some n (sym p.0))
        good n d₂ l (some y) p = puts_then d at (row ∷ []) (at + 1) d₁ (k.bytes l y) (at + 1 + n) d₂ row_put p

        pub shuts_some : (n : ℕ) (d₂ : List ℕ) → Valued k t pool row cur raw d₁ (at + 1) (Some n) d₂ → Shuts k t pool row cur raw d at (Some (at + 1 + n)) d₂
        shuts_some n d₂ v = record {
          most = let few : n ≤ longest_value = v.most in let low : at + 1 + n ≤ at + (1 + longest_value) = omega (arith, few) in low;
          long = long_is (Some n) d₂ v;
          group = λ y. absurd (no_group_lem y);
          leaf = λ l w cs s u i. good n d₂ l u (v.value l w cs s u i);
        }
