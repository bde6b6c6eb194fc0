-- The tests of a leaf's attributes and of the root's say what the relations do. Assumes nothing.
use mathlib.Core.Path.{◌≡◌, refl, sym, ap, subst}
use mathlib.Core.Logic.{◌↔◌, ◌≢◌}
use mathlib.Core.Bool.{true, false≢true}
use mathlib.Core.List.{List, [], ◌∷◌, nil≢cons, tail-eq_of_cons-eq}
use Prim.Native.Nat.{ℕ}
use native.Mathlib.Omega.{arith}
use Rattle.text.specs.Bytes.{ascii}
use Rattle.text.specs.Lists.{same}
use Rattle.text.proofs.Classes.{and_is}
use Rattle.list.specs.Listing.{Leaf, ref, iban, ccy, bool, num, amt, date, dtm, txt, enum, Listing, row_at}
use Rattle.list.proofs.rows.Words.{same_eq, same_refl, same_of}
use Rattle.xml.specs.Message.{Attrs}
use Rattle.file_walk.specs.Types.{Types, LeafAttrs, priced, unpriced}
use Rattle.file_walk.specs.First.{is_empty, only, unhinted, bound, root_attrs, is_root}
use Rattle.file_walk.specs.mirror.Machine.{Verdict, one_currency, leaf_attrs}
use Rattle.file_walk.proofs.violation.Answers.{only_yes, yes_only, empty_yes}

-- ---- the root's

-- "The root may carry these two besides xmlns, with any text; they belong to no content", and no xsi attribute stands "without its `xmlns:xsi`"
pub record RootAttrs (space : List ℕ) (ats : Attrs) : Type 0 where
  pub besides : unhinted ats ≡ (ascii "xmlns", space) ∷ []
  pub tied : bound ats ≡ true

pub root_mean : (space : List ℕ) (ats : Attrs) → (root_attrs space ats ≡ true) ↔ RootAttrs space ats
root_mean space ats = (
  (λ e. let b = and_is (only (ascii "xmlns") space (unhinted ats)) (bound ats) e in record { besides = only_yes (ascii "xmlns") space (unhinted ats) b.0; tied = b.1 }),
  (λ g. rw (yes_only (ascii "xmlns") space (unhinted ats) g.besides, g.tied)),
)

-- an element as the root: row 1's name, the namespace and no other attribute but hints
pub record RootTag (l : Listing) (n : List ℕ) (ats : Attrs) : Type 0 where
  pub name : (row_at l 1).name ≡ n
  pub attrs : RootAttrs l.space ats

pub root_tag : (l : Listing) (n : List ℕ) (ats : Attrs) → (is_root l n ats ≡ true) ↔ RootTag l n ats
root_tag l n ats = (
  (λ e. let b = and_is (same (row_at l 1).name n) (root_attrs l.space ats) e in record { name = same_eq (row_at l 1).name n b.0; attrs = (root_mean l.space ats).0 b.1 }),
  (λ g. rw (same_of (row_at l 1).name n g.name, (root_mean l.space ats).1 g.attrs)),
)

-- ---- a leaf's

module _ (t : Types) where
  pub priced_one : (ats : Attrs) → LeafAttrs t amt ats → (w : List ℕ) × (v : t.A) × (ats ≡ (ascii "Ccy", w) ∷ []) × t.Spelt ccy [] w v
  priced_one ats (priced e w v s z) = (w, v, z, s)
  priced_one ats (unpriced n z) = absurd (n refl)

  pub unpriced_none : (k : Leaf) (ats : Attrs) → k ≢ amt → LeafAttrs t k ats → ats ≡ []
  unpriced_none k ats n (priced e w v s z) = absurd (n e)
  unpriced_none k ats n (unpriced m z) = z

module _ (t : Types) (j : Verdict) (d : (w : List ℕ) → (j ccy [] w ≡ true) ↔ ((v : t.A) × t.Spelt ccy [] w v)) where
  one : (ats : Attrs) → (one_currency j ats ≡ true) ↔ LeafAttrs t amt ats
  one [] = ((λ e. absurd (false≢true e)), (λ g. absurd (nil≢cons (priced_one t [] g).2)))
  one (a ∷ []) = (
    (λ e.
        let b = and_is (same (ascii "Ccy") a.0) (j ccy [] a.1) e in
        let v = (d a.1).0 b.1 in
        priced refl a.1 v.0 v.1 (ap (λ (n : List ℕ). (n, a.1) ∷ []) (sym (same_eq (ascii "Ccy") a.0 b.0)))),
    (λ h.
        let g = priced_one t (a ∷ []) h in
        let z : one_currency j ((ascii "Ccy", g.0) ∷ []) ≡ true = rw (same_refl (ascii "Ccy")) ((d g.0).1 (g.1, g.3)) in
        subst (λ (x : Attrs). one_currency j x ≡ true) (sym g.2) z),
  )
  one (a ∷ b ∷ ats) = ((λ e. absurd (false≢true e)), (λ g. absurd (nil≢cons (sym (tail-eq_of_cons-eq (priced_one t (a ∷ b ∷ ats) g).2)))))

  bare : (k : Leaf) (ats : Attrs) → k ≢ amt → (is_empty ats ≡ true) ↔ LeafAttrs t k ats
  bare k ats n = ((λ e. unpriced n (empty_yes ats e)), (λ g. ap (λ (x : Attrs). is_empty x) (unpriced_none t k ats n g)))

  pub leaf_mean : (k : Leaf) (ats : Attrs) → (leaf_attrs j k ats ≡ true) ↔ LeafAttrs t k ats
  leaf_mean amt ats = one ats
  leaf_mean ref ats = bare ref ats (λ e. let z : ◌≡◌ {A = ℕ} 0 1 = cc in omega arith)
  leaf_mean iban ats = bare iban ats (λ e. let z : ◌≡◌ {A = ℕ} 0 1 = cc in omega arith)
  leaf_mean ccy ats = bare ccy ats (λ e. let z : ◌≡◌ {A = ℕ} 0 1 = cc in omega arith)
  leaf_mean bool ats = bare bool ats (λ e. let z : ◌≡◌ {A = ℕ} 0 1 = cc in omega arith)
  leaf_mean num ats = bare num ats (λ e. let z : ◌≡◌ {A = ℕ} 0 1 = cc in omega arith)
  leaf_mean date ats = bare date ats (λ e. let z : ◌≡◌ {A = ℕ} 0 1 = cc in omega arith)
  leaf_mean dtm ats = bare dtm ats (λ e. let z : ◌≡◌ {A = ℕ} 0 1 = cc in omega arith)
  leaf_mean (txt k) ats = bare (txt k) ats (λ e. let z : ◌≡◌ {A = ℕ} 0 1 = cc in omega arith)
  leaf_mean (enum ws) ats = bare (enum ws) ats (λ e. let z : ◌≡◌ {A = ℕ} 0 1 = cc in omega arith)
