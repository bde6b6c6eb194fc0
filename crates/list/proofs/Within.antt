-- What meets a list meets the list that it lies within. Assumes nothing.
use mathlib.Core.Path.{◌≡◌, refl, sym, ◌∙◌, subst}
use mathlib.Core.Bool.{true}
use mathlib.Core.List.{List, [], ◌∷◌}
use Prim.Native.Nat.{ℕ, ◌≤◌}
use Rattle.text.specs.Lists.{Each}
use Rattle.list.specs.Listing.{Leaf, Kind, Rule, Listing, Child, is_group}
use Rattle.list.specs.Content.{Content, end, value, node, rows, Keeps, Children, ValueOf, Good, Meets}
use Rattle.list.specs.Within.{Within}

pub within_itself : (l : Listing) → Within l l
within_itself l = record { many = refl; parents = λ r. refl; kinds = λ r. refl; counts = λ r n h. h; rules = refl; byte = refl }

module _ (l m : Listing) (w : Within l m) where
  pub child_within : (p r : ℕ) → Child l p r → Child m p r
  child_within p r c = record { first = c.first; last = subst (λ (n : ℕ). r ≤ n) w.many c.last; parent = sym (w.parents r) ∙ c.parent }

  pub child_without : (p r : ℕ) → Child m p r → Child l p r
  child_without p r c = record { first = c.first; last = subst (λ (n : ℕ). r ≤ n) (sym w.many) c.last; parent = w.parents r ∙ c.parent }

  theirs_within : (p : ℕ) (rs : List ℕ) → Each (Child l p) rs → Each (Child m p) rs
  theirs_within p [] h = tt
  theirs_within p (r ∷ rs) h = (child_within p r h.0, theirs_within p rs h.1)

  pub theirs_without : (p : ℕ) (rs : List ℕ) → Each (Child m p) rs → Each (Child l p) rs
  theirs_without p [] h = tt
  theirs_without p (r ∷ rs) h = (child_without p r h.0, theirs_without p rs h.1)

  children_within : (p : ℕ) (rs : List ℕ) → Children l p rs → Children m p rs
  children_within p rs h = record {
    nonempty = h.nonempty;
    theirs = theirs_within p rs h.theirs;
    order = h.order;
    counts = λ r c. w.counts r _ (h.counts r (child_without p r c));
    single = λ e. h.single (w.kinds p ∙ e);
    rules = subst (λ (qs : List Rule). Each (Keeps p rs) qs) w.rules h.rules;
  }

  module _ {A : Type 0} (Is : Leaf → A → Type 0) where
    good_within : (c : Content A) → Good Is l c → Good Is m c
    good_within end g = tt
    good_within (value r v k) g = (subst (λ (x : Kind). ValueOf Is l x v) (w.kinds r) g.0, good_within k g.1)
    good_within (node r c k) g = (
      (subst (λ (x : Kind). is_group x ≡ true) (w.kinds r) g.0.0, children_within r (rows c) g.0.1),
      good_within c g.1,
      good_within k g.2,
    )

    pub meets_within : (c : Content A) → Meets Is l c → Meets Is m c
    meets_within c h = record { root = h.root; good = good_within c h.good }
