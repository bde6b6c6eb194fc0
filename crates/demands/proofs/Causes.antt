-- What codes 12 and 9 say by the relation, over any well-formed list. Assumes nothing.
use Rattle.std.specs.Prelude.{Ok, Err}
use mathlib.Core.Path.{◌≡◌, refl, sym, ◌∙◌, ap, subst}
use mathlib.Core.Logic.{◌↔◌}
use mathlib.Core.Bool.{Bool, true, false, ◌&&◌, ◌||◌, not, true≢false, false≢true}
use mathlib.Core.List.{List, [], ◌∷◌}
use Prim.Native.Nat.{ℕ}
use native.Mathlib.Omega.{arith}
use lib.Dec.{eqb, ltb}
use Rattle.answer.specs.declared.Answer.{Answer}
use Rattle.answer.specs.Table as table
use Rattle.text.specs.Bytes.{is_blank}
use Rattle.text.specs.Lists.{Each}
use Rattle.list.specs.Listing.{Leaf, Kind, group, choice, leaf, Listing, row_at, child, is_group, is_choice}
use Rattle.list.specs.WellFormed.{KindOk, WellFormed}
use Rattle.image.proofs.content.Rows.{well}
use Rattle.xml.specs.Message.{Attrs, Inside, nothing_inside, character, element}
use Rattle.value.specs.Value.{Value, Spelt}
use Rattle.file_walk.specs.Types.{Judge, Decides}
use Rattle.file_walk.specs.First.{Found, First, refuse, first_of, is_empty, passed, breaks, text_of, currency_given, attrs_ok, kind_of, is_root, absent_row, child_rows, opening, group_end, closing, inside, first_violation}
use Rattle.file_walk.proofs.violation.Answers.{empty_yes}
use Rattle.file_walk.proofs.violation.Opening.{over_count, opening_is}
use Rattle.file.specs.Instance.{house_types}
use Rattle.demands.specs.Causes.{AttrsOf, Occurs, here, after_character, after_element, deeper, inner, BadValue, BadAttributes}

-- code 9's test, by the relation
pub attrs_mean : (j : Judge) → Decides house_types j → (k : Kind) (ats : Attrs) → (attrs_ok j k ats ≡ true) ↔ AttrsOf k ats
attrs_mean j d group ats = (empty_yes ats, (λ e. ap (λ (x : Attrs). is_empty x) e))
attrs_mean j d choice ats = (empty_yes ats, (λ e. ap (λ (x : Attrs). is_empty x) e))
attrs_mean j d (leaf k) ats = d.attrs k ats

-- ---- what a violation says

-- what is found has a property of answers
abbrev pub Means : (Answer → Type 0) → Found → Type 0
Means P (Ok tt) = Unit {0}
Means P (Err a) = P a

module _ (P : Answer → Type 0) where
  pub refused : (b : Bool) (a : Answer) → (b ≡ true → P a) → Means P (refuse b a)
  refused true a h = h refl
  refused false a h = tt

  first : (fs : List Found) → Each (Means P) fs → Means P (first_of fs)
  first [] h = tt
  first ((Ok tt) ∷ fs) h = first fs h.1
  first (Err a ∷ fs) h = h.0

on : (P Q : Answer → Type 0) → ((a : Answer) → P a → Q a) → (f : Found) → Means P f → Means Q f
on P Q g (Ok tt) h = tt
on P Q g (Err a) h = g a h

module _ (l : Listing) (wf : WellFormed l) where
  kind_ok : (r : ℕ) → KindOk (row_at l r).kind
  kind_ok r = (well l wf).kinds r

  -- of 12, that an element's characters spell no value; of 9, that its attributes are not the type's
  abbrev Cause : ℕ → Inside → Answer → Type 0
  Cause p m a = (a.code ≡ 12 → BadValue l p m a.row a.place) × (a.code ≡ 9 → BadAttributes l p m a.row a.place)

  -- from some parts to those that they stand among
  lift : (p q : ℕ) (m k : Inside) → ((r o : ℕ) (ats : Attrs) (i : Inside) → Occurs l r o ats i p m → Occurs l r o ats i q k) → (f : Found) → Means (Cause p m) f → Means (Cause q k) f
  lift p q m k s =
      on (Cause p m) (Cause q k)
      (λ a h. (
        (λ e. let b = h.0 e in record { attrs = b.attrs; parts = b.parts; stands = s a.row a.place b.attrs b.parts b.stands; type = b.type; kind = b.kind; none = b.none }),
        (λ e. let b = h.1 e in record { attrs = b.attrs; parts = b.parts; stands = s a.row a.place b.attrs b.parts b.stands; wrong = b.wrong }),
      ))

  -- neither 12 nor 9
  abbrev silent : Answer → Bool
  silent a = not (eqb a.code 12 || eqb a.code 9)

  module _ (j : Judge) (d : Decides house_types j) (p : ℕ) (m : Inside) where
    other : (b : Bool) (a : Answer) → silent a ≡ true → Means (Cause p m) (refuse b a)
    other b a t = refused (Cause p m) b a (λ e. ((λ z. absurd (false≢true (sym (ap (λ (c : ℕ). not (eqb c 12 || eqb c 9)) z) ∙ t))), (λ z. absurd (false≢true (sym (ap (λ (c : ℕ). not (eqb c 12 || eqb c 9)) z) ∙ t)))))

    group_means : (r o : ℕ) (rs : List ℕ) → Means (Cause p m) (group_end j l r o rs)
    group_means r o rs =
        first (Cause p m)
        (refuse (is_empty rs) (table.empty r o) ∷ refuse (ltb 0 (absent_row l r rs)) (table.absent (absent_row l r rs) o) ∷ refuse (breaks r rs l.rules) (table.rule_broken r o) ∷ [])
        (other (is_empty rs) (table.empty r o) refl, (other (ltb 0 (absent_row l r rs)) (table.absent (absent_row l r rs) o) refl, (other (breaks r rs l.rules) (table.rule_broken r o) refl, tt)))

    closing_means : (k : Kind) (r o : ℕ) (ats : Attrs) (rs cs : List ℕ) → KindOk k → ((f : Leaf) → k ≡ leaf f → ((v : Value) → Spelt f (currency_given ats) cs v → ⊥) → BadValue l p m r o) → Means (Cause p m) (closing j l k r o ats rs cs)
    closing_means group r o ats rs cs ok h = group_means r o rs
    closing_means choice r o ats rs cs ok h = group_means r o rs
    closing_means (leaf f) r o ats rs cs ok h =
        first (Cause p m) (refuse (is_empty cs) (table.empty r o) ∷ refuse (not (j.value f (currency_given ats) cs)) (table.bad_value r o) ∷ [])
        (other (is_empty cs) (table.empty r o) refl, (refused (Cause p m) (not (j.value f (currency_given ats) cs)) (table.bad_value r o) bad, tt))
      where
        bad : not (j.value f (currency_given ats) cs) ≡ true → Cause p m (table.bad_value r o)
        bad e = ((λ z. h f refl (λ v s. false≢true (sym (ap not ((d.value f (currency_given ats) cs).1 (v, s))) ∙ e))), (λ z. absurd (omega arith)))

    opening_means : (q : ℕ) (seen : List ℕ) (r : ℕ) (ats : Attrs) (o : ℕ) → ((AttrsOf (row_at l r).kind ats → ⊥) → BadAttributes l p m r o) → Means (Cause p m) (opening j l q seen r ats o)
    opening_means q seen r ats o h = subst (Means (Cause p m)) (sym (opening_is j l q seen r ats o)) (
        first (Cause p m)
        (refuse (eqb r 0) (table.not_a_child q o) ∷ refuse (not (is_choice (kind_of l q)) && passed r seen) (table.out_of_order r o)
        ∷ refuse (over_count l (kind_of l q) seen r) (table.too_many r o) ∷ refuse (not (attrs_ok j (kind_of l r) ats)) (table.wrong_attributes r o) ∷ []) (
          other (eqb r 0) (table.not_a_child q o) refl,
          (
            other (not (is_choice (kind_of l q)) && passed r seen) (table.out_of_order r o) refl,
            (other (over_count l (kind_of l q) seen r) (table.too_many r o) refl, (refused (Cause p m) (not (attrs_ok j (kind_of l r) ats)) (table.wrong_attributes r o) bad, tt)),
          ),
        ))
      where
        bad : not (attrs_ok j (kind_of l r) ats) ≡ true → Cause p m (table.wrong_attributes r o)
        bad e = ((λ z. absurd (omega arith)), (λ z. h (λ g. false≢true (sym (ap not ((attrs_mean j d (kind_of l r) ats).1 g)) ∙ e))))

  inside_means : (j : Judge) (d : Decides house_types j) (m : Inside) (p : ℕ) (seen : List ℕ) → Means (Cause p m) (inside j l p seen m)
  unfolding inside
  inside_means j d nothing_inside p seen = tt
  inside_means j d (character o x k) p seen =
      let m = character o x k in
      first (Cause p m) (refuse (is_group (kind_of l p) && not (is_blank x)) (table.text_in_group p o) ∷ inside j l p seen k ∷ []) (
        other j d p m (is_group (kind_of l p) && not (is_blank x)) (table.text_in_group p o) refl,
        (lift p p k m (λ r q ats i s. after_character p o x k s) (inside j l p seen k) (inside_means j d k p seen), tt),
      )
  inside_means j d (element o n ats i k) p seen =
      let m = element o n ats i k in
      let r = child l p n in
      first (Cause p m)
      (opening j l p seen r ats o ∷ inside j l r [] i ∷ closing j l (kind_of l r) r o ats (child_rows l r i) (text_of i) ∷ inside j l p (r ∷ seen) k ∷ []) (
        opening_means j d p m p seen r ats o (λ w. record { attrs = ats; parts = i; stands = here p n k refl; wrong = w }),
        (
          lift r p i m (λ q u as' j s. deeper p o n ats i k s) (inside j l r [] i) (inside_means j d i r []),
          (
            closing_means j d p m (kind_of l r) r o ats (child_rows l r i) (text_of i) (kind_ok r) (λ f e z. record { attrs = ats; parts = i; stands = here p n k refl; type = f; kind = e; none = z }),
            (lift p p k m (λ q u as' j s. after_element p o n ats i k s) (inside j l p (r ∷ seen) k) (inside_means j d k p (r ∷ seen)), tt),
          ),
        ),
      )

  means : (j : Judge) (d : Decides house_types j) (m : Inside) → Means (Cause 1 (inner m)) (first_violation j l m)
  unfolding first_violation
  means j d nothing_inside = tt
  means j d (character o x k) = tt
  means j d (element o n ats i k) =
      first (Cause 1 i) (refuse (not (is_root l n ats)) (table.wrong_root o) ∷ inside j l 1 [] i ∷ closing j l (kind_of l 1) 1 o ats (child_rows l 1 i) (text_of i) ∷ []) (
        other j d 1 i (not (is_root l n ats)) (table.wrong_root o) refl,
        (
          inside_means j d i 1 [],
          (closing_means j d 1 i (kind_of l 1) 1 o ats (child_rows l 1 i) (text_of i) (kind_ok 1) (λ f e z. absurd (true≢false (sym (ap is_group wf.root.1) ∙ ap is_group e))), tt),
        ),
      )

  pub causes : (m : Inside) (a : Answer) → First house_types l m (Err a) → Cause 1 (inner m) a
  causes m a f = subst (Means (Cause 1 (inner m))) f.is (means f.judge f.decides m)
