-- The root's attributes, looked at one after the other, are judged as the definition judges them. Assumes nothing.
use mathlib.Core.Path.{◌≡◌, refl, sym, ◌∙◌, ap}
use mathlib.Core.Bool.{Bool, true, false, cond, not, ◌&&◌, ◌||◌}
use mathlib.Core.List.{List, [], ◌∷◌}
use Prim.Native.Nat.{ℕ, zero, suc, ◌+◌, ◌≤◌}
use native.Mathlib.Omega.{arith}
use lib.ListN.{length, drop}
use lib.Seq.{slice}
use Rattle.text.specs.Bytes.{ascii, is_unmarked}
use Rattle.text.specs.Lists.{All, same}
use Rattle.text_characters.specs.Pieces.{Spells}
use Rattle.text_characters.proofs.Unmarked.{unmarked_same}
use Rattle.list.specs.tables.Table.{list_of}
use Rattle.list.specs.tables.Sound.{Sound}
use Rattle.list.proofs.rows.Words.{same_eq, same_of}
use Rattle.xml.specs.Message.{Attrs}
use Rattle.xml_tags.specs.declared.attribute.Attribute.{Attribute}
use Rattle.xml_tags.specs.mirror.Attributes.{attribute_at}
use Rattle.xml_tags.specs.Story.{attribute_in, Finds}
use Rattle.file_walk.specs.declared.hints.Carried.{Carried}
use Rattle.file_walk.specs.First.{only, carries, unhinted, root_attrs, is_empty}
use Rattle.file_walk.specs.mirror.Stride.{named}
use Rattle.file_walk.specs.mirror.Begin.{space_in, noted, noted_in, nothing, carried_in, allowed}
use Rattle.file_walk.proofs.violation.Answers.{iff_same}

or_yes : (b : Bool) → (b || true) ≡ true
or_yes true = refl
or_yes false = refl

and_yes : (b : Bool) → (b && true) ≡ b
and_yes true = refl
and_yes false = refl

and_no : (b : Bool) → (b && false) ≡ false
and_no true = refl
and_no false = refl

-- ---- on any attributes

only_cons : (n v : List ℕ) (a : List ℕ × List ℕ) (ats : Attrs) (x : Bool) → (same n a.0 && same v a.1) ≡ x → only n v (a ∷ ats) ≡ (x && is_empty ats)
only_cons n v a [] x e = e ∙ sym (and_yes x)
only_cons n v a (b ∷ ats) x e = sym (and_no x)

module _ (space : List ℕ) where
  abbrev noted_by : Carried → List ℕ × List ℕ → Carried
  noted_by c a = noted (same (ascii "xmlns:xsi") a.0) (same (ascii "xsi:schemaLocation") a.0) (same (ascii "xmlns") a.0 && same space a.1) c

  abbrev carried_by : Carried → Attrs → Carried
  carried_by c [] = c
  carried_by c (a ∷ ats) = carried_by (noted_by c a) ats

  -- what is asked of those that are still to come; r are the others among them, l and p say whether the two hints are
  abbrev asked : Carried → Attrs → Bool → Bool → Bool
  asked c r l p = not c.other && (cond c.space (is_empty r) (only (ascii "xmlns") space r) && (not (c.location || l) || (c.prefix || p)))

  abbrev still : Carried → Attrs → Bool
  still c ats = asked c (unhinted ats) (carries (ascii "xsi:schemaLocation") ats) (carries (ascii "xmlns:xsi") ats)

  none_left : (a b d w : Bool) → (not w && (a && (not d || b))) ≡ (not w && (cond a true false && (not (d || false) || (b || false))))
  none_left a b d true = refl
  none_left false b d false = refl
  none_left true b false false = refl
  none_left true true true false = refl
  none_left true false true false = refl

  module _ (c : Carried) (a : List ℕ × List ℕ) (ats : Attrs) (ih : (d : Carried) → allowed (carried_by d ats) ≡ still d ats) where
    abbrev l : Bool
    l = carries (ascii "xsi:schemaLocation") ats

    abbrev p : Bool
    p = carries (ascii "xmlns:xsi") ats

    -- any other attribute
    other_step : (k x : Bool) → (same (ascii "xmlns") a.0 && same space a.1) ≡ x
        → allowed (carried_by (cond (not k && x) (record { space = true; prefix = c.prefix; location = c.location; other = c.other }) (record { space = c.space; prefix = c.prefix; location = c.location; other = true })) ats)
        ≡ (not c.other && (cond k false (only (ascii "xmlns") space (a ∷ unhinted ats)) && (not (c.location || l) || (c.prefix || p))))
    other_step true x e = ih (record { space = c.space; prefix = c.prefix; location = c.location; other = true }) ∙ sym (and_no (not c.other))
    other_step false true e =
        ih (record { space = true; prefix = c.prefix; location = c.location; other = c.other })
        ∙ ap (λ (z : Bool). not c.other && (z && (not (c.location || l) || (c.prefix || p)))) (sym (only_cons (ascii "xmlns") space a (unhinted ats) true e))
    other_step false false e =
        ih (record { space = c.space; prefix = c.prefix; location = c.location; other = true })
        ∙ sym (ap (λ (z : Bool). not c.other && (z && (not (c.location || l) || (c.prefix || p)))) (only_cons (ascii "xmlns") space a (unhinted ats) false e) ∙ and_no (not c.other))

    step : (is_p is_l : Bool) → allowed (carried_by (noted is_p is_l (same (ascii "xmlns") a.0 && same space a.1) c) ats)
        ≡ asked c (cond (is_p || is_l) (unhinted ats) (a ∷ unhinted ats)) (is_l || l) (is_p || p)
    unfolding noted
    step true is_l =
        ih (record { space = c.space; prefix = true; location = c.location; other = c.other })
        ∙ ap (λ (z : Bool). not c.other && (cond c.space (is_empty (unhinted ats)) (only (ascii "xmlns") space (unhinted ats)) && z))
        (or_yes (not (c.location || l)) ∙ sym (ap (λ (z : Bool). not (c.location || (is_l || l)) || z) (or_yes c.prefix) ∙ or_yes (not (c.location || (is_l || l)))))
    step false true =
        ih (record { space = c.space; prefix = c.prefix; location = true; other = c.other })
        ∙ ap (λ (z : Bool). not c.other && (cond c.space (is_empty (unhinted ats)) (only (ascii "xmlns") space (unhinted ats)) && (not z || (c.prefix || p))))
        (sym (or_yes c.location))
    step false false = other_step c.space (same (ascii "xmlns") a.0 && same space a.1) refl

  judged : (ats : Attrs) (c : Carried) → allowed (carried_by c ats) ≡ still c ats
  unfolding allowed
  judged [] c = none_left c.space c.prefix c.location c.other
  judged (a ∷ ats) c = step c a ats (λ d. judged ats d) (same (ascii "xmlns:xsi") a.0) (same (ascii "xsi:schemaLocation") a.0)

-- ---- by the places of a tag

same_by : (u s cs : List ℕ) → All is_unmarked u → Spells s cs → same u s ≡ same u cs
same_by u s cs a w =
    let f = unmarked_same u s cs a w in
    iff_same (same u s) (same u cs) (λ e. same_of u cs (sym (f.0 (sym (same_eq u s e))))) (λ e. same_of u s (sym (f.1 (sym (same_eq u cs e)))))

module _ (t pool s : List ℕ) (sd : Sound t pool) where
  abbrev space : List ℕ
  space = (list_of t pool).space

  noted_by_lem : (c : Carried) (x : Attribute) (a : List ℕ × List ℕ) → slice x.name x.stop s ≡ a.0 → Spells (slice x.value x.quote s) a.1
      → noted_in t pool s c x ≡ noted_by space c a
  unfolding named space_in
  noted_by_lem c x a n v =
      let y = same_by space (slice x.value x.quote s) a.1 sd.well.space v in
      λ j. noted (same (ascii "xmlns:xsi") (n j)) (same (ascii "xsi:schemaLocation") (n j)) (same (ascii "xmlns") (n j) && y j) c

  carried_by_lem : (ats : Attrs) (n o : ℕ) (c : Carried) → n ≡ length ats → Finds s o ats → carried_in t pool s c n o ≡ carried_by space c ats
  unfolding carried_in
  carried_by_lem [] zero o c e f = refl
  carried_by_lem [] (suc n) o c e f = absurd (omega arith)
  carried_by_lem (a ∷ ats) zero o c e f = absurd (omega arith)
  carried_by_lem (a ∷ ats) (suc n) o c e f =
      ap (λ (d : Carried). carried_in t pool s d n (attribute_in s o).end) (noted_by_lem c (attribute_in s o) a f.0 f.1)
      ∙ carried_by_lem ats n (attribute_in s o).end (noted_by space c a) (omega arith) f.2

  pub root_judged : (ats : Attrs) (n o : ℕ) → n ≡ length ats → Finds s o ats → allowed (carried_in t pool s nothing n o) ≡ root_attrs space ats
  root_judged ats n o e f = ap allowed (carried_by_lem ats n o nothing e f) ∙ judged space ats nothing

-- ---- from what the code's calls told

-- the loop: after one more, of which there are so many less, from o on
module _ (t pool s : List ℕ) where
  pub carry_on : (c d : Carried) (m n o : ℕ) (x : Attribute) → n ≡ m + 1 → x ≡ attribute_at o (drop o s) → d ≡ noted_in t pool s c x
      → carried_in t pool s d m x.end ≡ carried_in t pool s c n o
  unfolding carried_in
  carry_on c d m zero o x h e f = absurd (omega arith)
  carry_on c d m (suc n) o x h e f =
      let i : m ≡ n = omega arith in
      ap (λ (k : ℕ). carried_in t pool s d k x.end) i ∙ ap (λ (z : Carried). carried_in t pool s z n x.end) f
      ∙ ap (λ (y : Attribute). carried_in t pool s (noted_in t pool s c y) n y.end) e

  pub carry_end : (c : Carried) (n o : ℕ) → n ≤ 0 → carried_in t pool s c n o ≡ c
  unfolding carried_in
  carry_end c zero o h = refl
  carry_end c (suc n) o h = absurd (omega arith)
