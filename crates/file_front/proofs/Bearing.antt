-- The root's attributes: one more after those that came. Assumes nothing.
use mathlib.Core.Path.{◌≡◌, refl, sym, ◌∙◌, ap, subst}
use mathlib.Core.Bool.{Bool, true, false, cond, ◌||◌, false≢true, true≢false}
use mathlib.Core.Logic.{◌≢◌}
use mathlib.Core.List.{List, [], ◌∷◌, ◌++◌, append_assoc}
use Prim.Native.Nat.{ℕ, zero, suc, ◌+◌, ◌≤◌, ◌<◌}
use native.Mathlib.Omega.{arith}
use lib.ListN.{length, take, drop, take-append-drop, length-append}
use lib.Seq.{drop-drop, length-take-le}
use Rattle.std.specs.Prelude.{Option, None, is_some}
use Rattle.text.specs.Bytes.{ascii, is_blank, is_name_start, is_name_part}
use Rattle.text.specs.Lists.{same, span, All, Each, Begins}
use Rattle.text.specs.Words.{starts}
use Rattle.text.proofs.Parts.{starts_is, same_not}
use Rattle.text.proofs.Spans.{span_all, span_le}
use Rattle.text_characters.specs.Pieces.{equal, Piece, spells, resolved_all}
use Rattle.xml.specs.House.{IsName, IsAttrName, unprefixed, prefixed, mark, Attr, attr, attrs, GoodAttr, GoodAttrs}
use Rattle.xml.specs.Message.{Attrs, attrs_of}
use Rattle.file_walk.specs.First.{carries, is_hint, unhinted}
use Rattle.file_front.specs.declared.attributes.Carried.{Carried}
use Rattle.file_front.specs.mirror.Attributes.{Notes, spaced, tied, placed, Gains, Adds, Spaced, none, one, bit, most_attributes, Carries}
use Rattle.file_front.proofs.Joining.{joined_more, stands_on}

-- ---- an attribute after others

good_more : (k : ℕ) (seen : List (List ℕ)) (bs : List Attr) (a : Attr) → length bs < k → GoodAttrs k seen bs → GoodAttr a
    → Each (λ (n : List ℕ). a.name ≢ n) seen → Each (λ (b : Attr). a.name ≢ b.name) bs → GoodAttrs k seen (bs ++ (a ∷ []))
good_more zero seen bs a h g x o e = absurd (omega arith)
good_more (suc k) seen [] a h g x o e = (x, o, tt)
good_more (suc k) seen (b ∷ bs) a h g x o e = (g.0, g.1, good_more k (b.name ∷ seen) bs a (omega arith) g.2 x (e.0, o) e.1)

neither : (x y : Bool) → (x || y) ≡ false → (x ≡ false) × (y ≡ false)
neither true y e = absurd (false≢true (sym e))
neither false y e = (refl, e)

uncarried : (n : List ℕ) (bs : List Attr) → carries n (attrs_of bs) ≡ false → Each (λ (b : Attr). n ≢ b.name) bs
uncarried n [] e = tt
uncarried n (b ∷ bs) e = let w = neither (same n b.name) (carries n (attrs_of bs)) e in (same_not n b.name w.0, uncarried n bs w.1)

module _ (a : Attr) where
  carries_still : (n : List ℕ) (bs : List Attr) → same n a.name ≡ false → carries n (attrs_of (bs ++ (a ∷ []))) ≡ carries n (attrs_of bs)
  carries_still n [] e = rw e refl
  carries_still n (b ∷ bs) e = ap (λ (z : Bool). same n b.name || z) (carries_still n bs e)

  carries_now : (n : List ℕ) (bs : List Attr) → same n a.name ≡ true → carries n (attrs_of (bs ++ (a ∷ []))) ≡ true
  carries_now n [] e = rw e refl
  carries_now n (b ∷ bs) e = ap (λ (z : Bool). same n b.name || z) (carries_now n bs e) ∙ or_yes (same n b.name)
    where
      or_yes : (x : Bool) → (x || true) ≡ true
      or_yes true = refl
      or_yes false = refl

  unhinted_still : (bs : List Attr) → is_hint a.name ≡ true → unhinted (attrs_of (bs ++ (a ∷ []))) ≡ unhinted (attrs_of bs)
  unhinted_still [] e = rw e refl
  unhinted_still (b ∷ bs) e = ap (λ (z : Attrs). cond (is_hint b.name) z ((b.name, resolved_all b.value) ∷ z)) (unhinted_still bs e)

  unhinted_more : (bs : List Attr) → is_hint a.name ≡ false → unhinted (attrs_of bs) ≡ [] → unhinted (attrs_of (bs ++ (a ∷ []))) ≡ (a.name, resolved_all a.value) ∷ []
  unhinted_more [] e f = rw e refl
  unhinted_more (b ∷ bs) e f = go (is_hint b.name) f (λ g. unhinted_more bs e g)
    where
      all : Attrs
      all = unhinted (attrs_of (bs ++ (a ∷ [])))

      go : (x : Bool) → cond x (unhinted (attrs_of bs)) ((b.name, resolved_all b.value) ∷ unhinted (attrs_of bs)) ≡ [] → (unhinted (attrs_of bs) ≡ [] → all ≡ (a.name, resolved_all a.value) ∷ [])
          → cond x all ((b.name, resolved_all b.value) ∷ all) ≡ (a.name, resolved_all a.value) ∷ []
      go true g h = h g
      go false g h = absurd (omega (arith, ap length g))

-- ---- of which kind it is

bit_few : (b : Bool) → bit b ≤ 1
bit_few true = omega arith
bit_few false = omega arith

spaces_few : (kind : Option ℕ) (ats : Attrs) (k : ℕ) → Spaced kind ats k → k ≤ 1
spaces_few kind ats k (none z e f g) = omega arith
spaces_few kind ats k (one b z w sp e g) = omega arith

unspaced : (kind : Option ℕ) (ats : Attrs) (k : ℕ) → Spaced kind ats k → kind ≡ None → (carries (ascii "xmlns") ats ≡ false) × (unhinted ats ≡ []) × (k ≡ 0)
unspaced kind ats k (none z e f g) h = (e, f, g)
unspaced kind ats k (one b z w sp e g) h = absurd (true≢false (ap is_some (sym z ∙ h)))

hint_kept : (a : Attr) (bs : List Attr) (kind : Option ℕ) (k : ℕ) → is_hint a.name ≡ true → same (ascii "xmlns") a.name ≡ false → Spaced kind (attrs_of bs) k
    → Spaced kind (attrs_of (bs ++ (a ∷ []))) k
hint_kept a bs kind k h o (none z e f g) = none z (carries_still a (ascii "xmlns") bs o ∙ e) (unhinted_still a bs h ∙ f) g
hint_kept a bs kind k h o (one b z w sp e g) = one b z w sp (unhinted_still a bs h ∙ e) g

module _ (s : List ℕ) (at : ℕ) (c d : Carried) (w : Carries s at c) (x : Adds s c d) where
  abbrev a : Attr
  a = x.attribute

  abbrev bs : List Attr
  bs = w.attributes

  abbrev all : List Attr
  all = bs ++ (a ∷ [])

  grown_is : drop at s ≡ attrs all ++ drop d.at s
  grown_is = w.is ∙ ap (λ (u : List ℕ). attrs bs ++ u) x.is ∙ sym (joined_more attr attrs refl (λ y ys. refl) bs a (drop d.at s))

  grown_long : length all ≡ length bs + 1
  grown_long = length-append bs (a ∷ [])

  grown_good : (n : List ℕ) → a.name ≡ n → carries n (attrs_of bs) ≡ false → GoodAttrs most_attributes [] all
  grown_good n e f =
      good_more most_attributes [] bs a
      (omega (arith, w.few, bit_few c.prefix, bit_few c.location, spaces_few c.kind (attrs_of bs) w.spaces w.space))
      w.good x.good tt (subst (λ (m : List ℕ). Each (λ (b : Attr). m ≢ b.name) bs) (sym e) (uncarried n bs f))

  grown : Notes a.name a.value c d → Carries s at d
  unfolding same
  grown (spaced e z b y k p l) =
      let u = unspaced c.kind (attrs_of bs) w.spaces w.space z in
      record {
        attributes = all;
        good = grown_good (ascii "xmlns") e u.0;
        is = grown_is;
        prefix = carries_still a (ascii "xmlns:xsi") bs (ap (same (ascii "xmlns:xsi")) e) ∙ w.prefix ∙ sym p;
        location = carries_still a (ascii "xsi:schemaLocation") bs (ap (same (ascii "xsi:schemaLocation")) e) ∙ w.location ∙ sym l;
        spaces = 1;
        space = one b y (resolved_all a.value) k (unhinted_more a bs (ap is_hint e) u.1 ∙ ap (λ (n : List ℕ). (n, resolved_all a.value) ∷ []) e) refl;
        few = omega (arith, grown_long, w.few, u.2, ap bit p, ap bit l);
      }
  grown (tied e z k p l) = record {
    attributes = all;
    good = grown_good (ascii "xmlns:xsi") e (w.prefix ∙ z);
    is = grown_is;
    prefix = carries_now a (ascii "xmlns:xsi") bs (ap (same (ascii "xmlns:xsi")) e) ∙ sym p;
    location = carries_still a (ascii "xsi:schemaLocation") bs (ap (same (ascii "xsi:schemaLocation")) e) ∙ w.location ∙ sym l;
    spaces = w.spaces;
    space = subst (λ (b : Option ℕ). Spaced b (attrs_of all) w.spaces) (sym k) (hint_kept a bs c.kind w.spaces (ap is_hint e) (ap (same (ascii "xmlns")) e) w.space);
    few = omega (arith, grown_long, w.few, ap bit z, ap bit p, ap bit l);
  }
  grown (placed e z k p l) = record {
    attributes = all;
    good = grown_good (ascii "xsi:schemaLocation") e (w.location ∙ z);
    is = grown_is;
    prefix = carries_still a (ascii "xmlns:xsi") bs (ap (same (ascii "xmlns:xsi")) e) ∙ w.prefix ∙ sym p;
    location = carries_now a (ascii "xsi:schemaLocation") bs (ap (same (ascii "xsi:schemaLocation")) e) ∙ sym l;
    spaces = w.spaces;
    space = subst (λ (b : Option ℕ). Spaced b (attrs_of all) w.spaces) (sym k) (hint_kept a bs c.kind w.spaces (ap is_hint e) (ap (same (ascii "xmlns")) e) w.space);
    few = omega (arith, grown_long, w.few, ap bit z, ap bit p, ap bit l);
  }

  pub carries_more : Carries s at d
  carries_more = grown x.notes

pub carries_none : (s : List ℕ) (at : ℕ) (c : Carried) → c.at ≡ at → c.kind ≡ None → c.prefix ≡ false → c.location ≡ false → Carries s at c
carries_none s at c e k p l = record {
  attributes = [];
  good = tt;
  is = ap (λ (i : ℕ). drop i s) (sym e);
  prefix = sym p;
  location = sym l;
  spaces = 0;
  space = none k refl refl refl;
  few = omega arith;
}

-- ---- its bytes

some_blanks : (l : List ℕ) → 0 < length l → All is_blank l → Begins is_blank is_blank l
some_blanks [] h b = absurd (omega arith)
some_blanks (x ∷ l) h b = b

blanks_some : (l : List ℕ) → Begins is_blank is_blank l → 0 < length l
blanks_some [] b = absurd b
blanks_some (x ∷ l) b = omega arith

-- it takes at least its blanks
pub adds_on : (s : List ℕ) (c d : Carried) → Adds s c d → (c.at < d.at) × (c.at < length s)
adds_on s c d x =
    let a : Attr = x.attribute in
    let v : List ℕ = mark a.quote ∷ (spells a.value ++ (mark a.quote ∷ [])) in
    stands_on s c.at d.at (attr a) x.is
    (omega (arith, length-append a.gap (a.name ++ (a.before ++ (equal ∷ (a.after ++ v)))), blanks_some a.gap x.good.gap))

attr_bytes : (a : Attr) (u : List ℕ) → a.before ≡ [] → a.after ≡ [] → attr a ++ u
    ≡ a.gap ++ ((a.name ++ (equal ∷ [])) ++ (mark a.quote ∷ (spells a.value ++ (mark a.quote ∷ u))))
attr_bytes a u b e = rw (b, e) (simp append_assoc)

xmlns_name : IsName (ascii "xmlns")
unfolding is_name_start is_name_part
xmlns_name = (refl, (refl, (refl, (refl, (refl, tt)))))

xsi_name : IsName (ascii "xsi")
unfolding is_name_start is_name_part
xsi_name = (refl, (refl, (refl, tt)))

location_name : IsName (ascii "schemaLocation")
unfolding is_name_start is_name_part
location_name = (refl, (refl, (refl, (refl, (refl, (refl, (refl, (refl, (refl, (refl, (refl, (refl, (refl, (refl, tt))))))))))))))

noted_name : (n : List ℕ) (c d : Carried) (v : List Piece) → Notes n v c d → IsAttrName n
noted_name n c d v (spaced e z b y k p l) = subst IsAttrName (sym e) (unprefixed xmlns_name)
noted_name n c d v (tied e z k p l) = prefixed (ascii "xmlns") (ascii "xsi") xmlns_name xsi_name e
noted_name n c d v (placed e z k p l) = prefixed (ascii "xsi") (ascii "schemaLocation") xsi_name location_name e

-- blanks, a name with `=`, and a value
pub puts_adds : (n w s : List ℕ) (from : ℕ) (c d : Carried) → from ≡ c.at + span is_blank (drop c.at s) → from ≢ c.at → w ≡ n ++ (equal ∷ []) → starts w (drop from s) ≡ true
    → Gains n s (from + length w) c d → Adds s c d
puts_adds n w s from c d b o e z x =
    let at : ℕ = c.at in
    let m : ℕ = span is_blank (drop at s) in
    let q = x.quoted in
    let g : List ℕ = take m (drop at s) in
    let a : Attr = record { gap = g; name = n; before = []; after = []; quote = q.quote; value = q.value } in
    let first : drop at s ≡ g ++ drop from s = sym (take-append-drop m (drop at s)) ∙ ap (λ (u : List ℕ). g ++ u) (drop-drop m at s ∙ ap (λ (i : ℕ). drop i s) (sym b)) in
    let second : drop from s ≡ w ++ drop (from + length w) s = starts_is w (drop from s) z ∙ ap (λ (u : List ℕ). w ++ u) (drop-drop (length w) from s) in
    record {
      attribute = a;
      good = record {
        gap = some_blanks g (omega (arith, length-take-le m (drop at s) (span_le is_blank (drop at s)), b, o)) (span_all is_blank (drop at s));
        name = noted_name n c d q.value x.notes;
        before = tt;
        after = tt;
        value = q.good;
      };
      is = first
          ∙ ap (λ (u : List ℕ). g ++ u) (second ∙ ap (λ (u : List ℕ). w ++ u) q.is ∙ ap (λ (u : List ℕ). u ++ (mark q.quote ∷ (spells q.value ++ (mark q.quote ∷ drop d.at s)))) e)
          ∙ sym (attr_bytes a (drop d.at s) refl refl);
      notes = x.notes;
    }
