-- Attributes, one and all: on any bytes, and of a tree. Assumes nothing.
use mathlib.Core.Path.{◌≡◌, refl, sym, ◌∙◌, ap, ap₂}
use mathlib.Core.Bool.{Bool, true, false, not, cond, true≢false}
use mathlib.Core.List.{List, [], ◌∷◌, ◌++◌, append_assoc}
use Prim.Native.Nat.{ℕ, zero, suc, ◌+◌, ◌-◌, ◌≤◌, ◌<◌}
use native.Mathlib.Omega.{arith}
use lib.Dec.{eqb}
use lib.ListN.{length, drop, length-drop, length-append}
use lib.Seq.{drop-append_seam}
use borrow.Author.Tests.{eqb-false, eq-eqb, ne_eqb}
use Rattle.text.specs.Bytes.{is_blank, is_name_start}
use Rattle.text.specs.Lists.{All, Begins, span}
use Rattle.text_characters.specs.Pieces.{Piece, spells}
use Rattle.text.proofs.Classes.{not_so}
use Rattle.text.proofs.Spans.{span_le, span_of}
use Rattle.xml.specs.House.{Quote, single_quote, double, mark, GoodValue, Attr, attr, attrs, GoodAttr, GoodAttrs}
use Rattle.xml.proofs.Basics.{by_blank, blank_no_start, all_append, all_weaken, is_full_part, start_full, full_name}
use Rattle.xml_tags.specs.declared.attribute.Attribute.{Attribute}
use Rattle.xml_tags.specs.declared.attribute.Passed.{Passed}
use Rattle.xml_tags.specs.Marks.{but, pass}
use Rattle.xml_tags.specs.mirror.Passing.{no_quote, in_name}
use Rattle.xml_tags.specs.mirror.Attributes.{nowhere, value_at, quote_at, named_at, attribute_at, is_none, counted, passed_from, passed_at}
use Rattle.xml_tags.specs.Places.{name_of, attribute_of, first_of}
use Rattle.xml_tags.proofs.Passing.{stops, pass_over, pass_any, one_le, blank_stops, part_in_name}
use Rattle.xml_tags.proofs.Avoid.{value_avoids}

-- ---- on any bytes: the places stand in order, between o and e

pub record Lies (o e : ℕ) (a : Attribute) : Type 0 where
  pub gap : o ≤ a.name
  pub name : a.name ≤ a.stop
  pub equal : a.stop ≤ a.value
  pub value : a.value ≤ a.quote
  pub quote : a.quote ≤ a.end
  pub end : a.end ≤ e

value_lies : (z a b o : ℕ) (l : List ℕ) → z ≤ a → a ≤ b → b ≤ o → Lies z (o + length l) (value_at a b o l)
unfolding value_at
value_lies z a b o [] h k m = record { gap = h; name = k; equal = m; value = omega arith; quote = omega arith; end = omega arith }
value_lies z a b o (q ∷ l) h k m =
    let n = span_le (but q) l in
    let r = one_le (drop (span (but q) l) l) in
    record { gap = h; name = k; equal = omega arith; value = omega arith; quote = omega arith; end = omega (arith, length-drop (span (but q) l) l) }

lies_to : (o e e' : ℕ) (a : Attribute) → e ≡ e' → Lies o e a → Lies o e' a
lies_to o e e' a q h = rw q at h

named_lies : (z o : ℕ) (l : List ℕ) → z ≤ o → Lies z (o + length l) (named_at o l)
unfolding named_at
named_lies z o l h = go (eqb (span in_name l) 0)
  where
    go : (b : Bool) → Lies z (o + length l) (cond b (nowhere o) (pass in_name (quote_at o) o l))
    go true = record { gap = h; name = omega arith; equal = omega arith; value = omega arith; quote = omega arith; end = omega arith }
    go false =
        pass_any in_name (quote_at o) (Lies z (o + length l)) o l
        (λ n k. pass_any no_quote (value_at o (o + n)) (Lies z (o + length l)) (o + n) (drop n l)
        (λ m j. lies_to z _ _ _ (omega (arith, length-drop m (drop n l), length-drop n l)) (value_lies z o (o + n) (o + n + m) (drop m (drop n l)) h (omega arith) (omega arith))))

pub attribute_lies : (o : ℕ) (l : List ℕ) → Lies o (o + length l) (attribute_at o l)
unfolding attribute_at
attribute_lies o l =
    pass_any is_blank named_at (Lies o (o + length l)) o l
    (λ n k. lies_to o _ _ _ (omega (arith, length-drop n l)) (named_lies o (o + n) (drop n l) (omega arith)))

-- ---- all of them, on any bytes

pub some_end : (o : ℕ) (l : List ℕ) → is_none (attribute_at o l) ≡ false → o < (attribute_at o l).end
some_end o l e =
    let h = attribute_lies o l in
    let n = eqb-false (attribute_at o l).stop (attribute_at o l).name e in
    let m : (attribute_at o l).name < (attribute_at o l).stop = omega (arith, h.name) in
    omega (arith, h.gap, h.equal, h.value, h.quote)

-- any fuel that is more than the bytes does
fuel : (f g o : ℕ) (l : List ℕ) → length l < f → length l < g → passed_from f o l ≡ passed_from g o l
unfolding passed_from
fuel zero g o l h k = absurd (omega arith)
fuel (suc f) zero o l h k = absurd (omega arith)
fuel (suc f) (suc g) o l h k =
    go (is_none (attribute_at o l)) refl (λ a b. fuel f g (attribute_at o l).end (drop ((attribute_at o l).end - o) l) a b)
  where
    left : List ℕ
    left = drop ((attribute_at o l).end - o) l

    go : (b : Bool) → is_none (attribute_at o l) ≡ b
        → (length left < f → length left < g → passed_from f (attribute_at o l).end left ≡ passed_from g (attribute_at o l).end left)
        → ◌≡◌ {A = Passed} (cond b (record { count = 0; end = (attribute_at o l).name }) (counted (passed_from f (attribute_at o l).end left))) (cond b (record { count = 0; end = (attribute_at o l).name }) (counted (passed_from g (attribute_at o l).end left)))
    go true e ih = refl
    go false e ih =
        let m = some_end o l e in
        let n = (attribute_lies o l).end in
        let d = length-drop ((attribute_at o l).end - o) l in
        ap counted (ih (omega arith) (omega arith))

-- they end within the bytes, and each has a byte at least
pub record Between (o e : ℕ) (p : Passed) : Type 0 where
  pub low : o + p.count ≤ p.end
  pub high : p.end ≤ e

between_from : (f o : ℕ) (l : List ℕ) → Between o (o + length l) (passed_from f o l)
unfolding passed_from
between_from zero o l = record { low = omega arith; high = omega arith }
between_from (suc f) o l = go (is_none (attribute_at o l)) refl (between_from f (attribute_at o l).end (drop ((attribute_at o l).end - o) l))
  where
    left : List ℕ
    left = drop ((attribute_at o l).end - o) l

    go : (b : Bool) → is_none (attribute_at o l) ≡ b
        → Between (attribute_at o l).end ((attribute_at o l).end + length left) (passed_from f (attribute_at o l).end left)
        → Between o (o + length l) (cond b (record { count = 0; end = (attribute_at o l).name }) (counted (passed_from f (attribute_at o l).end left)))
    go true e ih =
        let h = attribute_lies o l in
        record { low = omega (arith, h.gap); high = omega (arith, h.name, h.equal, h.value, h.quote, h.end) }
    go false e ih =
        let m = some_end o l e in
        let n = (attribute_lies o l).end in
        let d = length-drop ((attribute_at o l).end - o) l in
        record { low = omega (arith, ih.low); high = omega (arith, ih.high) }

pub passed_between : (o : ℕ) (l : List ℕ) → Between o (o + length l) (passed_at o l)
unfolding passed_at
passed_between o l = between_from (suc (length l)) o l

pub passed_none : (o : ℕ) (l : List ℕ) → is_none (attribute_at o l) ≡ true → passed_at o l ≡ record { count = 0; end = (attribute_at o l).name }
unfolding passed_at passed_from
passed_none o l e = rw e

pub passed_some : (o : ℕ) (l : List ℕ) → is_none (attribute_at o l) ≡ false
    → passed_at o l ≡ counted (passed_at (attribute_at o l).end (drop ((attribute_at o l).end - o) l))
unfolding passed_at passed_from
passed_some o l e =
    let m = some_end o l e in
    let n = (attribute_lies o l).end in
    let d = length-drop ((attribute_at o l).end - o) l in
    rw e (ap counted (fuel (length l) (suc (length (drop ((attribute_at o l).end - o) l))) (attribute_at o l).end (drop ((attribute_at o l).end - o) l) (omega arith) (omega arith)))

-- ---- names and blanks

-- an attribute's name has a byte, begins with no blank, and goes on to its end
full_some : (n : List ℕ) → Begins is_name_start is_full_part n → 0 < length n
full_some [] i = absurd i
full_some (x ∷ n) i = omega arith

full_ink : (n w : List ℕ) → Begins is_name_start is_full_part n → span is_blank (n ++ w) ≡ 0
full_ink [] w i = absurd i
full_ink (x ∷ n) w i = stops is_blank x (n ++ w) (not_so (is_blank x) (λ e. true≢false (sym i.0 ∙ blank_no_start x e)))

pub full_in : (n : List ℕ) → Begins is_name_start is_full_part n → All in_name n
full_in [] i = tt
full_in (x ∷ n) i = (part_in_name x (start_full x i.0), all_weaken is_full_part in_name part_in_name n i.1)

some_blanks : (g : List ℕ) → Begins is_blank is_blank g → All is_blank g
some_blanks [] b = absurd b
some_blanks (x ∷ g) b = b

-- a blank ends a name
blanks_end_name : (g w : List ℕ) → All is_blank g → span in_name w ≡ 0 → span in_name (g ++ w) ≡ 0
blanks_end_name [] w b e = e
blanks_end_name (x ∷ g) w b e = stops in_name x (g ++ w) (blank_stops x b.0)

some_end_name : (g w : List ℕ) → Begins is_blank is_blank g → span in_name (g ++ w) ≡ 0
some_end_name [] w b = absurd b
some_end_name (x ∷ g) w b = stops in_name x (g ++ w) (blank_stops x b.0)

-- ---- an attribute of a tree

named_is : (o : ℕ) (n w : List ℕ) → Begins is_name_start is_full_part n → span in_name w ≡ 0 → named_at o (n ++ w) ≡ quote_at o (o + length n) w
unfolding named_at
named_is o n w i e =
    let a = full_in n i in
    rw (span_of in_name n w a e, ne_eqb (length n) 0 (λ z. omega (arith, full_some n i))) (pass_over in_name (quote_at o) o n w a e)

-- after the name, up to the quote
blank_no_quote : (x : ℕ) → is_blank x ≡ true → no_quote x ≡ true
unfolding no_quote
blank_no_quote x e = by_blank (λ (y : ℕ). no_quote y ≡ true) x e refl refl refl refl

mark_quote : (q : Quote) → no_quote (mark q) ≡ false
unfolding no_quote
mark_quote single_quote = refl
mark_quote double = refl

equals_all : (b a : List ℕ) → All is_blank b → All is_blank a → All no_quote (b ++ (61 ∷ a))
unfolding no_quote
equals_all b a h k =
    all_append no_quote b (61 ∷ a) (all_weaken is_blank no_quote blank_no_quote b h) (refl, all_weaken is_blank no_quote blank_no_quote a k)

equal_ends : (w : List ℕ) → span in_name (61 ∷ w) ≡ 0
unfolding in_name is_blank
equal_ends w = stops in_name 61 w refl

-- an attribute by the place of its value
abbrev valued : ℕ → ℕ → ℕ → ℕ → Attribute
valued a b n v = record { name = a; stop = b; value = v; quote = v + n; end = v + n + 1 }

value_is : (a b o : ℕ) (q : Quote) (v : List Piece) (w : List ℕ) → GoodValue q v
    → value_at a b o (mark q ∷ (spells v ++ (mark q ∷ w))) ≡ valued a b (length (spells v)) (o + 1)
unfolding value_at
value_is a b o q v w g =
    rw (span_of (but (mark q)) (spells v) (mark q ∷ w) (value_avoids q v g) (stops (but (mark q)) (mark q) w (ap not (eq-eqb (mark q) (mark q) refl))), drop-append_seam (spells v) (mark q ∷ w))

pub attr_shape : (g n b c v u : List ℕ) (q : ℕ)
    → (g ++ (n ++ (b ++ (61 ∷ (c ++ (q ∷ (v ++ (q ∷ [])))))))) ++ u ≡ g ++ (n ++ ((b ++ (61 ∷ c)) ++ (q ∷ (v ++ (q ∷ u)))))
attr_shape g n b c v u q = simp append_assoc

pub attribute_is : (o : ℕ) (a : Attr) (w : List ℕ) → GoodAttr a → attribute_at o (attr a ++ w) ≡ attribute_of o a
unfolding attribute_at
attribute_is o a w g =
    ap (attribute_at o) (attr_shape a.gap a.name a.before a.after (spells a.value) w (mark a.quote))
    ∙ pass_over is_blank named_at o a.gap (a.name ++ (equals ++ value)) (some_blanks a.gap g.gap) (full_ink a.name (equals ++ value) (full_name a.name g.name))
    ∙ named_is (name_of o a) a.name (equals ++ value) (full_name a.name g.name) (rw append_assoc (blanks_end_name a.before _ g.before (equal_ends _)))
    ∙ pass_over no_quote (value_at (name_of o a) (name_of o a + length a.name)) (name_of o a + length a.name) equals value (equals_all a.before a.after g.before g.after) (stops no_quote (mark a.quote) _ (mark_quote a.quote))
    ∙ value_is (name_of o a) (name_of o a + length a.name) _ a.quote a.value w g.value
    ∙ ap (valued (name_of o a) (name_of o a + length a.name) (length (spells a.value))) (omega (arith, length-append a.before (61 ∷ a.after)))
  where
    equals : List ℕ
    equals = a.before ++ (61 ∷ a.after)

    value : List ℕ
    value = mark a.quote ∷ (spells a.value ++ (mark a.quote ∷ w))

-- blanks, and then no name
pub attribute_none : (o : ℕ) (g w : List ℕ) → All is_blank g → span is_blank w ≡ 0 → span in_name w ≡ 0
    → attribute_at o (g ++ w) ≡ nowhere (o + length g)
unfolding attribute_at named_at
attribute_none o g w b e f = pass_over is_blank named_at o g w b e ∙ rw f refl

-- ---- all attributes of a tree

attr_lengths : (o : ℕ) (g n b c v : List ℕ) (q : ℕ)
    → o + length g + length n + (length b + length c + 2) + length v + 1 ≡ o + length (g ++ (n ++ (b ++ (61 ∷ (c ++ (q ∷ (v ++ (q ∷ []))))))))
attr_lengths o g n b c v q = simp length-append (omega arith)

pub attribute_end : (o : ℕ) (a : Attr) → (attribute_of o a).end ≡ o + length (attr a)
attribute_end o a = attr_lengths o a.gap a.name a.before a.after (spells a.value) (mark a.quote)

attribute_some : (o : ℕ) (a : Attr) → GoodAttr a → is_none (attribute_of o a) ≡ false
attribute_some o a g = ne_eqb (name_of o a + length a.name) (name_of o a) (λ e. omega (arith, full_some a.name (full_name a.name g.name)))

-- after an attribute
attribute_drop : (o : ℕ) (a : Attr) (w : List ℕ) → drop ((attribute_of o a).end - o) (attr a ++ w) ≡ w
attribute_drop o a w =
    let e : (attribute_of o a).end - o ≡ length (attr a) = omega (arith, attribute_end o a) in
    rw (e, drop-append_seam (attr a) w)

module _ (g w : List ℕ) (b : All is_blank g) (e : span is_blank w ≡ 0) (f : span in_name w ≡ 0) where
  none_from : (o n : ℕ) → passed_from (suc n) o (g ++ w) ≡ record { count = 0; end = o + length g }
  unfolding passed_from
  none_from o n = rw (attribute_none o g w b e f, eq-eqb (o + length g) (o + length g) refl)

  passed_from_lem : (n o k : ℕ) (ss : List (List ℕ)) (l : List Attr) → GoodAttrs k ss l → length l < n
      → passed_from n o (attrs l ++ (g ++ w)) ≡ record { count = length l; end = o + length (attrs l) + length g }
  unfolding passed_from
  passed_from_lem zero o k ss l h q = absurd (omega arith)
  passed_from_lem (suc n) o k ss [] h q = none_from o n ∙ ap (λ (z : ℕ). record { count = 0; end = z }) (omega arith)
  passed_from_lem (suc n) o zero ss (a ∷ l) h q = absurd h
  passed_from_lem (suc n) o (suc k) ss (a ∷ l) h q =
      rw (append_assoc (attr a) (attrs l) (g ++ w), attribute_is o a (attrs l ++ (g ++ w)) h.0, attribute_some o a h.0, attribute_drop o a (attrs l ++ (g ++ w)))
      (ap counted (passed_from_lem n (attribute_of o a).end k (a.name ∷ ss) l h.2 (omega arith))
      ∙ ap₂ (λ (x y : ℕ). record { count = x; end = y }) (omega arith) (omega (arith, attribute_end o a, length-append (attr a) (attrs l))))

  count_le : (l : List Attr) → length l ≤ length (attrs l)
  count_le [] = omega arith
  count_le (a ∷ l) = omega (arith, attribute_end 0 a, length-append (attr a) (attrs l), count_le l)

  pub passed_is : (o : ℕ) (l : List Attr) → GoodAttrs 4 [] l
      → passed_at o (attrs l ++ (g ++ w)) ≡ record { count = length l; end = o + length (attrs l) + length g }
  unfolding passed_at
  passed_is o l h =
      passed_from_lem (suc (length (attrs l ++ (g ++ w)))) o 4 [] l h (omega (arith, length-append (attrs l) (g ++ w), count_le l))

  pub first_is : (o : ℕ) (l : List Attr) → GoodAttrs 4 [] l → attribute_at o (attrs l ++ (g ++ w)) ≡ first_of o l g
  first_is o [] h = attribute_none o g w b e f
  first_is o (a ∷ l) h = ap (attribute_at o) (append_assoc (attr a) (attrs l) (g ++ w)) ∙ attribute_is o a (attrs l ++ (g ++ w)) h.0

-- a tag's name does not go on into what stands after it
pub attrs_end_name : (g w : List ℕ) → All is_blank g → span in_name w ≡ 0 → (l : List Attr) → GoodAttrs 4 [] l → span in_name (attrs l ++ (g ++ w)) ≡ 0
attrs_end_name g w b f [] h = blanks_end_name g w b f
attrs_end_name g w b f (a ∷ l) h =
    ap (span in_name) (append_assoc (attr a) (attrs l) (g ++ w) ∙ append_assoc a.gap _ (attrs l ++ (g ++ w)))
    ∙ some_end_name a.gap _ h.0.gap
