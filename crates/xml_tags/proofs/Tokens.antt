-- What the cursor answers at a text and at a tag of a tree. Assumes nothing.
use mathlib.Core.Path.{◌≡◌, refl, sym, ◌∙◌, ap}
use mathlib.Core.Logic.{◌≢◌}
use mathlib.Core.Bool.{Bool, true, false, cond, true≢false}
use mathlib.Core.List.{List, [], ◌∷◌, ◌++◌, append_assoc, append-nil}
use Prim.Native.Nat.{ℕ, suc, ◌+◌, ◌-◌, ◌≤◌, ◌<◌}
use native.Mathlib.Omega.{arith}
use lib.Dec.{eqb}
use lib.ListN.{length, drop, length-drop, length-append}
use lib.Seq.{drop-append_seam}
use borrow.Author.Tests.{ne_eqb}
use Rattle.text.specs.Bytes.{is_blank, is_name_part, is_name_start}
use Rattle.text.specs.Lists.{All, Each, span}
use Rattle.text_characters.specs.Pieces.{less, greater, solidus, Piece, spells, GoodPiece}
use Rattle.xml.specs.House.{IsName, attrs, Tag, tag, GoodTag}
use Rattle.xml.proofs.Basics.{all_append, all_weaken, name_all, name_full}
use Rattle.xml_tags.specs.declared.attribute.Attribute.{Attribute}
use Rattle.xml_tags.specs.declared.token.Kind.TheVariants.{Open, Empty, Close, End}
use Rattle.xml_tags.specs.declared.token.Token.{Token}
use Rattle.xml_tags.specs.Marks.{but, pass, one, head_is, behind}
use Rattle.xml_tags.specs.mirror.Passing.{in_name}
use Rattle.xml_tags.specs.mirror.Attributes.{attribute_at, passed_at}
use Rattle.xml_tags.specs.mirror.Tokens.{bare, shut_at, tail_at, tag_at, token_at}
use Rattle.xml_tags.specs.Places.{first_of, tag_of}
use Rattle.xml_tags.proofs.Passing.{but_by, stops, pass_over, pass_skip, pass_none, pass_any, one_le}
use Rattle.xml_tags.proofs.Avoid.{text_avoids}
use Rattle.xml_tags.proofs.Attributes.{full_in, passed_between, passed_is, first_is, attrs_end_name}

-- ---- on any bytes: a token ends within them, and after its `<` if there is one

pub record Ahead (o e : ℕ) (t : Token) : Type 0 where
  pub text : o ≤ t.less
  pub tag : t.less ≤ t.end
  pub within : t.end ≤ e
  pub on : t.kind ≢ End → t.less < t.end

bare_ahead : (o e a z : ℕ) → o ≤ a → a < z → z ≤ e → Ahead o e (bare Close a z)
bare_ahead o e a z h k m = record { text = h; tag = omega arith; within = m; on = λ n. k }

shut_ahead : (y o e n : ℕ) (a : Attribute) (z : ℕ) (l : List ℕ) → y ≤ o → o < z → Ahead y (z + length l) (shut_at o e n a z l)
unfolding shut_at
shut_ahead y o e n a z [] h k = record { text = h; tag = omega arith; within = omega arith; on = λ m. omega arith }
shut_ahead y o e n a z (x ∷ l) h k = go (eqb x solidus) (one_le l)
  where
    go : (b : Bool) → one l ≤ length l
        → Ahead y (z + suc (length l)) (cond b (record { kind = Empty; less = o; stop = e; attributes = n; first = a; end = z + 1 + one l }) (record { kind = Open; less = o; stop = e; attributes = n; first = a; end = z + 1 }))
    go true m = record { text = h; tag = omega arith; within = omega arith; on = λ w. omega arith }
    go false m = record { text = h; tag = omega arith; within = omega arith; on = λ w. omega arith }

ahead_to : (o e e' : ℕ) (t : Token) → e ≡ e' → Ahead o e t → Ahead o e' t
ahead_to o e e' t q h = rw q at h

tag_ahead : (y o : ℕ) (l : List ℕ) → y ≤ o → Ahead y (o + length l) (tag_at o l)
unfolding tag_at behind tail_at
tag_ahead y o [] h = record { text = h; tag = omega arith; within = omega arith; on = λ n. absurd (n refl) }
tag_ahead y o (x ∷ l) h = go (head_is solidus l)
  where
    go : (b : Bool) → Ahead y (o + suc (length l)) (cond b (bare Close o (behind greater (o + 1) l)) (pass in_name (tail_at o) (o + 1) l))
    go true =
        pass_any (but greater) (λ z m. z + one m) (λ (z : ℕ). Ahead y (o + suc (length l)) (bare Close o z)) (o + 1) l
        (λ n k. bare_ahead y (o + suc (length l)) o (o + 1 + n + one (drop n l)) h (omega arith) (omega (arith, one_le (drop n l), length-drop n l)))
    go false =
        pass_any in_name (tail_at o) (Ahead y (o + suc (length l))) (o + 1) l
        (λ n k.
        let e = o + 1 + n in
        let p = passed_at e (drop n l) in
        let b = passed_between e (drop n l) in
        let w = drop (p.end - e) (drop n l) in
        let d : p.end + length w ≡ o + suc (length l) = omega (arith, b.low, b.high, length-drop n l, length-drop (p.end - e) (drop n l)) in
        ahead_to y (p.end + length w) (o + suc (length l)) (tail_at o e (drop n l)) d (shut_ahead y o e p.count (attribute_at e (drop n l)) p.end w h (omega (arith, b.low))))

pub token_ahead : (o : ℕ) (l : List ℕ) → Ahead o (o + length l) (token_at o l)
unfolding token_at
token_ahead o l =
    pass_any (but less) tag_at (Ahead o (o + length l)) o l
    (λ n k. ahead_to o (o + n + length (drop n l)) (o + length l) (tag_at (o + n) (drop n l)) (omega (arith, length-drop n l)) (tag_ahead o (o + n) (drop n l) (omega arith)))

-- at a place of s: no place past its end
pub token_within : (s : List ℕ) (o : ℕ) → o ≤ length s → Ahead o (length s) (token_at o (drop o s))
token_within s o h =
    ahead_to o (o + length (drop o s)) (length s) (token_at o (drop o s)) (omega (arith, length-drop o s)) (token_ahead o (drop o s))

-- ---- texts

pub token_text : (o : ℕ) (ps : List Piece) (w : List ℕ) → Each GoodPiece ps
    → token_at o (spells ps ++ w) ≡ token_at (o + length (spells ps)) w
unfolding token_at
token_text o ps w g = pass_skip (but less) tag_at o (spells ps) w (text_avoids ps g)

-- bytes without `<` up to the end
pub token_end : (o : ℕ) (l : List ℕ) → All (but less) l → token_at o l ≡ bare End (o + length l) (o + length l)
unfolding token_at tag_at span
token_end o l h = ap (pass (but less) tag_at o) (sym (append-nil l)) ∙ pass_over (but less) tag_at o l [] h refl

-- ---- opening tags

less_stops : (o : ℕ) (l : List ℕ) → token_at o (60 ∷ l) ≡ tag_at o (60 ∷ l)
unfolding token_at
less_stops o l = pass_none (but less) tag_at o (60 ∷ l) (stops (but less) 60 l refl)

name_no_solidus : (n w : List ℕ) → IsName n → head_is solidus (n ++ w) ≡ false
unfolding is_name_start
name_no_solidus [] w i = absurd i
name_no_solidus (x ∷ n) w i = ne_eqb x solidus (λ e. true≢false (sym i.0 ∙ ap is_name_start e))

-- after the name: attributes, blanks, and then w
tail_is : (o e : ℕ) (t : Tag) (w : List ℕ) → GoodTag t → span is_blank w ≡ 0 → span in_name w ≡ 0
    → tail_at o e (attrs t.attributes ++ (t.gap ++ w)) ≡ shut_at o e (length t.attributes) (first_of e t.attributes t.gap) (e + length (attrs t.attributes) + length t.gap) w
unfolding tail_at
tail_is o e t w g b n =
    let a = attrs t.attributes in
    let d : e + length a + length t.gap - e ≡ length (a ++ t.gap) = omega (arith, length-append a t.gap) in
    rw (passed_is t.gap w g.gap b n e t.attributes g.attributes, first_is t.gap w g.gap b n e t.attributes g.attributes, d, ← append_assoc a t.gap w, drop-append_seam (a ++ t.gap) w)

tag_is : (o : ℕ) (t : Tag) (w : List ℕ) → GoodTag t → span is_blank w ≡ 0 → span in_name w ≡ 0
    → token_at o (60 ∷ (tag t ++ w)) ≡ shut_at o (o + 1 + length t.name) (length t.attributes) (first_of (o + 1 + length t.name) t.attributes t.gap) (o + 1 + length (tag t)) w
unfolding tag_at
tag_is o t w g b n =
    less_stops o (tag t ++ w)
    ∙ ap (λ (l : List ℕ). tag_at o (60 ∷ l)) shape
    ∙ ap (λ (z : Bool). cond z (bare Close o (behind greater (o + 1) (t.name ++ rest))) (pass in_name (tail_at o) (o + 1) (t.name ++ rest))) (name_no_solidus t.name rest g.name)
    ∙ pass_over in_name (tail_at o) (o + 1) t.name rest (full_in t.name (name_full t.name g.name)) (attrs_end_name t.gap w g.gap n t.attributes g.attributes)
    ∙ tail_is o (o + 1 + length t.name) t w g b n
    ∙ ap (λ (z : ℕ). shut_at o (o + 1 + length t.name) (length t.attributes) (first_of (o + 1 + length t.name) t.attributes t.gap) z w)
    (omega (arith, length-append t.name (attrs t.attributes ++ t.gap), length-append (attrs t.attributes) t.gap))
  where
    rest : List ℕ
    rest = attrs t.attributes ++ (t.gap ++ w)

    shape : tag t ++ w ≡ t.name ++ rest
    shape =
        append_assoc t.name (attrs t.attributes ++ t.gap) w
        ∙ ap (λ (l : List ℕ). t.name ++ l) (append_assoc (attrs t.attributes) t.gap w)

-- `<a ..>`
pub token_open : (o : ℕ) (t : Tag) (w : List ℕ) → GoodTag t
    → token_at o (60 ∷ (tag t ++ (62 ∷ w))) ≡ tag_of Open o t (o + (length (tag t) + 2))
unfolding shut_at is_blank in_name
token_open o t w g = tag_is o t (62 ∷ w) g (stops is_blank 62 w refl) (stops in_name 62 w refl) ∙ ap (tag_of Open o t) (omega arith)

-- `<a ../>`
pub token_empty : (o : ℕ) (t : Tag) (w : List ℕ) → GoodTag t
    → token_at o (60 ∷ (tag t ++ (47 ∷ 62 ∷ w))) ≡ tag_of Empty o t (o + (length (tag t) + 3))
unfolding shut_at is_blank in_name
token_empty o t w g =
    tag_is o t (47 ∷ 62 ∷ w) g (stops is_blank 47 (62 ∷ w) refl) (stops in_name 47 (62 ∷ w) refl) ∙ ap (tag_of Empty o t) (omega arith)

-- ---- end tags

close_all : (n g : List ℕ) → IsName n → All is_blank g → All (but greater) (47 ∷ (n ++ g))
unfolding is_blank is_name_part
close_all n g i b =
    (refl, all_append (but greater) n g (all_weaken is_name_part (but greater) (but_by is_name_part greater refl) n (name_all n i)) (all_weaken is_blank (but greater) (but_by is_blank greater refl) g b))

-- `</a>`
pub token_close : (o : ℕ) (n g w : List ℕ) → IsName n → All is_blank g
    → token_at o (60 ∷ 47 ∷ (n ++ (g ++ (62 ∷ w)))) ≡ bare Close o (o + (length n + length g + 3))
unfolding tag_at behind
token_close o n g w i b =
    less_stops o (47 ∷ (n ++ (g ++ (62 ∷ w))))
    ∙ ap (λ (l : List ℕ). bare Close o (behind greater (o + 1) (47 ∷ l))) (sym (append_assoc n g (62 ∷ w)))
    ∙ ap (bare Close o) (pass_over (but greater) (λ z l. z + one l) (o + 1) (47 ∷ (n ++ g)) (62 ∷ w) (close_all n g i b) (stops (but greater) 62 w refl) ∙ omega (arith, length-append n g))
