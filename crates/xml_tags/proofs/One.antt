-- Only one message is told of a text. Assumes nothing.
use mathlib.Core.Path.{◌≡◌, refl, sym, ◌∙◌, ap, ap₂}
use mathlib.Core.Bool.{false}
use mathlib.Core.List.{List, [], ◌∷◌}
use Prim.Native.Nat.{ℕ, ◌+◌}
use native.Mathlib.Omega.{arith}
use lib.Dec.{eqb}
use lib.ListN.{length, drop, length-append}
use lib.Seq.{drop-append_seam}
use borrow.Author.Tests.{eqb-false}
use Rattle.text.specs.Lists.{Each}
use Rattle.text_characters.specs.Pieces.{Piece, spell, spells, resolved, GoodPiece}
use Rattle.text_characters.specs.Chars.{char_of}
use Rattle.text_characters.specs.mirror.Resolving.{char_at}
use Rattle.text_characters.specs.declared.utf8.Char.{Char}
use Rattle.text_characters.proofs.Resolving.{complete, piece_some}
use Rattle.text_characters.proofs.Spelling.{one_text}
use Rattle.xml.specs.Message.{Attrs}
use Rattle.xml_tags.specs.declared.token.Kind.{Kind}
use Rattle.xml_tags.specs.declared.token.Kind.TheVariants.{Open, Empty, Close, End}
use Rattle.xml_tags.specs.declared.token.Token.{Token}
use Rattle.xml_tags.specs.Story.{Event, char, enter, leave, chars, Text, attribute_in, Finds, Tagged, Tells, enters, passes, leaves, ends}

-- ---- kinds

rank : Kind → ℕ
rank Open = 0
rank Empty = 1
rank Close = 2
rank End = 3

-- a token has one kind
other : {A : Type 0} (k x y : Kind) → eqb (rank x) (rank y) ≡ false → k ≡ x → k ≡ y → A
other k x y n e f = absurd (eqb-false (rank x) (rank y) n (ap rank (sym e ∙ f)))

-- ---- texts

chars_one : (ps qs : List Piece) (o : ℕ) (more : List Event) → Each GoodPiece ps → Each GoodPiece qs → spells ps ≡ spells qs
    → chars o ps more ≡ chars o qs more
chars_one [] [] o more g h e = refl
chars_one [] (q ∷ qs) o more g h e = absurd (omega (arith, ap length e, length-append (spell q) (spells qs), piece_some q))
chars_one (p ∷ ps) [] o more g h e = absurd (omega (arith, ap length e, length-append (spell p) (spells ps), piece_some p))
chars_one (p ∷ ps) (q ∷ qs) o more g h e =
    let c : char_of (length (spell p)) (resolved p) ≡ char_of (length (spell q)) (resolved q) = sym (complete p (spells ps) g.0) ∙ ap char_at e ∙ complete q (spells qs) h.0 in
    let n = ap (λ (r : Char). r.len) c in
    let r = sym (drop-append_seam (spell p) (spells ps)) ∙ ap₂ drop n e ∙ drop-append_seam (spell q) (spells qs) in
    ap₂ (λ (x : ℕ) (l : List Event). char o x ∷ l) (ap (λ (r : Char). r.code) c)
    (chars_one ps qs (o + length (spell p)) more g.1 h.1 r ∙ ap (λ (m : ℕ). chars (o + m) qs more) n)

module _ (s : List ℕ) where
  text_one : (o b : ℕ) (ps qs : List Piece) (l m : List Event) → Text s o b ps → Text s o b qs → l ≡ m → chars o ps l ≡ chars o qs m
  text_one o b ps qs l m t u e = chars_one ps qs o l t.good u.good (sym t.is ∙ u.is) ∙ ap (chars o qs) e

  -- ---- tags

  finds_one : (o : ℕ) (ats bts : Attrs) → length ats ≡ length bts → Finds s o ats → Finds s o bts → ats ≡ bts
  finds_one o [] [] n f g = refl
  finds_one o [] (b ∷ bts) n f g = absurd (omega arith)
  finds_one o (a ∷ ats) [] n f g = absurd (omega arith)
  finds_one o (a ∷ ats) (b ∷ bts) n f g =
      ap₂ ◌∷◌ (ap₂ (λ (x y : List ℕ). (x, y)) (sym f.0 ∙ g.0) (one_text _ a.1 b.1 f.1 g.1))
      (finds_one (attribute_in s o).end ats bts (omega arith) f.2 g.2)

  tag_one : (o : ℕ) (t : Token) (m n : List ℕ) (ats bts : Attrs) (k l : List Event) → Tagged s t m ats → Tagged s t n bts → k ≡ l
      → enter o m ats ∷ k ≡ enter o n bts ∷ l
  tag_one o t m n ats bts k l f g e =
      let a = sym f.name ∙ g.name in
      let b = finds_one t.stop ats bts (sym f.count ∙ g.count) f.attributes g.attributes in
      cc

  -- ---- stories

  pub tells_one : {o : ℕ} {es fs : List Event} → Tells s o es → Tells s o fs → es ≡ fs
  unfolding rank
  tells_one (enters {o} {ps} k t g m) (enters {ps = qs} l u h n) = text_one o _ ps qs _ _ t u (tag_one _ _ _ _ _ _ _ _ g h (tells_one m n))
  tells_one (passes {o} {ps} k t g m) (passes {ps = qs} l u h n) =
      text_one o _ ps qs _ _ t u (tag_one _ _ _ _ _ _ _ _ g h (ap (λ (w : List Event). leave ∷ w) (tells_one m n)))
  tells_one (leaves {o} {ps} k t m) (leaves {ps = qs} l u n) =
      text_one o _ ps qs _ _ t u (ap (λ (w : List Event). leave ∷ w) (tells_one m n))
  tells_one (ends k) (ends l) = refl
  tells_one (enters k t g m) (passes l u h n) = other _ Open Empty refl k l
  tells_one (enters k t g m) (leaves l u n) = other _ Open Close refl k l
  tells_one (enters k t g m) (ends l) = other _ Open End refl k l
  tells_one (passes k t g m) (enters l u h n) = other _ Empty Open refl k l
  tells_one (passes k t g m) (leaves l u n) = other _ Empty Close refl k l
  tells_one (passes k t g m) (ends l) = other _ Empty End refl k l
  tells_one (leaves k t m) (enters l u h n) = other _ Close Open refl k l
  tells_one (leaves k t m) (passes l u h n) = other _ Close Empty refl k l
  tells_one (leaves k t m) (ends l) = other _ Close End refl k l
  tells_one (ends k) (enters l u h n) = other _ End Open refl k l
  tells_one (ends k) (passes l u h n) = other _ End Empty refl k l
  tells_one (ends k) (leaves l u n) = other _ End Close refl k l
