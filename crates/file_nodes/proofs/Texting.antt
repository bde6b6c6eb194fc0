-- A leaf's text without `]]>`, and a currency in a tag. Assumes nothing.
use mathlib.Core.Path.{◌≡◌, refl, sym, ◌∙◌, ap, subst}
use mathlib.Core.Bool.{Bool, true, false, ◌&&◌, false≢true}
use mathlib.Core.Logic.{inl, inr, ◌≢◌}
use mathlib.Core.List.{List, [], ◌∷◌, ◌++◌, append_assoc, append-nil}
use Prim.Native.Nat.{ℕ, ◌≤◌, ◌<◌}
use native.Mathlib.Omega.{arith}
use borrow.Author.Tests.{eqb-true}
use Rattle.text.specs.Bytes.{is_capital, is_unmarked}
use Rattle.text.specs.Lists.{Each, All}
use Rattle.text.proofs.Classes.{capital, is_in, yes, and_is}
use Rattle.text_characters.specs.Pieces.{greater, bracket, less, Piece, GoodPiece, spell, spells, resolved_all}
use Rattle.text_characters.specs.Pieces as pieces
use Rattle.text_characters.proofs.Decoding.{encode1}
use Rattle.text_characters.proofs.Resolving.{XmlChar, xml_char_yes}
use Rattle.text_characters.proofs.Unmarked.{unmarked}
use Rattle.xml.specs.House.{GoodMarkup, Quote, mark, GoodValue}
use Rattle.xml.specs.House as X
use Rattle.xml.proofs.Cuts.{begins, following, is_cut, no_cut}
use Rattle.value_leaf.specs.Took.{Uncut}
use Rattle.file_nodes.proofs.Laning.{textly}

char_of : (x : ℕ) (ps : List Piece) → begins x (textly ps) ≡ true → (qs : List Piece) × (ps ≡ pieces.char x ∷ qs)
char_of x [] e = absurd (false≢true e)
char_of x (pieces.char c ∷ ps) e = (ps, ap (λ (z : ℕ). pieces.char z ∷ ps) (eqb-true c x e))
char_of x (pieces.entity z ∷ ps) e = absurd (false≢true e)

spells_of : (x : ℕ) (ps qs : List Piece) → x < 128 → ps ≡ pieces.char x ∷ qs → spells ps ≡ x ∷ spells qs
spells_of x ps qs h e = ap spells e ∙ ap (λ (z : List ℕ). z ++ spells qs) (encode1 x h)

following_of : (x : ℕ) (ps qs : List Piece) → ps ≡ pieces.char x ∷ qs → following (textly ps) ≡ textly qs
following_of x ps qs e = ap (λ (z : List Piece). following (textly z)) e

three_of : (ps qs rs ts : List Piece) → ps ≡ pieces.char bracket ∷ qs → qs ≡ pieces.char bracket ∷ rs → rs ≡ pieces.char greater ∷ ts → spells ps ≡ bracket ∷ bracket ∷ greater ∷ spells ts
three_of ps qs rs ts d e f =
    spells_of bracket ps qs (omega arith) d
    ∙ ap (λ (w : List ℕ). bracket ∷ w) (spells_of bracket qs rs (omega arith) e)
    ∙ ap (λ (w : List ℕ). bracket ∷ bracket ∷ w) (spells_of greater rs ts (omega arith) f)

not_cut : (ps : List Piece) → Uncut (spells ps) → is_cut (textly ps) ≡ true → ⊥
not_cut ps u e =
    let a = and_is (begins bracket (textly ps)) (begins bracket (following (textly ps)) && begins greater (following (following (textly ps)))) e in
    let x = char_of bracket ps a.0 in
    let b = and_is (begins bracket (following (textly ps))) (begins greater (following (following (textly ps)))) a.1 in
    let d = following_of bracket ps x.0 x.1 in
    let y = char_of bracket x.0 (subst (λ (z : X.Markup). begins bracket z ≡ true) d b.0) in
    let f = following_of bracket x.0 y.0 y.1 in
    let g = ap following d ∙ f in
    let z = char_of greater y.0 (subst (λ (c : X.Markup). begins greater c ≡ true) g b.1) in
    u.nowhere [] (spells z.0) (three_of ps x.0 y.0 z.0 x.1 y.1 z.1)

not-true : (b : Bool) → (b ≡ true → ⊥) → b ≡ false
not-true true f = absurd (f refl)
not-true false f = refl

uncut_tail : (a b : List ℕ) → Uncut (a ++ b) → Uncut b
uncut_tail a b u = record { nowhere = λ x y e. u.nowhere (a ++ x) y (ap (λ (z : List ℕ). a ++ z) e ∙ sym (append_assoc a x (bracket ∷ bracket ∷ greater ∷ y))) }

pub text_good : (ps : List Piece) → Each GoodPiece ps → Uncut (spells ps) → (d : ℕ) → GoodMarkup d (textly ps)
text_good [] h u d = tt
text_good (p ∷ ps) h u d = (h.0, no_cut (textly (p ∷ ps)) (not-true (is_cut (textly (p ∷ ps))) (not_cut (p ∷ ps) u)), text_good ps h.1 (uncut_tail (spell p) (spells ps) u) d)

-- ---- plain bytes in a value

-- a byte that stands for itself in either quotes
record Clear (c : ℕ) : Type 0 where
  low : 32 ≤ c
  high : c ≤ 126
  quotes : (c ≢ 34) × (c ≢ 39)
  marks : (c ≢ 38) × (c ≢ 60)

abbrev pub pieced : List ℕ → List Piece
pieced [] = []
pieced (c ∷ cs) = pieces.char c ∷ pieced cs

unmarked_clear : (c : ℕ) → is_unmarked c ≡ true → Clear c
unmarked_clear c h = elim (is_in unmarked c h) [
  | inl (inl (inl (inl e))) ↦ record { low = omega arith; high = omega arith; quotes = ((λ z. omega arith), (λ z. omega arith)); marks = ((λ z. omega arith), (λ z. omega arith)) }
  | inl (inl (inl (inr e))) ↦ record { low = omega arith; high = omega arith; quotes = ((λ z. omega arith), (λ z. omega arith)); marks = ((λ z. omega arith), (λ z. omega arith)) }
  | inl (inl (inr e)) ↦ record { low = omega arith; high = omega arith; quotes = ((λ z. omega arith), (λ z. omega arith)); marks = ((λ z. omega arith), (λ z. omega arith)) }
  | inl (inr e) ↦ record { low = omega arith; high = omega arith; quotes = ((λ z. omega arith), (λ z. omega arith)); marks = ((λ z. omega arith), (λ z. omega arith)) }
  | inr e ↦ record { low = omega arith; high = omega arith; quotes = ((λ z. omega arith), (λ z. omega arith)); marks = ((λ z. omega arith), (λ z. omega arith)) }
]

pub pieced_is : (w : List ℕ) → All is_unmarked w → spells (pieced w) ≡ w
pieced_is [] h = refl
pieced_is (c ∷ w) h =
    ap (λ (z : List ℕ). z ++ spells (pieced w)) (encode1 c (omega (arith, (unmarked_clear c h.0).high))) ∙ ap (λ (z : List ℕ). c ∷ z) (pieced_is w h.1)

pub pieced_chars : (w : List ℕ) → resolved_all (pieced w) ≡ w
pieced_chars [] = refl
pieced_chars (c ∷ w) = ap (λ (z : List ℕ). c ∷ z) (pieced_chars w)

no_mark : (q : Quote) (c : ℕ) → (c ≡ 34 → ⊥) → (c ≡ 39 → ⊥) → pieces.char c ≡ pieces.char (mark q) → ⊥
no_mark X.single_quote c f g e = g (ap pieces.resolved e)
no_mark X.double c f g e = f (ap pieces.resolved e)

pub pieced_good : (q : Quote) (w : List ℕ) → All is_unmarked w → GoodValue q (pieced w)
pieced_good q [] h = tt
pieced_good q (c ∷ w) h =
    let r = unmarked_clear c h.0 in
    (((xml_char_yes c (XmlChar.low (omega (arith, r.low)) (omega (arith, r.high))), r.marks.1, r.marks.0), no_mark q c r.quotes.0 r.quotes.1), pieced_good q w h.1)

capital_unmarked : (x : ℕ) → is_capital x ≡ true → is_unmarked x ≡ true
capital_unmarked x h = let r = is_in capital x h in sym (yes unmarked 65 26 refl r.0 (omega (arith, r.1)))

pub capitals_unmarked : (w : List ℕ) → All is_capital w → All is_unmarked w
capitals_unmarked [] h = tt
capitals_unmarked (c ∷ w) h = (capital_unmarked c h.0, capitals_unmarked w h.1)

-- a tag with one attribute: f is what stands before the quote, n the name, w the value
pub attr_bytes : (n f w : List ℕ) (m : ℕ) (t : List ℕ) → (less ∷ (n ++ (f ++ (m ∷ [])))) ++ ((w ++ (m ∷ greater ∷ [])) ++ t)
    ≡ less ∷ ((n ++ (((f ++ (m ∷ (w ++ (m ∷ [])))) ++ []) ++ [])) ++ (greater ∷ t))
attr_bytes n f w m t =
    let x : List ℕ = (w ++ (m ∷ greater ∷ [])) ++ t in
    let g : List ℕ = f ++ (m ∷ (w ++ (m ∷ []))) in
    let a : x ≡ w ++ (m ∷ greater ∷ t) = append_assoc w (m ∷ greater ∷ []) t in
    let b : (w ++ (m ∷ [])) ++ (greater ∷ t) ≡ w ++ (m ∷ greater ∷ t) = append_assoc w (m ∷ []) (greater ∷ t) in
    let c : (n ++ (f ++ (m ∷ []))) ++ x ≡ n ++ (f ++ (m ∷ x)) = append_assoc n (f ++ (m ∷ [])) x ∙ ap (λ (z : List ℕ). n ++ z) (append_assoc f (m ∷ []) x) in
    let d : (n ++ g) ++ (greater ∷ t) ≡ n ++ (f ++ (m ∷ ((w ++ (m ∷ [])) ++ (greater ∷ t)))) = append_assoc n g (greater ∷ t) ∙ ap (λ (z : List ℕ). n ++ z) (append_assoc f (m ∷ (w ++ (m ∷ []))) (greater ∷ t)) in
    let e : (g ++ []) ++ [] ≡ g = append-nil (g ++ []) ∙ append-nil g in
    ap (λ (z : List ℕ). less ∷ z)
    (c ∙ ap (λ (z : List ℕ). n ++ (f ++ (m ∷ z))) (a ∙ sym b) ∙ sym d ∙ ap (λ (z : List ℕ). (n ++ z) ++ (greater ∷ t)) (sym e))
