-- `]]>` by tests: the next three pieces are `]`, `]` and `>` as they stand. Assumes nothing.
use mathlib.Core.Path.{◌≡◌, refl, sym, ◌∙◌, ap}
use mathlib.Core.Logic.{◌≢◌}
use mathlib.Core.Bool.{Bool, true, false, ◌&&◌, true≢false, false≢true}
use Prim.Native.Nat.{ℕ}
use lib.Dec.{eqb}
use borrow.Author.Tests.{eqb-true}
use Rattle.text.proofs.Classes.{and_is}
use Rattle.text_characters.specs.Pieces.{Piece, char, entity}
use Rattle.xml.specs.House.{Markup, no_more, piece, empty_tag, full, cut}

-- the piece is this character
abbrev pub is_char : ℕ → Piece → Bool
is_char x (char c) = eqb c x
is_char x (entity e) = false

abbrev pub begins : ℕ → Markup → Bool
begins x no_more = false
begins x (piece p k) = is_char x p
begins x (empty_tag t k) = false
begins x (full t i g k) = false

abbrev pub following : Markup → Markup
following no_more = no_more
following (piece p k) = k
following (empty_tag t k) = no_more
following (full t i g k) = no_more

abbrev pub is_cut : Markup → Bool
is_cut c = begins 93 c && (begins 93 (following c) && begins 62 (following (following c)))

begins_is : (x : ℕ) (c : Markup) → begins x c ≡ true → c ≡ piece (char x) (following c)
begins_is x no_more e = absurd (false≢true e)
begins_is x (piece (char y) k) e = ap (λ (z : ℕ). piece (char z) k) (eqb-true y x e)
begins_is x (piece (entity n) k) e = absurd (false≢true e)
begins_is x (empty_tag t k) e = absurd (false≢true e)
begins_is x (full t i g k) e = absurd (false≢true e)

cut_is : (c : Markup) → is_cut c ≡ true → c ≡ cut (following (following (following c)))
cut_is c e =
    let a = and_is (begins 93 c) (begins 93 (following c) && begins 62 (following (following c))) e in
    let b = and_is (begins 93 (following c)) (begins 62 (following (following c))) a.1 in
    begins_is 93 c a.0
    ∙ ap (λ (z : Markup). piece (char 93) z) (begins_is 93 (following c) b.0)
    ∙ ap (λ (z : Markup). piece (char 93) (piece (char 93) z)) (begins_is 62 (following (following c)) b.1)

-- the tests say what the shape does
pub no_cut : (c : Markup) → is_cut c ≡ false → (m : Markup) → c ≢ cut m
no_cut c e m z = true≢false (sym (ap is_cut z) ∙ e)

pub cut_no : (c : Markup) → ((m : Markup) → c ≢ cut m) → is_cut c ≡ false
cut_no c f = go (is_cut c) refl
  where
    go : (b : Bool) → is_cut c ≡ b → is_cut c ≡ false
    go true e = absurd (f (following (following (following c))) (cut_is c e))
    go false e = e
