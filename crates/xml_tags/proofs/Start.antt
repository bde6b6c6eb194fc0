-- Where the root begins. Assumes nothing.
use mathlib.Core.Path.{◌≡◌, refl, sym, ◌∙◌, ap}
use mathlib.Core.Bool.{Bool, true, false, true≢false}
use mathlib.Core.List.{List, [], ◌∷◌, ◌++◌}
use Prim.Native.Nat.{ℕ, ◌+◌}
use lib.ListN.{length, drop}
use borrow.Author.Tests.{ne_eqb}
use Rattle.text.specs.Lists.{All}
use Rattle.text.specs.Bytes.{ascii, is_blank, is_name_start}
use Rattle.text_characters.specs.Pieces.{greater}
use Rattle.text.proofs.Spans.{span_of}
use Rattle.xml.specs.House.{IsName, declaration}
use Rattle.xml_tags.specs.Marks.{but, one, head_is}
use Rattle.xml_tags.specs.mirror.Tokens.{root_from, start_of}
use Rattle.xml_tags.proofs.Passing.{stops, pass_over}
use Rattle.xml_tags.proofs.Avoid.{all_passed}

-- the declaration up to its `>`
declared : List ℕ
declared = ascii "<?xml version=\"1.0\" encoding=\"UTF-8\"?"

root_from_lem : (o : ℕ) (b w : List ℕ) → All is_blank b → root_from o (b ++ (60 ∷ w)) ≡ o + length b
unfolding root_from is_blank
root_from_lem o b w h = ap (λ (n : ℕ). o + n) (span_of is_blank b (60 ∷ w) h (stops is_blank 60 w refl))

-- a name begins with no byte that begins none
pub name_not : (b : ℕ) → is_name_start b ≡ false → (n w : List ℕ) → IsName n → head_is b (n ++ w) ≡ false
name_not b f [] w i = absurd i
name_not b f (x ∷ n) w i = ne_eqb x b (λ e. true≢false (sym i.0 ∙ ap is_name_start e ∙ f))

pub start_is : (d : Bool) (b n w : List ℕ) → All is_blank b → IsName n
    → start_of (declaration d ++ (b ++ (60 ∷ (n ++ w)))) ≡ length (declaration d) + length b
unfolding start_of declared is_blank is_name_start
start_is true b n w h i =
    pass_over (but greater) (λ o m. root_from (o + one m) (drop (one m) m)) 0 declared (62 ∷ (b ++ (60 ∷ (n ++ w)))) (all_passed (but greater) declared refl) (stops (but greater) 62 _ refl)
    ∙ root_from_lem (length (declaration true)) b (n ++ w) h
start_is false [] n w h i = rw (name_not 63 refl n w i) (root_from_lem 0 [] (n ++ w) h)
start_is false (x ∷ b) n w h i = rw (ne_eqb x 60 (λ e. true≢false (sym h.0 ∙ ap is_blank e))) (root_from_lem 0 (x ∷ b) (n ++ w) h)
