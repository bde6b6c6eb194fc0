-- The first bytes of an image, put at the start of a buffer. Assumes nothing.
use mathlib.Core.Path.{◌≡◌, refl, sym, ◌∙◌, ap}
use mathlib.Core.List.{List, [], ◌∷◌, ◌++◌}
use Prim.Native.Nat.{ℕ}
use Rattle.text.specs.Pasting.{pasted}
use Rattle.text.proofs.Puts.{puts_pasted, puts_as}
use Rattle.image.specs.Image.{header}
use Rattle.image.proofs.answers.Heads.{header_bytes}
use Rattle.image_head.specs.Head.{head_of, HeadPut}

-- they are those of a list with this kind byte
pub head_of_lem : (n : ℕ) (d d' : List ℕ) → d' ≡ pasted d 0 (head_of n) → HeadPut n d 7 d'
head_of_lem n d d' e l b =
    puts_as d 0 (head_of n) (header l ++ (1 ∷ [])) 7 d'
    (sym (ap (λ (h : List ℕ). h ++ (1 ∷ [])) (header_bytes l) ∙ ap head_of b))
    (puts_pasted d 0 (head_of n) 7 d' refl e)
