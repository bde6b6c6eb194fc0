-- Demand 3, in its own words: images tell contents apart, none is a shorter beginning of another, and a run of them divides in one way.
-- Assumes nothing.
use mathlib.Core.Path.{◌≡◌, refl, sym, ◌∙◌, ap, ap₂}
use mathlib.Core.Logic.{◌↔◌}
use mathlib.Core.List.{List, [], ◌∷◌, ◌++◌, append-nil}
use Prim.Native.Nat.{ℕ, ◌<◌}
use native.Mathlib.Omega.{arith}
use lib.ListN.{length, length-append}
use Rattle.text.specs.Lists.{Each}
use Rattle.list.specs.Listing.{Listing}
use Rattle.list.specs.WellFormed.{WellFormed}
use Rattle.list.specs.Content.{Content, items, Meets}
use Rattle.image.specs.Image.{Values, Lawful, header, items_bytes, body, image, images}
use Rattle.image.proofs.content.Prefix.{image_prefix}
use Rattle.image.proofs.answers.Heads.{header_length}

module _ (vs : Values) (l : Listing) where
  -- an image has its header
  pub image_long : (c : Content vs.Value) → 5 < length (image vs l c)
  unfolding image
  image_long c =
      omega (arith, length-append (header l) (body vs l c), length-append (items_bytes vs l (items c)) (0 ∷ []), header_length l)

  module _ (lw : Lawful vs) (wf : WellFormed l) where
    -- the one lemma: where the image of a followed by u is the image of b followed by v, a is b and u is v
    pub told : (a b : Content vs.Value) (u v : List ℕ) → Meets vs.Is l a → Meets vs.Is l b → image vs l a ++ u ≡ image vs l b ++ v → (a ≡ b) × (u ≡ v)
    told = image_prefix vs lw l wf

    -- images are equal exactly when contents are
    pub equal_images : (a b : Content vs.Value) → Meets vs.Is l a → Meets vs.Is l b → (image vs l a ≡ image vs l b) ↔ (a ≡ b)
    equal_images a b ma mb = (
      (λ e. (told a b [] [] ma mb (append-nil (image vs l a) ∙ e ∙ sym (append-nil (image vs l b)))).0),
      (λ e. ap (image vs l) e),
    )

    -- none is a shorter beginning of another
    pub no_beginning : (a b : Content vs.Value) (u : List ℕ) → Meets vs.Is l a → Meets vs.Is l b → image vs l a ++ u ≡ image vs l b → (a ≡ b) × (u ≡ [])
    no_beginning a b u ma mb e = told a b u [] ma mb (e ∙ sym (append-nil (image vs l b)))

    -- a run of images laid end to end divides into statements in one way only
    pub one_division : (as' bs : List (Content vs.Value)) → Each (Meets vs.Is l) as' → Each (Meets vs.Is l) bs → images vs l as' ≡ images vs l bs → as' ≡ bs
    one_division [] [] ma mb e = refl
    one_division [] (b ∷ bs) ma mb e = absurd (omega (arith, ap length e, length-append (image vs l b) (images vs l bs), image_long b))
    one_division (a ∷ xs) [] ma mb e = absurd (omega (arith, ap length e, length-append (image vs l a) (images vs l xs), image_long a))
    one_division (a ∷ xs) (b ∷ bs) ma mb e =
        let t = told a b (images vs l xs) (images vs l bs) ma.0 mb.0 e in
        ap₂ ◌∷◌ t.0 (one_division xs bs ma.1 mb.1 t.1)
