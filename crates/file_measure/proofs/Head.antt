-- An image's first bytes, put into no buffer. Assumes nothing.
use mathlib.Core.Path.{refl}
use mathlib.Core.List.{[], ◌∷◌, ◌++◌}
use native.Mathlib.Omega.{arith}
use lib.ListN.{length-append}
use Rattle.text.specs.Puts.{Puts}
use Rattle.list.specs.Listing.{Listing}
use Rattle.image.specs.Image.{header}
use Rattle.image.proofs.answers.Heads.{header_length}
use Rattle.text.proofs.Puts.{pasted_nowhere}

-- the header and the root's row byte
pub head_nowhere : (l : Listing) → Puts [] 0 (header l ++ (1 ∷ [])) 7 []
head_nowhere l = record {
  behind = omega (arith, length-append (header l) (1 ∷ []), header_length l);
  long = refl;
  is = λ h. pasted_nowhere 0 (header l ++ (1 ∷ []));
}
