-- The image of a content is the same over the list that its list lies within. Assumes nothing.
use mathlib.Core.Path.{◌≡◌, refl, sym, ◌∙◌, ap, ap₂}
use mathlib.Core.List.{List, [], ◌∷◌, ◌++◌}
use mathlib.Core.Option.{Option, none, some}
use Prim.Native.Nat.{ℕ}
use Rattle.list.specs.Listing.{Kind, group, choice, leaf, Listing, row_at}
use Rattle.list.specs.Content.{Content, items}
use Rattle.list.specs.Within.{Within}
use Rattle.image.specs.Image.{Values, Item, versioned, value_bytes, items_bytes, image}
use Rattle.image.proofs.answers.Heads.{header_is}

module _ (vs : Values) (l m : Listing) (w : Within l m) where
  -- of one kind a value has the same bytes, whatever the list
  value_same : (k : Kind) (v : Option vs.Value) → value_bytes vs l k v ≡ value_bytes vs m k v
  value_same group v = refl
  value_same choice v = refl
  value_same (leaf k) none = refl
  value_same (leaf k) (some v) = refl

  pub bytes_within : (is : List (Item vs)) → items_bytes vs l is ≡ items_bytes vs m is
  bytes_within [] = refl
  bytes_within (i ∷ is) =
      ap₂ (λ (x z : List ℕ). i.0 ∷ (x ++ z))
      (ap (λ (k : Kind). value_bytes vs l k i.1) (w.kinds i.0) ∙ value_same (row_at m i.0).kind i.1)
      (bytes_within is)

  pub image_within : (c : Content vs.Value) → image vs l c ≡ image vs m c
  unfolding image
  image_within c = ap₂ (λ (h b : List ℕ). h ++ (b ++ (0 ∷ []))) (header_is l ∙ ap (λ (b : ℕ). versioned 2 ++ (b ∷ [])) w.byte ∙ sym (header_is m)) (bytes_within (items c))
