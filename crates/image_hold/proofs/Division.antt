-- Images laid end to end, of either version and of every kind: a run of them divides in one way only. Assumes nothing.
use mathlib.Core.Path.{◌≡◌, refl, sym, ◌∙◌, ap, ap₂, subst}
use mathlib.Core.List.{List, [], ◌∷◌, ◌++◌, append-nil}
use Prim.Native.Nat.{ℕ, ◌<◌}
use native.Mathlib.Omega.{arith}
use lib.ListN.{length, take, drop, length-append}
use lib.Seq.{take-length, take-append_seam, drop_at}
use Rattle.text.specs.Lists.{Each}
use Rattle.list.specs.Listing.{Listing}
use Rattle.list.specs.Content.{Content, items, Meets}
use Rattle.value.specs.Value.{Value, IsValue}
use Rattle.image.specs.Image.{items_bytes, body}
use Rattle.image.specs.Kinds.{values}
use Rattle.image.specs.Place.{Among, Front}
use Rattle.image.proofs.answers.One.{any_rest}
use Rattle.image_reading.specs.Reads.{stored, HouseAccepts}
use Rattle.image_reading.proofs.House.{house_accepts_one}

-- s is an image: one begins there, and is as long as s
abbrev pub IsImage : List ℕ → Type 0
IsImage s = HouseAccepts s (length s)

-- images laid end to end
abbrev pub joined : List (List ℕ) → List ℕ
joined [] = []
joined (s ∷ ss) = s ++ joined ss

-- of each list and each of its headers
pub image_is : (l : Listing) → Among l stored → (h : List ℕ) → Front l h → (c : Content Value) → Meets IsValue l c → IsImage (h ++ body values l c)
image_is l i h f c m = record {
  list = l;
  among = i;
  head = h;
  front = f;
  after = body values l c;
  at = refl;
  size = length (body values l c);
  holds = record { content = c; meets = m; rest = []; at = sym (append-nil (body values l c)); long = refl };
  long = length-append h (body values l c);
}

-- no image is empty
pub image_some : (s : List ℕ) → IsImage s → 0 < length s
image_some s w = omega (arith, w.long, w.holds.long, length-append (items_bytes values w.list (items w.holds.content)) (0 ∷ []))

-- a run begins with it, whatever follows
pub begins_with : (s u : List ℕ) → IsImage s → HouseAccepts (s ++ u) (length s)
begins_with s u w = subst (λ (x : List ℕ). HouseAccepts (x ++ u) (length s)) (take-length s) (any_rest values stored s (length s) w u)

-- where a run begins with two they are one, and what follows is the same
pub image_told : (s t u v : List ℕ) → IsImage s → IsImage t → s ++ u ≡ t ++ v → (s ≡ t) × (u ≡ v)
image_told s t u v p q e =
    let n : length s ≡ length t = (house_accepts_one (s ++ u) (length s) (length t) (begins_with s u p) (subst (λ (x : List ℕ). HouseAccepts x (length t)) (sym e) (begins_with t v q))).0 in
    (sym (take-append_seam s u) ∙ ap₂ take n e ∙ take-append_seam t v, sym (drop_at s u (length t) n) ∙ ap (drop (length t)) e ∙ drop_at t v (length t) refl)

-- "divides into statements in one way only", whatever their versions and kinds
pub division_one : (ss ts : List (List ℕ)) → Each IsImage ss → Each IsImage ts → joined ss ≡ joined ts → ss ≡ ts
division_one [] [] p q e = refl
division_one [] (t ∷ ts) p q e = absurd (omega (arith, ap length e, length-append t (joined ts), image_some t q.0))
division_one (s ∷ ss) [] p q e = absurd (omega (arith, ap length e, length-append s (joined ss), image_some s p.0))
division_one (s ∷ ss) (t ∷ ts) p q e =
    let o = image_told s t (joined ss) (joined ts) p.0 q.0 e in
    ap₂ ◌∷◌ o.0 (division_one ss ts p.1 q.1 o.1)
