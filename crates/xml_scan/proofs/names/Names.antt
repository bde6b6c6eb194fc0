-- Names that are held: a part that was lent, and which names are among those that came. Assumes nothing.
use mathlib.Core.Path.{◌≡◌, refl, sym, ◌∙◌, ap}
use mathlib.Core.Bool.{Bool, true, false, ◌||◌}
use mathlib.Core.List.{List, [], ◌∷◌, ◌++◌}
use Prim.Native.Nat.{ℕ, ◌+◌, ◌-◌, ◌≤◌}
use native.Mathlib.Omega.{arith}
use lib.ListN.{drop, take}
use lib.Seq.{slice}
use Rattle.std.proofs.Common.{Bor, map, reverse}
use Rattle.std.specs.List.{list_any}
use Rattle.std.proofs.lemmas.List.{reverse-append}
use Rattle.text.specs.Lists.{same}
use Rattle.text.proofs.Parts.{part_take}
use Rattle.xml.specs.mirror.Auto.{member}

-- a part, as it was lent
pub lent : (s : List ℕ) (a e : ℕ) → a ≤ e → take (e - a) (drop a s) ≡ slice a e s
lent s a e h = sym (part_take a (e - a) s) ∙ ap (λ (k : ℕ). slice a k s) back
  where
    back : a + (e - a) ≡ e
    back = omega arith

-- the names, the last first
abbrev pub held : List (Bor (List ℕ)) → List (List ℕ)
held bs = reverse (map (λ b. b.now) bs)

held_more : (b : Bor (List ℕ)) (bs : List (Bor (List ℕ))) → held (b ∷ bs) ≡ held bs ++ (b.now ∷ [])
held_more b bs = reverse-append (b.now ∷ []) (map (λ b. b.now) bs)

member_append : (n : List ℕ) (ms ks : List (List ℕ)) → member n (ms ++ ks) ≡ (member n ms || member n ks)
member_append n [] ks = refl
member_append n (m ∷ ms) ks = ap (λ (u : Bool). same n m || u) (member_append n ms ks) ∙ or_assoc (same n m) (member n ms) (member n ks)
  where
    or_assoc : (a b c : Bool) → (a || (b || c)) ≡ ((a || b) || c)
    or_assoc true b c = refl
    or_assoc false b c = refl

-- one of them is the name n
pub held_has : (n : List ℕ) (bs : List (Bor (List ℕ))) → list_any (λ b. same n b.now) bs ≡ member n (held bs)
held_has n [] = refl
held_has n (b ∷ bs) =
    ap (λ (u : Bool). same n b.now || u) (held_has n bs) ∙ or_turn (same n b.now) (member n (held bs))
    ∙ sym (ap (member n) (held_more b bs) ∙ member_append n (held bs) (b.now ∷ []))
  where
    or_turn : (a c : Bool) → (a || c) ≡ (c || (a || false))
    or_turn true true = refl
    or_turn true false = refl
    or_turn false true = refl
    or_turn false false = refl
