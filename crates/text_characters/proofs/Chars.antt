-- The first character of a text, for any signs: a function that finds it finds all that fits. Assumes nothing.
use mathlib.Core.Path.{◌≡◌, refl, sym, ◌∙◌, ap}
use mathlib.Core.Bool.{Bool, true, false, cond}
use mathlib.Core.List.{List, ◌++◌}
use mathlib.Core.Logic.{◌⊎◌, inl, inr}
use Prim.Native.Nat.{ℕ, ◌≤◌, ◌<◌}
use native.Mathlib.Omega.{arith}
use lib.ListN.{length, drop, length-append}
use lib.Seq.{drop-append_seam}
use Rattle.text_characters.specs.Chars.{char_of, Begun, First, begun, none}
use Rattle.text_characters.specs.declared.utf8.Char.{Char}

-- a test that picks a character
pub choose : (P : Char → Type 0) (b : Bool) (a z : Char) → (b ≡ true → P a) → (b ≡ false → P z) → P (cond b a z)
choose P true a z f g = f refl
choose P false a z f g = g refl

module _ {A : Type 0} (Good : A → Type 0) (bytes : A → List ℕ) (stood : A → ℕ) where
  -- ---- what has begun

  pub rest_is : (s : List ℕ) (r : Char) (b : Begun Good bytes stood s r) → drop r.len s ≡ b.rest
  rest_is s r b =
      ap (λ (x : Char). drop x.len s) b.found ∙ ap (drop (length (bytes b.sign))) b.is
      ∙ drop-append_seam (bytes b.sign) b.rest

  pub begun_len : (s : List ℕ) (r : Char) (b : Begun Good bytes stood s r) → r.len ≡ length (bytes b.sign)
  begun_len s r b = ap (λ (x : Char). x.len) b.found

  pub begun_code : (s : List ℕ) (r : Char) (b : Begun Good bytes stood s r) → r.code ≡ stood b.sign
  begun_code s r b = ap (λ (x : Char). x.code) b.found

  pub begun_within : (s : List ℕ) (r : Char) → Begun Good bytes stood s r → r.len ≤ length s
  begun_within s r b =
      omega (arith, begun_len s r b, ap length b.is, length-append (bytes b.sign) b.rest)

  -- ---- a function that finds every good sign, and finds nothing else

  module _ (f : List ℕ → Char) (complete : (a : A) (t : List ℕ) → Good a → f (bytes a ++ t) ≡ char_of (length (bytes a)) (stood a)) (sound : (s : List ℕ) → (f s ≡ char_of 0 0) ⊎ Begun Good bytes stood s (f s)) (some : (a : A) → 0 < length (bytes a)) where
    pub first_is : (s : List ℕ) → First Good bytes stood s (f s)
    first_is s = go (sound s)
      where
        go : (f s ≡ char_of 0 0) ⊎ Begun Good bytes stood s (f s) → First Good bytes stood s (f s)
        go (inl e) =
            none e
            (λ a t g is. let z : length (bytes a) ≡ 0 = ap (λ (x : Char). x.len) (sym (complete a t g) ∙ ap f (sym is) ∙ e) in omega (arith, some a))
        go (inr b) = begun b

    -- only one fits
    pub first_one : (s : List ℕ) (r : Char) → First Good bytes stood s r → r ≡ f s
    first_one s r (begun b) = b.found ∙ sym (complete b.sign b.rest b.good) ∙ ap f (sym b.is)
    first_one s r (none e never) = go (sound s)
      where
        go : (f s ≡ char_of 0 0) ⊎ Begun Good bytes stood s (f s) → r ≡ f s
        go (inl z) = e ∙ sym z
        go (inr b) = absurd (never b.sign b.rest b.good b.is)

    -- a character begins where there is one, and none where there is none
    pub first_begun : (s : List ℕ) (r : Char) → First Good bytes stood s r → 0 < r.len → Begun Good bytes stood s r
    first_begun s r (begun b) h = b
    first_begun s r (none e never) h = absurd (let z : r.len ≡ 0 = ap (λ (x : Char). x.len) e in omega arith)
