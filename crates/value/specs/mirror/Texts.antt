-- A mirror: REF and TXTk in one pass over the characters. Assumes nothing.
use Rattle.std.specs.Prelude.{◌≡◌, Bool, true, false, cond, ◌&&◌, ◌||◌, not, List, [], ◌∷◌, ℕ, suc, ltb, eqb, length, Option, Some, None}
use Prim.Native.Char.{code}
use Rattle.text_characters.specs.Utf8.{encode_all}
use Rattle.text_characters.specs.Passing.{Passes}
use Rattle.value.specs.types.Text.{is_txt, is_ref}
use Rattle.value.specs.mirror.Tests.{not_space}
use Rattle.value.specs.declared.judged.Judged.{Judged}
use Rattle.value.specs.declared.judged.Judged.TheVariants.{Text}

-- strict: of a reference, else of a text
abbrev pub class_of : Bool → ℕ → Bool
class_of true x = is_ref x
class_of false x = is_txt x

-- at most k characters, n were read; ink: one was no space; slash: none may come next, as at the start of a reference and after a slash in it
unfoldable pub text_from : Bool → ℕ → ℕ → Bool → Bool → List ℕ → Bool
text_from strict k n ink slash [] = ink && not slash
text_from strict k n ink slash (c ∷ cs) =
    cond (ltb n k)
    (cond (class_of strict c) (cond (slash && eqb c (code "/")) false (text_from strict k (suc n) (ink || not_space c) (strict && eqb c (code "/")) cs)) false)
    false

abbrev pub text_of : Bool → ℕ → List ℕ → Bool
text_of strict k cs = text_from strict k 0 false strict cs

-- the raw text s: the bytes of its characters, or refused
pub data Spelled (g : List ℕ → Bool) (s : List ℕ) (r : Option Judged) : Type 0 where
  spelled : (p : Passes g s) → r ≡ Some (Text (length (encode_all p.chars))) → Spelled g s r
  unspelled : r ≡ None → (Passes g s → ⊥) → Spelled g s r

-- the bytes of a character that is spelled by len bytes: an entity stands for one byte
unfoldable pub width_of : ℕ → ℕ → ℕ
width_of len c = cond (ltb c 0x80) 1 len

-- a character of a text that has one byte
unfoldable pub is_ascii_txt : ℕ → Bool
is_ascii_txt x = ltb x 0x80 && is_txt x

-- quiet bytes: each is a character of the class by itself, so neither `&` nor `<`, and no slash of a reference
unfoldable pub quiet_txt : ℕ → Bool
quiet_txt x = is_ascii_txt x && not (eqb x (code "&") || eqb x (code "<"))

abbrev pub quiet_ref : ℕ → Bool
quiet_ref x = is_ref x && not (eqb x (code "/"))

abbrev pub quiet_of : Bool → ℕ → Bool
quiet_of true x = quiet_ref x
quiet_of false x = quiet_txt x
