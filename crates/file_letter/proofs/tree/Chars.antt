-- The characters of the texts that are written: never none, each from a space on, in the first plane. Assumes nothing.
use mathlib.Core.Path.{◌≡◌, sym, ◌∙◌}
use mathlib.Core.Bool.{true, true≢false}
use mathlib.Core.List.{List}
use Prim.Native.Nat.{ℕ, ◌≤◌, ◌<◌}
use native.Mathlib.Decide.{dec_lt}
use native.Mathlib.Omega.{arith}
use lib.ListN.{length}
use Rattle.text.specs.Lists.{Each}
use Rattle.text.proofs.Classes as classes
use Rattle.list.specs.Listing.{Leaf, ref, iban, ccy, bool, num, amt, date, dtm, txt, enum}
use Rattle.list.specs.WellFormed.{LeafOk}
use Rattle.value.specs.types.Text.{is_txt, is_ref}
use Rattle.value.specs.Value.{Value, IsValue}
use Rattle.value.proofs.classes.Classes.{Solid, each_all, each_map}
use Rattle.value.proofs.raw.Trim.{Dense}
use Rattle.value.proofs.classes.Named.{reference, writing}
use Rattle.value.specs.script.Script.{script_of}
use Rattle.value.proofs.script.Scripts.{script_dense}
use Rattle.text_characters.proofs.Resolving.{XmlChar}

-- no tab, no line break, no control character
pub record Ink (x : ℕ) : Type 0 where
  pub low : 32 ≤ x
  pub high : x ≤ 0x20AC

pub ink_char : (x : ℕ) → Ink x → XmlChar x
ink_char x i = XmlChar.low i.low (omega (arith, i.high))

solid_inks : (x : ℕ) → Solid x → Ink x
solid_inks x s = record { low = omega (arith, s.low); high = omega (arith, s.high) }

ref_inks : (x : ℕ) → is_ref x ≡ true → Ink x
ref_inks x e = go (dec_lt x 32) (dec_lt 0x20AC x)
  where
    go : Dec (x < 32) → Dec (0x20AC < x) → Ink x
    go (yes h) k = absurd (true≢false (sym e ∙ sym (classes.no reference (omega arith))))
    go (no h) (yes k) = absurd (true≢false (sym e ∙ sym (classes.no reference (omega arith))))
    go (no h) (no k) = record { low = omega arith; high = omega arith }

txt_inks : (x : ℕ) → is_txt x ≡ true → Ink x
txt_inks x e = go (dec_lt x 32) (dec_lt 0x20AC x)
  where
    go : Dec (x < 32) → Dec (0x20AC < x) → Ink x
    go (yes h) k = absurd (true≢false (sym e ∙ sym (classes.no writing (omega arith))))
    go (no h) (yes k) = absurd (true≢false (sym e ∙ sym (classes.no writing (omega arith))))
    go (no h) (no k) = record { low = omega arith; high = omega arith }

pub record Inked (t : List ℕ) : Type 0 where
  pub some : 1 ≤ length t
  pub each : Each Ink t

dense_inked : (t : List ℕ) → Dense t → Inked t
dense_inked t d = record { some = d.some; each = each_map Solid Ink solid_inks t d.solid }

pub script_inked : (f : Leaf) (v : Value) → LeafOk f → IsValue f v → Inked (script_of f v)
script_inked ref v ok (IsValue.reference {cs = cs} r) = record { some = r.chars.some; each = each_all is_ref Ink ref_inks cs r.chars.class }
script_inked (txt k) v ok (IsValue.writing {cs = cs} r) = record { some = r.some; each = each_all is_txt Ink txt_inks cs r.class }
script_inked iban v ok h = dense_inked (script_of iban v) (script_dense iban v tt h)
script_inked ccy v ok h = dense_inked (script_of ccy v) (script_dense ccy v tt h)
script_inked bool v ok h = dense_inked (script_of bool v) (script_dense bool v tt h)
script_inked num v ok h = dense_inked (script_of num v) (script_dense num v tt h)
script_inked amt v ok h = dense_inked (script_of amt v) (script_dense amt v tt h)
script_inked date v ok h = dense_inked (script_of date v) (script_dense date v tt h)
script_inked dtm v ok h = dense_inked (script_of dtm v) (script_dense dtm v tt h)
script_inked (enum ws) v ok h = dense_inked (script_of (enum ws) v) (script_dense (enum ws) v ok.1 h)

pub script_chars : (f : Leaf) (v : Value) → LeafOk f → IsValue f v → Each XmlChar (script_of f v)
script_chars f v ok h = each_map Ink XmlChar ink_char (script_of f v) (script_inked f v ok h).each
