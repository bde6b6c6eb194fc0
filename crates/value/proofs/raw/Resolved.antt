-- The decision `chars_of` finds exactly the characters that a raw text spells; three capitals spell themselves. Assumes nothing.
use mathlib.Core.Path.{◌≡◌, refl, sym, ◌∙◌, ap, subst}
use mathlib.Core.Bool.{Bool, true, false, cond}
use mathlib.Core.List.{List, [], ◌∷◌}
use mathlib.Core.Option.{Option, some, none}
use Prim.Native.Nat.{ℕ, zero, suc, ◌≤◌, zero-le, suc-le-suc}
use native.Mathlib.Omega.{arith}
use lib.Dec.{eqb}
use lib.ListN.{length, drop, length-drop}
use borrow.Author.Tests.{eqb-false, ne_eqb}
use Rattle.text.specs.Lists.{Each}
use Rattle.text_characters.specs.Pieces.{Spells}
use Rattle.text_characters.specs.mirror.Resolving.{char_at}
use Rattle.text_characters.proofs.Resolving.{next_is}
use Rattle.text_characters.proofs.Spelling.{next_begins, spells_none, none_spells, leads, spells_more, one_text}
use Rattle.value.specs.types.Code.{Ccy}
use Rattle.value.specs.decided.Resolved.{ahead, chars_within, chars_of}
use Rattle.value.proofs.classes.Classes.{Solid, each_map}
use Rattle.value.proofs.raw.Raw.{Tame, solid_tame, raw_to, raw_from}
use Rattle.value.proofs.raw.Firm.{ccy_dense}

no_chars : {A : Type 0} (cs : List ℕ) → none ≡ some cs → A
no_chars cs e = absurd (let z : ◌≡◌ {A = ℕ} 0 1 = cc in omega arith)

within_sound : (n : ℕ) (s cs : List ℕ) → chars_within n s ≡ some cs → Spells s cs
unfolding chars_within
within_sound zero [] cs e = let q : [] ≡ cs = cc in subst (Spells []) q spells_none
within_sound zero (x ∷ s) cs e = no_chars cs e
within_sound (suc n) [] cs e = let q : [] ≡ cs = cc in subst (Spells []) q spells_none
within_sound (suc n) (x ∷ s) cs e = go (eqb (char_at (x ∷ s)).len 0) (chars_within n (drop (char_at (x ∷ s)).len (x ∷ s))) refl e (within_sound n (drop (char_at (x ∷ s)).len (x ∷ s)))
  where
    go : (b : Bool) (o : Option (List ℕ)) → eqb (char_at (x ∷ s)).len 0 ≡ b → cond b none (ahead (char_at (x ∷ s)).code o) ≡ some cs
        → ((ds : List ℕ) → o ≡ some ds → Spells (drop (char_at (x ∷ s)).len (x ∷ s)) ds) → Spells (x ∷ s) cs
    go true o i f r = no_chars cs f
    go false none i f r = no_chars cs f
    go false (some ds) i f r =
        let q : (char_at (x ∷ s)).code ∷ ds ≡ cs = cc in
        let z = eqb-false (char_at (x ∷ s)).len 0 i in
        subst (Spells (x ∷ s)) q (spells_more (x ∷ s) ds (char_at (x ∷ s)) (next_begins (x ∷ s) (char_at (x ∷ s)) (next_is (x ∷ s)) (omega arith)) (r ds refl))

within_complete : (n : ℕ) (s cs : List ℕ) → length s ≤ n → Spells s cs → chars_within n s ≡ some cs
unfolding chars_within
within_complete zero [] cs h w = ap some (sym (none_spells cs w))
within_complete zero (x ∷ s) cs h w = absurd (omega arith)
within_complete (suc n) [] cs h w = ap some (sym (none_spells cs w))
within_complete (suc n) (x ∷ s) cs h w =
    let l = leads (x ∷ s) cs (char_at (x ∷ s)) (next_is (x ∷ s)) w (suc-le-suc zero-le) in
    let k = l.some in
    let r = within_complete n (drop (char_at (x ∷ s)).len (x ∷ s)) l.rest (omega (arith, length-drop (char_at (x ∷ s)).len (x ∷ s))) l.spells in
    ap (λ (b : Bool). cond b none (ahead (char_at (x ∷ s)).code (chars_within n (drop (char_at (x ∷ s)).len (x ∷ s))))) (ne_eqb (char_at (x ∷ s)).len 0 (omega arith))
    ∙ ap (ahead (char_at (x ∷ s)).code) r ∙ ap some (sym l.is)

pub chars_sound : (s cs : List ℕ) → chars_of s ≡ some cs → Spells s cs
chars_sound s cs e = within_sound (length s) s cs e

pub chars_complete : (s cs : List ℕ) → Spells s cs → chars_of s ≡ some cs
chars_complete s cs w = within_complete (length s) s cs (omega arith) w

-- ---- three capitals
ccy_tame : (cs : List ℕ) → Ccy cs → Each Tame cs
ccy_tame cs c = each_map Solid Tame solid_tame cs (ccy_dense cs c).solid

pub ccy_raw : (s : List ℕ) → Ccy s → Spells s s
ccy_raw s c = raw_to s (ccy_tame s c)

pub ccy_spelt : (s cs : List ℕ) → Spells s cs → Ccy cs → s ≡ cs
ccy_spelt s cs w c = raw_from s cs w (ccy_tame cs c)

pub ccy_spells : (s cs : List ℕ) → Spells s cs → Ccy s → s ≡ cs
ccy_spells s cs w c = one_text s s cs (ccy_raw s c) w
