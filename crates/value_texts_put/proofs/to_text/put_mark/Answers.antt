-- `to_text::put_mark` meets its contract: what is marked and neither `&` nor `<` is `>`. Assumes nothing.
use Rattle.std.proofs.Common.{◌≡◌, sym, ap, ◌∙◌, List, ℕ, length}
use Rattle.text.specs.Pasting.{pasted}
use Rattle.value.proofs.script.Escaping.{escape_amp, escape_lt, escape_gt, last_mark, pasted_as}
use Rattle.value_texts_put.proofs.to_text.put_mark.Goals as goal

-- a word that is the entity was written
wrote : (d d' : List ℕ) (at n : ℕ) (u v : List ℕ) → u ≡ v → (n ≡ length v) × (d' ≡ pasted d at v) → (n ≡ length u) × (d' ≡ pasted d at u)
wrote d d' at n u v e w = (w.0 ∙ ap length (sym e), pasted_as d d' at u v e w.1)

pub returns-in-38 : goal.returns-in-38
returns-in-38 c = λ m. wrote _ _ _ _ _ _ (escape_amp _ c.in-38.is) c.put_word.ensures

pub returns-in-60 : goal.returns-in-60
returns-in-60 c = λ m. wrote _ _ _ _ _ _ (escape_lt _ c.in-60.is) c.put_word-in-60.ensures

pub returns-in_default : goal.returns-in_default
returns-in_default c =
    let r = c.in_default.in_default-own.rest in
    λ m. wrote _ _ _ _ _ _ (escape_gt _ (last_mark _ m r.0.1 r.1)) c.put_word-in_default.ensures
