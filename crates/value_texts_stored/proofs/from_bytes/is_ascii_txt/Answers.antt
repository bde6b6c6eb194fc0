-- `from_bytes::is_ascii_txt` meets its contract. Assumes nothing.
use mathlib.Core.Path.{refl, ◌∙◌}
use mathlib.Core.List.{[], ◌∷◌}
use native.Mathlib.Omega.{arith}
use Rattle.text.proofs.Classes.{no, yes_but}
use Rattle.value.specs.types.Text.{is_txt}
use Rattle.value.specs.mirror.Texts.{is_ascii_txt}
use Rattle.value.proofs.classes.Named.{writing}
use Rattle.value.proofs.classes.Computed.{keys_not, ascii_so, ascii_far}
use Rattle.value_texts_stored.proofs.from_bytes.is_ascii_txt.Goals as goal

pub returns-in-96 : goal.returns-in-96
unfolding is_ascii_txt is_txt
returns-in-96 c =
    keys_not is_ascii_txt (96 ∷ []) refl c.in-96.is

pub returns-in-32-to-126 : goal.returns-in-32-to-126
returns-in-32-to-126 c =
    yes_but writing 32 95 (96 ∷ []) [] refl (omega arith) (omega arith) c.in-32-to-126.in_default-own.rest.1 (λ e. e) ∙ ascii_so _ (omega arith)

pub returns-in_default : goal.returns-in_default
returns-in_default c =
    no writing (omega arith) ∙ ascii_so _ (omega arith)

pub returns-in_default-2 : goal.returns-in_default-2
returns-in_default-2 c =
    ascii_far _ (omega arith)
