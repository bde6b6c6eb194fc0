-- `texts::is_second` meets its contract. Assumes nothing.
use mathlib.Core.Path.{refl}
use mathlib.Core.Bool.{false≢true}
use mathlib.Core.List.{List, [], ◌∷◌}
use Prim.Native.Nat.{ℕ}
use Rattle.text.proofs.Classes.{key_passes}
use Rattle.value.specs.types.Text.{is_txt}
use Rattle.value_lane_texts.specs.mirror.Going.{is_second}
use Rattle.value_lane_texts.proofs.texts.is_second.Goals as goal

abbrev keys1 : List ℕ
keys1 = 0x84 ∷ 0x96 ∷ 0x9C ∷ []

abbrev keys2 : List ℕ
keys2 = 0x9F ∷ 0xA4 ∷ 0xB6 ∷ 0xBC ∷ []

pub returns-in-132 : goal.returns-in-132
unfolding is_second is_txt
returns-in-132 c = λ e. key_passes is_second keys1 refl _ c.in-132.is

pub returns-in-159 : goal.returns-in-159
unfolding is_second is_txt
returns-in-159 c = λ e. key_passes is_second keys2 refl _ c.in-159.is

pub returns-in_default : goal.returns-in_default
returns-in_default c = λ e. absurd (false≢true e)
