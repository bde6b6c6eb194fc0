-- `table::levels` meets its contract: one test, computed over the table. Assumes nothing.
use mathlib.Core.Path.{refl}
use Rattle.text.specs.Bytes.{is_letter, is_digit}
use Rattle.value.specs.types.Code.{is_letter_or_digit}
use Rattle.value.specs.types.Text.{is_txt, is_ref}
use Rattle.value.specs.mirror.Texts.{is_ascii_txt, quiet_txt}
use Rattle.value_levels.specs.mirror.Levels.{level_of}
use Rattle.value_levels.proofs.Levels.{leveled}
use Rattle.value_levels.proofs.table.levels.Goals as goal

pub returns : goal.returns
unfolding level_of quiet_txt is_ascii_txt is_txt is_ref is_letter_or_digit is_letter is_digit
returns c = leveled _ refl refl
