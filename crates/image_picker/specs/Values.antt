-- Where the value stands that the picker finds. Assumes nothing.
use Rattle.std.specs.Prelude.{ℕ, Option, None, Some}
use Rattle.image_picker.specs.declared.Value.{Value}

-- after its row byte; 0 where there is none
abbrev pub place_of : Option Value → ℕ
place_of None = 0
place_of (Some v) = v.at
