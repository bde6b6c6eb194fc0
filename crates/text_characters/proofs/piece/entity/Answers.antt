-- `piece::entity` meets its contract. Assumes nothing.
use mathlib.Core.Path.{◌∙◌}
use Rattle.text_characters.proofs.Resolving.{number_char}
use Rattle.text_characters.proofs.piece.entity.Goals as goal

pub returns : goal.returns
returns c = c.char_of.ensures ∙ number_char _ _ c.entity_number-n.ensures
