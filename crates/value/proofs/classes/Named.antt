-- The classes of REF, TXT and IBAN, as classes. Assumes nothing.
use mathlib.Core.Path.{refl}
use Rattle.text.proofs.Classes.{Named, only, from, ◌or◌}
use Rattle.text.specs.Bytes.{is_letter, is_digit}
use Rattle.value.specs.types.Code.{is_letter_or_digit}
use Rattle.value.specs.types.Text.{is_txt, is_ref}

pub letter_or_digit : Named is_letter_or_digit (from 65 90 or from 97 122 or from 48 57)
unfolding is_letter_or_digit is_letter is_digit
letter_or_digit = record { is = λ x. refl }

pub reference : Named is_ref (only 32 or from 39 41 or from 43 58 or only 63 or from 65 90 or from 97 122)
unfolding is_ref
reference = record { is = λ x. refl }

pub writing : Named is_txt (from 32 95 or from 97 126 or only 0xA7 or only 0xB0 or only 0xC4 or only 0xD6 or only 0xDC or only 0xDF or only 0xE4 or only 0xF6 or only 0xFC or only 0x20AC)
unfolding is_txt
writing = record { is = λ x. refl }
