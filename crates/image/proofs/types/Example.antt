-- The definition computes document 01's image from its content. Assumes nothing.
use mathlib.Core.Path.{◌≡◌, refl}
use mathlib.Core.List.{◌++◌}
use lib.ListN.{length}
use Rattle.text.specs.Numbers.{big_endian}
use Rattle.text_characters.specs.Utf8.{encode}
use Rattle.list.specs.Listing.{row_at}
use Rattle.list_house.specs.House.{house}
use Rattle.list.specs.Content.{items}
use Rattle.image.specs.Image.{versioned, header, body, image}
use Rattle.image.specs.Kinds.{values}
use Rattle.image.specs.Example.{whole, printed, written, placed, apart}

pub image_written : image values house whole ≡ written
unfolding image header big_endian encode row_at house whole written
image_written = refl

pub image_printed : versioned 1 ++ body values house whole ≡ printed
unfolding big_endian encode row_at house whole printed
image_printed = refl

pub written_long : length written ≡ 68
unfolding written
written_long = refl

pub printed_long : length printed ≡ 67
unfolding printed
printed_long = refl

pub taken_apart : placed house (length (header house)) (items whole) ≡ apart
unfolding header big_endian encode row_at house whole apart
taken_apart = refl
