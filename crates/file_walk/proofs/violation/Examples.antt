-- The examples, for the definition itself and for the mirror. Assumes nothing.
use mathlib.Core.Path.{◌≡◌, refl}
use mathlib.Core.Bool.{xor}
use Rattle.text.specs.Bytes.{is_blank}
use Rattle.text.specs.Lists.{Each, same}
use Rattle.list.specs.Words.{first_from}
use Rattle.list.specs.Listing.{row_at, child}
use Rattle.list_house.specs.House.{house}
use Rattle.file_walk.specs.First.{absent_row, child_rows, inside, first_violation}
use Rattle.file_walk.specs.Example.{any_judge, examples}

pub examples_right : Each (λ c. first_violation any_judge house c.0 ≡ c.1) examples
unfolding house examples first_violation inside child_rows absent_row child first_from same row_at is_blank xor
examples_right = (refl, (refl, (refl, (refl, (refl, (refl, (refl, (refl, (refl, (refl, (refl, (refl, (refl, (refl, (refl, (refl, (refl, (refl, (refl, (refl, (refl, (refl, (refl, (refl, (refl, (refl, (refl, (refl, (refl, (refl, (refl, (refl, tt))))))))))))))))))))))))))))))))
