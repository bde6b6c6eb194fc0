-- What the lane leaves in a buffer: the image of a file that it knows to be good, or nothing. Assumes nothing.
use Rattle.std.specs.Prelude.{◌≡◌, Option, Some, None, List, ℕ, length}
use Rattle.text.specs.Pasting.{pasted}
use Rattle.list.specs.Listing.{Listing}
use Rattle.list.specs.Content.{Content}
use Rattle.value.specs.Value.{Value}
use Rattle.file.specs.Instance.{house_kinds}
use Rattle.file.specs.File.{image_of}
use Rattle.file.specs.Checks.{Filed}

-- r is the length of the file's image, where it is known, and the buffer d' is d with the image at its start, where that fits in
pub data Laned (s d : List ℕ) (r : Option ℕ) (d' : List ℕ) : Type 0 where
  unknown : r ≡ None → d' ≡ d → Laned s d r d'
  imaged : (l : Listing) (c : Content Value) → Filed s l c → r ≡ Some (length (image_of house_kinds l c)) → d' ≡ pasted d 0 (image_of house_kinds l c) → Laned s d r d'
