-- What a whole pass says, without a buffer and with one that the image fits in. Over any types. Assumes nothing.
use Rattle.std.specs.Prelude.{Result, Ok, Err}
use mathlib.Core.Path.{◌≡◌, refl, subst}
use mathlib.Core.List.{List}
use Prim.Native.Nat.{ℕ, ◌≤◌}
use lib.ListN.{length}
use Rattle.answer.specs.declared.Answer.{Answer}
use Rattle.text.specs.Pasting.{pasted}
use Rattle.list.specs.Listing.{Listing}
use Rattle.list.specs.WellFormed.{WellFormed}
use Rattle.list.specs.Content.{Content}
use Rattle.xml.specs.Message.{Inside, message_of}
use Rattle.file_walk.specs.Types.{Spelling}
use Rattle.file_walk.proofs.violation.Accept.{unique}
use Rattle.file.specs.Instance.{Kinds}
use Rattle.file.specs.File.{image_of}
use Rattle.file_walk.proofs.violation.Judges.{first_one}
use Rattle.file.proofs.answers.One.{fine_found}
use Rattle.file_measure.specs.Measured.{Says, Message}
use Rattle.file_measure.specs.Pass.{Passes}

module _ (k : Kinds) (l : Listing) where
  pub says_of : (m : Inside) (d : List ℕ) (v : Result ℕ Answer) (d' : List ℕ) → Passes k l m d v d' → Says k l m v
  says_of m d (Err a) d' e = e
  says_of m d (Ok n) d' (e, (c, h, f, g)) = (e, (c, h, f))

  pub filled_of : Spelling k.types → WellFormed l → (s : List ℕ) (c : Content k.types.A) (m : Message k l s c) (d : List ℕ) (v : Result ℕ Answer) (d' : List ℕ)
      → Passes k l (message_of m.xml.tree) d v d' → length (image_of k l c) ≤ length d → d' ≡ pasted d 0 (image_of k l c)
  filled_of y w s c m d (Err a) d' e h = fine_found (Ok tt) a refl (first_one k.types l (message_of m.xml.tree) (Ok tt) (Err a) m.none e)
  filled_of y w s c m d (Ok n) d' (e, (b, i, f, g)) h =
      let same : b ≡ c = unique k.types y l w (message_of m.xml.tree) b c i m.has in
      subst (λ (z : Content k.types.A). length (image_of k l z) ≤ length d → d' ≡ pasted d 0 (image_of k l z)) same g h
