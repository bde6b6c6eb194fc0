-- What callers of check need of its answers: the image fits, is read back, and does not depend on what stood in the buffer. Assumes nothing.
use mathlib.Core.Path.{◌≡◌, refl, sym, ◌∙◌, ap}
use mathlib.Core.List.{List, ◌++◌}
use Prim.Native.Nat.{ℕ, ◌≤◌}
use native.Mathlib.Omega.{arith}
use lib.ListN.{length, take, drop}
use Rattle.answer.specs.declared.Answer.{Answer}
use Rattle.list.specs.Listing.{Listing}
use Rattle.image_reading.specs.Reads.{HouseReads}
use Rattle.image_reading.proofs.House.{house_reads_one}
use Rattle.file.specs.Instance.{house_kinds}
use Rattle.file.specs.File.{image_of}
use Rattle.file.specs.Checks.{Answers, long, bad_bytes, markup, violation, room, imaged, Checks}
use Rattle.file.proofs.answers.House.{checks_one, accepted_exactly, accepted_image, written_image, read_back}

module _ (s d : List ℕ) (a : Answer) (d' : List ℕ) where
  pub place_fits : Checks s d a d' → a.code ≡ 0 → a.place ≤ length d
  place_fits p z =
      let t = (accepted_exactly s d a d' p).0 z in
      let i = accepted_image s d a d' p t.0 t.1 t.2 t.3 in
      omega (arith, t.3, ap (λ (x : Answer). x.place) i.0)

  pub reads_back : Checks s d a d' → a.code ≡ 0 → (b : Answer) → HouseReads (take a.place d') b → b ≡ a
  reads_back p z b r = house_reads_one (take a.place d') b a r (read_back s d a d' p z)

-- ---- another buffer of the same length: the same answer and the same image

module _ (s d e : List ℕ) (n : length d ≡ length e) where
  moved_over : (l : Listing) (a : Answer) (d' : List ℕ) → Answers house_kinds l s d a d' → (x : List ℕ) × Answers house_kinds l s e a x
  moved_over l a d' (long h q r) = (e, long h q refl)
  moved_over l a d' (bad_bytes h u k m q r) = (e, bad_bytes h u k m q refl)
  moved_over l a d' (markup h u x k m q r) = (e, markup h u x k m q refl)
  moved_over l a d' (violation w f r) = (e, violation w f refl)
  moved_over l a d' (room c f h q r) = (e, room c f (omega (arith, n)) q refl)
  moved_over l a d' (imaged c f h q r) = (image_of house_kinds l c ++ drop (length (image_of house_kinds l c)) e, imaged c f (omega (arith, n)) q refl)

  moved : (a : Answer) (d' : List ℕ) → Checks s d a d' → (x : List ℕ) × Checks s e a x
  moved a d' p = let m = moved_over p.list a d' p.answers in (m.0, record { list = p.list; among = p.among; chosen = p.chosen; answers = m.1 })

  pub rooms_alike : (a b : Answer) (d' e' : List ℕ) → Checks s d a d' → Checks s e b e' → (a ≡ b) × (a.code ≡ 0 → take a.place d' ≡ take b.place e')
  rooms_alike a b d' e' p q = (alike, same_image)
    where
      alike : a ≡ b
      alike = (checks_one s e a b (moved a d' p).0 e' (moved a d' p).1 q).0

      same_image : a.code ≡ 0 → take a.place d' ≡ take b.place e'
      same_image z =
          let t = (accepted_exactly s d a d' p).0 z in
          written_image s d a d' p z t.0 t.1 t.2 ∙ sym (written_image s e b e' q (ap (λ (x : Answer). x.code) (sym alike) ∙ z) t.0 t.1 t.2)
