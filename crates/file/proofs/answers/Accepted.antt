-- Demands 1 and 2 in their own words: a refusal leaves every byte; a file is accepted exactly when it is good and its image fits, and then the buffer
-- begins with the image of its content and the rest stays. Assumes nothing.
use mathlib.Core.Path.{◌≡◌, ◌∙◌, ap, ap₂}
use mathlib.Core.Logic.{◌≢◌, ◌↔◌}
use mathlib.Core.List.{List, ◌++◌}
use Prim.Native.Nat.{ℕ, ◌≤◌}
use native.Mathlib.Omega.{arith}
use lib.ListN.{length, take, drop}
use lib.Seq.{take-append_seam}
use Rattle.answer.specs.declared.Answer.{Answer}
use Rattle.answer.specs.Table.{accepted, too_long, not_utf8, not_house_xml, no_room}
use Rattle.list.specs.Listing.{Listing}
use Rattle.list.specs.WellFormed.{WellFormed}
use Rattle.list.specs.Content.{Content}
use Rattle.file_walk.specs.Types.{Spelling}
use Rattle.file.specs.Instance.{Kinds}
use Rattle.file.specs.File.{message_in, File, image_of}
use Rattle.file.specs.Checks.{Answers, long, bad_bytes, markup, violation, room, imaged}
use Rattle.file.proofs.answers.Codes.{violation_code}
use Rattle.file.proofs.answers.One.{of_image}

code_of : (a b : Answer) → a ≡ b → a.code ≡ b.code
code_of a b e = ap (λ (x : Answer). x.code) e

module _ (k : Kinds) (l : Listing) (s d : List ℕ) (a : Answer) (d' : List ℕ) where
  -- "Any other code leaves that buffer unchanged": every refusal leaves every byte
  pub refusal_leaves : Answers k l s d a d' → a.code ≢ 0 → d' ≡ d
  refusal_leaves (long h e f) n = f
  refusal_leaves (bad_bytes h u m q e f) n = f
  refusal_leaves (markup h u v m q e f) n = f
  refusal_leaves (violation w q f) n = f
  refusal_leaves (room c w h e f) n = f
  refusal_leaves (imaged c w h e f) n = absurd (n (code_of a (accepted (length (image_of k l c))) e))

  -- what an accepted file is, and what stands in the buffer then
  pub record Taken : Type 0 where
    pub content : Content k.types.A
    pub file : File k l s content
    pub fits : length (image_of k l content) ≤ length d
    pub is : a ≡ accepted (length (image_of k l content))
    pub buffer : d' ≡ image_of k l content ++ drop (length (image_of k l content)) d

  -- the codes of the refusals are none of acceptance
  pub taken : Answers k l s d a d' → a.code ≡ 0 → Taken
  taken (long h e f) z = absurd (omega (arith, code_of a too_long e))
  taken (bad_bytes h u m q e f) z = absurd (omega (arith, code_of a (not_utf8 m) e))
  taken (markup h u v m q e f) z = absurd (omega (arith, code_of a (not_house_xml m) e))
  taken (violation w q f) z = absurd (omega (arith, violation_code k.types l (message_in w) a q))
  taken (room c w h e f) z = absurd (omega (arith, code_of a (no_room (length (image_of k l c))) e))
  taken (imaged c w h e f) z = record { content = c; file = w; fits = h; is = e; buffer = f }

  module _ (y : Spelling k.types) (wf : WellFormed l) where
    -- a good file whose image fits is accepted, with that image
    pub good_accepted : (c : Content k.types.A) → File k l s c → length (image_of k l c) ≤ length d → Answers k l s d a d'
        → (a ≡ accepted (length (image_of k l c))) × (d' ≡ image_of k l c ++ drop (length (image_of k l c)) d)
    good_accepted c w h p = let o = of_image k y l wf s d a d' c w h p in (o.answer, o.buffer)

    -- demand 2: "acceptance" exactly when the size, UTF-8, house XML, the list, the types and the rules hold and the image fits
    pub accepted_exactly : Answers k l s d a d' → (a.code ≡ 0) ↔ ((c : Content k.types.A) × File k l s c × (length (image_of k l c) ≤ length d))
    accepted_exactly p = (
      (λ z. let t = taken p z in (t.content, t.file, t.fits)),
      (λ g. code_of a (accepted (length (image_of k l g.0))) (good_accepted g.0 g.1 g.2 p).0),
    )

  -- the first bytes of the buffer are the image, as many as the answer's place says
  pub written : (t : Taken) → take a.place d' ≡ image_of k l t.content
  written t =
      let n : a.place ≡ length (image_of k l t.content) = ap (λ (x : Answer). x.place) t.is in
      ap₂ take n t.buffer ∙ take-append_seam (image_of k l t.content) (drop (length (image_of k l t.content)) d)

  -- where no image is longer than its file, a buffer as long as the file is long enough
  pub room_enough : ((u : List ℕ) (c : Content k.types.A) → File k l u c → length (image_of k l c) ≤ length u) → Answers k l s d a d' → length s ≤ length d → a.code ≢ 14
  room_enough f (long h e g) m z = omega (arith, code_of a too_long e)
  room_enough f (bad_bytes h u n q e g) m z = omega (arith, code_of a (not_utf8 n) e)
  room_enough f (markup h u v n q e g) m z = omega (arith, code_of a (not_house_xml n) e)
  room_enough f (violation w q g) m z = omega (arith, violation_code k.types l (message_in w) a q)
  room_enough f (room c w h e g) m z = omega (arith, f s c w)
  room_enough f (imaged c w h e g) m z = omega (arith, code_of a (accepted (length (image_of k l c))) e)
