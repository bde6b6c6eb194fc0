-- Only one answer fits a file and a buffer: what a file is says the answer and every byte of the buffer. Assumes nothing.
use Rattle.std.specs.Prelude.{Ok, Err}
use mathlib.Core.Path.{◌≡◌, refl, sym, ◌∙◌, ap, subst}
use mathlib.Core.Bool.{Bool, true, false, true≢false}
use mathlib.Core.List.{List, ◌++◌}
use Prim.Native.Nat.{ℕ, ◌≤◌, ◌<◌}
use native.Mathlib.Omega.{arith}
use lib.ListN.{length, drop}
use Rattle.answer.specs.declared.Answer.{Answer}
use Rattle.answer.specs.Table.{accepted, limit, too_long, not_utf8, not_house_xml, no_room}
use Rattle.text_characters.specs.Utf8.{Utf8}
use Rattle.text.proofs.Parts.{longest_one}
use Rattle.list.specs.Listing.{Listing}
use Rattle.list.specs.WellFormed.{WellFormed}
use Rattle.list.specs.Content.{Content}
use Rattle.xml.specs.House.{HouseXml, Viable}
use Rattle.xml.specs.Message.{Inside, message_of}
use Rattle.xml.proofs.Unique.{tree_one}
use Rattle.file_walk.specs.Types.{Judge, Decides, Spelling}
use Rattle.file_walk.specs.First.{Found, First, first_violation}
use Rattle.file_walk.specs.Denotes.{Has}
use Rattle.file_walk.proofs.violation.Accept as walk
use Rattle.file_walk.proofs.violation.Judges.{first_one}
use Rattle.file.specs.Instance.{Kinds}
use Rattle.file.specs.File.{Whole, message_in, File, image_of}
use Rattle.file.specs.Checks.{Answers, long, bad_bytes, markup, violation, room, imaged}
use Rattle.text.specs.Lists.{LongestBeginning}

-- a text has one tree, so a file has one message
pub message_one : (s : List ℕ) (a b : Whole s) → message_in a ≡ message_in b
message_one s a b = ap message_of (tree_one a.xml.tree b.xml.tree a.xml.good b.xml.good (sym a.xml.is ∙ b.xml.is))

abbrev is_fine : Found → Bool
is_fine (Ok tt) = true
is_fine (Err a) = false

pub fine_found : {P : Type 0} (f : Found) (a : Answer) → f ≡ Ok tt → f ≡ Err a → P
fine_found f a e g = absurd (true≢false (ap is_fine (sym e ∙ g)))

-- a violation has one answer
violation_one : (a b : Answer) → ◌≡◌ {A = Found} (Err a) (Err b) → a ≡ b
violation_one a b e = cc

-- the answer and the buffer after the call are these
pub record Is (x : Answer) (z : List ℕ) (a : Answer) (d' : List ℕ) : Type 0 where
  pub answer : a ≡ x
  pub buffer : d' ≡ z

module _ (k : Kinds) (y : Spelling k.types) (l : Listing) (wf : WellFormed l) (s : List ℕ) where
  -- a file has one content
  pub content_one : (c e : Content k.types.A) → File k l s c → File k l s e → c ≡ e
  content_one c e a b =
      walk.unique k.types y l wf (message_in a.whole) c e a.has (subst (λ (m : Inside). Has k.types l m e) (message_one s b.whole a.whole) b.has)

  -- in the message of a good file nothing is found
  pub file_fine : (c : Content k.types.A) → File k l s c → (w : Whole s) (f : Found) → First k.types l (message_in w) f → f ≡ Ok tt
  file_fine c x w =
      walk.accepted k.types y l wf (message_in w) c x.meets (subst (λ (m : Inside). Has k.types l m c) (message_one s x.whole w) x.has)

  pub file_first : (j : Judge) → Decides k.types j → (c : Content k.types.A) → File k l s c → (w : Whole s) → First k.types l (message_in w) (Ok tt)
  file_first j d c x w = record { judge = j; decides = d; is = file_fine c x w (first_violation j l (message_in w)) (record { judge = j; decides = d; is = refl }) }

  no_violation : {P : Type 0} (c : Content k.types.A) → File k l s c → (w : Whole s) (a : Answer) → First k.types l (message_in w) (Err a) → P
  no_violation c x w a v = fine_found (Err a) a (file_fine c x w (Err a) v) refl

  module _ (d : List ℕ) (a : Answer) (d' : List ℕ) where
    -- code 1 exactly of a file that is too long
    pub of_long : limit < length s → Answers k l s d a d' → Is too_long d a d'
    of_long h (long i e f) = record { answer = e; buffer = f }
    of_long h (bad_bytes i u n p e f) = absurd (omega arith)
    of_long h (markup i u x n p e f) = absurd (omega arith)
    of_long h (violation w p f) = absurd (omega (arith, w.size))
    of_long h (room c w i e f) = absurd (omega (arith, w.whole.size))
    of_long h (imaged c w i e f) = absurd (omega (arith, w.whole.size))

    -- 2
    pub of_bytes : length s ≤ limit → (Utf8 s → ⊥) → (n : ℕ) → LongestBeginning Utf8 s n → Answers k l s d a d' → Is (not_utf8 n) d a d'
    of_bytes h u n p (long i e f) = absurd (omega arith)
    of_bytes h u n p (bad_bytes i v m q e f) = record { answer = e ∙ ap not_utf8 (longest_one Utf8 s m n q p); buffer = f }
    of_bytes h u n p (markup i v x m q e f) = absurd (u v)
    of_bytes h u n p (violation w q f) = absurd (u w.utf8)
    of_bytes h u n p (room c w i e f) = absurd (u w.whole.utf8)
    of_bytes h u n p (imaged c w i e f) = absurd (u w.whole.utf8)

    -- 3
    pub of_markup : length s ≤ limit → Utf8 s → (HouseXml s → ⊥) → (n : ℕ) → LongestBeginning Viable s n → Answers k l s d a d' → Is (not_house_xml n) d a d'
    of_markup h u x n p (long i e f) = absurd (omega arith)
    of_markup h u x n p (bad_bytes i v m q e f) = absurd (v u)
    of_markup h u x n p (markup i v z m q e f) = record { answer = e ∙ ap not_house_xml (longest_one Viable s m n q p); buffer = f }
    of_markup h u x n p (violation w q f) = absurd (x w.xml)
    of_markup h u x n p (room c w i e f) = absurd (x w.whole.xml)
    of_markup h u x n p (imaged c w i e f) = absurd (x w.whole.xml)

    -- 4 to 13
    pub of_violation : (w : Whole s) (b : Answer) → First k.types l (message_in w) (Err b) → Answers k l s d a d' → Is b d a d'
    of_violation w b v (long i e f) = absurd (omega (arith, w.size))
    of_violation w b v (bad_bytes i u m q e f) = absurd (u w.utf8)
    of_violation w b v (markup i u x m q e f) = absurd (x w.xml)
    of_violation w b v (violation z q f) =
        let u = subst (λ (m : Inside). First k.types l m (Err a)) (message_one s z w) q in
        record { answer = violation_one a b (first_one k.types l (message_in w) (Err a) (Err b) u v); buffer = f }
    of_violation w b v (room e z i g f) = no_violation e z w b v
    of_violation w b v (imaged e z i g f) = no_violation e z w b v

    module _ (c : Content k.types.A) (w : File k l s c) where
      size_is : (e : Content k.types.A) → File k l s e → length (image_of k l e) ≡ length (image_of k l c)
      size_is e z = ap (λ (x : Content k.types.A). length (image_of k l x)) (content_one e c z w)

      -- 14
      pub of_room : length d < length (image_of k l c) → Answers k l s d a d' → Is (no_room (length (image_of k l c))) d a d'
      of_room h (long i e f) = absurd (omega (arith, w.whole.size))
      of_room h (bad_bytes i u m q e f) = absurd (u w.whole.utf8)
      of_room h (markup i u x m q e f) = absurd (x w.whole.xml)
      of_room h (violation z q f) = no_violation c w z a q
      of_room h (room e z i g f) = record { answer = g ∙ ap no_room (size_is e z); buffer = f }
      of_room h (imaged e z i g f) = absurd (omega (arith, size_is e z))

      -- 0
      pub of_image : length (image_of k l c) ≤ length d → Answers k l s d a d' → Is (accepted (length (image_of k l c))) (image_of k l c ++ drop (length (image_of k l c)) d) a d'
      of_image h (long i e f) = absurd (omega (arith, w.whole.size))
      of_image h (bad_bytes i u m q e f) = absurd (u w.whole.utf8)
      of_image h (markup i u x m q e f) = absurd (x w.whole.xml)
      of_image h (violation z q f) = no_violation c w z a q
      of_image h (room e z i g f) = absurd (omega (arith, size_is e z))
      of_image h (imaged e z i g f) =
          record {
            answer = g ∙ ap accepted (size_is e z);
            buffer = f ∙ ap (λ (x : Content k.types.A). image_of k l x ++ drop (length (image_of k l x)) d) (content_one e c z w);
          }

  -- two answers that fit are one, and so are the buffers that they leave
  pub answers_one : (d : List ℕ) (a b : Answer) (x z : List ℕ) → Answers k l s d a x → Answers k l s d b z → (a ≡ b) × (x ≡ z)
  answers_one d a b x z (long h e f) p = let o = of_long d b z h p in (e ∙ sym o.answer, f ∙ sym o.buffer)
  answers_one d a b x z (bad_bytes h u n q e f) p = let o = of_bytes d b z h u n q p in (e ∙ sym o.answer, f ∙ sym o.buffer)
  answers_one d a b x z (markup h u v n q e f) p = let o = of_markup d b z h u v n q p in (e ∙ sym o.answer, f ∙ sym o.buffer)
  answers_one d a b x z (violation w q f) p = let o = of_violation d b z w a q p in (sym o.answer, f ∙ sym o.buffer)
  answers_one d a b x z (room c w h e f) p = let o = of_room d b z c w h p in (e ∙ sym o.answer, f ∙ sym o.buffer)
  answers_one d a b x z (imaged c w h e f) p = let o = of_image d b z c w h p in (e ∙ sym o.answer, f ∙ sym o.buffer)
