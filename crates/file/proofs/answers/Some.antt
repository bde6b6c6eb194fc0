-- Some answer fits every file and every buffer, over any types and any well-formed list; with `answers_one`: exactly one. Assumes nothing.
use Rattle.std.specs.Prelude.{Ok, Err}
use mathlib.Core.Path.{◌≡◌, refl, sym, ◌∙◌, ap, subst}
use mathlib.Core.Logic.{◌⊎◌, inl, inr}
use mathlib.Core.Bool.{Bool, true, false, true≢false, false≢true}
use mathlib.Core.List.{List, [], ◌∷◌, ◌++◌}
use Prim.Native.Nat.{ℕ, zero, suc, ◌+◌, ◌≤◌, zero-le}
use native.Mathlib.Omega.{arith}
use native.Mathlib.Decide.{dec_lt}
use lib.ListN.{length, drop, length-drop}
use Rattle.answer.specs.declared.Answer.{Answer}
use Rattle.answer.specs.Table.{accepted, limit, too_long, not_utf8, not_house_xml, no_room}
use Rattle.text_characters.specs.Utf8.{Utf8}
use Rattle.text_characters.specs.mirror.Decoding.{decoded}
use Rattle.text_characters.proofs.Longest.{stop, more, whole_utf8}
use Rattle.list.specs.Listing.{Listing}
use Rattle.list.specs.WellFormed.{WellFormed}
use Rattle.list.specs.Content.{Content}
use Rattle.list.specs.Within.{Among}
use Rattle.list_house.specs.House.{house}
use Rattle.list_house.specs.Lists.{asked}
use Rattle.list_house.proofs.Lists.{house_asked, asked_well}
use Rattle.xml.specs.House.{HouseXml}
use Rattle.xml.specs.Message.{Inside, root_at}
use Rattle.xml.specs.mirror.Auto.{done, start, first, before, root, declare, name, tail, gap, attr, equals, quote, value, within, slash, content, part, less, close, St, dead, at, run, live_len}
use Rattle.xml.proofs.Theorem as xml
use Rattle.file_walk.specs.Types.{Judge, Decides, Spelling}
use Rattle.file_walk.specs.First.{Found, First, first_violation}
use Rattle.file_walk.proofs.violation.Accept.{accept}
use Rattle.file.specs.Instance.{Kinds, house_kinds}
use Rattle.file.specs.File.{Whole, message_in, File, image_of}
use Rattle.file.specs.Checks.{Answers, Chosen, Checks, long, markup, violation, room, imaged}
use Rattle.file.proofs.answers.House.{spelling, house_judge, deciding}
use Rattle.file.proofs.answers.One.{message_one, answers_one}
use Rattle.file.proofs.Chosen.{list_for, list_among, list_chosen}
use Rattle.file_walk.proofs.bytes.Root.{one_element}
use Rattle.file.proofs.answers.Early.{says_bytes, all_utf8}
use Rattle.text.specs.Lists.{LongestBeginning}

-- ---- a longest beginning that is UTF-8

none : LongestBeginning Utf8 [] 0
none = record { within = zero-le; begins = record { chars = []; scalars = tt; is = refl }; most = λ k h u. h }

some_utf8 : (fuel : ℕ) (s : List ℕ) → length s ≤ fuel → (n : ℕ) × LongestBeginning Utf8 s n
some_utf8 zero [] h = (0, none)
some_utf8 zero (x ∷ s) h = absurd (omega arith)
some_utf8 (suc f) s h = elim (dec_lt 0 (decoded s).len) [
  | yes p ↦ let r = some_utf8 f (drop (decoded s).len s) (omega (arith, length-drop (decoded s).len s)) in ((decoded s).len + r.0, more s r.0 p r.1)
  | no n ↦ (0, stop s (omega arith))
]

-- ---- house XML or not

abbrev pub is_done : St → Bool
is_done dead = false
is_done (at done) = true
is_done (at start) = false
is_done (at first) = false
is_done (at before) = false
is_done (at root) = false
is_done (at (declare x l)) = false
is_done (at (name d n ns)) = false
is_done (at (tail k ss d n ns)) = false
is_done (at (gap k ss d n ns)) = false
is_done (at (attr m a k ss d n ns)) = false
is_done (at (equals k ss d n ns)) = false
is_done (at (quote k ss d n ns)) = false
is_done (at (value q k ss d n ns)) = false
is_done (at (within p q k ss d n ns)) = false
is_done (at (slash d ns)) = false
is_done (at (content r d n ns)) = false
is_done (at (part p d n ns)) = false
is_done (at (less d n ns)) = false
is_done (at (close l d ns)) = false

done_is : (q : St) → is_done q ≡ true → q ≡ at done
done_is dead e = absurd (false≢true e)
done_is (at done) e = refl
done_is (at start) e = absurd (false≢true e)
done_is (at first) e = absurd (false≢true e)
done_is (at before) e = absurd (false≢true e)
done_is (at root) e = absurd (false≢true e)
done_is (at (declare x l)) e = absurd (false≢true e)
done_is (at (name d n ns)) e = absurd (false≢true e)
done_is (at (tail k ss d n ns)) e = absurd (false≢true e)
done_is (at (gap k ss d n ns)) e = absurd (false≢true e)
done_is (at (attr m a k ss d n ns)) e = absurd (false≢true e)
done_is (at (equals k ss d n ns)) e = absurd (false≢true e)
done_is (at (quote k ss d n ns)) e = absurd (false≢true e)
done_is (at (value q k ss d n ns)) e = absurd (false≢true e)
done_is (at (within p q k ss d n ns)) e = absurd (false≢true e)
done_is (at (slash d ns)) e = absurd (false≢true e)
done_is (at (content r d n ns)) e = absurd (false≢true e)
done_is (at (part p d n ns)) e = absurd (false≢true e)
done_is (at (less d n ns)) e = absurd (false≢true e)
done_is (at (close l d ns)) e = absurd (false≢true e)

house_or_not : (s : List ℕ) → HouseXml s ⊎ (HouseXml s → ⊥)
house_or_not s = go (is_done (run (at start) s)) refl
  where
    go : (b : Bool) → is_done (run (at start) s) ≡ b → HouseXml s ⊎ (HouseXml s → ⊥)
    go true e = inl (xml.accepted s (done_is (run (at start) s) e))
    go false e = inr (xml.refused s (λ r. true≢false (ap is_done (sym r) ∙ e)))

module _ (k : Kinds) (y : Spelling k.types) (j : Judge) (x : Decides k.types j) (l : Listing) (wf : WellFormed l) (s d : List ℕ) where
  -- an answer, and what it leaves in the buffer
  pub record Answered : Type 0 where
    pub answer : Answer
    pub buffer : List ℕ
    pub fits : Answers k l s d answer buffer

  leaves : (a : Answer) → Answers k l s d a d → Answered
  leaves a p = record { answer = a; buffer = d; fits = p }

  of_file : (c : Content k.types.A) → File k l s c → Answered
  of_file c f = elim (dec_lt (length d) (length (image_of k l c))) [
    | yes h ↦ leaves (no_room (length (image_of k l c))) (room c f h refl refl)
    | no h ↦ record {
      answer = accepted (length (image_of k l c));
      buffer = image_of k l c ++ drop (length (image_of k l c)) d;
      fits = imaged c f (omega arith) refl refl;
    }
  ]

  of_message : (w : Whole s) (f : Found) → First k.types l (message_in w) f → Answered
  of_message w (Err a) e = leaves a (violation w e refl)
  of_message w (Ok tt) e =
      let g = accept k.types y l wf (message_in w) (one_element w.xml.tree.root (root_at w.xml.tree) w.xml.good.one) e in
      of_file g.0 (record { whole = w; has = g.2; meets = g.1 })

  of_text_lem : length s ≤ limit → (n : ℕ) → LongestBeginning Utf8 s n → Answered
  of_text_lem h n u = elim (dec_lt n (length s)) [
    | yes i ↦ leaves (not_utf8 n) (says_bytes k l s d (not_utf8 n) h n u i refl)
    | no i ↦ elim (house_or_not s) [
      | inl z ↦ let w : Whole s = record { size = h; utf8 = all_utf8 s n u (omega arith); xml = z } in of_message w (first_violation j l (message_in w)) (record { judge = j; decides = x; is = refl })
      | inr z ↦ leaves (not_house_xml (live_len (at start) s)) (markup h (all_utf8 s n u (omega arith)) z (live_len (at start) s) (xml.longest s) refl refl)
    ]
  ]

  -- some answer fits
  pub some_answer : Answered
  some_answer = elim (dec_lt limit (length s)) [
    | yes h ↦ leaves too_long (long h refl refl)
    | no h ↦ let u = some_utf8 (length s) s (omega arith) in of_text_lem (omega arith) u.0 u.1
  ]

  -- and what fits is that one
  pub the_answer : (a : Answer) (d' : List ℕ) → Answers k l s d a d' → (a ≡ some_answer.answer) × (d' ≡ some_answer.buffer)
  the_answer a d' p = answers_one k y l wf s d a some_answer.answer d' some_answer.buffer p some_answer.fits

-- ---- with document 01's types, and the list that the file chooses

whole_or_not : (s : List ℕ) → Whole s ⊎ (Whole s → ⊥)
whole_or_not s = elim (dec_lt limit (length s)) [
  | yes h ↦ inr (λ w. omega (arith, w.size))
  | no h ↦ let u = some_utf8 (length s) s (omega arith) in elim (dec_lt u.0 (length s)) [
    | yes i ↦ inr (λ w. omega (arith, whole_utf8 s u.0 u.1 w.utf8))
    | no i ↦ elim (house_or_not s) [
      | inl z ↦ inl (record { size = omega arith; utf8 = all_utf8 s u.0 u.1 (omega arith); xml = z })
      | inr z ↦ inr (λ w. z w.xml)
    ]
  ]
]

-- a list that the file's message chooses; where it has none, any
pub list_some : (s : List ℕ) → (l : Listing) × Among l asked × ((w : Whole s) → Chosen (message_in w) l)
list_some s = elim (whole_or_not s) [
  | inl z ↦ (list_for (message_in z), list_among (message_in z), λ w. subst (λ (m : Inside). Chosen m (list_for (message_in z))) (message_one s z w) (list_chosen (message_in z)))
  | inr z ↦ (house, house_asked, λ w. absurd (z w))
]

pub checks_some : (s d : List ℕ) → (a : Answer) × (d' : List ℕ) × Checks s d a d'
checks_some s d =
    let l = list_some s in
    let o = some_answer house_kinds spelling house_judge deciding l.0 (asked_well l.0 l.1) s d in
    (o.answer, o.buffer, record { list = l.0; among = l.1; chosen = l.2; answers = o.fits })
