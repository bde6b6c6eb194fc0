-- Each of the three demands holds. Assumes nothing.
use Rattle.std.specs.Prelude.{Err}
use mathlib.Core.Path.{◌≡◌, refl, sym, ◌∙◌, ap, ap₂, subst}
use mathlib.Core.Logic.{◌⊎◌, ◌↔◌, inl, inr}
use mathlib.Core.Bool.{Bool, true, false}
use mathlib.Core.List.{List, [], ◌∷◌, ◌++◌, append_assoc, append-nil}
use Prim.Native.Nat.{ℕ, ◌+◌, ◌≤◌, ◌<◌}
use native.Mathlib.Omega.{arith}
use lib.Dec.{eqb}
use lib.ListN.{length, drop, length-append, length-drop}
use borrow.Author.Tests.{ne_eqb}
use Rattle.answer.specs.declared.Answer.{Answer}
use Rattle.answer.specs.Table.{accepted, limit, not_utf8, not_house_xml, no_room, broken_image}
use Rattle.answer.specs.Table as table
use Rattle.text_characters.specs.Utf8.{Utf8}
use Rattle.list.specs.Listing.{Listing}
use Rattle.list.specs.WellFormed.{WellFormed}
use Rattle.list.specs.Content.{Content, items, Meets}
use Rattle.list.specs.Within.{Among}
use Rattle.list.proofs.Within.{meets_within}
use Rattle.list_house.specs.Lists.{asked, asked_of, stored}
use Rattle.list_house.proofs.Lists.{asked_well, kept_well, bytes_tell}
use Rattle.list_house.proofs.Retired.{stored_narrowed}
use Rattle.xml.specs.House.{HouseXml, Viable}
use Rattle.xml.specs.Message.{Inside, message_of, root_at}
use Rattle.xml.proofs.Coded.{house_utf8}
use Rattle.value.specs.Value.{Value, IsValue}
use Rattle.value.specs.parts.Former.{present}
use Rattle.value.specs.Spelled.{Spelled, SpelledByEither}
use Rattle.value.proofs.script.Scripts.{both_rules}
use Rattle.file_walk.specs.First.{First, first_violation}
use Rattle.file_walk.proofs.violation.Accept as walk
use Rattle.file_walk.proofs.violation.Judges.{first_one}
use Rattle.file_walk.proofs.bytes.Root.{one_element}
use Rattle.image.specs.Image.{header, body, image}
use Rattle.image.specs.Kinds.{values}
use Rattle.image.specs.Place.{current, over, foreign, version, kindless, broken, whole_image}
use Rattle.image.specs.Pick.{refused, missing, found as at}
use Rattle.image.proofs.types.Lawful.{lawful}
use Rattle.image.proofs.content.Images.{image_long}
use Rattle.image.proofs.answers.Heads.{front_long, apart}
use Rattle.image.proofs.answers.One.{told_kinds}
use Rattle.image_reading.specs.Reads.{HouseAccepts, HouseReads, HousePicks}
use Rattle.image_reading.proofs.House.{house_reads_some, house_reads_one, house_reads_exactly, house_begins, house_picks_some, house_picks_one}
use Rattle.image_hold.proofs.Holding.{next_one, next_some}
use Rattle.file.specs.Instance.{house_types, house_kinds}
use Rattle.file.specs.File.{Whole, message_in}
use Rattle.file.specs.Checks.{Answers, Chosen, Checks, Finds, long, bad_bytes, markup, violation, room, imaged}
use Rattle.file.proofs.answers.Codes.{violation_code}
use Rattle.file.proofs.answers.One.{message_one, of_long, of_bytes, of_markup, of_violation, of_room}
use Rattle.file.proofs.Chosen.{checks_over, filed_answers}
use Rattle.file.proofs.answers.House.{spelling, house_judge, deciding, image_no_longer, one_content, checks_one, finds_one, taken, taken_filed, accepted_image, written_image, images_tell}
use Rattle.file.proofs.answers.Some.{checks_some}
use Rattle.file_letter.proofs.tree.Trees.{tree_of, letter_is}
use Rattle.file_letter.specs.Letter.{letter_of}
use Rattle.file_letter.specs.Stale.{NoneOf, Withdrawn}
use Rattle.file_letter.proofs.Meeting.{meets_on, said_is, has_said}
use Rattle.file_letter.proofs.Present.{meets_present, named_message}
use Rattle.file_letter.proofs.tree.Has.{letter_has}
use Rattle.file_letter.proofs.tree.Good.{letter_good}
use Rattle.demands.specs.Demands.{Kinded, HouseFile, house_image, CodeFrom, FileRefused, RunRefused, PickRefused, Demand1, WalkedBy, Told, Meeting, Together, Stored, BeginsStored, Message, Demand2, CheckWrote, Imaged, Laid, Divides, Tells, Demand3}
use Rattle.demands.proofs.Causes.{causes}
use Rattle.text.specs.Lists.{LongestBeginning}

code : {a x : Answer} → a ≡ x → a.code ≡ x.code
code e = ap (λ (y : Answer). y.code) e

place : {a x : Answer} → a ≡ x → a.place ≡ x.place
place e = ap (λ (y : Answer). y.place) e

pair : {A B : Type 0} {x y : A} {u v : B} → (x ≡ y) × (u ≡ v) → ◌≡◌ {A = A × B} (x, u) (y, v)
pair e = λ i. (e.0 i, e.1 i)

-- ---- demand 1

-- a line of the table has its place
line : (a : Answer) (f : ℕ → Answer) (n : ℕ) → (f n).place ≡ n → a ≡ f n → a ≡ f a.place
line a f n h e = e ∙ ap f (sym (place e ∙ h))

module _ (l : Listing) where
  lines : (s d : List ℕ) (a : Answer) (d' : List ℕ) → Answers house_kinds l s d a d' → (length d' ≡ length d) × ((a ≡ accepted a.place) ⊎ (FileRefused a × (d' ≡ d)))
  lines s d a d' (long h e f) = (ap length f, inr (inl e, f))
  lines s d a d' (bad_bytes h u n p e f) = (ap length f, inr (inr (inl (line a not_utf8 n refl e)), f))
  lines s d a d' (markup h u x n p e f) = (ap length f, inr (inr (inr (inl (line a not_house_xml n refl e))), f))
  lines s d a d' (violation w p f) =
      let v = violation_code house_types l (message_in w) a p in
      (ap length f, inr (inr (inr (inr (inl (v.0, v.1)))), f))
  lines s d a d' (room c w h e f) = (ap length f, inr (inr (inr (inr (inr (line a no_room (length (house_image (l, c))) refl e)))), f))
  lines s d a d' (imaged c w h e f) =
      let x = house_image (l, c) in
      (omega (arith, ap length f, length-append x (drop (length x) d), length-drop (length x) d), inl (line a accepted (length x) refl e))

  -- the answer to a buffer as long as the file is the answer to every longer one
  longer : Among l asked → (s : List ℕ) (a : Answer) (e' d : List ℕ) → length s ≤ length d → Answers house_kinds l s s a e' → (d' : List ℕ) × Answers house_kinds l s d a d'
  longer i s a e' d g (long h e f) = (d, long h e refl)
  longer i s a e' d g (bad_bytes h u n p e f) = (d, bad_bytes h u n p e refl)
  longer i s a e' d g (markup h u x n p e f) = (d, markup h u x n p e refl)
  longer i s a e' d g (violation w p f) = (d, violation w p refl)
  longer i s a e' d g (room c w h e f) = absurd (omega (arith, image_no_longer s l c (record { among = i; file = w })))
  longer i s a e' d g (imaged c w h e f) = (house_image (l, c) ++ drop (length (house_image (l, c))) d, imaged c w (omega arith) e refl)

longer_checks : (s : List ℕ) (a : Answer) (e' d : List ℕ) → length s ≤ length d → Checks s s a e' → (d' : List ℕ) × Checks s d a d'
longer_checks s a e' d g p =
    let o = longer p.list p.among s a e' d g p.answers in
    (o.0, record { list = p.list; among = p.among; chosen = p.chosen; answers = o.1 })

run_lines : (run : List ℕ) (a : Answer) → HouseReads run a → (a ≡ accepted a.place) ⊎ RunRefused a
run_lines run a (over h e) = inr (inl e)
run_lines run a (foreign h x e) = inr (inr (inl e))
run_lines run a (version h x y w v e) = inr (inr (inr (inl e)))
run_lines run a (kindless h x y e) = inr (inr (inr (inr (line a broken_image 5 refl e))))
run_lines run a (broken h l i t q s x n y e) = inr (inr (inr (inr (line a broken_image (length t + n) refl e))))
run_lines run a (whole_image h n w e) = inl (line a accepted n refl e)

pick_lines : (run : List ℕ) (r n : ℕ) (a : Answer) (part : List ℕ) → HousePicks run r n a part → (a ≡ table.picked r a.place) ⊎ (PickRefused a × (part ≡ []))
pick_lines run r n a part (refused x z e) = go (run_lines run a x)
  where
    go : (a ≡ accepted a.place) ⊎ RunRefused a → (a ≡ table.picked r a.place) ⊎ (PickRefused a × (part ≡ []))
    go (inl y) = absurd (z (code y))
    go (inr y) = inr (inl y, e)
pick_lines run r n a part (missing h k w u e f) = inr (inr e, f)
pick_lines run r n a part (at h k w p u e) = inl (line a (table.picked r) p refl e)

pub demand1 : Demand1
demand1 = record {
  checks = λ s d. let x = checks_some s d in record { result = (x.0, x.1); fits = x.2; one = λ o p. pair (checks_one s d o.0 x.0 o.1 x.1 p x.2) };
  checked = λ s d a d' p. lines p.list s d a d' p.answers;
  finds = λ s. let x = checks_some s s in let f : Finds s x.0 = record { roomy = λ d g. longer_checks s x.0 x.1 d g x.2 } in record { result = x.0; fits = f; one = λ a p. finds_one s a x.0 p f };
  reads = λ run. let x = house_reads_some run in record { result = x.0; fits = x.1; one = λ a p. house_reads_one run a x.0 p x.1 };
  read = run_lines;
  picks = λ run r n. let x = house_picks_some run r n in record { result = (x.0, x.1); fits = x.2; one = λ o p. pair (house_picks_one run r n o.0 x.0 o.1 x.1 p x.2) };
  picked = pick_lines;
  nexts = λ h. let x = next_some h in record { result = (x.0, x.1); fits = x.2; one = λ o p. pair (next_one h o.0 x.0 o.1 x.1 p x.2) };
}

-- ---- demand 2

-- one of two types, by a test
abbrev Choice : Bool → Type 0 → Type 0 → Type 0
Choice true A B = A
Choice false A B = B

module _ (s d : List ℕ) where
  -- what stands behind an answer, by its code
  abbrev Walked : Answer → Type 0
  Walked a = (l : Listing) × (w : WalkedBy s l) × First house_types l (message_in w.whole) (Err a)

  abbrev Why : Answer → Type 0
  Why a =
      Choice (eqb a.code 0) ((c : Kinded) × HouseFile s c × (a.place ≡ length (house_image c)) × (a.place ≤ length d))
      (Choice (eqb a.code 1) (limit < length s)
      (Choice (eqb a.code 2) ((length s ≤ limit) × (Utf8 s → ⊥) × LongestBeginning Utf8 s a.place)
      (Choice (eqb a.code 3) ((length s ≤ limit) × Utf8 s × (HouseXml s → ⊥) × LongestBeginning Viable s a.place)
      (Choice (eqb a.code 14) ((c : Kinded) × HouseFile s c × (a.place ≡ length (house_image c)) × (length d < a.place)) (Walked a)))))

  -- of a violation it is the walk
  on_walk : (a : Answer) → CodeFrom 4 13 a → Why a ↔ Walked a
  on_walk a h = rw (
    ne_eqb a.code 0 (λ z. omega (arith, h)),
    ne_eqb a.code 1 (λ z. omega (arith, h)),
    ne_eqb a.code 2 (λ z. omega (arith, h)),
    ne_eqb a.code 3 (λ z. omega (arith, h)),
    ne_eqb a.code 14 (λ z. omega (arith, h)),
  ) ((λ x. x), (λ x. x))

  module _ (a : Answer) (d' : List ℕ) where
    why_by : (l : Listing) → Among l asked → ((w : Whole s) → Chosen (message_in w) l) → Answers house_kinds l s d a d' → Why a
    why_by l i q (long h e f) = subst Why (sym e) h
    why_by l i q (bad_bytes h u n p e f) = subst Why (sym e) (h, u, p)
    why_by l i q (markup h u x n p e f) = subst Why (sym e) (h, u, x, p)
    why_by l i q (violation w p f) =
        let v = violation_code house_types l (message_in w) a p in
        (on_walk a (v.0, v.1)).1 (l, record { whole = w; among = i; chosen = q w }, p)
    why_by l i q (room c w h e f) = subst Why (sym e) ((l, c), record { among = i; file = w }, refl, h)
    why_by l i q (imaged c w h e f) = subst Why (sym e) ((l, c), record { among = i; file = w }, refl, h)

    module _ (p : Checks s d a d') where
      why : Why a
      why = why_by p.list p.among p.chosen p.answers

      by_list : (l : Listing) (w : WalkedBy s l) → Answers house_kinds l s d a d'
      by_list l w = checks_over s d a d' p l w.among (λ v. subst (λ (m : Inside). Chosen m l) (message_one s w.whole v) w.chosen)

      gives_image : (n : ℕ) → a ≡ accepted n → (c : Kinded) → HouseFile s c → d' ≡ house_image c ++ drop n d
      gives_image n z c f =
          let t = taken s d a d' p (code z) in
          t.buffer ∙ ap₂ (λ (x : Kinded) (k : ℕ). house_image x ++ drop k d) (pair (one_content s p.list c.0 t.content c.1 (taken_filed s d a d' p t) f)) (sym (place t.is) ∙ place z)

      cause : CodeFrom 4 13 a → Walked a
      cause h = (on_walk a h).0 why

      well : (l : Listing) → WalkedBy s l → WellFormed l
      well l w = asked_well l w.among

      its : WellFormed p.list
      its = asked_well p.list p.among

      all_told : Told s d a d'
      all_told = record {
        exactly = λ n. ((λ z. subst Why z why), λ g. (accepted_image s d a d' p g.0.0 g.0.1 g.1 (omega (arith, g.2, g.3))).0 ∙ ap accepted (sym g.2));
        gives = gives_image;
        long = ((λ z. subst Why z why), λ h. (of_long house_kinds spelling p.list its s d a d' h p.answers).answer);
        bytes = λ n. ((λ z. subst Why z why), λ g. (of_bytes house_kinds spelling p.list its s d a d' g.0 g.1 n g.2 p.answers).answer);
        markup = λ n. ((λ z. subst Why z why), λ g. (of_markup house_kinds spelling p.list its s d a d' g.0 g.1 g.2 n g.3 p.answers).answer);
        walked = λ b h. (
          (λ z. (on_walk b h).0 (subst Why z why)),
          (λ g. (of_violation house_kinds spelling g.0 (well g.0 g.1) s d a d' g.1.whole b g.2 (by_list g.0 g.1)).answer),
        );
        room = λ n. (
          (λ z. subst Why z why),
          (λ g. (of_room house_kinds spelling g.0.0 (asked_well g.0.0 g.1.among) s d a d' g.0.1 g.1.file (omega (arith, g.2, g.3)) (filed_answers s g.0.0 g.0.1 g.1 d a d' p)).answer ∙ ap no_room (sym g.2)),
        );
        value = λ e. let v = cause (omega arith, omega arith) in (v.0, v.1, (causes v.0 (well v.0 v.1) (message_in v.1.whole) a v.2).0 e);
        attributes = λ e. let v = cause (omega arith, omega arith) in (v.0, v.1, (causes v.0 (well v.0 v.1) (message_in v.1.whole) a v.2).1 e);
      }

-- the reader accepts what begins with an image
module _ (run : List ℕ) (n : ℕ) where
  begins : HouseAccepts run n → BeginsStored (Meeting IsValue) run n
  begins w =
      let o = house_begins run n w in
      record {
        image = w.head ++ body values w.list w.holds.content;
        content = (w.list, w.holds.content);
        held = record { among = w.among; meets = o.0; head = w.head; front = w.front; is = refl };
        rest = w.holds.rest;
        at = o.1;
        long = o.2;
      }

  begun : BeginsStored (Meeting IsValue) run n → HouseAccepts run n
  begun b =
      let c = b.content in
      let k = body values c.0 c.1 in
      record {
        list = c.0;
        among = b.held.among;
        head = b.held.head;
        front = b.held.front;
        after = k ++ b.rest;
        at = b.at ∙ ap (λ (x : List ℕ). x ++ b.rest) b.held.is ∙ append_assoc b.held.head k b.rest;
        size = length k;
        holds = record { content = c.1; meets = b.held.meets; rest = b.rest; at = refl; long = refl };
        long = b.long ∙ ap length b.held.is ∙ length-append b.held.head k;
      }

reads_image : (run : List ℕ) (a : Answer) → HouseReads run a → (n : ℕ) → (a ≡ accepted n) ↔ ((length run ≤ limit) × BeginsStored (Meeting IsValue) run n)
reads_image run a r n = (
  (λ z. let w = (house_reads_exactly run a r n).0 (code z, place z) in (w.0, begins run n w.1)),
  (λ g. house_reads_one run a (accepted n) r (whole_image g.0 n (begun run n g.1) refl)),
)

-- what images hold is what one of the two rules spells
by_either : (l : Listing) (c : Content Value) → Meets IsValue l c ↔ Meets SpelledByEither l c
by_either l c = (meets_on l IsValue SpelledByEither (λ k v. (both_rules k v).0) c, meets_on l SpelledByEither IsValue (λ k v. (both_rules k v).1) c)

-- the former list, within which the present one lies, or the present one
together_is : (m : Listing) → Among m stored → (c : Content Value) → Meets IsValue m c ↔ Together (m, c)
together_is m i c = (
  (λ h. inl ((by_either m c).0 h)),
  (λ h. elim h [
    | inl f ↦ (by_either m c).1 f
    | inr f ↦ meets_within (asked_of m.byte) m (stored_narrowed m i).within IsValue c ((by_either (asked_of m.byte) c).1 f)
  ]),
)

-- by other rules that a content meets alike
begins_on : (P Q : Kinded → Type 0) → ((c : Kinded) → Among c.0 stored → P c → Q c) → (run : List ℕ) (n : ℕ) → BeginsStored P run n → BeginsStored Q run n
begins_on P Q f run n b = record {
  image = b.image;
  content = b.content;
  held = record { among = b.held.among; meets = f b.content b.held.among b.held.meets; head = b.held.head; front = b.held.front; is = b.held.is };
  rest = b.rest;
  at = b.at;
  long = b.long;
}

-- every content that meets the rules, by the present one of date-times, has a message, the one that is written for it; and what has one meets them
module _ (l : Listing) (wf : WellFormed l) (c : Content Value) where
  message : Meets (Spelled present) l c → NoneOf (Withdrawn l) (items c) → Message (letter_of l c) (l, c)
  message s q =
      let m = said_is l c s in
      let h = letter_has l wf c s in
      let g = letter_good l wf c m q in
      let n = message_of (tree_of l c) in
      let f : First house_types l n (first_violation house_judge l n) = record { judge = house_judge; decides = deciding; is = refl } in
      record {
        utf8 = house_utf8 (record { tree = tree_of l c; good = g; is = letter_is l c });
        xml = record { tree = tree_of l c; good = g; is = letter_is l c };
        good = subst (First house_types l n) (walk.accepted house_types spelling l wf n c m h (first_violation house_judge l n) f) f;
        has = h;
      }

  rules : (s : List ℕ) → Message s (l, c) → Meets IsValue l c
  rules s w =
      let t = w.xml.tree in
      let o = walk.accept house_types spelling l wf (message_of t) (one_element t.root (root_at t) w.xml.good.one) w.good in
      subst (Meets IsValue l) (walk.unique house_types spelling l wf (message_of t) o.0 c o.2 w.has) o.1

  messages : (Meets (Spelled present) l c × NoneOf (Withdrawn l) (items c)) ↔ ((s : List ℕ) × Message s (l, c))
  messages = (
    (λ m. (letter_of l c, message m.0 m.1)),
    (λ w. let t = w.1.xml.tree in (has_said l (message_of t) c (rules w.0 w.1) w.1.has, named_message l t c w.1.xml.good w.1.has)),
  )

pub demand2 : Demand2
demand2 = record {
  told = all_told;
  judges = λ j d l m f. (
    (λ x. first_one house_types l m (first_violation j l m) f (record { judge = j; decides = d; is = refl }) x),
    (λ e. record { judge = j; decides = d; is = e }),
  );
  judge = (house_judge, deciding);
  reads = reads_image;
  values = both_rules;
  same = by_either;
  together = together_is;
  spelt = λ run a r n. (
    (λ z. let g = (reads_image run a r n).0 z in (g.0, begins_on (Meeting IsValue) Together (λ c i. (together_is c.0 i c.1).0) run n g.1)),
    (λ g. (reads_image run a r n).1 (g.0, begins_on Together (Meeting IsValue) (λ c i. (together_is c.0 i c.1).1) run n g.1)),
  );
  narrower = meets_present;
  messages = λ l i c. messages l (asked_well l i) c;
}

-- ---- demand 3

-- where a run begins with two that stand for contents, they are one, so are the contents, and what follows is the same; and none is empty
pub record Cuts (For : List ℕ → Kinded → Type 0) : Type 0 where
  pub long : (x : List ℕ) (c : Kinded) → For x c → 0 < length x
  pub cut : (x y : List ℕ) (c e : Kinded) → For x c → For y e → (u v : List ℕ) → x ++ u ≡ y ++ v → (x ≡ y) × (c ≡ e) × (u ≡ v)

module _ (For : List ℕ → Kinded → Type 0) (cuts : Cuts For) where
  nothing : {A : Type 0} (x : List ℕ) (c : Kinded) (rest : List ℕ) → For x c → [] ≡ x ++ rest → A
  nothing x c rest p z = absurd (omega (arith, cuts.long x c p, ap length z, length-append x rest))

  division : (run : List ℕ) (ps qs : List (List ℕ × Kinded)) → Laid For run ps → Laid For run qs → ps ≡ qs
  division run [] [] g h = refl
  division run [] (q ∷ qs) g h = nothing q.0 q.1 h.1.0 h.0 (sym g ∙ h.1.1)
  division run (p ∷ ps) [] g h = nothing p.0 p.1 g.1.0 g.0 (sym h ∙ g.1.1)
  division run (p ∷ ps) (q ∷ qs) g h =
      let k = cuts.cut p.0 q.0 p.1 q.1 g.0 h.0 g.1.0 h.1.0 (sym g.1.1 ∙ h.1.1) in
      ap₂ ◌∷◌ (pair (k.0, k.1)) (division g.1.0 ps qs g.1.2 (subst (λ (r : List ℕ). Laid For r qs) (sym k.2) h.1.2))

  parted : Divides For
  parted = record {
    one = λ x c e p q. (cuts.cut x x c e p q [] [] refl).1;
    apart = λ x y c e p q u z. (cuts.cut x y c e p q u [] (z ∙ sym (append-nil y))).2;
    divides = division;
  }

  -- where each is the image of its content
  tells : ((x : List ℕ) (c : Kinded) → For x c → x ≡ house_image c) → Tells For
  tells is = record {
    equal = λ x y c e p q. (
      (λ z. (cuts.cut x y c e p q [] [] (ap (λ (i : List ℕ). i ++ []) z)).1),
      (λ z. is x c p ∙ ap house_image z ∙ sym (is y e q)),
    );
    divided = parted;
  }

image_some : (x : List ℕ) (c : Kinded) → x ≡ house_image c → 0 < length x
image_some x c e = omega (arith, image_long values c.0 c.1, ap length e)

-- of either version
stored_cuts : Cuts (Stored (Meeting IsValue))
stored_cuts = record {
  long = λ x c p. omega (arith, front_long c.0 p.head p.front, ap length p.is, length-append p.head (body values c.0 c.1));
  cut = λ x y c e p q u v z.
      let o =
      told_kinds values stored lawful kept_well (apart stored bytes_tell) c.0 e.0 p.among q.among p.head q.head p.front q.front c.1 e.1 p.meets q.meets u v
      (ap (λ (w : List ℕ). w ++ u) (sym p.is) ∙ z ∙ ap (λ (w : List ℕ). w ++ v) q.is) in
      let k : c ≡ e = pair (o.0, o.2) in
      (p.is ∙ ap₂ (λ (h : List ℕ) (b : Kinded). h ++ body values b.0 b.1) o.1 k ∙ sym q.is, k, o.3);
}

-- version 2 is one of them
imaged_stored : (x : List ℕ) (c : Kinded) → Imaged x c → Stored (Meeting IsValue) x c
unfolding image
imaged_stored x c i = record { among = i.among; meets = i.meets; head = header c.0; front = current refl; is = i.is }

imaged_cuts : Cuts Imaged
imaged_cuts = record {
  long = λ x c p. image_some x c p.is;
  cut = λ x y c e p q. stored_cuts.cut x y c e (imaged_stored x c p) (imaged_stored y e q);
}

written : (x : List ℕ) (c : Kinded) → CheckWrote x c → x ≡ house_image c
written x c w = w.is ∙ written_image w.file w.lent w.answer w.left w.checks w.good c.0 c.1 w.content

written_cuts : Cuts CheckWrote
written_cuts = record {
  long = λ x c p. image_some x c (written x c p);
  cut = λ x y c e p q u v z.
      let o =
      images_tell p.file p.lent p.answer p.left p.checks p.good q.file q.lent q.answer q.left q.checks q.good c.0 c.1 p.content e.0 e.1 q.content u v
      (ap (λ (w : List ℕ). w ++ u) (sym p.is) ∙ z ∙ ap (λ (w : List ℕ). w ++ v) q.is) in
      let k : c ≡ e = pair (o.0, o.1) in
      (written x c p ∙ ap house_image k ∙ sym (written y e q), k, o.2);
}

pub demand3 : Demand3
demand3 = record {
  files = tells CheckWrote written_cuts written;
  contents = tells Imaged imaged_cuts (λ x c i. i.is);
  kinds = λ x y l m c p q z. ap (λ (k : Kinded). k.0) (imaged_cuts.cut x y (l, c) (m, c) p q [] [] (ap (λ (i : List ℕ). i ++ []) z)).1;
  versions = parted (Stored (Meeting IsValue)) stored_cuts;
}
