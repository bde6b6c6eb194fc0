-- What holds of `check`'s answers with document 01's types and the list that a file chooses. Assumes nothing.
use Rattle.std.specs.Prelude.{Ok}
use mathlib.Core.Path.{◌≡◌, refl, sym, ◌∙◌, ap, ap₂, subst}
use mathlib.Core.Bool.{Bool, true, false, ◌||◌, not, false≢true}
use mathlib.Core.Logic.{◌≢◌, ◌↔◌, inl, inr}
use mathlib.Core.List.{List, [], ◌++◌, append-nil}
use Prim.Native.Nat.{ℕ, zero, suc, ◌≤◌}
use native.Mathlib.Omega.{arith}
use native.Mathlib.Decide.{dec_lt}
use lib.Dec.{leb}
use lib.ListN.{length, take, drop, length-append, take-append-drop}
use borrow.Author.Tests.{leb-true, not-false}
use Rattle.answer.specs.declared.Answer.{Answer}
use Rattle.answer.specs.Table.{accepted, limit}
use Rattle.list.specs.Words.{first_from}
use Rattle.list.specs.Listing.{ref, iban, ccy, bool, num, amt, date, dtm, txt, enum, Kind, group, choice, leaf, Row, Listing, row_at, size}
use Rattle.list.specs.Content.{Content}
use Rattle.list.specs.Within.{Among, Kept}
use Rattle.list_house.specs.House.{house, report}
use Rattle.list_house.specs.Lists.{asked, stored}
use Rattle.list.proofs.rows.Words.{first_from_none}
use Rattle.list.proofs.rows.Next.{row_past}
use Rattle.list_house.proofs.Lists.{each_asked, asked_kept, asked_well, kept_well, kinds_tell, bytes_tell}
use Rattle.value.specs.Value.{Value}
use Rattle.value.proofs.types.Values.{value_laws}
use Rattle.value.specs.decided.Spell.{spell}
use Rattle.value.proofs.types.Spell.{spell_sound, spell_some, spell_complete}
use Rattle.file_walk.specs.Types.{Judge, Decides, Spelling}
use Rattle.file_walk.specs.First.{First}
use Rattle.file_walk.specs.mirror.Machine.{judge_of, speller_of, Computes}
use Rattle.file_walk.proofs.violation.Judges.{computes_decides}
use Rattle.image.specs.Image.{header, body, image}
use Rattle.image.specs.Place.{Apart, Front}
use Rattle.image.proofs.answers.Heads.{apart, header_length, front_five, front_size}
use Rattle.image.proofs.types.Lawful.{lawful}
use Rattle.image_reading.specs.Reads.{HouseAccepts, HouseReads}
use Rattle.image_reading.proofs.House.{house_accepts_one, house_list_one}
use Rattle.file.specs.Instance.{house_types, house_kinds, values_of}
use Rattle.file.specs.File.{Whole, message_in, File, image_of}
use Rattle.file.specs.Checks.{Checks, Filed, Finds}
use Rattle.file.specs.Hints.{HintsAlone}
use Rattle.file.proofs.answers.One.{content_one, file_first, answers_one}
use Rattle.file.proofs.Chosen.{checks_over, filed_chosen, filed_answers, filed_list}
use Rattle.file.proofs.answers.Accepted as general
use Rattle.file.proofs.Images as images
use Rattle.file.proofs.Hints as hints
use Rattle.file.proofs.Short.{NumNames, image_short}

-- what the walk asks of document 01's types
pub spelling : Spelling house_types
spelling = record { is = value_laws.is; one = value_laws.one; none = value_laws.none }

-- the value that is spelt can be computed, so whether one is can be judged
pub computing : Computes house_types spell
computing = record { sound = spell_sound; some = spell_some; complete = spell_complete }

abbrev pub house_judge : Judge
house_judge = judge_of (speller_of house_types spell)

pub deciding : Decides house_types house_judge
deciding = computes_decides house_types spell computing

-- ---- a NUM row's name has two bytes or more: one computed test over the table

abbrev is_num : Kind → Bool
is_num group = false
is_num choice = false
is_num (leaf ref) = false
is_num (leaf iban) = false
is_num (leaf ccy) = false
is_num (leaf bool) = false
is_num (leaf num) = true
is_num (leaf amt) = false
is_num (leaf date) = false
is_num (leaf dtm) = false
is_num (leaf (txt k)) = false
is_num (leaf (enum ws)) = false

abbrev name_ok : Row → Bool
name_ok r = not (is_num r.kind) || leb 2 (length r.name)

module _ (l : Listing) where
  abbrev Tested : Type 0
  Tested = first_from (λ r. not (name_ok (row_at l r))) 1 (size l) ≡ 0

house_tested : Tested house
unfolding first_from row_at house
house_tested = refl

report_tested : Tested report
unfolding first_from row_at report
report_tested = refl

name_long : (r : Row) → name_ok r ≡ true → r.kind ≡ leaf num → 2 ≤ length r.name
name_long r t e = leb-true 2 (length r.name) (sym (ap (λ (k : Kind). not (is_num k) || leb 2 (length r.name)) e) ∙ t)

num_names : (l : Listing) → Tested l → NumNames l
unfolding row_at
num_names l t zero e = absurd (false≢true (ap is_num e))
num_names l t (suc r) e = elim (dec_lt (size l) (suc r)) [
  | yes h ↦ absurd (false≢true (sym (ap (λ (x : Row). is_num x.kind) (row_past l (suc r) h)) ∙ ap is_num e))
  | no h ↦ name_long (row_at l (suc r)) (not-false (name_ok (row_at l (suc r))) (first_from_none (λ q. not (name_ok (row_at l q))) 1 (size l) (omega arith) t (suc r) (omega arith) (omega arith))) e
]

names_tested : (l : Listing) → Among l asked → Tested l
names_tested = each_asked Tested house_tested report_tested

-- an image is never longer than its file
pub image_no_longer : (s : List ℕ) (l : Listing) (c : Content Value) → Filed s l c → length (image_of house_kinds l c) ≤ length s
image_no_longer s l c f = image_short house_kinds spelling l (asked_well l f.among) (num_names l (names_tested l f.among)) value_laws.short s c f.file

-- nor is one in another version, as it may have been stored
pub stored_no_longer : (s : List ℕ) (l : Listing) (c : Content Value) → Filed s l c → (h : List ℕ) → Front l h → length (h ++ body (values_of house_kinds) l c) ≤ length s
unfolding image
stored_no_longer s l c f h w =
    let b = body (values_of house_kinds) l c in
    let n : length (header l ++ b) ≤ length s = image_no_longer s l c f in
    let m : length h ≤ 6 = elim (front_five l h w []) [ inl e ↦ omega (arith, (front_size l h w []).1 e) | inr e ↦ omega (arith, (front_size l h w []).2 e) ] in
    omega (arith, n, m, length-append h b, length-append (header l) b, header_length l)

-- a file has one list and one content
pub one_content : (s : List ℕ) (l m : Listing) (c e : Content Value) → Filed s l c → Filed s m e → (l ≡ m) × (c ≡ e)
one_content s l m c e f g =
    let z : l ≡ m = filed_list s m e g l (filed_chosen s l c f) in
    (z, content_one house_kinds spelling m (asked_well m g.among) s c e (subst (λ (x : Listing). File house_kinds x s c) z f.file) g.file)

-- schema hints belong to no content: good files that differ in them alone have one list, one content, and one image
pub hints_free : (s s' : List ℕ) (l m : Listing) (c e : Content Value) (f : Filed s l c) (g : Filed s' m e) → HintsAlone f.file.whole g.file.whole
    → (l ≡ m) × (c ≡ e) × (image_of house_kinds l c ≡ image_of house_kinds m e)
hints_free s s' l m c e f g h =
    let k = hints.hints_kept house_kinds l s s' c f.file g.file.whole h (hints.has_bound house_types m (message_in g.file.whole) e g.file.has) in
    let o = one_content s' l m c e (record { among = f.among; file = k }) g in
    (o.0, o.1, ap₂ (λ (x : Listing) (y : Content Value). image_of house_kinds x y) o.0 o.1)

-- in the message of a good file nothing is found
pub good_fine : (s : List ℕ) (l : Listing) (c : Content Value) → Filed s l c → (w : Whole s) → First house_types l (message_in w) (Ok tt)
good_fine s l c f = file_first house_kinds spelling l (asked_well l f.among) s house_judge deciding c f.file

-- only one answer fits, and one buffer
pub checks_one : (s d : List ℕ) (a b : Answer) (x z : List ℕ) → Checks s d a x → Checks s d b z → (a ≡ b) × (x ≡ z)
checks_one s d a b x z p q =
    answers_one house_kinds spelling q.list (asked_well q.list q.among) s d a b x z (checks_over s d a x p q.list q.among q.chosen) q.answers

-- only one answer fits a file alone
pub finds_one : (s : List ℕ) (a b : Answer) → Finds s a → Finds s b → a ≡ b
finds_one s a b p q =
    let x = p.roomy s (omega arith) in
    let z = q.roomy s (omega arith) in
    (checks_one s s a b x.0 z.0 x.1 z.1).0

-- what images of the one list tell from those of the other
lists_apart : Apart stored
lists_apart = apart stored bytes_tell

module _ (s d : List ℕ) (a : Answer) (d' : List ℕ) (p : Checks s d a d') where
  -- every refusal leaves every byte
  pub refusal_leaves : a.code ≢ 0 → d' ≡ d
  refusal_leaves = general.refusal_leaves house_kinds p.list s d a d' p.answers

  -- what an accepted file is
  pub taken : a.code ≡ 0 → general.Taken house_kinds p.list s d a d'
  taken = general.taken house_kinds p.list s d a d' p.answers

  pub taken_filed : (t : general.Taken house_kinds p.list s d a d') → Filed s p.list t.content
  taken_filed t = record { among = p.among; file = t.file }

  -- and then the answer is the image's length, and the buffer the image of the file's content and then what stood there
  pub accepted_image : (l : Listing) (c : Content Value) → Filed s l c → length (image_of house_kinds l c) ≤ length d
      → (a ≡ accepted (length (image_of house_kinds l c))) × (d' ≡ image_of house_kinds l c ++ drop (length (image_of house_kinds l c)) d)
  accepted_image l c f h = general.good_accepted house_kinds l s d a d' spelling (asked_well l f.among) c f.file h (filed_answers s l c f d a d' p)

  -- demand 2: accepted exactly when the size, UTF-8, house XML, the list, the types and the rules hold and the image fits
  pub accepted_exactly : (a.code ≡ 0) ↔ ((l : Listing) × (c : Content Value) × Filed s l c × (length (image_of house_kinds l c) ≤ length d))
  accepted_exactly = (
    (λ z. let t = taken z in (p.list, t.content, taken_filed t, t.fits)),
    (λ g. ap (λ (x : Answer). x.code) (accepted_image g.0 g.1 g.2 g.3).0),
  )

  -- the first bytes of the buffer are then the image, as many as the answer's place says
  pub written_image : a.code ≡ 0 → (l : Listing) (c : Content Value) → Filed s l c → take a.place d' ≡ image_of house_kinds l c
  written_image z l c f =
      let t = taken z in
      let o = one_content s p.list l t.content c (taken_filed t) f in
      general.written house_kinds p.list s d a d' t ∙ ap₂ (λ (x : Listing) (y : Content Value). image_of house_kinds x y) o.0 o.1

  -- "And a result buffer as long as the accepted file never gives 14": whatever its kind
  pub room_enough : length s ≤ length d → a.code ≢ 14
  room_enough = general.room_enough house_kinds p.list s d a d' (λ u c f. image_no_longer u p.list c (record { among = p.among; file = f })) p.answers

  -- what files are asked lies within what images keep to: what check writes by the one, the reader takes by the other
  kept : Kept p.list stored
  kept = asked_kept p.list p.among

  -- what check wrote is read back by the reader, with check's answer
  pub read_back : a.code ≡ 0 → HouseReads (take a.place d') a
  read_back z =
      let t = taken z in
      let e = append-nil (take a.place d') in
      let n : length (take a.place d') ≡ length (image_of house_kinds p.list t.content) = ap length (general.written house_kinds p.list s d a d' t) in
      subst (λ (r : List ℕ). HouseReads r a) e
      (images.read_alike house_kinds p.list s d a d' t stored kept [] (omega (arith, ap length e, n, image_no_longer s p.list t.content (taken_filed t), t.file.whole.size)))

  -- and so is the buffer as it stands, where it is within the limit
  pub read_buffer : a.code ≡ 0 → length d' ≤ limit → HouseReads d' a
  read_buffer z h =
      let e = take-append-drop a.place d' in
      subst (λ (r : List ℕ). HouseReads r a) e (images.read_alike house_kinds p.list s d a d' (taken z) stored kept (drop a.place d') (omega (arith, ap length e)))

  -- whatever image begins there is of this length, of the file's kind and of its content
  pub read_content : a.code ≡ 0 → (u : List ℕ) (n : ℕ) (w : HouseAccepts (take a.place d' ++ u) n) (l : Listing) (c : Content Value) → Filed s l c
      → (n ≡ a.place) × (w.list.byte ≡ l.byte) × (w.holds.content ≡ c)
  read_content z u n w l c f =
      let t = taken z in
      let run = take a.place d' ++ u in
      let b = images.reads_back house_kinds p.list s d a d' t stored kept u in
      let o = house_accepts_one run n a.place w b in
      let g = one_content s p.list l t.content c (taken_filed t) f in (
        o.0,
        ap (λ (x : Listing). x.byte) (house_list_one run n a.place w b) ∙ images.same_kind house_kinds p.list s d a d' t stored kept u ∙ ap (λ (x : Listing). x.byte) g.0,
        o.1 ∙ images.same_content house_kinds p.list s d a d' t stored kept u ∙ g.1,
      )

-- demand 3, for any two accepted files
module _ (s d : List ℕ) (a : Answer) (d' : List ℕ) (p : Checks s d a d') (good : a.code ≡ 0) (s₂ d₂ : List ℕ) (a₂ : Answer) (e' : List ℕ) (p₂ : Checks s₂ d₂ a₂ e') (good₂ : a₂.code ≡ 0) where
  -- what they begin with tells their lists and their contents
  pub images_tell : (l : Listing) (c : Content Value) → Filed s l c → (l₂ : Listing) (c₂ : Content Value) → Filed s₂ l₂ c₂ → (u v : List ℕ)
      → take a.place d' ++ u ≡ take a₂.place e' ++ v → (l ≡ l₂) × (c ≡ c₂) × (u ≡ v)
  images_tell l c f l₂ c₂ f₂ u v e =
      let t = taken s d a d' p good in
      let t₂ = taken s₂ d₂ a₂ e' p₂ good₂ in
      let x = one_content s l p.list c t.content f (taken_filed s d a d' p t) in
      let y = one_content s₂ l₂ p₂.list c₂ t₂.content f₂ (taken_filed s₂ d₂ a₂ e' p₂ t₂) in
      let o =
      images.written_tell house_kinds stored lawful kept_well lists_apart p.list (kept s d a d' p) s d a d' t
      p₂.list (kept s₂ d₂ a₂ e' p₂) s₂ d₂ a₂ e' t₂ u v e in
      (x.0 ∙ kinds_tell p.list p₂.list p.among p₂.among o.0 ∙ sym y.0, x.1 ∙ o.1 ∙ sym y.1, o.2)

  -- they are equal exactly when the lists and the contents are
  pub images_equal : (l : Listing) (c : Content Value) → Filed s l c → (l₂ : Listing) (c₂ : Content Value) → Filed s₂ l₂ c₂ → (take a.place d' ≡ take a₂.place e') ↔ ((l ≡ l₂) × (c ≡ c₂))
  images_equal l c f l₂ c₂ f₂ = (
    (λ e. let o = images_tell l c f l₂ c₂ f₂ [] [] (ap (λ (z : List ℕ). z ++ []) e) in (o.0, o.1)),
    (λ e.
        written_image s d a d' p good l c f
        ∙ ap₂ (λ (z : Listing) (v : Content Value). image_of house_kinds z v) e.0 e.1
        ∙ sym (written_image s₂ d₂ a₂ e' p₂ good₂ l₂ c₂ f₂)),
  )

  -- and neither is a shorter beginning of the other
  pub images_apart : (u : List ℕ) → take a.place d' ++ u ≡ take a₂.place e' → u ≡ []
  images_apart u e =
      let t = taken s d a d' p good in
      let t₂ = taken s₂ d₂ a₂ e' p₂ good₂ in
      (images_tell p.list t.content (taken_filed s d a d' p t) p₂.list t₂.content (taken_filed s₂ d₂ a₂ e' p₂ t₂) u [] (e ∙ sym (append-nil (take a₂.place e')))).2
