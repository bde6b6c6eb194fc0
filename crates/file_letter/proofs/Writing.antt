-- What writing answers: one answer and one buffer, for every run and every buffer; every refusal leaves every byte; and the written file gives the image back. Assumes nothing.
use mathlib.Core.Path.{◌≡◌, refl, sym, ◌∙◌, ap, ap₂, subst}
use mathlib.Core.Logic.{◌≢◌, ◌⊎◌, ◌↔◌, ⊎_elim, inl, inr}
use mathlib.Core.List.{List, ◌++◌}
use Prim.Native.Nat.{ℕ, ◌≤◌}
use native.Mathlib.Omega.{arith}
use native.Mathlib.Decide.{ℕ_discrete, dec_lt}
use lib.ListN.{length, take, drop}
use lib.Seq.{take-append_seam}
use Rattle.answer.specs.declared.Answer.{Answer}
use Rattle.answer.specs.Table.{limit, accepted, no_room, too_large, too_fine, retired}
use Rattle.list.specs.Listing.{Listing}
use Rattle.list.specs.Content.{Content, items}
use Rattle.list_house.specs.Lists.{asked_of}
use Rattle.value.specs.Value.{Value}
use Rattle.xml.specs.Message.{message_of}
use Rattle.image.specs.Kinds.{values}
use Rattle.image.specs.Image.{Item}
use Rattle.image.specs.Place.{whole_image as read}
use Rattle.image.proofs.answers.One.{accepting}
use Rattle.image_reading.specs.Reads.{stored, HouseAccepts, HouseReads}
use Rattle.image_reading.proofs.House.{house_accepts_one, house_list_one, house_head_one, house_reads_one, house_reads_some}
use Rattle.file.specs.Checks.{Checks}
use Rattle.file_letter.specs.Letter.{letter_of}
use Rattle.file_letter.specs.Stale.{NoneOf, FirstAt, Withdrawn, Finer}
use Rattle.file_letter.specs.Writes.{asked_in, letter_in, items_in, image_in, Delivers, large, short, delivered, Writes, unread, withdrawn, finer, begun}
use Rattle.file_letter.proofs.Meeting.{has_fine}
use Rattle.file_letter.proofs.Stale.{withdrawn_or, finer_or, first_or_none, first_not, first_one}
use Rattle.file_letter.proofs.Present.{named_message, retired_row}
use Rattle.file_letter.proofs.Files.{Sayable, image_sayable, same_image}

code_of : (a b : Answer) → a ≡ b → a.code ≡ b.code
code_of a b e = ap (λ (x : Answer). x.code) e

-- ---- one file into one buffer

module _ (s d : List ℕ) where
  delivers_one : (a b : Answer) (x z : List ℕ) → Delivers s d a x → Delivers s d b z → (a ≡ b) × (x ≡ z)
  delivers_one a b x z (large h e f) (large i g k) = (e ∙ sym g, f ∙ sym k)
  delivers_one a b x z (large h e f) (short i j g k) = absurd (omega arith)
  delivers_one a b x z (large h e f) (delivered i j g k) = absurd (omega arith)
  delivers_one a b x z (short h j e f) (large i g k) = absurd (omega arith)
  delivers_one a b x z (short h j e f) (short i m g k) = (e ∙ sym g, f ∙ sym k)
  delivers_one a b x z (short h j e f) (delivered i m g k) = absurd (omega arith)
  delivers_one a b x z (delivered h j e f) (large i g k) = absurd (omega arith)
  delivers_one a b x z (delivered h j e f) (short i m g k) = absurd (omega arith)
  delivers_one a b x z (delivered h j e f) (delivered i m g k) = (e ∙ sym g, f ∙ sym k)

  delivers_some : (a : Answer) × (d' : List ℕ) × Delivers s d a d'
  delivers_some = elim (dec_lt limit (length s)) [
    | yes h ↦ (too_large (length s), d, large h refl refl)
    | no h ↦ elim (dec_lt (length d) (length s)) [
      | yes g ↦ (no_room (length s), d, short (omega arith) g refl refl)
      | no g ↦ (accepted (length s), s ++ drop (length s) d, delivered (omega arith) (omega arith) refl refl)
    ]
  ]

  delivers_codes : (a : Answer) (d' : List ℕ) → Delivers s d a d' → 20 ≤ a.code → ⊥
  delivers_codes a d' (large h e f) z = omega (arith, code_of a (too_large (length s)) e)
  delivers_codes a d' (short h j e f) z = omega (arith, code_of a (no_room (length s)) e)
  delivers_codes a d' (delivered h j e f) z = omega (arith, code_of a (accepted (length s)) e)

  delivers_leaves : (a : Answer) (d' : List ℕ) → Delivers s d a d' → a.code ≢ 0 → d' ≡ d
  delivers_leaves a d' (large h e f) n = f
  delivers_leaves a d' (short h j e f) n = f
  delivers_leaves a d' (delivered h j e f) n = absurd (n (code_of a (accepted (length s)) e))

  -- what stands in the buffer where the code is 0
  pub delivers_file : (a : Answer) (d' : List ℕ) → Delivers s d a d' → a.code ≡ 0 → (length s ≤ limit) × (a.place ≡ length s) × (take a.place d' ≡ s)
  delivers_file a d' (large h e f) z = absurd (omega (arith, code_of a (too_large (length s)) e))
  delivers_file a d' (short h j e f) z = absurd (omega (arith, code_of a (no_room (length s)) e))
  delivers_file a d' (delivered h j e f) z =
      let p : a.place ≡ length s = ap (λ (x : Answer). x.place) e in
      (h, p, ap₂ take p f ∙ take-append_seam s (drop (length s) d))

  -- which is the answer to every file within the limit that there is room for
  pub delivers_whole : (a : Answer) (d' : List ℕ) → Delivers s d a d' → length s ≤ limit → length s ≤ length d → a ≡ accepted (length s)
  delivers_whole a d' (large h e f) i k = absurd (omega arith)
  delivers_whole a d' (short h j e f) i k = absurd (omega arith)
  delivers_whole a d' (delivered h j e f) i k = e

  -- and the only one of code 0
  pub delivers_fitting : (a : Answer) (d' : List ℕ) → Delivers s d a d' → a.code ≡ 0 → length s ≤ length d
  delivers_fitting a d' (large h e f) z = absurd (omega (arith, code_of a (too_large (length s)) e))
  delivers_fitting a d' (short h j e f) z = absurd (omega (arith, code_of a (no_room (length s)) e))
  delivers_fitting a d' (delivered h j e f) z = j

  -- no other code than these three
  pub delivers_three : (a : Answer) (d' : List ℕ) → Delivers s d a d' → (a.code ≡ 0) ⊎ ((a.code ≡ 19) ⊎ (a.code ≡ 14))
  delivers_three a d' (large h e f) = inr (inl (code_of a (too_large (length s)) e))
  delivers_three a d' (short h j e f) = inr (inr (code_of a (no_room (length s)) e))
  delivers_three a d' (delivered h j e f) = inl (code_of a (accepted (length s)) e)

-- ---- the run

module _ (run : List ℕ) where
  -- whichever way the run is said to begin, it has one list, one header and one content
  alike : (P : Listing → List ℕ → Content Value → Type 0) (m n : ℕ) (v : HouseAccepts run m) (w : HouseAccepts run n)
      → P v.list v.head v.holds.content → P w.list w.head w.holds.content
  alike P m n v w p =
      let a = subst (λ (l : Listing). P l v.head v.holds.content) (house_list_one run m n v w) p in
      let b = subst (λ (h : List ℕ). P w.list h v.holds.content) (house_head_one run m n v w) a in
      subst (λ (c : Content Value). P w.list w.head c) (house_accepts_one run m n v w).1 b

  -- so one file
  same_letter : (m n : ℕ) (v : HouseAccepts run m) (w : HouseAccepts run n) → letter_in v ≡ letter_in w
  same_letter m n v w = alike (λ l h c. letter_in v ≡ letter_of (asked_of l.byte) c) m n v w refl

  not_unread : length run ≤ limit → (n : ℕ) → HouseAccepts run n → (a : Answer) → HouseReads run a → a.code ≢ 0 → ⊥
  not_unread h n w a r k = k (code_of a (accepted n) (house_reads_one run a (accepted n) r (read h n w refl)))

  -- and what no file may say, of which P tells the sort by the list of files, stands first in one row and one place, or nowhere
  module _ (P : Listing → Item values → Type 0) where
    abbrev Stands : {n : ℕ} → HouseAccepts run n → ℕ → ℕ → Type 0
    Stands w r p = FirstAt w.list (P (asked_in w)) (length w.head) (items_in w) r p

    abbrev Without : {n : ℕ} → HouseAccepts run n → Type 0
    Without w = NoneOf (P (asked_in w)) (items_in w)

    same_stands : (m n : ℕ) (v : HouseAccepts run m) (w : HouseAccepts run n) (r p : ℕ) → Stands v r p → Stands w r p
    same_stands m n v w r p f = alike (λ l h c. FirstAt l (P (asked_of l.byte)) (length h) (items c) r p) m n v w f

    same_without : (m n : ℕ) (v : HouseAccepts run m) (w : HouseAccepts run n) → Without v → Without w
    same_without m n v w q = alike (λ l h c. NoneOf (P (asked_of l.byte)) (items c)) m n v w q

    not_without : (m n : ℕ) (v : HouseAccepts run m) (w : HouseAccepts run n) (r p : ℕ) → Stands v r p → Without w → ⊥
    not_without m n v w r p f q = first_not w.list (P (asked_in w)) (length w.head) (items_in w) r p (same_stands m n v w r p f) q

    stands_one : (m n : ℕ) (v : HouseAccepts run m) (w : HouseAccepts run n) (r p s q : ℕ) → Stands v r p → Stands w s q → (r ≡ s) × (p ≡ q)
    stands_one m n v w r p s q f g = first_one w.list (P (asked_in w)) (length w.head) (items_in w) r p s q (same_stands m n v w r p f) g

  -- a date-time is finer whatever the list
  abbrev FinerBy : Listing → Item values → Type 0
  FinerBy l = Finer

  module _ (d : List ℕ) where
    -- only one answer fits, and one buffer
    pub writes_one : (a b : Answer) (x z : List ℕ) → Writes run d a x → Writes run d b z → (a ≡ b) × (x ≡ z)
    writes_one a b x z (unread r k e) (unread q m f) = (house_reads_one run a b r q, e ∙ sym f)
    writes_one a b x z (unread r k e) (withdrawn h n w u p f g j) = absurd (not_unread h n w a r k)
    writes_one a b x z (unread r k e) (finer h n w c u p f g j) = absurd (not_unread h n w a r k)
    writes_one a b x z (unread r k e) (begun h n w c t p) = absurd (not_unread h n w a r k)
    writes_one a b x z (withdrawn h n w u p f g j) (unread r k e) = absurd (not_unread h n w b r k)
    writes_one a b x z (withdrawn h n w u p f g j) (withdrawn i m v s q k e y) =
        let o = stands_one Withdrawn n m w v u p s q f k in (g ∙ ap₂ retired o.0 o.1 ∙ sym e, j ∙ sym y)
    writes_one a b x z (withdrawn h n w u p f g j) (finer i m v c s q k e y) = absurd (not_without Withdrawn n m w v u p f c)
    writes_one a b x z (withdrawn h n w u p f g j) (begun i m v c t q) = absurd (not_without Withdrawn n m w v u p f c)
    writes_one a b x z (finer h n w c u p f g j) (unread r k e) = absurd (not_unread h n w b r k)
    writes_one a b x z (finer h n w c u p f g j) (withdrawn i m v s q k e y) = absurd (not_without Withdrawn m n v w s q k c)
    writes_one a b x z (finer h n w c u p f g j) (finer i m v o s q k e y) =
        let o = stands_one FinerBy n m w v u p s q f k in (g ∙ ap₂ too_fine o.0 o.1 ∙ sym e, j ∙ sym y)
    writes_one a b x z (finer h n w c u p f g j) (begun i m v o t q) = absurd (not_without FinerBy n m w v u p f t)
    writes_one a b x z (begun h n w c t p) (unread r k e) = absurd (not_unread h n w b r k)
    writes_one a b x z (begun h n w c t p) (withdrawn i m v s q k e y) = absurd (not_without Withdrawn m n v w s q k c)
    writes_one a b x z (begun h n w c t p) (finer i m v o s q k e y) = absurd (not_without FinerBy m n v w s q k t)
    writes_one a b x z (begun h n w c t p) (begun i m v o s q) =
        delivers_one (letter_in w) d a b x z p (subst (λ (s : List ℕ). Delivers s d b z) (same_letter m n v w) q)

    -- of a run that begins with an image some does
    written_some : length run ≤ limit → (n : ℕ) (w : HouseAccepts run n) → (a : Answer) × (d' : List ℕ) × Writes run d a d'
    written_some h n w = elim (first_or_none w.list (Withdrawn (asked_in w)) (withdrawn_or (asked_in w)) (items_in w) (length w.head)) [
      | inl s ↦ (retired s.row s.place, d, withdrawn h n w s.row s.place s.first refl refl)
      | inr c ↦ elim (first_or_none w.list Finer finer_or (items_in w) (length w.head)) [
        | inl s ↦ (too_fine s.row s.place, d, finer h n w c s.row s.place s.first refl refl)
        | inr q ↦ let p = delivers_some (letter_in w) d in (p.0, p.1, begun h n w c q p.2)
      ]
    ]

    -- and so of every run
    pub writes_some : (a : Answer) × (d' : List ℕ) × Writes run d a d'
    writes_some =
        let r = house_reads_some run in
        elim (ℕ_discrete r.0.code 0) [
          | no k ↦ (r.0, d, unread r.1 k refl)
          | yes z ↦ let w = accepting values stored run r.0 r.1 z in written_some w.0 r.0.place w.1
        ]

    -- of an image whose content a file may say it is one of the three answers for its file
    pub writes_delivers : (a : Answer) (d' : List ℕ) → Writes run d a d' → length run ≤ limit → (n : ℕ) (w : HouseAccepts run n) → NoneOf (Withdrawn (asked_in w)) (items_in w) → NoneOf Finer (items_in w) → Delivers (letter_in w) d a d'
    writes_delivers a d' q h n w c t =
        let p = delivers_some (letter_in w) d in
        let o = writes_one p.0 a p.1 d' (begun h n w c t p.2) q in
        subst (λ (x : List ℕ). Delivers (letter_in w) d a x) o.1 (subst (λ (x : Answer). Delivers (letter_in w) d x p.1) o.0 p.2)

    -- every refusal leaves every byte
    pub write_leaves : (a : Answer) (d' : List ℕ) → Writes run d a d' → a.code ≢ 0 → d' ≡ d
    write_leaves a d' (unread r k e) n = e
    write_leaves a d' (withdrawn h m w r p f g j) n = j
    write_leaves a d' (finer h m w c r p f g j) n = j
    write_leaves a d' (begun h m w c q p) n = delivers_leaves (letter_in w) d a d' p n

    -- code 0: the buffer begins with the file of the image that the run begins with, as many bytes as the answer's place says
    pub written_file : (a : Answer) (d' : List ℕ) → Writes run d a d' → a.code ≡ 0 → (n : ℕ) (w : HouseAccepts run n)
        → (NoneOf (Withdrawn (asked_in w)) (items_in w) × NoneOf Finer (items_in w)) × (length (letter_in w) ≤ limit) × (a.place ≡ length (letter_in w)) × (take a.place d' ≡ letter_in w)
    written_file a d' (unread r k e) z n w = absurd (k z)
    written_file a d' (withdrawn h m v r p f g j) z n w = absurd (omega (arith, code_of a (retired r p) g))
    written_file a d' (finer h m v c r p f g j) z n w = absurd (omega (arith, code_of a (too_fine r p) g))
    written_file a d' (begun h m v c q p) z n w =
        let o = delivers_file (letter_in w) d a d' (subst (λ (s : List ℕ). Delivers s d a d') (same_letter m n v w) p) z in
        ((same_without Withdrawn m n v w c, same_without FinerBy m n v w q), o.0, o.1, o.2)

    -- 26 or 20 exactly where no text, whatever its length, is a message of the content of the image that the run begins with
    pub unsaid_exactly : (a : Answer) (d' : List ℕ) → Writes run d a d' → length run ≤ limit → (n : ℕ) (w : HouseAccepts run n)
        → ((a.code ≡ 26) ⊎ (a.code ≡ 20)) ↔ (Sayable (asked_in w) w.holds.content → ⊥)
    unsaid_exactly a d' (unread r k e) h n w = absurd (not_unread h n w a r k)
    unsaid_exactly a d' (withdrawn i m v r p f g j) h n w = (
      (λ z s. not_without Withdrawn m n v w r p f (named_message (asked_in w) s.tree w.holds.content s.good s.has)),
      (λ z. inl (code_of a (retired r p) g)),
    )
    unsaid_exactly a d' (finer i m v c r p f g j) h n w = (
      (λ z s. not_without FinerBy m n v w r p f (has_fine (asked_in w) (message_of s.tree) w.holds.content s.has)),
      (λ z. inr (code_of a (too_fine r p) g)),
    )
    unsaid_exactly a d' (begun i m v c q p) h n w = (
      (λ z. absurd (delivers_codes (letter_in v) d a d' p (⊎_elim (λ e. omega arith) (λ e. omega arith) z))),
      (λ z. absurd (z (image_sayable run n w (same_without Withdrawn m n v w c) (same_without FinerBy m n v w q)))),
    )

    -- 26 exactly where a row of it is gone: row 40, of the first such item
    pub gone_exactly : (a : Answer) (d' : List ℕ) → Writes run d a d' → length run ≤ limit → (n : ℕ) (w : HouseAccepts run n)
        → (a.code ≡ 26) ↔ (NoneOf (Withdrawn (asked_in w)) (items_in w) → ⊥)
    gone_exactly a d' (unread r k e) h n w = absurd (not_unread h n w a r k)
    gone_exactly a d' (withdrawn i m v r p f g j) h n w = ((λ z q. not_without Withdrawn m n v w r p f q), (λ z. code_of a (retired r p) g))
    gone_exactly a d' (finer i m v c r p f g j) h n w = ((λ z. absurd (omega (arith, code_of a (too_fine r p) g))), (λ z. absurd (z (same_without Withdrawn m n v w c))))
    gone_exactly a d' (begun i m v c q p) h n w = ((λ z. absurd (delivers_codes (letter_in v) d a d' p (omega arith))), (λ z. absurd (z (same_without Withdrawn m n v w c))))

    pub gone_row : (a : Answer) (d' : List ℕ) → Writes run d a d' → length run ≤ limit → (n : ℕ) → HouseAccepts run n → a.code ≡ 26 → a.row ≡ 40
    gone_row a d' (unread r k e) h n w z = absurd (not_unread h n w a r k)
    gone_row a d' (withdrawn i m v r p f g j) h n w z =
        ap (λ (x : Answer). x.row) g ∙ retired_row v.list v.among v.holds.content v.holds.meets (length v.head) r p f
    gone_row a d' (finer i m v c r p f g j) h n w z = absurd (omega (arith, code_of a (too_fine r p) g))
    gone_row a d' (begun i m v c q p) h n w z = absurd (delivers_codes (letter_in v) d a d' p (omega arith))

  -- "The written file is accepted and gives the same image", "the version 2 image of that content": by check with every buffer that has room for it, whichever
  -- version the run is of
  pub write_back : (d : List ℕ) (a : Answer) (d' : List ℕ) → Writes run d a d' → a.code ≡ 0 → (n : ℕ) (w : HouseAccepts run n)
      → (e : List ℕ) (b : Answer) (e' : List ℕ) → Checks (take a.place d') e b e' → length (image_in w) ≤ length e → (b ≡ accepted (length (image_in w))) × (e' ≡ image_in w ++ drop (length (image_in w)) e)
  write_back d a d' p z n w e b e' q r =
      let f = written_file d a d' p z n w in
      same_image run n w f.0.0 f.0.1 f.1 e b e' (subst (λ (s : List ℕ). Checks s e b e') f.3 q) r
