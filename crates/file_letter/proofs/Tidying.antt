-- What tidying answers: one answer and one pair of buffers; what a file's content tells of its tidied form, and what tidying that once more does. Assumes nothing.
use mathlib.Core.Path.{◌≡◌, refl, sym, ◌∙◌, ap, ap₂, subst}
use mathlib.Core.Logic.{◌≢◌, ◌⊎◌, ◌↔◌}
use mathlib.Core.List.{List, [], ◌++◌, append-nil}
use Prim.Native.Nat.{ℕ, ◌≤◌}
use native.Mathlib.Omega.{arith}
use native.Mathlib.Decide.{ℕ_discrete}
use lib.ListN.{length, take}
use Rattle.answer.specs.declared.Answer.{Answer}
use Rattle.answer.specs.Table.{limit, accepted}
use Rattle.list.specs.Listing.{Listing}
use Rattle.list.specs.Content.{Content, items, Meets}
use Rattle.list_house.specs.Lists.{asked_of}
use Rattle.list_house.proofs.Retired.{asked_alike}
use Rattle.value.specs.parts.Former.{present}
use Rattle.value.specs.Value.{Value}
use Rattle.value.specs.Spelled.{Spelled}
use Rattle.image.specs.Kinds.{values}
use Rattle.image.proofs.answers.One.{accepting}
use Rattle.image_reading.specs.Reads.{stored, HouseAccepts, HouseReads}
use Rattle.file.specs.Instance.{house_kinds}
use Rattle.file.specs.File.{message_in, image_of}
use Rattle.file.specs.Checks.{Checks, Filed}
use Rattle.file.proofs.answers.House.{one_content, checks_one, refusal_leaves, accepted_exactly, accepted_image, read_back, read_content}
use Rattle.file.proofs.answers.Some.{checks_some}
use Rattle.file.proofs.Rooms.{rooms_alike}
use Rattle.file_letter.specs.Letter.{letter_of}
use Rattle.file_letter.specs.Stale.{NoneOf, Withdrawn, Finer}
use Rattle.file_letter.specs.Writes.{asked_in, letter_in, items_in, Delivers, Writes}
use Rattle.file_letter.specs.Tidies.{Tidies, turned_away, handed_on}
use Rattle.file_letter.proofs.Meeting.{has_fine, has_said}
use Rattle.file_letter.proofs.Present.{named_file}
use Rattle.file_letter.proofs.Files.{letter_filed}
use Rattle.file_letter.proofs.Writing.{delivers_file, delivers_whole, delivers_fitting, delivers_three, writes_one, writes_some, writes_delivers, write_leaves}
use Rattle.file_letter.proofs.Rooms.{written_fits, written_alike}

code_of : (a b : Answer) → a ≡ b → a.code ≡ b.code
code_of a b e = ap (λ (x : Answer). x.code) e

-- the image's own bytes
abbrev imaged : Answer → List ℕ → List ℕ
imaged b d = take b.place d

-- ---- one answer and one pair of buffers

module _ (s d e : List ℕ) where
  refused_taken : (a b : Answer) (x y : List ℕ) → Checks s d a x → Checks s d b y → a.code ≢ 0 → b.code ≡ 0 → ⊥
  refused_taken a b x y p q n z = n (code_of a b (checks_one s d a b x y p q).0 ∙ z)

  -- only one answer fits, and one pair of buffers
  pub tidies_one : (a b : Answer) (x y u v : List ℕ) → Tidies s d e a x u → Tidies s d e b y v → (a ≡ b) × (x ≡ y) × (u ≡ v)
  tidies_one a b x y u v (turned_away p n g) (turned_away q m h) = let o = checks_one s d a b x y p q in (o.0, o.1, g ∙ sym h)
  tidies_one a b x y u v (turned_away p n g) (handed_on j q z w) = absurd (refused_taken a j x y p q n z)
  tidies_one a b x y u v (handed_on i p z w) (turned_away q n g) = absurd (refused_taken b i y x q p n z)
  tidies_one a b x y u v (handed_on i p z w) (handed_on j q k r) =
      let o = checks_one s d i j x y p q in
      let t = writes_one (imaged j y) e a b u v (subst (λ (run : List ℕ). Writes run e a u) (ap₂ imaged o.0 o.1) w) r in
      (t.0, o.1, t.1)

  -- and some does
  pub tidies_some : (a : Answer) × (d' : List ℕ) × (e' : List ℕ) × Tidies s d e a d' e'
  tidies_some =
      let p = checks_some s d in
      elim (ℕ_discrete p.0.code 0) [
        | no n ↦ (p.0, p.1, e, turned_away p.2 n refl)
        | yes z ↦ let q = writes_some (imaged p.0 p.1) e in (q.0, p.1, q.1, handed_on p.0 p.2 z q.2)
      ]

  module _ (a : Answer) (d' e' : List ℕ) (t : Tidies s d e a d' e') where
    -- the first buffer is what check leaves, whatever is answered
    pub tidied_checked : (b : Answer) (x : List ℕ) → Checks s d b x → d' ≡ x
    tidied_checked b x q = go t
      where
        go : Tidies s d e a d' e' → d' ≡ x
        go (turned_away p n g) = (checks_one s d a b d' x p q).1
        go (handed_on i p z w) = (checks_one s d i b d' x p q).1

    -- "A file that document 01 refuses, code 14 included, changes neither", and the answer is check's
    pub tidied_refused : (b : Answer) (x : List ℕ) → Checks s d b x → b.code ≢ 0 → (a ≡ b) × (d' ≡ d) × (e' ≡ e)
    tidied_refused b x q m = go t
      where
        go : Tidies s d e a d' e' → (a ≡ b) × (d' ≡ d) × (e' ≡ e)
        go (turned_away p n g) = ((checks_one s d a b d' x p q).0, refusal_leaves s d a d' p n, g)
        go (handed_on i p z w) = absurd (refused_taken b i x d' q p m z)

    -- every refusal leaves every byte of the second buffer
    pub tidied_leaves : a.code ≢ 0 → e' ≡ e
    tidied_leaves n = go t
      where
        go : Tidies s d e a d' e' → e' ≡ e
        go (turned_away p k g) = g
        go (handed_on i p z w) = write_leaves (imaged i d') e a e' w n

-- ---- of a file: what it says by the present rule can be written, so that check's image is never refused as such

module _ (s : List ℕ) (l : Listing) (c : Content Value) (f : Filed s l c) where
  filed_named : NoneOf (Withdrawn l) (items c)
  filed_named = named_file l s c f.file

  filed_fine : NoneOf Finer (items c)
  filed_fine = has_fine l (message_in f.file.whole) c f.file.has

  filed_said : Meets (Spelled present) l c
  filed_said = has_said l (message_in f.file.whole) c f.file.meets f.file.has

  module _ (d : List ℕ) (b : Answer) (d' : List ℕ) (p : Checks s d b d') (z : b.code ≡ 0) (u : List ℕ) (n : ℕ) (w : HouseAccepts (imaged b d' ++ u) n) where
    -- the image that check wrote holds the file's content, and is written by the file's list
    own_content : w.holds.content ≡ c
    own_content = (read_content s d b d' p z u n w l c f).2

    own_list : asked_in w ≡ l
    own_list = ap (λ (k : ℕ). asked_of k) (read_content s d b d' p z u n w l c f).1 ∙ asked_alike l f.among

    own_letter : letter_in w ≡ letter_of l c
    own_letter = ap₂ (λ (m : Listing) (x : Content Value). letter_of m x) own_list own_content

    own_named : NoneOf (Withdrawn (asked_in w)) (items_in w)
    own_named =
        subst (λ (m : Listing). NoneOf (Withdrawn m) (items_in w)) (sym own_list)
        (subst (λ (x : Content Value). NoneOf (Withdrawn l) (items x)) (sym own_content) filed_named)

    own_fine : NoneOf Finer (items_in w)
    own_fine = subst (λ (x : Content Value). NoneOf Finer (items x)) (sym own_content) filed_fine

  -- of the image's own bytes writing says one of the three answers for the file's letter
  own_delivers : (d : List ℕ) (b : Answer) (d' : List ℕ) → Checks s d b d' → b.code ≡ 0 → (e : List ℕ) (a : Answer) (e' : List ℕ) → Writes (imaged b d') e a e' → Delivers (letter_of l c) e a e'
  own_delivers d b d' p z e a e' q =
      let run = imaged b d' ++ [] in
      let same : imaged b d' ≡ run = sym (append-nil (imaged b d')) in
      let w = accepting values stored run b (subst (λ (r : List ℕ). HouseReads r b) same (read_back s d b d' p z)) z in
      let v = subst (λ (r : List ℕ). Writes r e a e') same q in
      subst (λ (x : List ℕ). Delivers x e a e') (own_letter d b d' p z [] b.place w.1)
      (writes_delivers run e a e' v w.0 b.place w.1 (own_named d b d' p z [] b.place w.1) (own_fine d b d' p z [] b.place w.1))

  module _ (d e : List ℕ) (a : Answer) (d' e' : List ℕ) (t : Tidies s d e a d' e') where
    -- after an acceptance of check the answer is one of the three for the file's letter: 19, 14 or 0
    pub tidied_delivers : (b : Answer) (x : List ℕ) → Checks s d b x → b.code ≡ 0 → Delivers (letter_of l c) e a e'
    tidied_delivers b x q y = go t
      where
        go : Tidies s d e a d' e' → Delivers (letter_of l c) e a e'
        go (turned_away p n g) = absurd (refused_taken s d e a b d' x p q n y)
        go (handed_on i p z w) = own_delivers d i d' p z e a e' w

    -- code 0: the second buffer begins with the letter of the file's content
    pub tidied_file : a.code ≡ 0 → Delivers (letter_of l c) e a e' × (length (letter_of l c) ≤ limit) × (take a.place e' ≡ letter_of l c)
    tidied_file y = go t
      where
        go : Tidies s d e a d' e' → Delivers (letter_of l c) e a e' × (length (letter_of l c) ≤ limit) × (take a.place e' ≡ letter_of l c)
        go (turned_away p n g) = absurd (n y)
        go (handed_on i p z w) =
            let v = own_delivers d i d' p z e a e' w in
            let o = delivers_file (letter_of l c) e a e' v y in
            (v, o.0, o.2)

-- after an acceptance of check only 0, 19 and 14 remain: the image that check wrote is read, and what a file says can be written
pub tidy_codes : (s d e : List ℕ) (a : Answer) (d' e' : List ℕ) → Tidies s d e a d' e' → (b : Answer) (x : List ℕ) → Checks s d b x → b.code ≡ 0 → (a.code ≡ 0) ⊎ ((a.code ≡ 19) ⊎ (a.code ≡ 14))
tidy_codes s d e a d' e' t b x q z =
    let g = (accepted_exactly s d b x q).0 z in
    delivers_three (letter_of g.0 g.1) e a e' (tidied_delivers s g.0 g.1 g.2 d e a d' e' t b x q z)

-- ---- a file that was tidied

module _ (s d e : List ℕ) (a : Answer) (d' e' : List ℕ) (t : Tidies s d e a d' e') (y : a.code ≡ 0) where
  -- was accepted
  pub tidied_good : (l : Listing) × (c : Content Value) × Filed s l c × (length (image_of house_kinds l c) ≤ length d)
  tidied_good = go t
    where
      go : Tidies s d e a d' e' → (l : Listing) × (c : Content Value) × Filed s l c × (length (image_of house_kinds l c) ≤ length d)
      go (turned_away p n g) = absurd (n y)
      go (handed_on i p z w) = (accepted_exactly s d i d' p).0 z

  -- what it became is a file of the same kind and the same content
  pub tidied_filed : (l : Listing) (c : Content Value) → Filed s l c → Filed (take a.place e') l c
  tidied_filed l c f =
      let o = tidied_file s l c f d e a d' e' t y in
      subst (λ (x : List ℕ). Filed x l c) (sym o.2) (letter_filed l f.among c (filed_said s l c f) (filed_named s l c f) o.1)

  -- tidied once more: the same bytes, whatever the buffers
  pub tidied_still : (g h : List ℕ) (b : Answer) (g' h' : List ℕ) → Tidies (take a.place e') g h b g' h' → b.code ≡ 0 → take b.place h' ≡ take a.place e'
  tidied_still g h b g' h' v z =
      let w = tidied_good in
      (tidied_file (take a.place e') w.0 w.1 (tidied_filed w.0 w.1 w.2) g h b g' h' v z).2 ∙ sym (tidied_file s w.0 w.1 w.2 d e a d' e' t y).2

  -- "tidying a tidied file changes no byte": in buffers that are no shorter it is answered as the file was, with the same bytes
  pub tidied_twice : (g h : List ℕ) (b : Answer) (g' h' : List ℕ) → Tidies (take a.place e') g h b g' h' → length d ≤ length g → length e ≤ length h
      → (b ≡ a) × (take b.place h' ≡ take a.place e')
  tidied_twice g h b g' h' v m n =
      let w = tidied_good in
      let l = w.0 in
      let c = w.1 in
      let r = take a.place e' in
      let f = tidied_filed l c w.2 in
      let o = tidied_file s l c w.2 d e a d' e' t y in
      let k = delivers_fitting (letter_of l c) e a e' o.0 y in
      let x = checks_some r g in
      let good = (accepted_image r g x.0 x.1 x.2 l c f (omega (arith, w.3, m))).0 in
      let q = tidied_delivers r l c f g h b g' h' v x.0 x.1 x.2 (code_of x.0 (accepted (length (image_of house_kinds l c))) good) in
      let same : b ≡ a = delivers_whole (letter_of l c) h b h' q o.1 (omega (arith, k, n)) ∙ sym (delivers_whole (letter_of l c) e a e' o.0 o.1 k) in
      (same, tidied_still g h b g' h' v (code_of b a same ∙ y))

-- ---- two files that were tidied

module _ (s d e : List ℕ) (a : Answer) (d' e' : List ℕ) (t : Tidies s d e a d' e') (y : a.code ≡ 0) (s₂ d₂ e₂ : List ℕ) (b : Answer) (g' h' : List ℕ) (t₂ : Tidies s₂ d₂ e₂ b g' h') (y₂ : b.code ≡ 0)
    (l : Listing) (c : Content Value) (f : Filed s l c) where
  -- end in the same bytes exactly when their kinds and their contents are equal
  pub tidied_tell : (l₂ : Listing) (c₂ : Content Value) → Filed s₂ l₂ c₂ → (take a.place e' ≡ take b.place h') ↔ ((l ≡ l₂) × (c ≡ c₂))
  tidied_tell l₂ c₂ f₂ = (
    (λ q.
        one_content (take a.place e') l l₂ c c₂ (tidied_filed s d e a d' e' t y l c f)
        (subst (λ (x : List ℕ). Filed x l₂ c₂) (sym q) (tidied_filed s₂ d₂ e₂ b g' h' t₂ y₂ l₂ c₂ f₂))),
    (λ q.
        (tidied_file s l c f d e a d' e' t y).2 ∙ ap₂ (λ (m : Listing) (x : Content Value). letter_of m x) q.0 q.1
        ∙ sym (tidied_file s₂ l₂ c₂ f₂ d₂ e₂ b g' h' t₂ y₂).2),
  )

  -- "Two accepted files of one kind that both can be tidied end in the same bytes exactly when their contents are equal"
  pub tidied_equal : (c₂ : Content Value) → Filed s₂ l c₂ → (take a.place e' ≡ take b.place h') ↔ (c ≡ c₂)
  tidied_equal c₂ f₂ = ((λ q. ((tidied_tell l c₂ f₂).0 q).1), (λ q. (tidied_tell l c₂ f₂).1 (refl, q)))

-- ---- what the programs need: the file fits, and does not depend on what stood in the buffers

pub tidied_fits : (s d e : List ℕ) (a : Answer) (d' e' : List ℕ) → Tidies s d e a d' e' → a.code ≡ 0 → a.place ≤ length e
tidied_fits s d e a d' e' (turned_away p n g) z = absurd (n z)
tidied_fits s d e a d' e' (handed_on i p k w) z = written_fits (imaged i d') e a e' w z

module _ (s d g e h : List ℕ) (m : length d ≡ length g) (n : length e ≡ length h) where
  alike_not : (a b : Answer) (d' g' : List ℕ) → Checks s d a d' → Checks s g b g' → a.code ≢ 0 → b.code ≡ 0 → ⊥
  alike_not a b d' g' p q k z = k (code_of a b (rooms_alike s d g m a b d' g' p q).0 ∙ z)

  pub tidied_alike : (a b : Answer) (d' e' g' h' : List ℕ) → Tidies s d e a d' e' → Tidies s g h b g' h' → (a ≡ b) × (a.code ≡ 0 → take a.place e' ≡ take b.place h')
  tidied_alike a b d' e' g' h' (turned_away p k x) (turned_away q j y) = ((rooms_alike s d g m a b d' g' p q).0, λ z. absurd (k z))
  tidied_alike a b d' e' g' h' (turned_away p k x) (handed_on j q z v) = absurd (alike_not a j d' g' p q k z)
  tidied_alike a b d' e' g' h' (handed_on i p z w) (turned_away q k y) = absurd (k (sym (code_of i b (rooms_alike s d g m i b d' g' p q).0) ∙ z))
  tidied_alike a b d' e' g' h' (handed_on i p z w) (handed_on j q k v) =
      let o = rooms_alike s d g m i j d' g' p q in
      written_alike e h n (imaged j g') a b e' h' (subst (λ (run : List ℕ). Writes run e a e') (o.1 z) w) v
