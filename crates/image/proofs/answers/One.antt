-- One answer only, and bytes after the first image do not matter. Assumes nothing.
use mathlib.Core.Path.{◌≡◌, refl, sym, ◌∙◌, ap, ap₂, subst}
use mathlib.Core.Logic.{◌≢◌, ◌⊎◌, ◌↔◌, inl, inr}
use mathlib.Core.Bool.{Bool, true, false, cond}
use mathlib.Core.List.{List, [], ◌∷◌, ◌++◌, append_assoc, head-eq_of_cons-eq, tail-eq_of_cons-eq}
use mathlib.Core.Option.{Option, some}
use Prim.Native.Nat.{ℕ, suc, ◌+◌, ◌≤◌, ◌<◌}
use native.Mathlib.Omega.{arith}
use lib.Dec.{eqb}
use lib.ListN.{length, take, drop, length-append}
use lib.Seq.{take-append_seam}
use borrow.Author.Tests.{eq-eqb}
use Rattle.answer.specs.declared.Answer.{Answer}
use Rattle.answer.specs.Table.{limit, accepted, broken_image, picked}
use Rattle.text.specs.Bytes.{ascii}
use Rattle.list.specs.Words.{times}
use Rattle.list.specs.Listing.{Leaf, Listing, is_group}
use Rattle.list.specs.WellFormed.{WellFormed}
use Rattle.list.specs.Content.{Content, Meets}
use Rattle.image.specs.Image.{Values, Lawful, Item, versioned, header, items_bytes, body, image}
use Rattle.image.specs.Place.{Holds, Breaks, Front, current, Among, Apart, Accepts, Reads, over, foreign, version, kindless, broken, whole_image}
use Rattle.image.specs.Pick.{rows_of, Picked, Missing, Picks, refused, missing, found}
use Rattle.image.proofs.content.Rows.{clash}
use Rattle.image.proofs.content.Prefix.{body_prefix}
use Rattle.image.proofs.content.Stops.{breaks_one}
use Rattle.image.proofs.answers.Heads.{front_long, front_three, front_five, front_six, second_named}

module _ (vs : Values) (l : Listing) where
  -- how often a row is among items
  abbrev pub many : ℕ → List (Item vs) → ℕ
  many r is = times r (rows_of vs is)

  pub many_same : (r : ℕ) (v : Option vs.Value) (is : List (Item vs)) → many r ((r, v) ∷ is) ≡ suc (many r is)
  many_same r v is = rw (eq-eqb r r refl)

  pub many_append : (r : ℕ) (a b : List (Item vs)) → many r (a ++ b) ≡ many r a + many r b
  many_append r [] b = omega arith
  many_append r (i ∷ a) b = go (eqb i.0 r) (many_append r a b)
    where
      go : (t : Bool) → many r (a ++ b) ≡ many r a + many r b → cond t (suc (many r (a ++ b))) (many r (a ++ b)) ≡ cond t (suc (many r a)) (many r a) + many r b
      go true h = omega arith
      go false h = h

  -- the n-th of a row is at one place
  nth_one : (r : ℕ) (a b x y : List (Item vs)) (v w : vs.Value) → many r a ≡ many r b → a ++ ((r, some v) ∷ x) ≡ b ++ ((r, some w) ∷ y) → (a ≡ b) × (v ≡ w)
  nth_one r [] [] x y v w n e = (refl, cc (ap (λ (i : Item vs). i.1) (head-eq_of_cons-eq e)))
  nth_one r [] (j ∷ b) x y v w n e =
      let z : r ≡ j.0 = ap (λ (i : Item vs). i.0) (head-eq_of_cons-eq e) in
      let o : many r (j ∷ b) ≡ suc (many r b) = rw (eq-eqb j.0 r (sym z)) in
      absurd (omega arith)
  nth_one r (i ∷ a) [] x y v w n e =
      let z : i.0 ≡ r = ap (λ (k : Item vs). k.0) (head-eq_of_cons-eq e) in
      let o : many r (i ∷ a) ≡ suc (many r a) = rw (eq-eqb i.0 r z) in
      absurd (omega arith)
  nth_one r (i ∷ a) (j ∷ b) x y v w n e =
      let h = head-eq_of_cons-eq e in
      let o = nth_one r a b x y v w (less_one (eqb i.0 r) (n ∙ ap (λ (k : Item vs). many r (k ∷ b)) (sym h))) (tail-eq_of_cons-eq e) in
      (ap₂ ◌∷◌ h o.0, o.1)
    where
      less_one : (t : Bool) → cond t (suc (many r a)) (many r a) ≡ cond t (suc (many r b)) (many r b) → many r a ≡ many r b
      less_one true q = omega arith
      less_one false q = q

  pub picked_one : (from : ℕ) (c : Content vs.Value) (r n p q : ℕ) (s t : List ℕ) → Picked vs l from c r n p s → Picked vs l from c r n q t → (p ≡ q) × (s ≡ t)
  picked_one from c r n p q s t a b =
      let o = nth_one r a.before b.before a.after b.after a.value b.value (a.nth ∙ sym b.nth) (sym a.at ∙ b.at) in
      let k : a.type ≡ b.type = cc (a.kind, b.kind) in (
        a.starts ∙ ap₂ (λ (z : List (Item vs)) (m : Leaf). from + length (items_bytes vs l z) + 1 + vs.head m) o.0 k ∙ sym b.starts,
        a.holds ∙ ap₂ (λ (z : vs.Value) (m : Leaf). drop (vs.head m) (vs.bytes m z)) o.1 k ∙ sym b.holds,
      )

  not_missing : (from : ℕ) (c : Content vs.Value) (r n p : ℕ) (s : List ℕ) → Picked vs l from c r n p s → Missing vs l c r n → ⊥
  not_missing from c r n p s a (inl h) = clash h (ap is_group a.kind)
  not_missing from c r n p s a (inr h) =
      omega (arith, ap (many r) a.at, many_append r a.before ((r, some a.value) ∷ a.after), many_same r (some a.value) a.after, a.nth)

-- ---- the header and what stands after it

pub not_headed : (run : List ℕ) (l : Listing) (h s : List ℕ) → Front l h → run ≡ h ++ s → (length run < 5) ⊎ (take 3 run ≢ ascii "KTO") → ⊥
not_headed run l h s f e (inl x) = omega (arith, front_long l h f, length-append h s, ap length e)
not_headed run l h s f e (inr x) = x (ap (take 3) e ∙ front_three l h f s)

pub not_version : (run : List ℕ) (l : Listing) (h s : List ℕ) → Front l h → run ≡ h ++ s → take 5 run ≢ versioned 1 → take 5 run ≢ versioned 2 → ⊥
not_version run l h s f e x y = elim (front_five l h f s) [ inl z ↦ x (ap (take 5) e ∙ z) | inr z ↦ y (ap (take 5) e ∙ z) ]

pub not_kindless : (run : List ℕ) (l : Listing) (h s : List ℕ) → Front l h → run ≡ h ++ s → take 5 run ≡ versioned 2 → take 6 run ≢ header l → ⊥
not_kindless run l h s f e x y = y (ap (take 6) e ∙ front_six l h f s (sym (ap (take 5) e) ∙ x))

foreign_not : (run : List ℕ) → (length run < 5) ⊎ (take 3 run ≢ ascii "KTO") → 5 ≤ length run → take 3 run ≡ ascii "KTO" → ⊥
foreign_not run (inl h) g e = omega arith
foreign_not run (inr h) g e = h e

foreign_no_second : (run : List ℕ) → (length run < 5) ⊎ (take 3 run ≢ ascii "KTO") → take 5 run ≡ versioned 2 → ⊥
foreign_no_second run x e = foreign_not run x (second_named run e).0 (second_named run e).1

module _ (vs : Values) (ls : List Listing) where
  -- an image begins whatever goes on with it
  pub image_begins : (l : Listing) → Among l ls → (c : Content vs.Value) → Meets vs.Is l c → (u : List ℕ) → Accepts vs ls (image vs l c ++ u) (length (image vs l c))
  unfolding image
  image_begins l i c m u = record {
    list = l;
    among = i;
    head = header l;
    front = current refl;
    after = body vs l c ++ u;
    at = append_assoc (header l) (body vs l c) u;
    size = length (body vs l c);
    holds = record { content = c; meets = m; rest = u; at = refl; long = refl };
    long = length-append (header l) (body vs l c);
  }

  -- an answer that accepts
  pub accepting : (run : List ℕ) (a : Answer) → Reads vs ls run a → a.code ≡ 0 → (length run ≤ limit) × Accepts vs ls run a.place
  accepting run a (over h e) z = absurd (omega (arith, ap (λ (x : Answer). x.code) e))
  accepting run a (foreign h x e) z = absurd (omega (arith, ap (λ (x : Answer). x.code) e))
  accepting run a (version h x y w v e) z = absurd (omega (arith, ap (λ (x : Answer). x.code) e))
  accepting run a (kindless h x y e) z = absurd (omega (arith, ap (λ (x : Answer). x.code) e))
  accepting run a (broken h l i p q s x n y e) z = absurd (omega (arith, ap (λ (x : Answer). x.code) e))
  accepting run a (whole_image h n w e) z = (h, subst (Accepts vs ls run) (sym (ap (λ (x : Answer). x.place) e)) w)

  module _ (run : List ℕ) (n : ℕ) (a : Accepts vs ls run n) where
    -- the first image's bytes
    abbrev first : List ℕ
    first = a.head ++ body vs a.list a.holds.content

    first_at : run ≡ first ++ a.holds.rest
    first_at = a.at ∙ ap (λ (z : List ℕ). a.head ++ z) a.holds.at ∙ sym (append_assoc a.head (body vs a.list a.holds.content) a.holds.rest)

    first_long : n ≡ length first
    first_long = omega (arith, a.long, a.holds.long, length-append a.head (body vs a.list a.holds.content))

    pub accepts_in : n ≤ length run
    accepts_in = omega (arith, first_long, ap length first_at, length-append first a.holds.rest)

    -- whatever follows the first image, the reader takes it alike
    pub any_rest : (u : List ℕ) → Accepts vs ls (take n run ++ u) n
    any_rest u = record {
      list = a.list;
      among = a.among;
      head = a.head;
      front = a.front;
      after = body vs a.list a.holds.content ++ u;
      at = ap (λ (z : List ℕ). z ++ u) (ap₂ take first_long first_at ∙ take-append_seam first a.holds.rest) ∙ append_assoc a.head (body vs a.list a.holds.content) u;
      size = a.size;
      holds = record { content = a.holds.content; meets = a.holds.meets; rest = u; at = refl; long = a.holds.long };
      long = a.long;
    }

    -- within the limit, bytes after the first image do not matter
    pub rest_is_free : (u : List ℕ) → length (take n run ++ u) ≤ limit → Reads vs ls (take n run ++ u) (accepted n)
    rest_is_free u h = whole_image h n (any_rest u) refl

  module _ (lw : Lawful vs) (wf : (l : Listing) → Among l ls → WellFormed l) (apart : Apart ls) where
    same_holds : (l m : Listing) → Among l ls → l ≡ m → (s t : List ℕ) → s ≡ t → (j k : ℕ) (a : Holds vs l s j) (b : Holds vs m t k) → (a.content ≡ b.content) × (j ≡ k)
    same_holds l m i e s t f j k a b =
        let mb : Meets vs.Is l b.content = subst (λ (z : Listing). Meets vs.Is z b.content) (sym e) b.meets in
        let at : s ≡ body vs l b.content ++ b.rest = f ∙ b.at ∙ ap (λ (z : Listing). body vs z b.content ++ b.rest) (sym e) in
        let c = body_prefix vs lw l (wf l i) a.content b.content a.rest b.rest a.meets mb (sym a.at ∙ at) in
        (c.0, a.long ∙ ap₂ (λ (z : Listing) (y : Content vs.Value). length (body vs z y)) e c.0 ∙ sym b.long)

    same_breaks : (l m : Listing) → Among l ls → l ≡ m → (s t : List ℕ) → s ≡ t → (j k : ℕ) → Breaks vs l s j → Breaks vs m t k → j ≡ k
    same_breaks l m i e s t f j k a b =
        breaks_one vs lw l (wf l i) s j k a (subst (λ (z : Listing). Breaks vs z s k) (sym e) (subst (λ (z : List ℕ). Breaks vs m z k) (sym f) b))

    not_both : (l m : Listing) → l ≡ m → (s t : List ℕ) → s ≡ t → (j k : ℕ) → Breaks vs l s j → Holds vs m t k → ⊥
    not_both l m e s t f j k a b = a.none k (subst (λ (z : Listing). Holds vs z s k) (sym e) (subst (λ (z : List ℕ). Holds vs m z k) (sym f) b))

    -- demand 3, over every list and every version: where a run begins with two images they are of one list, one version and one content, and what follows is the same
    pub told_kinds : (l m : Listing) → Among l ls → Among m ls → (h g : List ℕ) → Front l h → Front m g → (a b : Content vs.Value) → Meets vs.Is l a → Meets vs.Is m b → (u v : List ℕ)
        → (h ++ body vs l a) ++ u ≡ (g ++ body vs m b) ++ v → (l ≡ m) × (h ≡ g) × (a ≡ b) × (u ≡ v)
    told_kinds l m i j h g f k a b ma mb u v e =
        let o = apart.one l m i j h g (body vs l a ++ u) (body vs m b ++ v) f k (sym (append_assoc h (body vs l a) u) ∙ e ∙ append_assoc g (body vs m b) v) in
        let c = body_prefix vs lw l (wf l i) a b u v ma (subst (λ (z : Listing). Meets vs.Is z b) (sym o.0) mb) (o.2 ∙ ap (λ (z : Listing). body vs z b ++ v) (sym o.0)) in
        (o.0, o.1, c.0, c.1)

    module _ (run : List ℕ) (m n : ℕ) (a : Accepts vs ls run m) (b : Accepts vs ls run n) where
      one_front : (a.list ≡ b.list) × (a.head ≡ b.head) × (a.after ≡ b.after)
      one_front = apart.one a.list b.list a.among b.among a.head b.head a.after b.after a.front b.front (sym a.at ∙ b.at)

      one_body : (a.holds.content ≡ b.holds.content) × (a.size ≡ b.size)
      one_body = same_holds a.list b.list a.among one_front.0 a.after b.after one_front.2 a.size b.size a.holds b.holds

      -- the first image has one list, one content, one length
      pub accepts_list : a.list ≡ b.list
      accepts_list = one_front.0

      pub accepts_head : a.head ≡ b.head
      accepts_head = one_front.1

      pub accepts_content : a.holds.content ≡ b.holds.content
      accepts_content = one_body.0

      pub accepts_one : m ≡ n
      accepts_one = a.long ∙ ap₂ (λ (z : List ℕ) (y : ℕ). length z + y) one_front.1 one_body.1 ∙ sym b.long

    unbroken : (run : List ℕ) (l : Listing) → Among l ls → (h : List ℕ) → Front l h → (s : List ℕ) → run ≡ h ++ s → (j : ℕ) → Breaks vs l s j → (n : ℕ) → Accepts vs ls run n → ⊥
    unbroken run l i h f s x j y n w =
        let o = apart.one l w.list i w.among h w.head s w.after f w.front (sym x ∙ w.at) in
        not_both l w.list o.0 s w.after o.2 j w.size y w.holds

    -- the reader has one answer only
    pub reads_one : (run : List ℕ) (a b : Answer) → Reads vs ls run a → Reads vs ls run b → a ≡ b
    reads_one run a b (over h e) (over g f) = e ∙ sym f
    reads_one run a b (over h e) (foreign i x f) = absurd (omega arith)
    reads_one run a b (over h e) (version i x y z w f) = absurd (omega arith)
    reads_one run a b (over h e) (kindless i x y f) = absurd (omega arith)
    reads_one run a b (over h e) (broken i l k p q s x n y f) = absurd (omega arith)
    reads_one run a b (over h e) (whole_image i n x f) = absurd (omega arith)
    reads_one run a b (foreign i x e) (over g f) = absurd (omega arith)
    reads_one run a b (foreign i x e) (foreign j y f) = e ∙ sym f
    reads_one run a b (foreign i x e) (version j y z u w f) = absurd (foreign_not run x y z)
    reads_one run a b (foreign i x e) (kindless j y z f) = absurd (foreign_no_second run x y)
    reads_one run a b (foreign i x e) (broken j l k p q s y n z f) = absurd (not_headed run l p s q y x)
    reads_one run a b (foreign i x e) (whole_image j n y f) = absurd (not_headed run y.list y.head y.after y.front y.at x)
    reads_one run a b (version i x y z w e) (over g f) = absurd (omega arith)
    reads_one run a b (version i x y z w e) (foreign j u f) = absurd (foreign_not run u x y)
    reads_one run a b (version i x y z w e) (version j u v t r f) = e ∙ sym f
    reads_one run a b (version i x y z w e) (kindless j u v f) = absurd (w u)
    reads_one run a b (version i x y z w e) (broken j l k p q s u n v f) = absurd (not_version run l p s q u z w)
    reads_one run a b (version i x y z w e) (whole_image j n u f) = absurd (not_version run u.list u.head u.after u.front u.at z w)
    reads_one run a b (kindless i x y e) (over g f) = absurd (omega arith)
    reads_one run a b (kindless i x y e) (foreign j u f) = absurd (foreign_no_second run u x)
    reads_one run a b (kindless i x y e) (version j u v t r f) = absurd (r x)
    reads_one run a b (kindless i x y e) (kindless j u v f) = e ∙ sym f
    reads_one run a b (kindless i x y e) (broken j l k p q s u n v f) = absurd (not_kindless run l p s q u x (y l k))
    reads_one run a b (kindless i x y e) (whole_image j n u f) = absurd (not_kindless run u.list u.head u.after u.front u.at x (y u.list u.among))
    reads_one run a b (broken i l k h q s x n y e) (over g f) = absurd (omega arith)
    reads_one run a b (broken i l k h q s x n y e) (foreign j u f) = absurd (not_headed run l h s q x u)
    reads_one run a b (broken i l k h q s x n y e) (version j u v t r f) = absurd (not_version run l h s q x t r)
    reads_one run a b (broken i l k h q s x n y e) (kindless j u v f) = absurd (not_kindless run l h s q x u (v l k))
    reads_one run a b (broken i l k h q s x n y e) (broken j l' k' h' q' s' x' n' y' f) =
        let o = apart.one l l' k k' h h' s s' q q' (sym x ∙ x') in
        let z : n ≡ n' = same_breaks l l' k o.0 s s' o.2 n n' y y' in
        e ∙ ap₂ (λ (g : List ℕ) (m : ℕ). broken_image (length g + m)) o.1 z ∙ sym f
    reads_one run a b (broken i l k h q s x n y e) (whole_image j m u f) = absurd (unbroken run l k h q s x n y m u)
    reads_one run a b (whole_image i n x e) (over g f) = absurd (omega arith)
    reads_one run a b (whole_image i n x e) (foreign j y f) = absurd (not_headed run x.list x.head x.after x.front x.at y)
    reads_one run a b (whole_image i n x e) (version j y z u w f) = absurd (not_version run x.list x.head x.after x.front x.at u w)
    reads_one run a b (whole_image i n x e) (kindless j u v f) = absurd (not_kindless run x.list x.head x.after x.front x.at u (v x.list x.among))
    reads_one run a b (whole_image i n x e) (broken j l k h q s y m z f) = absurd (unbroken run l k h q s y m z n x)
    reads_one run a b (whole_image i n x e) (whole_image j m y f) = e ∙ ap accepted (accepts_one run n m x y) ∙ sym f

    -- demand 2, of the reader: it accepts with n exactly where the run is within the limit and begins with the image, n bytes long, of a content that meets its list
    pub reads_exactly : (run : List ℕ) (a : Answer) → Reads vs ls run a → (n : ℕ) → ((a.code ≡ 0) × (a.place ≡ n)) ↔ ((length run ≤ limit) × Accepts vs ls run n)
    reads_exactly run a r n = (
      (λ z. let w = accepting run a r z.0 in (w.0, subst (Accepts vs ls run) z.1 w.1)),
      (λ w. let e = reads_one run a (accepted n) r (whole_image w.0 n w.1 refl) in (ap (λ (x : Answer). x.code) e, ap (λ (x : Answer). x.place) e)),
    )

    not_refused : (run : List ℕ) (a : Answer) (k : ℕ) → Reads vs ls run a → a.code ≢ 0 → length run ≤ limit → Accepts vs ls run k → ⊥
    not_refused run a k r n h w = n (ap (λ (z : Answer). z.code) (reads_one run a (accepted k) r (whole_image h k w refl)))

    same_missing : (run : List ℕ) (k k' : ℕ) (w : Accepts vs ls run k) (w' : Accepts vs ls run k') (r n : ℕ) → Missing vs w.list w.holds.content r n → Missing vs w'.list w'.holds.content r n
    same_missing run k k' w w' r n u =
        subst (λ (l : Listing). Missing vs l w'.holds.content r n) (accepts_list run k k' w w')
        (subst (λ (c : Content vs.Value). Missing vs w.list c r n) (accepts_content run k k' w w') u)

    same_picked : (run : List ℕ) (k k' : ℕ) (w : Accepts vs ls run k) (w' : Accepts vs ls run k') (r n p : ℕ) (s : List ℕ)
        → Picked vs w.list (length w.head) w.holds.content r n p s → Picked vs w'.list (length w'.head) w'.holds.content r n p s
    same_picked run k k' w w' r n p s u =
        subst (λ (l : Listing). Picked vs l (length w'.head) w'.holds.content r n p s) (accepts_list run k k' w w')
        (subst (λ (h : List ℕ). Picked vs w.list (length h) w'.holds.content r n p s) (accepts_head run k k' w w')
        (subst (λ (c : Content vs.Value). Picked vs w.list (length w.head) c r n p s) (accepts_content run k k' w w') u))

    -- the picker has one answer and one part only
    pub picks_one : (run : List ℕ) (r n : ℕ) (a b : Answer) (s t : List ℕ) → Picks vs ls run r n a s → Picks vs ls run r n b t → (a ≡ b) × (s ≡ t)
    picks_one run r n a b s t (refused x y z) (refused u v w) = (reads_one run a b x u, z ∙ sym w)
    picks_one run r n a b s t (refused x y z) (missing h k w u e f) = absurd (not_refused run a k x y h w)
    picks_one run r n a b s t (refused x y z) (found h k w p u e) = absurd (not_refused run a k x y h w)
    picks_one run r n a b s t (missing h k w u e f) (refused x y z) = absurd (not_refused run b k x y h w)
    picks_one run r n a b s t (missing h k w u e f) (missing h' k' w' u' e' f') = (e ∙ sym e', f ∙ sym f')
    picks_one run r n a b s t (missing h k w u e f) (found h' k' w' p u' e') =
        absurd (not_missing vs w'.list (length w'.head) w'.holds.content r n p t u' (same_missing run k k' w w' r n u))
    picks_one run r n a b s t (found h k w p u e) (refused x y z) = absurd (not_refused run b k x y h w)
    picks_one run r n a b s t (found h k w p u e) (missing h' k' w' u' e' f') =
        absurd (not_missing vs w.list (length w.head) w.holds.content r n p s u (same_missing run k' k w' w r n u'))
    picks_one run r n a b s t (found h k w p u e) (found h' k' w' p' u' e') =
        let o = picked_one vs w'.list (length w'.head) w'.holds.content r n p p' s t (same_picked run k k' w w' r n p s u) u' in
        (e ∙ ap (picked r) o.0 ∙ sym e', o.1)

    pub answers_one : (run : List ℕ) (r n : ℕ) (a b : Answer) → ((s : List ℕ) × Picks vs ls run r n a s) → ((s : List ℕ) × Picks vs ls run r n b s) → a ≡ b
    answers_one run r n a b x y = (picks_one run r n a b x.0 y.0 x.1 y.1).0

    pub hands_one : (run : List ℕ) (r n : ℕ) (s t : List ℕ) → ((a : Answer) × Picks vs ls run r n a s) → ((a : Answer) × Picks vs ls run r n a t) → s ≡ t
    hands_one run r n s t x y = (picks_one run r n x.0 y.0 s t x.1 y.1).1
