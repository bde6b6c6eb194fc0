-- Of a good tree's text the cursor tells its message, in document order. Assumes nothing.
use mathlib.Core.Path.{◌≡◌, refl, sym, ◌∙◌, ap, subst}
use mathlib.Core.List.{List, [], ◌∷◌, ◌++◌, append_assoc, append-nil}
use Prim.Native.Nat.{ℕ, zero, suc, ◌+◌}
use native.Mathlib.Omega.{arith}
use lib.ListN.{length, drop, length-append}
use lib.Seq.{drop-append_seam}
use Rattle.text.specs.Bytes.{is_blank, is_name_start}
use Rattle.text.specs.Lists.{Each, All}
use Rattle.text_characters.specs.Pieces.{less, Piece, spell, spells, resolved, GoodPiece}
use Rattle.xml.specs.House.{IsName, attrs, Tag, tag, GoodTag, Markup, no_more, piece, empty_tag, full, render, GoodMarkup, OneElement, declaration, Tree, whole, GoodTree}
use Rattle.xml.specs.Message.{Attrs, attrs_of, parts_of, root_at, message_of}
use Rattle.xml.proofs.Basics.{all_weaken}
use Rattle.xml.proofs.Lang.{end_on}
use Rattle.xml_tags.specs.declared.token.Kind.TheVariants.{Open, Empty, Close}
use Rattle.xml_tags.specs.declared.token.Token.{Token}
use Rattle.xml_tags.specs.Marks.{but}
use Rattle.xml_tags.specs.Places.{RootAt}
use Rattle.xml_tags.specs.mirror.Tokens.{tag_at, open_at, token_at, start_of}
use Rattle.xml_tags.specs.Story.{Event, char, enter, leave, events, chars, Text, token_in, Tagged, Tells, enters, passes, leaves, ends}
use Rattle.xml_tags.proofs.Passing.{but_by, stops, pass_none}
use Rattle.xml_tags.proofs.Slices.{drop_is}
use Rattle.xml_tags.proofs.Tokens.{token_end}
use Rattle.xml_tags.proofs.Start.{start_is, name_not}
use Rattle.xml_tags.proofs.Elements.{text_at, empty_at, open_at_lem, close_at, piece_shape, empty_shape, full_shape, full_length, empty_length}

-- ---- a text with one piece more

spells_snoc : (ps : List Piece) (p : Piece) (w : List ℕ) → spells ps ++ (spell p ++ w) ≡ spells (ps ++ (p ∷ [])) ++ w
spells_snoc [] p w = ap (λ (l : List ℕ). l ++ w) (sym (append-nil (spell p)))
spells_snoc (q ∷ ps) p w =
    append_assoc (spell q) (spells ps) (spell p ++ w)
    ∙ ap (λ (l : List ℕ). spell q ++ l) (spells_snoc ps p w)
    ∙ sym (append_assoc (spell q) (spells (ps ++ (p ∷ []))) w)

snoc_length : (ps : List Piece) (p : Piece) → length (spells (ps ++ (p ∷ []))) ≡ length (spells ps) + length (spell p)
snoc_length ps p =
    ap length (sym (append-nil (spells (ps ++ (p ∷ [])))) ∙ sym (spells_snoc ps p []))
    ∙ ap (λ (l : List ℕ). length (spells ps ++ l)) (append-nil (spell p)) ∙ length-append (spells ps) (spell p)

good_snoc : (ps : List Piece) (p : Piece) → Each GoodPiece ps → GoodPiece p → Each GoodPiece (ps ++ (p ∷ []))
good_snoc [] p h g = (g, tt)
good_snoc (q ∷ ps) p h g = (h.0, good_snoc ps p h.1 g)

chars_snoc : (ps : List Piece) (p : Piece) (a o : ℕ) (more : List Event) → o ≡ a + length (spells ps)
    → chars a (ps ++ (p ∷ [])) more ≡ chars a ps (char o (resolved p) ∷ more)
chars_snoc [] p a o more e = ap (λ (n : ℕ). char n (resolved p) ∷ more) (omega arith)
chars_snoc (q ∷ ps) p a o more e =
    ap (λ (l : List Event). char a (resolved q) ∷ l) (chars_snoc ps p (a + length (spell q)) o more (omega (arith, length-append (spell q) (spells ps))))

module _ (s : List ℕ) where
  -- ---- from a token that is known

  module _ (o : ℕ) (ps : List Piece) (more : List Event) (r : Token) (e : token_in s o ≡ r) where
    enters_by : {n : List ℕ} {ats : Attrs} → r.kind ≡ Open → Text s o r.less ps → Tagged s r n ats → Tells s r.end more
        → Tells s o (chars o ps (enter r.less n ats ∷ more))
    enters_by {n} {ats} =
        subst (λ (z : Token). z.kind ≡ Open → Text s o z.less ps → Tagged s z n ats → Tells s z.end more → Tells s o (chars o ps (enter z.less n ats ∷ more))) e enters

    passes_by : {n : List ℕ} {ats : Attrs} → r.kind ≡ Empty → Text s o r.less ps → Tagged s r n ats → Tells s r.end more
        → Tells s o (chars o ps (enter r.less n ats ∷ leave ∷ more))
    passes_by {n} {ats} =
        subst (λ (z : Token). z.kind ≡ Empty → Text s o z.less ps → Tagged s z n ats → Tells s z.end more → Tells s o (chars o ps (enter z.less n ats ∷ leave ∷ more))) e passes

    leaves_by : r.kind ≡ Close → Text s o r.less ps → Tells s r.end more → Tells s o (chars o ps (leave ∷ more))
    leaves_by =
        subst (λ (z : Token). z.kind ≡ Close → Text s o z.less ps → Tells s z.end more → Tells s o (chars o ps (leave ∷ more))) e leaves

  -- ---- an element after a text

  module _ (a o : ℕ) (ps : List Piece) (h : Each GoodPiece ps) (at : o ≡ a + length (spells ps)) where
    empty_told : (t : Tag) (w : List ℕ) (more : List Event) → GoodTag t → drop a s ≡ spells ps ++ (60 ∷ (tag t ++ (47 ∷ 62 ∷ w)))
        → Tells s (o + length (render (empty_tag t no_more))) more
        → Tells s a (chars a ps (enter o t.name (attrs_of t.attributes) ∷ leave ∷ more))
    empty_told t w more g e k =
        let x = text_at s a o ps _ h e at in
        let y = empty_at s o t w g x.behind in
        passes_by a ps more _ (x.token ∙ y.token) refl (record { good = h; is = x.part }) y.tagged k

    open_told : (t : Tag) (w : List ℕ) (more : List Event) → GoodTag t → drop a s ≡ spells ps ++ (60 ∷ (tag t ++ (62 ∷ w)))
        → Tells s (o + (length (tag t) + 2)) more
        → Tells s a (chars a ps (enter o t.name (attrs_of t.attributes) ∷ more))
    open_told t w more g e k =
        let x = text_at s a o ps _ h e at in
        let y = open_at_lem s o t w g x.behind in
        enters_by a ps more _ (x.token ∙ y.token) refl (record { good = h; is = x.part }) y.tagged k

    close_told : (n g w : List ℕ) (more : List Event) → IsName n → All is_blank g → drop a s ≡ spells ps ++ end_on n g w
        → Tells s (o + (length n + length g + 3)) more
        → Tells s a (chars a ps (leave ∷ more))
    close_told n g w more i b e k =
        let x = text_at s a o ps _ h e at in
        let y = close_at s o n g w i b x.behind in
        leaves_by a ps more _ (x.token ∙ y.token) refl (record { good = h; is = x.part }) k

  -- ---- content with its end tag, after a text

  content_told : (c : Markup) (d a o z : ℕ) (ps : List Piece) (n g u : List ℕ) (more : List Event)
      → GoodMarkup d c → Each GoodPiece ps → IsName n → All is_blank g
      → o ≡ a + length (spells ps) → z ≡ o + length (render c) + (length n + length g + 3)
      → drop a s ≡ spells ps ++ (render c ++ end_on n g u)
      → Tells s z more
      → Tells s a (chars a ps (events (parts_of o c) (leave ∷ more)))
  content_told no_more d a o z ps n g u more h ok i b at to e k =
      close_told a o ps ok at n g u more i b e (subst (λ (x : ℕ). Tells s x more) (omega arith) k)
  content_told (piece p c) d a o z ps n g u more h ok i b at to e k =
      subst (λ (l : List Event). Tells s a l) (chars_snoc ps p a o (events (parts_of (o + length (spell p)) c) (leave ∷ more)) at)
      (content_told c d a (o + length (spell p)) z (ps ++ (p ∷ [])) n g u more h.2 (good_snoc ps p ok h.0) i b
      (omega (arith, snoc_length ps p)) (omega (arith, length-append (spell p) (render c)))
      (e ∙ ap (λ (l : List ℕ). spells ps ++ l) (piece_shape p c (end_on n g u)) ∙ spells_snoc ps p (render c ++ end_on n g u)) k)
  content_told (empty_tag t c) zero a o z ps n g u more h ok i b at to e k = absurd h
  content_told (empty_tag t c) (suc d) a o z ps n g u more h ok i b at to e k =
      let f = e ∙ ap (λ (l : List ℕ). spells ps ++ l) (empty_shape t c (end_on n g u)) in
      let w = (empty_at s o t _ h.0 (text_at s a o ps _ ok f at).behind).behind in
      empty_told a o ps ok at t (render c ++ end_on n g u) _ h.0 f
      (content_told c (suc d) (o + length (render (empty_tag t no_more))) (o + length (render (empty_tag t no_more))) z [] n g u more h.1 tt i b
      (omega arith) (omega (arith, empty_length t c, empty_length t no_more)) w k)
  content_told (full t j q c) zero a o z ps n g u more h ok i b at to e k = absurd h
  content_told (full t j q c) (suc d) a o z ps n g u more h ok i b at to e k =
      let f = e ∙ ap (λ (l : List ℕ). spells ps ++ l) (full_shape t j q c (end_on n g u)) in
      let v = (open_at_lem s o t _ h.0 (text_at s a o ps _ ok f at).behind).behind in
      let x = o + (length (tag t) + 2) in
      let y = o + length (render (full t j q no_more)) in
      let w = drop_is o y s (render (full t j q no_more)) (render c ++ end_on n g u) ((text_at s a o ps _ ok f at).behind ∙ sym (full_shape t j q no_more _)) refl in
      open_told a o ps ok at t _ _ h.0 f
      (content_told j d x x y [] t.name q (render c ++ end_on n g u) _ h.1 tt h.0.name h.2
      (omega arith) (omega (arith, full_length t j q no_more)) v
      (content_told c (suc d) y y z [] n g u more h.3 tt i b (omega arith) (omega (arith, full_length t j q no_more, full_length t j q c)) w k))

  -- ---- the root, and blanks after it

  blanks_told : (o : ℕ) (l : List ℕ) → All is_blank l → drop o s ≡ l → Tells s o []
  unfolding is_blank
  blanks_told o l b e =
      ends (ap (λ (w : List ℕ). (token_at o w).kind) e ∙ ap (λ (t : Token). t.kind) (token_end o l (all_weaken is_blank (but less) (but_by is_blank less refl) l b)))

  root_told : (c : Markup) (o : ℕ) (u : List ℕ) → OneElement c → GoodMarkup 16 c → All is_blank u → drop o s ≡ render c ++ u
      → Tells s o (events (parts_of o c) [])
  root_told no_more o u one g b e = absurd one
  root_told (piece p c) o u one g b e = absurd one
  root_told (empty_tag t c) o u one g b e =
      let f = e ∙ empty_shape t c u in
      let w = (empty_at s o t _ g.0 f).behind in
      let z = o + length (render (empty_tag t no_more)) in
      subst (λ (k : Markup). Tells s o (events (parts_of o (empty_tag t k)) [])) (sym one)
      (empty_told o o [] tt (omega arith) t _ [] g.0 f (blanks_told z u b (w ∙ ap (λ (k : Markup). render k ++ u) one)))
  root_told (full t j q c) o u one g b e =
      let f = e ∙ full_shape t j q c u in
      let v = (open_at_lem s o t _ g.0 f).behind in
      let x = o + (length (tag t) + 2) in
      let y = o + length (render (full t j q no_more)) in
      let w = drop_is o y s (render (full t j q no_more)) (render c ++ u) (f ∙ sym (full_shape t j q no_more _)) refl in
      subst (λ (k : Markup). Tells s o (events (parts_of o (full t j q k)) [])) (sym one)
      (open_told o o [] tt (omega arith) t _ _ g.0 f
      (content_told j 15 x x y [] t.name q (render c ++ u) [] g.1 tt g.0.name g.2 (omega arith) (omega (arith, full_length t j q no_more)) v
      (blanks_told y u b (w ∙ ap (λ (k : Markup). render k ++ u) one))))

-- ---- the whole text

root_shape : (c : Markup) (u : List ℕ) → OneElement c → GoodMarkup 16 c → (n w : List ℕ) × IsName n × (render c ++ u ≡ 60 ∷ (n ++ w))
root_shape no_more u one g = absurd one
root_shape (piece p c) u one g = absurd one
root_shape (empty_tag t c) u one g =
    (t.name, _, g.0.name, empty_shape t c u ∙ ap (λ (l : List ℕ). 60 ∷ l) (append_assoc t.name (attrs t.attributes ++ t.gap) _))
root_shape (full t j q c) u one g =
    (t.name, _, g.0.name, full_shape t j q c u ∙ ap (λ (l : List ℕ). 60 ∷ l) (append_assoc t.name (attrs t.attributes ++ t.gap) _))

-- the cursor begins at the root
pub start_root : (t : Tree) → GoodTree t → start_of (whole t) ≡ root_at t
start_root t g =
    let r = root_shape t.root t.after g.one g.root in
    ap (λ (l : List ℕ). start_of (declaration t.declared ++ (t.before ++ l))) r.3
    ∙ start_is t.declared t.before r.0 r.1 g.before r.2

pub root_drop : (t : Tree) → drop (root_at t) (whole t) ≡ render t.root ++ t.after
root_drop t =
    let d = declaration t.declared in
    let w = render t.root ++ t.after in
    drop_is (length d) (root_at t) (whole t) t.before w (drop-append_seam d (t.before ++ w)) refl

-- the two promises of `start`: the second follows
pub start_means : (s : List ℕ) (r : ℕ) → r ≡ start_of s → (r ≡ start_of s) × RootAt s r
start_means s r e = (e, (λ t g h. e ∙ ap start_of h ∙ start_root t g))

-- where no text stands before its tag
pub start_opens : (t : Tree) → GoodTree t → open_at (start_of (whole t)) (drop (start_of (whole t)) (whole t)) ≡ token_at (start_of (whole t)) (drop (start_of (whole t)) (whole t))
unfolding token_at tag_at open_at is_name_start
start_opens t g =
    let r = root_shape t.root t.after g.one g.root in
    let o = start_of (whole t) in
    let l : List ℕ = 60 ∷ (r.0 ++ r.1) in
    let d : drop o (whole t) ≡ l = ap (λ (z : ℕ). drop z (whole t)) (start_root t g) ∙ root_drop t ∙ r.3 in
    let n : tag_at o l ≡ open_at o l = rw (name_not 47 refl r.0 r.1 r.2) in
    ap (open_at o) d ∙ sym n ∙ sym (pass_none (but less) tag_at o l (stops (but less) 60 (r.0 ++ r.1) refl)) ∙ ap (token_at o) (sym d)

-- and from there on it tells the message
pub told : (t : Tree) → GoodTree t → Tells (whole t) (start_of (whole t)) (events (message_of t) [])
told t g =
    subst (λ (o : ℕ). Tells (whole t) o (events (message_of t) [])) (sym (start_root t g))
    (root_told (whole t) t.root (root_at t) t.after g.one g.root g.after (root_drop t))
