-- A house XML text has one tree. Assumes nothing.
use mathlib.Core.Path.{◌≡◌, refl, sym, ◌∙◌, ap, ap₂, subst}
use mathlib.Core.Logic.{◌≢◌}
use mathlib.Core.Bool.{Bool, true, false, cond, true≢false}
use mathlib.Core.List.{List, [], ◌∷◌, ◌++◌, head-eq_of_cons-eq, tail-eq_of_cons-eq}
use Prim.Native.Nat.{ℕ, zero, suc, ◌+◌, ◌*◌, ◌-◌, ◌/◌, ◌%◌, ◌<◌}
use native.Mathlib.Omega.{arith}
use lib.Dec.{ltb, eqb}
use lib.ListN.{get_or}
use borrow.Author.Tests.{ltb-true, ltb-false}
use Rattle.text.specs.Bytes.{is_blank, is_name_start, is_name_part}
use Rattle.text_characters.proofs.Resolving.{XmlChar, tab, line, return, low, middle, high, xml_char_is}
use Rattle.text_characters.specs.Utf8.{encode}
use Rattle.text.specs.Lists.{All, Begins}
use Rattle.text_characters.specs.Pieces.{Entity, amp, lt, gt, quot, apos, word, Piece, char, entity, spell, GoodPiece}
use Rattle.xml.specs.House.{Quote, single_quote, double, mark, GoodValue, Attr, GoodAttr, GoodAttrs, Tag, GoodTag, Markup, no_more, piece, empty_tag, full, OneElement, declaration, Tree, GoodTree, whole}
use Rattle.xml.proofs.Runs.{brackets, GoodAfter, to_after}
use Rattle.xml.specs.mirror.Auto.{Part, Read, bad, all, more, lead, go_on, takes}
use Rattle.xml.proofs.Basics.{blank_no_rest, blank_no_start, is_full_part, blank_no_full, full_name}
use Rattle.xml.proofs.Pieces.{Seen, s_short, s_long, seen}
use Rattle.xml.proofs.Lang.{spells_on, attr_on, attrs_on, tag_on, end_on, on}
use Rattle.xml.proofs.Render.{render_on}

-- what comes first of the lists, and what is left
pub record Same {A : Type 0} (a b : A) (u v : List ℕ) : Type 0 where
  pub first : a ≡ b
  pub rest : u ≡ v

-- bytes that pass a test, up to one that does not
span : (p : ℕ → Bool) (a b : List ℕ) (y z : ℕ) (u v : List ℕ) → All p a → All p b → p y ≡ false → p z ≡ false → a ++ (y ∷ u) ≡ b ++ (z ∷ v) → Same a b (y ∷ u) (z ∷ v)
span p [] [] y z u v h k f g e = record { first = refl; rest = e }
span p [] (x ∷ b) y z u v h k f g e = absurd (true≢false (sym k.0 ∙ ap p (sym (head-eq_of_cons-eq e)) ∙ f))
span p (x ∷ a) [] y z u v h k f g e = absurd (true≢false (sym h.0 ∙ ap p (head-eq_of_cons-eq e) ∙ g))
span p (x ∷ a) (w ∷ b) y z u v h k f g e = let s = span p a b y z u v h.1 k.1 f g (tail-eq_of_cons-eq e) in record { first = ap₂ ◌∷◌ (head-eq_of_cons-eq e) s.first; rest = s.rest }

cancel : (n u v : List ℕ) → n ++ u ≡ n ++ v → u ≡ v
cancel [] u v e = e
cancel (x ∷ n) u v e = cancel n u v (tail-eq_of_cons-eq e)

-- a piece's bytes are no beginning of another's
ended : (l m : List ℕ) (r : Read) (u v : List ℕ) → takes l r ≡ true → takes m r ≡ true → l ++ u ≡ m ++ v → Same l m u v
ended [] [] r u v h k e = record { first = refl; rest = e }
ended [] (y ∷ m) bad u v h k e = absurd (true≢false (sym h))
ended [] (y ∷ m) all u v h k e = absurd (true≢false (sym k))
ended [] (y ∷ m) (more p) u v h k e = absurd (true≢false (sym h))
ended (x ∷ l) [] bad u v h k e = absurd (true≢false (sym h))
ended (x ∷ l) [] all u v h k e = absurd (true≢false (sym h))
ended (x ∷ l) [] (more p) u v h k e = absurd (true≢false (sym k))
ended (x ∷ l) (y ∷ m) bad u v h k e = absurd (true≢false (sym h))
ended (x ∷ l) (y ∷ m) all u v h k e = absurd (true≢false (sym h))
ended (x ∷ l) (y ∷ m) (more p) u v h k e =
    let f = head-eq_of_cons-eq e in
    let s = ended l m (go_on p x) u v h (ap (λ (z : ℕ). takes m (go_on p z)) f ∙ k) (tail-eq_of_cons-eq e) in
    record { first = ap₂ ◌∷◌ f s.first; rest = s.rest }

-- every piece: a first byte, and the bytes that it wants
pub record Bytes (p : Piece) : Type 0 where
  pub head : ℕ
  pub tail : List ℕ
  pub is : spell p ≡ head ∷ tail
  pub takes : takes tail (lead head) ≡ true

bytes_of : (p : Piece) → Seen p → Bytes p
bytes_of p (s_short c e lc ec) = record { head = c; tail = []; is = ap spell e ∙ ec; takes = ap (takes []) lc }
bytes_of p (s_long pl x l k es lx ok) = record { head = x; tail = l; is = es; takes = ap (takes l) lx ∙ ok }

pieces_end : (p q : Piece) (u v : List ℕ) → GoodPiece p → GoodPiece q → spell p ++ u ≡ spell q ++ v → Same (spell p) (spell q) u v
pieces_end p q u v g h e =
    let a = bytes_of p (seen p g) in
    let b = bytes_of q (seen q h) in
    let f : a.head ∷ (a.tail ++ u) ≡ b.head ∷ (b.tail ++ v) = ap (λ (l : List ℕ). l ++ u) (sym a.is) ∙ e ∙ ap (λ (l : List ℕ). l ++ v) b.is in
    let i = head-eq_of_cons-eq f in
    let s = ended a.tail b.tail (lead a.head) u v a.takes (ap (λ (x : ℕ). takes b.tail (lead x)) i ∙ b.takes) (tail-eq_of_cons-eq f) in
    record { first = a.is ∙ ap₂ ◌∷◌ i s.first ∙ sym b.is; rest = s.rest }

-- the piece that bytes spell
abbrev number : List ℕ → ℕ
number [] = 0
number (x ∷ []) = x
number (x ∷ y ∷ []) = (x - 192) * 64 + (y - 128)
number (x ∷ y ∷ z ∷ []) = (x - 224) * 4096 + (y - 128) * 64 + (z - 128)
number (x ∷ y ∷ z ∷ w ∷ l) = (x - 240) * 262144 + (y - 128) * 4096 + (z - 128) * 64 + (w - 128)

encode_number : (c : ℕ) → c < 0x110000 → number (encode c) ≡ c
unfolding encode
encode_number c h = go (ltb c 0x80) (ltb c 0x800) (ltb c 0x10000) refl refl refl
  where
    go : (a b d : Bool) → ltb c 0x80 ≡ a → ltb c 0x800 ≡ b → ltb c 0x10000 ≡ d
        → number (cond a (c ∷ []) (cond b ((0xC0 + c / 64) ∷ (0x80 + c % 64) ∷ []) (cond d ((0xE0 + c / 4096) ∷ (0x80 + c / 64 % 64) ∷ (0x80 + c % 64) ∷ []) ((0xF0 + c / 262144) ∷ (0x80 + c / 4096 % 64) ∷ (0x80 + c / 64 % 64) ∷ (0x80 + c % 64) ∷ [])))) ≡ c
    go true b d e f g = refl
    go false true d e f g = let p = ltb-false c 0x80 e in let q = ltb-true c 0x800 f in omega arith
    go false false true e f g = let p = ltb-false c 0x800 f in let q = ltb-true c 0x10000 g in let r : c / 4096 ≡ c / 64 / 64 = omega arith in omega arith
    go false false false e f g =
        let p = ltb-false c 0x10000 g in
        let r : c / 4096 ≡ c / 64 / 64 = omega arith in
        let s : c / 262144 ≡ c / 4096 / 64 = omega arith in
        let t : c / 262144 * 64 + c / 4096 % 64 ≡ c / 4096 = omega arith in
        let w : c / 4096 * 64 + c / 64 % 64 ≡ c / 64 = omega arith in
        let x : c / 64 * 64 + c % 64 ≡ c = omega arith in
        omega arith

below : (c : ℕ) → XmlChar c → c < 0x110000
below c (tab e) = omega arith
below c (line e) = omega arith
below c (return e) = omega arith
below c (low a b) = omega arith
below c (middle a b) = omega arith
below c (high a b) = omega arith

abbrev which : List ℕ → Entity
which l = cond (eqb (get_or l 1 0) 108) lt (cond (eqb (get_or l 1 0) 103) gt (cond (eqb (get_or l 1 0) 113) quot (cond (eqb (get_or l 2 0) 109) amp apos)))

which_word : (e : Entity) → which (word e) ≡ e
which_word amp = refl
which_word lt = refl
which_word gt = refl
which_word quot = refl
which_word apos = refl

word_head : (e : Entity) → get_or (word e) 0 0 ≡ 38
word_head amp = refl
word_head lt = refl
word_head gt = refl
word_head quot = refl
word_head apos = refl

-- no character but `&` itself begins with the byte of `&`
encode_head : (c : ℕ) → c ≢ 38 → get_or (encode c) 0 0 ≢ 38
unfolding encode
encode_head c n = go (ltb c 0x80) (ltb c 0x800) (ltb c 0x10000) refl refl refl
  where
    go : (a b d : Bool) → ltb c 0x80 ≡ a → ltb c 0x800 ≡ b → ltb c 0x10000 ≡ d
        → get_or (cond a (c ∷ []) (cond b ((0xC0 + c / 64) ∷ (0x80 + c % 64) ∷ []) (cond d ((0xE0 + c / 4096) ∷ (0x80 + c / 64 % 64) ∷ (0x80 + c % 64) ∷ []) ((0xF0 + c / 262144) ∷ (0x80 + c / 4096 % 64) ∷ (0x80 + c / 64 % 64) ∷ (0x80 + c % 64) ∷ [])))) 0 0 ≢ 38
    go true b d e f g = n
    go false true d e f g = λ h. omega arith
    go false false true e f g = λ h. omega arith
    go false false false e f g = λ h. omega arith

spell_one : (p q : Piece) → GoodPiece p → GoodPiece q → spell p ≡ spell q → p ≡ q
spell_one (char c) (char d) g h e = ap char (sym (encode_number c (below c (xml_char_is c g.0))) ∙ ap number e ∙ encode_number d (below d (xml_char_is d h.0)))
spell_one (char c) (entity f) g h e = absurd (encode_head c g.2 (ap (λ (l : List ℕ). get_or l 0 0) e ∙ word_head f))
spell_one (entity f) (char c) g h e = absurd (encode_head c h.2 (ap (λ (l : List ℕ). get_or l 0 0) (sym e) ∙ word_head f))
spell_one (entity f) (entity k) g h e = ap entity (sym (which_word f) ∙ ap which e ∙ which_word k)

piece_one : (p q : Piece) (u v : List ℕ) → GoodPiece p → GoodPiece q → spell p ++ u ≡ spell q ++ v → Same p q u v
piece_one p q u v g h e = let s = pieces_end p q u v g h e in record { first = spell_one p q g h s.first; rest = s.rest }

-- values
mark_lead : (q : Quote) → lead (mark q) ≡ all
unfolding lead
mark_lead single_quote = refl
mark_lead double = refl

more_all : {Q : Type 0} {p : Part} → more p ≡ all → Q
more_all {p = p} e = let z : ◌≡◌ {A = ℕ} 0 1 = cc in absurd (omega arith)

no_mark : (q : Quote) (p : Piece) (u w : List ℕ) → p ≢ char (mark q) → Seen p → mark q ∷ u ≡ spell p ++ w → ⊥
no_mark q p u w n (s_short c e lc ec) f = n (e ∙ ap char (sym (head-eq_of_cons-eq (f ∙ ap (λ (l : List ℕ). l ++ w) (ap spell e ∙ ec)))))
no_mark q p u w n (s_long pl x l k es lx ok) f = more_all (sym lx ∙ ap lead (sym (head-eq_of_cons-eq (f ∙ ap (λ (m : List ℕ). m ++ w) es))) ∙ mark_lead q)

no_less : (p : Piece) (u w : List ℕ) → GoodPiece p → 60 ∷ u ≡ spell p ++ w → ⊥
unfolding lead
no_less p u w g e =
    let b = bytes_of p (seen p g) in
    let i : 60 ≡ b.head = head-eq_of_cons-eq (e ∙ ap (λ (l : List ℕ). l ++ w) b.is) in
    none b.tail (ap (λ (x : ℕ). takes b.tail (lead x)) i ∙ b.takes)
  where
    none : (l : List ℕ) → takes l bad ≡ true → ⊥
    none [] h = true≢false (sym h)
    none (x ∷ l) h = true≢false (sym h)

value_one : (q : Quote) (a b : List Piece) (u v : List ℕ) → GoodValue q a → GoodValue q b → spells_on a (mark q ∷ u) ≡ spells_on b (mark q ∷ v) → Same a b u v
value_one q [] [] u v g h e = record { first = refl; rest = tail-eq_of_cons-eq e }
value_one q [] (p ∷ b) u v g h e = absurd (no_mark q p u (spells_on b (mark q ∷ v)) h.0.1 (seen p h.0.0) e)
value_one q (p ∷ a) [] u v g h e = absurd (no_mark q p v (spells_on a (mark q ∷ u)) g.0.1 (seen p g.0.0) (sym e))
value_one q (p ∷ a) (r ∷ b) u v g h e =
    let s = piece_one p r (spells_on a (mark q ∷ u)) (spells_on b (mark q ∷ v)) g.0.0 h.0.0 e in
    let t = value_one q a b u v g.1 h.1 s.rest in
    record { first = ap₂ ◌∷◌ s.first t.first; rest = t.rest }

-- a rest that begins with a byte that fails the test
pub record Stop (p : ℕ → Bool) (w : List ℕ) : Type 0 where
  pub byte : ℕ
  pub others : List ℕ
  pub is : w ≡ byte ∷ others
  pub ends : p byte ≡ false

spans : (p : ℕ → Bool) (a b u v : List ℕ) → All p a → All p b → Stop p u → Stop p v → a ++ u ≡ b ++ v → Same a b u v
spans p a b u v g h s t e =
    let r = span p a b s.byte t.byte s.others t.others g h s.ends t.ends (ap (λ (l : List ℕ). a ++ l) (sym s.is) ∙ e ∙ ap (λ (l : List ℕ). b ++ l) t.is) in
    record { first = r.first; rest = s.is ∙ r.rest ∙ sym t.is }

start_no_blank : (x : ℕ) → is_name_start x ≡ true → is_blank x ≡ false
start_no_blank x e = go (is_blank x) refl
  where
    go : (b : Bool) → is_blank x ≡ b → b ≡ false
    go true f = absurd (true≢false (sym e ∙ blank_no_start x f))
    go false f = refl

some_all : (g : List ℕ) → Begins is_blank is_blank g → All is_blank g
some_all [] b = absurd b
some_all (x ∷ g) b = b

stop_name : (p : ℕ → Bool) (m w : List ℕ) → Begins is_name_start p m → Stop is_blank (m ++ w)
stop_name p [] w i = absurd i
stop_name p (x ∷ m) w i = record { byte = x; others = m ++ w; is = refl; ends = start_no_blank x i.0 }

stop_mark : (q : Quote) (w : List ℕ) → Stop is_blank (mark q ∷ w)
unfolding is_blank
stop_mark single_quote w = record { byte = 39; others = w; is = refl; ends = refl }
stop_mark double w = record { byte = 34; others = w; is = refl; ends = refl }

stop_at : (p : ℕ → Bool) (x : ℕ) (w : List ℕ) → p x ≡ false → Stop p (x ∷ w)
stop_at p x w e = record { byte = x; others = w; is = refl; ends = e }

stop_blanks : (p : ℕ → Bool) → ((x : ℕ) → is_blank x ≡ true → p x ≡ false) → (g : List ℕ) (z : ℕ) (u : List ℕ) → All is_blank g → p z ≡ false → Stop p (g ++ (z ∷ u))
stop_blanks p f [] z u b e = stop_at p z u e
stop_blanks p f (x ∷ g) z u b e = stop_at p x (g ++ (z ∷ u)) (f x b.0)

stop_some : (g u : List ℕ) → Begins is_blank is_blank g → Stop is_name_part (g ++ u)
stop_some [] u b = absurd b
stop_some (x ∷ g) u b = stop_at is_name_part x (g ++ u) (blank_no_rest x b.0)

stop_attrs : (l : List Attr) (k : ℕ) (ss : List (List ℕ)) (g : List ℕ) (z : ℕ) (u : List ℕ) → GoodAttrs k ss l → All is_blank g → is_name_part z ≡ false → Stop is_name_part (attrs_on l (g ++ (z ∷ u)))
stop_attrs [] k ss g z u h b e = stop_blanks is_name_part blank_no_rest g z u b e
stop_attrs (a ∷ l) zero ss g z u h b e = absurd h
stop_attrs (a ∷ l) (suc k) ss g z u h b e = stop_some a.gap _ h.0.gap

-- names, be they a tag's or an attribute's
name_one : (p : ℕ → Bool) (m n u v : List ℕ) → Begins is_name_start p m → Begins is_name_start p n → Stop p u → Stop p v → m ++ u ≡ n ++ v → Same m n u v
name_one p [] n u v i j s t e = absurd i
name_one p (x ∷ m) [] u v i j s t e = absurd j
name_one p (x ∷ m) (y ∷ n) u v i j s t e =
    let r = spans p m n u v i.1 j.1 s t (tail-eq_of_cons-eq e) in
    record { first = ap₂ ◌∷◌ (head-eq_of_cons-eq e) r.first; rest = r.rest }

no_name : (p : ℕ → Bool) (z : ℕ) (u m w : List ℕ) → is_name_start z ≡ false → Begins is_name_start p m → z ∷ u ≡ m ++ w → ⊥
no_name p z u [] w f i e = i
no_name p z u (x ∷ m) w f i e = true≢false (sym i.0 ∙ ap is_name_start (sym (head-eq_of_cons-eq e)) ∙ f)

mark_one : (q r : Quote) → mark q ≡ mark r → q ≡ r
mark_one single_quote single_quote e = refl
mark_one single_quote double e = absurd (omega arith)
mark_one double single_quote e = absurd (omega arith)
mark_one double double e = refl

-- attributes
attr_is : {a b c d f g : List ℕ} {h i : List ℕ} {q r : Quote} {v w : List Piece} → a ≡ b → c ≡ d → f ≡ g → h ≡ i → q ≡ r → v ≡ w → ◌≡◌ {A = Attr} (record { gap = a; name = c; before = f; after = h; quote = q; value = v }) (record { gap = b; name = d; before = g; after = i; quote = r; value = w })
attr_is {a} {b} {c} {d} {f} {g} {h} {i} {q} {r} {v} {w} e1 e2 e3 e4 e5 e6 = rw (e1, e2, e3, e4, e5, e6) refl

attr_one : (a b : Attr) (u v : List ℕ) → GoodAttr a → GoodAttr b → attr_on a u ≡ attr_on b v → Same a b u v
unfolding is_blank is_name_part
attr_one a b u v g h e =
    let m = full_name a.name g.name in
    let n = full_name b.name h.name in
    let s1 = spans is_blank a.gap b.gap _ _ (some_all a.gap g.gap) (some_all b.gap h.gap) (stop_name is_full_part a.name _ m) (stop_name is_full_part b.name _ n) e in
    let s2 = name_one is_full_part a.name b.name _ _ m n (stop_blanks is_full_part blank_no_full a.before 61 _ g.before refl) (stop_blanks is_full_part blank_no_full b.before 61 _ h.before refl) s1.rest in
    let s3 = spans is_blank a.before b.before _ _ g.before h.before (stop_at is_blank 61 _ refl) (stop_at is_blank 61 _ refl) s2.rest in
    let s4 = spans is_blank a.after b.after _ _ g.after h.after (stop_mark a.quote _) (stop_mark b.quote _) (tail-eq_of_cons-eq s3.rest) in
    let q = mark_one a.quote b.quote (head-eq_of_cons-eq s4.rest) in
    let s5 = value_one a.quote a.value b.value u v g.value (subst (λ (z : Quote). GoodValue z b.value) (sym q) h.value) (tail-eq_of_cons-eq s4.rest ∙ ap (λ (z : Quote). spells_on b.value (mark z ∷ v)) (sym q)) in
    record { first = attr_is s1.first s2.first s3.first s4.first q s5.first; rest = s5.rest }

-- attributes, then blanks, then a byte
record Attributes (l m : List Attr) (g h u v : List ℕ) : Type 0 where
  attributes : l ≡ m
  gap : g ≡ h
  rest : u ≡ v

module _ (z y : ℕ) (bz : is_blank z ≡ false) (by : is_blank y ≡ false) (nz : is_name_start z ≡ false) (ny : is_name_start y ≡ false) where
  no_attr : (x : ℕ) (a : Attr) (g u w : List ℕ) → is_blank x ≡ false → is_name_start x ≡ false → GoodAttr a → All is_blank g → g ++ (x ∷ u) ≡ attr_on a w → ⊥
  no_attr x a g u w bx nx ga b e =
      let s = spans is_blank g a.gap (x ∷ u) _ b (some_all a.gap ga.gap) (stop_at is_blank x u bx) (stop_name is_full_part a.name _ (full_name a.name ga.name)) e in
      no_name is_full_part x u a.name _ nx (full_name a.name ga.name) s.rest

  attrs_one : (l m : List Attr) (k k' : ℕ) (ss ss' : List (List ℕ)) (g h u v : List ℕ) → GoodAttrs k ss l → GoodAttrs k' ss' m → All is_blank g → All is_blank h → attrs_on l (g ++ (z ∷ u)) ≡ attrs_on m (h ++ (y ∷ v)) → Attributes l m g h (z ∷ u) (y ∷ v)
  attrs_one [] [] k k' ss ss' g h u v p q b c e = let s = spans is_blank g h (z ∷ u) (y ∷ v) b c (stop_at is_blank z u bz) (stop_at is_blank y v by) e in record { attributes = refl; gap = s.first; rest = s.rest }
  attrs_one [] (a ∷ m) k zero ss ss' g h u v p q b c e = absurd q
  attrs_one [] (a ∷ m) k (suc k') ss ss' g h u v p q b c e = absurd (no_attr z a g u _ bz nz q.0 b e)
  attrs_one (a ∷ l) [] zero k' ss ss' g h u v p q b c e = absurd p
  attrs_one (a ∷ l) [] (suc k) k' ss ss' g h u v p q b c e = absurd (no_attr y a h v _ by ny p.0 c (sym e))
  attrs_one (a ∷ l) (a' ∷ m) zero k' ss ss' g h u v p q b c e = absurd p
  attrs_one (a ∷ l) (a' ∷ m) (suc k) zero ss ss' g h u v p q b c e = absurd q
  attrs_one (a ∷ l) (a' ∷ m) (suc k) (suc k') ss ss' g h u v p q b c e =
      let s = attr_one a a' _ _ p.0 q.0 e in
      let t = attrs_one l m k k' (a.name ∷ ss) (a'.name ∷ ss') g h u v p.2 q.2 b c s.rest in
      record { attributes = ap₂ ◌∷◌ s.first t.attributes; gap = t.gap; rest = t.rest }

  tag_one : (t s : Tag) (u v : List ℕ) → is_name_part z ≡ false → is_name_part y ≡ false → GoodTag t → GoodTag s → tag_on t (z ∷ u) ≡ tag_on s (y ∷ v) → Same t s (z ∷ u) (y ∷ v)
  tag_one t s u v rz ry g h e =
      let m = name_one is_name_part t.name s.name _ _ g.name h.name (stop_attrs t.attributes 4 [] t.gap z u g.attributes g.gap rz) (stop_attrs s.attributes 4 [] s.gap y v h.attributes h.gap ry) e in
      let r = attrs_one t.attributes s.attributes 4 4 [] [] t.gap s.gap u v g.attributes h.attributes g.gap h.gap m.rest in
      record { first = tag_is m.first r.attributes r.gap; rest = r.rest }
    where
      tag_is : {a b : List ℕ} {c d : List Attr} {f g : List ℕ} → a ≡ b → c ≡ d → f ≡ g → ◌≡◌ {A = Tag} (record { name = a; attributes = c; gap = f }) (record { name = b; attributes = d; gap = g })
      tag_is {a} {b} {c} {d} {f} {g} e1 e2 e3 = rw (e1, e2, e3) refl

-- tags that end with `/>` or `>`
slash_slash : (t s : Tag) (u v : List ℕ) → GoodTag t → GoodTag s → tag_on t (47 ∷ u) ≡ tag_on s (47 ∷ v) → Same t s (47 ∷ u) (47 ∷ v)
unfolding is_blank is_name_start is_name_part
slash_slash t s u v g h e = tag_one 47 47 refl refl refl refl t s u v refl refl g h e

open_open : (t s : Tag) (u v : List ℕ) → GoodTag t → GoodTag s → tag_on t (62 ∷ u) ≡ tag_on s (62 ∷ v) → Same t s (62 ∷ u) (62 ∷ v)
unfolding is_blank is_name_start is_name_part
open_open t s u v g h e = tag_one 62 62 refl refl refl refl t s u v refl refl g h e

slash_open : (t s : Tag) (u v : List ℕ) → GoodTag t → GoodTag s → tag_on t (47 ∷ u) ≡ tag_on s (62 ∷ v) → ⊥
unfolding is_blank is_name_start is_name_part
slash_open t s u v g h e = let r = tag_one 47 62 refl refl refl refl t s u v refl refl g h e in let f : ◌≡◌ {A = ℕ} 47 62 = head-eq_of_cons-eq r.rest in omega arith

no_tag : (z : ℕ) (u : List ℕ) (t : Tag) (w : List ℕ) → is_name_start z ≡ false → GoodTag t → z ∷ u ≡ tag_on t w → ⊥
no_tag z u t w f g e = no_name is_name_part z u t.name _ f g.name e

-- content up to the end tag
pub record Both (a b : Markup) (g h u v : List ℕ) : Type 0 where
  pub tree : a ≡ b
  pub gap : g ≡ h
  pub rest : u ≡ v

close_one : (n g h u v : List ℕ) → All is_blank g → All is_blank h → end_on n g u ≡ end_on n h v → Both no_more no_more g h u v
unfolding is_blank
close_one n g h u v b c e =
    let f = cancel n (g ++ (62 ∷ u)) (h ++ (62 ∷ v)) (tail-eq_of_cons-eq (tail-eq_of_cons-eq e)) in
    let s = spans is_blank g h (62 ∷ u) (62 ∷ v) b c (stop_at is_blank 62 u refl) (stop_at is_blank 62 v refl) f in
    record { tree = refl; gap = s.first; rest = tail-eq_of_cons-eq s.rest }

full_is : {t s : Tag} {i j : Markup} {b c : List ℕ} {k l : Markup} → t ≡ s → i ≡ j → b ≡ c → k ≡ l → full t i b k ≡ full s j c l
full_is {t} {s} {i} {j} {b} {c} {k} {l} e f g h = cc

pub content_one : (a b : Markup) (d r d' r' : ℕ) (n g h u v : List ℕ) → GoodAfter d r a → GoodAfter d' r' b → All is_blank g → All is_blank h → on a (end_on n g u) ≡ on b (end_on n h v) → Both a b g h u v
unfolding is_name_start
content_one no_more no_more d r d' r' n g h u v p q b c e = close_one n g h u v b c e
content_one no_more (piece x k) d r d' r' n g h u v p q b c e = absurd (no_less x _ _ q.0 e)
content_one no_more (empty_tag t k) d r zero r' n g h u v p q b c e = absurd q
content_one no_more (empty_tag t k) d r (suc d') r' n g h u v p q b c e = absurd (no_tag 47 _ t _ refl q.0 (tail-eq_of_cons-eq e))
content_one no_more (full t i m k) d r zero r' n g h u v p q b c e = absurd q
content_one no_more (full t i m k) d r (suc d') r' n g h u v p q b c e = absurd (no_tag 47 _ t _ refl q.0 (tail-eq_of_cons-eq e))
content_one (piece x k) no_more d r d' r' n g h u v p q b c e = absurd (no_less x _ _ p.0 (sym e))
content_one (piece x k) (piece y l) d r d' r' n g h u v p q b c e =
    let s = piece_one x y (on k (end_on n g u)) (on l (end_on n h v)) p.0 q.0 e in
    let t = content_one k l d (brackets r x) d' (brackets r' y) n g h u v p.2 q.2 b c s.rest in
    record { tree = ap₂ piece s.first t.tree; gap = t.gap; rest = t.rest }
content_one (piece x k) (empty_tag t l) d r d' r' n g h u v p q b c e = absurd (no_less x _ _ p.0 (sym e))
content_one (piece x k) (full t i m l) d r d' r' n g h u v p q b c e = absurd (no_less x _ _ p.0 (sym e))
content_one (empty_tag t k) no_more zero r d' r' n g h u v p q b c e = absurd p
content_one (empty_tag t k) no_more (suc d) r d' r' n g h u v p q b c e = absurd (no_tag 47 _ t _ refl p.0 (tail-eq_of_cons-eq (sym e)))
content_one (empty_tag t k) (piece y l) d r d' r' n g h u v p q b c e = absurd (no_less y _ _ q.0 e)
content_one (empty_tag t k) (empty_tag s l) zero r d' r' n g h u v p q b c e = absurd p
content_one (empty_tag t k) (empty_tag s l) (suc d) r zero r' n g h u v p q b c e = absurd q
content_one (empty_tag t k) (empty_tag s l) (suc d) r (suc d') r' n g h u v p q b c e =
    let o = slash_slash t s (62 ∷ on k (end_on n g u)) (62 ∷ on l (end_on n h v)) p.0 q.0 (tail-eq_of_cons-eq e) in
    let w = content_one k l (suc d) 0 (suc d') 0 n g h u v p.1 q.1 b c (tail-eq_of_cons-eq (tail-eq_of_cons-eq o.rest)) in
    record { tree = ap₂ empty_tag o.first w.tree; gap = w.gap; rest = w.rest }
content_one (empty_tag t k) (full s j m l) zero r d' r' n g h u v p q b c e = absurd p
content_one (empty_tag t k) (full s j m l) (suc d) r zero r' n g h u v p q b c e = absurd q
content_one (empty_tag t k) (full s j m l) (suc d) r (suc d') r' n g h u v p q b c e = absurd (slash_open t s _ _ p.0 q.0 (tail-eq_of_cons-eq e))
content_one (full t i m k) no_more zero r d' r' n g h u v p q b c e = absurd p
content_one (full t i m k) no_more (suc d) r d' r' n g h u v p q b c e = absurd (no_tag 47 _ t _ refl p.0 (tail-eq_of_cons-eq (sym e)))
content_one (full t i m k) (piece y l) d r d' r' n g h u v p q b c e = absurd (no_less y _ _ q.0 e)
content_one (full t i m k) (empty_tag s l) zero r d' r' n g h u v p q b c e = absurd p
content_one (full t i m k) (empty_tag s l) (suc d) r zero r' n g h u v p q b c e = absurd q
content_one (full t i m k) (empty_tag s l) (suc d) r (suc d') r' n g h u v p q b c e = absurd (slash_open s t _ _ q.0 p.0 (tail-eq_of_cons-eq (sym e)))
content_one (full t i m k) (full s j o l) zero r d' r' n g h u v p q b c e = absurd p
content_one (full t i m k) (full s j o l) (suc d) r zero r' n g h u v p q b c e = absurd q
content_one (full t i m k) (full s j o l) (suc d) r (suc d') r' n g h u v p q b c e =
    let x = on k (end_on n g u) in
    let y = on l (end_on n h v) in
    let w = open_open t s (on i (end_on t.name m x)) (on j (end_on s.name o y)) p.0 q.0 (tail-eq_of_cons-eq e) in
    let z = content_one i j d 0 d' 0 t.name m o x y p.1 q.1 p.2 q.2 (tail-eq_of_cons-eq w.rest ∙ ap (λ (f : Tag). on j (end_on f.name o y)) (sym w.first)) in
    let f = content_one k l (suc d) 0 (suc d') 0 n g h u v p.3 q.3 b c z.rest in
    record { tree = full_is w.first z.tree z.gap f.tree; gap = f.gap; rest = f.rest }

-- the root
root_one : (a b : Markup) (u v : List ℕ) → OneElement a → OneElement b → GoodAfter 16 0 a → GoodAfter 16 0 b → on a u ≡ on b v → Same a b u v
root_one no_more b u v o p g h e = absurd o
root_one (piece x k) b u v o p g h e = absurd o
root_one (empty_tag t k) no_more u v o p g h e = absurd p
root_one (empty_tag t k) (piece x l) u v o p g h e = absurd p
root_one (empty_tag t k) (empty_tag s l) u v o p g h e =
    let w = slash_slash t s (62 ∷ on k u) (62 ∷ on l v) g.0 h.0 (tail-eq_of_cons-eq e) in
    record { first = ap₂ empty_tag w.first (o ∙ sym p); rest = ap (λ (c : Markup). on c u) (sym o) ∙ tail-eq_of_cons-eq (tail-eq_of_cons-eq w.rest) ∙ ap (λ (c : Markup). on c v) p }
root_one (empty_tag t k) (full s j m l) u v o p g h e = absurd (slash_open t s _ _ g.0 h.0 (tail-eq_of_cons-eq e))
root_one (full t i m k) no_more u v o p g h e = absurd p
root_one (full t i m k) (piece x l) u v o p g h e = absurd p
root_one (full t i m k) (empty_tag s l) u v o p g h e = absurd (slash_open s t _ _ h.0 g.0 (tail-eq_of_cons-eq (sym e)))
root_one (full t i m k) (full s j n l) u v o p g h e =
    let w = open_open t s (on i (end_on t.name m (on k u))) (on j (end_on s.name n (on l v))) g.0 h.0 (tail-eq_of_cons-eq e) in
    let z = content_one i j 15 0 15 0 t.name m n (on k u) (on l v) g.1 h.1 g.2 h.2 (tail-eq_of_cons-eq w.rest ∙ ap (λ (f : Tag). on j (end_on f.name n (on l v))) (sym w.first)) in
    record { first = full_is w.first z.tree z.gap (o ∙ sym p); rest = ap (λ (c : Markup). on c u) (sym o) ∙ z.rest ∙ ap (λ (c : Markup). on c v) p }

-- what an element begins with
stop_root : (a : Markup) (u : List ℕ) → OneElement a → Stop is_blank (on a u)
unfolding is_blank
stop_root no_more u o = absurd o
stop_root (piece x k) u o = absurd o
stop_root (empty_tag t k) u o = record { byte = 60; others = _; is = refl; ends = refl }
stop_root (full t i m k) u o = record { byte = 60; others = _; is = refl; ends = refl }

-- no element, nor blanks before one, begins as the declaration does
no_question : (a : Markup) (u w : List ℕ) → OneElement a → GoodAfter 16 0 a → on a u ≡ 60 ∷ 63 ∷ w → ⊥
unfolding is_name_start
no_question no_more u w o g e = o
no_question (piece x k) u w o g e = o
no_question (empty_tag t k) u w o g e = no_tag 63 w t _ refl g.0 (tail-eq_of_cons-eq (sym e))
no_question (full t i m k) u w o g e = no_tag 63 w t _ refl g.0 (tail-eq_of_cons-eq (sym e))

no_declaration : (b : List ℕ) (a : Markup) (u w : List ℕ) → All is_blank b → OneElement a → GoodAfter 16 0 a → b ++ on a u ≡ 60 ∷ 63 ∷ w → ⊥
unfolding is_blank
no_declaration [] a u w c o g e = no_question a u w o g e
no_declaration (x ∷ b) a u w c o g e = true≢false (sym c.0 ∙ ap is_blank (head-eq_of_cons-eq e))

tree_is : {a b : Bool} {c d : List ℕ} {f g : Markup} {h i : List ℕ} → a ≡ b → c ≡ d → f ≡ g → h ≡ i → ◌≡◌ {A = Tree} (record { declared = a; before = c; root = f; after = h }) (record { declared = b; before = d; root = g; after = i })
tree_is {a} {b} {c} {d} {f} {g} {h} {i} e1 e2 e3 e4 = rw (e1, e2, e3, e4) refl

rest_one : (d : Bool) (b c : List ℕ) (x y : Markup) (u v : List ℕ) → All is_blank b → All is_blank c → OneElement x → OneElement y → GoodAfter 16 0 x → GoodAfter 16 0 y → b ++ on x u ≡ c ++ on y v → ◌≡◌ {A = Tree} (record { declared = d; before = b; root = x; after = u }) (record { declared = d; before = c; root = y; after = v })
rest_one d b c x y u v p q o r g h e =
    let s = spans is_blank b c (on x u) (on y v) p q (stop_root x u o) (stop_root y v r) e in
    let t = root_one x y u v o r g h s.rest in
    tree_is refl s.first t.first t.rest

trees_one : (d f : Bool) (b c : List ℕ) (x y : Markup) (u v : List ℕ) → All is_blank b → All is_blank c → OneElement x → OneElement y → GoodAfter 16 0 x → GoodAfter 16 0 y → declaration d ++ (b ++ on x u) ≡ declaration f ++ (c ++ on y v) → ◌≡◌ {A = Tree} (record { declared = d; before = b; root = x; after = u }) (record { declared = f; before = c; root = y; after = v })
trees_one true true b c x y u v p q o r g h e = rest_one true b c x y u v p q o r g h (cancel (declaration true) (b ++ on x u) (c ++ on y v) e)
trees_one true false b c x y u v p q o r g h e = absurd (no_declaration c y v _ q r h (sym e))
trees_one false true b c x y u v p q o r g h e = absurd (no_declaration b x u _ p o g e)
trees_one false false b c x y u v p q o r g h e = rest_one false b c x y u v p q o r g h e

-- two good trees with the same rendering are the same tree
pub tree_one : (a b : Tree) → GoodTree a → GoodTree b → whole a ≡ whole b → a ≡ b
tree_one a b g h e =
    let on_a = ap (λ (l : List ℕ). declaration a.declared ++ (a.before ++ l)) (render_on a.root a.after) in
    let on_b = ap (λ (l : List ℕ). declaration b.declared ++ (b.before ++ l)) (render_on b.root b.after) in
    trees_one a.declared b.declared a.before b.before a.root b.root a.after b.after g.before h.before g.one h.one (to_after a.root 16 g.root) (to_after b.root 16 h.root) (sym on_a ∙ e ∙ on_b)
