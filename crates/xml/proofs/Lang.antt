-- What each state of the automaton still takes, as renderings of trees. Assumes nothing.
use mathlib.Core.Path.{◌≡◌, refl, sym, ◌∙◌, ap, subst}
use mathlib.Core.Bool.{Bool, true, false, cond, ◌&&◌, ◌||◌, false≢true}
use mathlib.Core.Logic.{◌⊎◌, inl, inr}
use mathlib.Core.List.{List, [], ◌∷◌, ◌++◌, append_assoc, append-nil}
use Prim.Native.Nat.{ℕ, zero, suc, ◌<◌}
use native.Mathlib.Omega.{arith}
use lib.Dec.{leb, eqb}
use borrow.Author.Tests.{eqb-true, eqb-false, eq-eqb}
use Rattle.text.specs.Bytes.{ascii, is_blank, is_name_start, is_name_part}
use Rattle.text_characters.specs.Utf8.{encode}
use Rattle.text.specs.Lists.{All, Begins}
use Rattle.text_characters.specs.Pieces.{Piece, char, spell}
use Rattle.xml.specs.House.{Quote, single_quote, double, mark, GoodValue, IsAttrName, Attr, GoodAttrs, Tag, GoodTag, Markup, no_more, piece, empty_tag, full, declaration}
use Rattle.xml.proofs.Runs.{GoodAfter}
use Rattle.xml.specs.mirror.Auto.{Part, one, two, three, e0, ed, ef, efbf, f0, f4, ampersand, ampersand_a, rest, Read, bad, all, more, to_word, lead, go_on, takes, At, done, start, first, before, root, declare, name, tail, gap, attr}
use Rattle.xml.specs.mirror.Auto.{Mode, early, colon, late, grows, goes_to, may_stop, equals, quote, value, within, slash, content, part, less, close, St, dead, at, member, after, tail_step, end_step, gap_step, equals_step, value_next, content_next, push, close_step, declare_next, next}
use Rattle.xml.proofs.Basics.{member_fresh, size, many, grown, Fresh}
use Rattle.xml.proofs.Pieces.{short, found, plain_not, plain_cuts, plain_brackets}

-- the bytes of a part of a tree, and then u
abbrev pub spells_on : List Piece → List ℕ → List ℕ
spells_on [] u = u
spells_on (p ∷ ps) u = spell p ++ spells_on ps u

abbrev pub attr_on : Attr → List ℕ → List ℕ
attr_on a u = a.gap ++ (a.name ++ (a.before ++ (61 ∷ (a.after ++ (mark a.quote ∷ spells_on a.value (mark a.quote ∷ u))))))

abbrev pub attrs_on : List Attr → List ℕ → List ℕ
attrs_on [] u = u
attrs_on (a ∷ l) u = attr_on a (attrs_on l u)

abbrev pub tag_on : Tag → List ℕ → List ℕ
tag_on t u = t.name ++ attrs_on t.attributes (t.gap ++ u)

abbrev pub end_on : List ℕ → List ℕ → List ℕ → List ℕ
end_on n g u = 60 ∷ 47 ∷ (n ++ (g ++ (62 ∷ u)))

abbrev pub on : Markup → List ℕ → List ℕ
on no_more u = u
on (piece p k) u = spell p ++ on k u
on (empty_tag t k) u = 60 ∷ tag_on t (47 ∷ 62 ∷ on k u)
on (full t i g k) u = 60 ∷ tag_on t (62 ∷ on i (end_on t.name g (on k u)))

-- content of n, good with d levels left and after r brackets, n's end tag, and then what R takes
pub record ContentL (d r : ℕ) (n : List ℕ) (R : List ℕ → Type 0) (t : List ℕ) : Type 0 where
  pub tree : Markup
  pub good : GoodAfter d r tree
  pub gap : List ℕ
  pub blanks : All is_blank gap
  pub rest : List ℕ
  pub is : t ≡ on tree (end_on n gap rest)
  pub then : R rest

abbrev pub Rest : ℕ → List (List ℕ) → List ℕ → Type 0
Rest d [] u = All is_blank u
Rest d (n ∷ ns) u = ContentL d 0 n (Rest (suc d) ns) u

pub data EndL (d : ℕ) (n : List ℕ) (ns : List (List ℕ)) (t : List ℕ) : Type 0 where
  opens : (u : List ℕ) → t ≡ 62 ∷ u → ContentL d 0 n (Rest (suc d) ns) u → EndL d n ns t
  shuts : (u : List ℕ) → t ≡ 47 ∷ 62 ∷ u → Rest (suc d) ns u → EndL d n ns t

pub record TailL (k : ℕ) (ss : List (List ℕ)) (E : List ℕ → Type 0) (t : List ℕ) : Type 0 where
  pub attributes : List Attr
  pub good : GoodAttrs k ss attributes
  pub gap : List ℕ
  pub blanks : All is_blank gap
  pub rest : List ℕ
  pub is : t ≡ attrs_on attributes (gap ++ rest)
  pub then : E rest

pub record ValueL (q : Quote) (k : ℕ) (ss : List (List ℕ)) (E : List ℕ → Type 0) (t : List ℕ) : Type 0 where
  pub value : List Piece
  pub good : GoodValue q value
  pub rest : List ℕ
  pub is : t ≡ spells_on value (mark q ∷ rest)
  pub then : TailL k ss E rest

pub record QuoteL (k : ℕ) (ss : List (List ℕ)) (E : List ℕ → Type 0) (t : List ℕ) : Type 0 where
  pub gap : List ℕ
  pub blanks : All is_blank gap
  pub quote : Quote
  pub rest : List ℕ
  pub is : t ≡ gap ++ (mark quote ∷ rest)
  pub then : ValueL quote k ss E rest

pub record EqualsL (k : ℕ) (ss : List (List ℕ)) (E : List ℕ → Type 0) (t : List ℕ) : Type 0 where
  pub gap : List ℕ
  pub blanks : All is_blank gap
  pub rest : List ℕ
  pub is : t ≡ gap ++ (61 ∷ rest)
  pub then : QuoteL k ss E rest

-- the rest of an attribute's name
abbrev pub Goes : Mode → List ℕ → Type 0
Goes m [] = may_stop m ≡ true
Goes m (x ∷ xs) = (grows m x ≡ true) × Goes (goes_to m x) xs

pub record AttrL (m : Mode) (b : List ℕ) (k : ℕ) (ss : List (List ℕ)) (E : List ℕ → Type 0) (t : List ℕ) : Type 0 where
  pub letters : List ℕ
  pub are : Goes m letters
  pub fresh : Fresh (b ++ letters) ss
  pub rest : List ℕ
  pub is : t ≡ letters ++ rest
  pub then : EqualsL k ((b ++ letters) ∷ ss) E rest

pub data GapL (k : ℕ) (ss : List (List ℕ)) (E : List ℕ → Type 0) (t : List ℕ) : Type 0 where
  g_end : (g : List ℕ) → All is_blank g → (u : List ℕ) → t ≡ g ++ u → E u → GapL k ss E t
  g_attr : (g : List ℕ) → All is_blank g → (x : ℕ) → is_name_start x ≡ true → (k' : ℕ) → k ≡ suc k' → (u : List ℕ) → t ≡ g ++ (x ∷ u) → AttrL early (x ∷ []) k' ss E u → GapL k ss E t

pub record NameL (d : ℕ) (n : List ℕ) (ns : List (List ℕ)) (t : List ℕ) : Type 0 where
  pub letters : List ℕ
  pub are : All is_name_part letters
  pub rest : List ℕ
  pub is : t ≡ letters ++ rest
  pub then : TailL 4 [] (EndL d (n ++ letters) ns) rest

pub record CloseL (q : List ℕ) (d : ℕ) (ns : List (List ℕ)) (t : List ℕ) : Type 0 where
  pub gap : List ℕ
  pub blanks : All is_blank gap
  pub rest : List ℕ
  pub is : t ≡ q ++ (gap ++ (62 ∷ rest))
  pub then : Rest d ns rest

pub data LessL (d : ℕ) (n : List ℕ) (ns : List (List ℕ)) (t : List ℕ) : Type 0 where
  l_el : (d' : ℕ) → d ≡ suc d' → (x : ℕ) → is_name_start x ≡ true → (u : List ℕ) → t ≡ x ∷ u → NameL d' (x ∷ []) (n ∷ ns) u → LessL d n ns t
  l_close : (u : List ℕ) → t ≡ 47 ∷ u → CloseL n (suc d) ns u → LessL d n ns t

pub record RootL (t : List ℕ) : Type 0 where
  pub head : ℕ
  pub starts : is_name_start head ≡ true
  pub rest : List ℕ
  pub is : t ≡ head ∷ rest
  pub then : NameL 15 (head ∷ []) [] rest

pub record BeforeL (t : List ℕ) : Type 0 where
  pub gap : List ℕ
  pub blanks : All is_blank gap
  pub rest : List ℕ
  pub is : t ≡ gap ++ (60 ∷ rest)
  pub then : RootL rest

pub data FirstL (t : List ℕ) : Type 0 where
  f_root : RootL t → FirstL t
  f_declare : (u : List ℕ) → t ≡ ascii "?xml version=\"1.0\" encoding=\"UTF-8\"?>" ++ u → BeforeL u → FirstL t

pub record StartL (t : List ℕ) : Type 0 where
  pub declared : Bool
  pub rest : List ℕ
  pub is : t ≡ declaration declared ++ rest
  pub then : BeforeL rest

-- the rest of a piece, and then what P takes
pub record PartL (p : Part) (P : List ℕ → Type 0) (t : List ℕ) : Type 0 where
  pub bytes : List ℕ
  pub ok : takes bytes (more p) ≡ true
  pub rest : List ℕ
  pub is : t ≡ bytes ++ rest
  pub then : P rest

-- a piece after some of its bytes, and then what P or Q takes
abbrev pub ReadL : Read → (List ℕ → Type 0) → (List ℕ → Type 0) → List ℕ → Type 0
ReadL bad P Q t = ⊥
ReadL all P Q t = P t
ReadL (more p) P Q t = PartL p Q t

abbrev pub L : At → List ℕ → Type 0
L done t = All is_blank t
L start t = StartL t
L first t = FirstL t
L before t = BeforeL t
L root t = RootL t
L (declare y q) t = (u : List ℕ) × (t ≡ y ∷ (q ++ u)) × BeforeL u
L (name d n ns) t = NameL d n ns t
L (tail k ss d n ns) t = TailL k ss (EndL d n ns) t
L (gap k ss d n ns) t = GapL k ss (EndL d n ns) t
L (attr m b k ss d n ns) t = AttrL m b k ss (EndL d n ns) t
L (equals k ss d n ns) t = EqualsL k ss (EndL d n ns) t
L (quote k ss d n ns) t = QuoteL k ss (EndL d n ns) t
L (value q k ss d n ns) t = ValueL q k ss (EndL d n ns) t
L (within p q k ss d n ns) t = PartL p (ValueL q k ss (EndL d n ns)) t
L (slash d ns) t = (u : List ℕ) × (t ≡ 62 ∷ u) × Rest (suc d) ns u
L (content r d n ns) t = ContentL d r n (Rest (suc d) ns) t
L (part p d n ns) t = PartL p (ContentL d 0 n (Rest (suc d) ns)) t
L (less d n ns) t = LessL d n ns t
L (close q d ns) t = CloseL q d ns t

abbrev pub LS' : St → List ℕ → Type 0
LS' dead t = ⊥
LS' (at s) t = L s t

pub record LS (st : St) (t : List ℕ) : Type 0 where
  pub is : LS' st t

-- a state after a test
pub pick : {Q : Type 0} (b : Bool) {u v : St} {t : List ℕ} → LS (cond b u v) t → (b ≡ true → LS u t → Q) → (b ≡ false → LS v t → Q) → Q
pick true h f g = f refl h
pick false h f g = g refl h

pub no : {Q : Type 0} {t : List ℕ} → LS dead t → Q
no h = absurd h.is

-- `if x = y then st else dead`
pub only : {Q : Type 0} (x y : ℕ) {u : St} {t : List ℕ} → LS (cond (eqb x y) u dead) t → (x ≡ y → LS u t → Q) → Q
only x y h f = pick (eqb x y) h (λ e g. f (eqb-true x y e) g) (λ e g. no g)

put : (x : ℕ) {t u : List ℕ} → t ≡ u → x ∷ t ≡ x ∷ u
put x e = ap (λ (l : List ℕ). x ∷ l) e

put' : {x y : ℕ} {t u : List ℕ} → x ≡ y → t ≡ u → x ∷ t ≡ y ∷ u
put' {x} {y} {t} {u} p e = cc

after_out : (d : ℕ) (ns : List (List ℕ)) (t : List ℕ) → L (after d ns) t → Rest d ns t
after_out d [] t h = h
after_out d (n ∷ ns) t h = h

-- tags
end_back : (d : ℕ) (n : List ℕ) (ns : List (List ℕ)) (x : ℕ) (t : List ℕ) → LS (end_step d n ns x) t → EndL d n ns (x ∷ t)
end_back d n ns x t h =
    pick (eqb x 62) h (λ e g. opens t (put' (eqb-true x 62 e) refl) g.is)
    (λ _ g. only x 47 g (λ e g. shuts g.is.0 (put' e g.is.1) g.is.2))

or_left : (a b : Bool) → b ≡ false → (a || b) ≡ true → a ≡ true
or_left true b e h = refl
or_left false b e h = absurd (false≢true (sym e ∙ h))

-- the second name, and the first with what follows it
second_of_lem : (xs : List ℕ) → Goes late xs → All is_name_part xs
second_of_lem [] g = tt
second_of_lem (x ∷ xs) g = (g.0, second_of_lem xs g.1)

pub record Named (xs : List ℕ) : Type 0 where
  pub letters : List ℕ
  pub are : All is_name_part letters
  pub tail' : List ℕ
  pub is : xs ≡ letters ++ tail'
  pub then : (tail' ≡ []) ⊎ ((q : List ℕ) × Begins is_name_start is_name_part q × (tail' ≡ 58 ∷ q))

front_of : (xs : List ℕ) → Goes early xs → Named xs
front_of [] g = record { letters = []; are = tt; tail' = []; is = refl; then = inl refl }
front_of (x ∷ xs) g = go (eqb x 58) refl (front_of xs)
  where
    part_of : eqb x 58 ≡ false → (is_name_part x || eqb x 58) ≡ true → is_name_part x ≡ true
    part_of e h = or_left (is_name_part x) (eqb x 58) e h

    behind : (ys : List ℕ) → Goes colon ys → Begins is_name_start is_name_part ys
    behind [] h = absurd (false≢true h)
    behind (y ∷ ys) h = (h.0, second_of_lem ys h.1)

    go : (b : Bool) → eqb x 58 ≡ b → (Goes early xs → Named xs) → Named (x ∷ xs)
    go true e ih = record { letters = []; are = tt; tail' = x ∷ xs; is = refl; then = inr (xs, behind xs (subst (λ (m : Mode). Goes m xs) (ap (λ (z : Bool). cond z colon early) e) g.1), put' (eqb-true x 58 e) refl) }
    go false e ih =
        let o = ih (subst (λ (m : Mode). Goes m xs) (ap (λ (z : Bool). cond z colon early) e) g.1) in
        record { letters = x ∷ o.letters; are = (part_of e g.0, o.are); tail' = o.tail'; is = put x o.is; then = o.then }

name_of : (y : ℕ) (xs : List ℕ) → is_name_start y ≡ true → Goes early xs → IsAttrName (y ∷ xs)
name_of y xs s g = go (front_of xs g)
  where
    go : Named xs → IsAttrName (y ∷ xs)
    go o = elim o.then [
      | inl e ↦ IsAttrName.unprefixed (s, subst (All is_name_part) (sym (o.is ∙ ap (λ (z : List ℕ). o.letters ++ z) e ∙ append-nil o.letters)) o.are)
      | inr q ↦ IsAttrName.prefixed (y ∷ o.letters) q.0 (s, o.are) q.1 (put y (o.is ∙ ap (λ (z : List ℕ). o.letters ++ z) q.2))
    ]

attach : (k : ℕ) (ss : List (List ℕ)) (E : List ℕ → Type 0) (x : ℕ) (t : List ℕ) → is_blank x ≡ true → GapL k ss E t → TailL k ss E (x ∷ t)
attach k ss E x t e (g_end g bs u et h) = record { attributes = []; good = tt; gap = x ∷ g; blanks = (e, bs); rest = u; is = put x et; then = h }
attach k ss E x t e (g_attr g bs y ys k' ek u et a) =
    let eq = a.then in
    let qu = eq.then in
    let va = qu.then in
    let ta = va.then in
    let one : Attr = record { gap = x ∷ g; name = y ∷ a.letters; before = eq.gap; after = qu.gap; quote = qu.quote; value = va.value } in
    record {
      attributes = one ∷ ta.attributes;
      good = rw ek (record { gap = (e, bs); name = name_of y a.letters ys a.are; before = eq.blanks; after = qu.blanks; value = va.good }, a.fresh, ta.good);
      gap = ta.gap;
      blanks = ta.blanks;
      rest = ta.rest;
      is = cc (et, a.is, eq.is, qu.is, va.is, ta.is);
      then = ta.then;
    }

tail_back : (k : ℕ) (ss : List (List ℕ)) (d : ℕ) (n : List ℕ) (ns : List (List ℕ)) (x : ℕ) (t : List ℕ) → LS (tail_step k ss d n ns x) t → TailL k ss (EndL d n ns) (x ∷ t)
tail_back k ss d n ns x t h =
    pick (is_blank x) h (λ e g. attach k ss (EndL d n ns) x t e g.is)
    (λ _ g. record { attributes = []; good = tt; gap = []; blanks = tt; rest = x ∷ t; is = refl; then = end_back d n ns x t g })

more_blank : (k : ℕ) (ss : List (List ℕ)) (E : List ℕ → Type 0) (x : ℕ) (t : List ℕ) → is_blank x ≡ true → GapL k ss E t → GapL k ss E (x ∷ t)
more_blank k ss E x t e (g_end g bs u et h) = g_end (x ∷ g) (e, bs) u (put x et) h
more_blank k ss E x t e (g_attr g bs y ys k' ek u et a) = g_attr (x ∷ g) (e, bs) y ys k' ek u (put x et) a

gap_start : (k : ℕ) (ss : List (List ℕ)) (d : ℕ) (n : List ℕ) (ns : List (List ℕ)) (x : ℕ) (t : List ℕ) → is_name_start x ≡ true → LS (gap_step k ss d n ns x) t → GapL k ss (EndL d n ns) (x ∷ t)
gap_start zero ss d n ns x t e h = no h
gap_start (suc k) ss d n ns x t e h = g_attr [] tt x e k refl t refl h.is

gap_back : (k : ℕ) (ss : List (List ℕ)) (d : ℕ) (n : List ℕ) (ns : List (List ℕ)) (x : ℕ) (t : List ℕ) → LS (cond (is_name_start x) (gap_step k ss d n ns x) (tail_step k ss d n ns x)) t → GapL k ss (EndL d n ns) (x ∷ t)
gap_back k ss d n ns x t h =
    pick (is_name_start x) h (λ e g. gap_start k ss d n ns x t e g)
    (λ _ g. pick (is_blank x) g (λ e g. more_blank k ss (EndL d n ns) x t e g.is) (λ _ g. g_end [] tt (x ∷ t) refl (end_back d n ns x t g)))

name_back : (d : ℕ) (n : List ℕ) (ns : List (List ℕ)) (x : ℕ) (t : List ℕ) → LS (cond (is_name_part x) (at (name d (n ++ (x ∷ [])) ns)) (tail_step 4 [] d n ns x)) t → NameL d n ns (x ∷ t)
name_back d n ns x t h =
    pick (is_name_part x) h
    (λ e g. let o = g.is in record { letters = x ∷ o.letters; are = (e, o.are); rest = o.rest; is = put x o.is; then = rw append_assoc at o.then })
    (λ _ g. record { letters = []; are = tt; rest = x ∷ t; is = refl; then = rw append-nil (tail_back 4 [] d n ns x t g) })

equals_back : (k : ℕ) (ss : List (List ℕ)) (d : ℕ) (n : List ℕ) (ns : List (List ℕ)) (x : ℕ) (t : List ℕ) → LS (equals_step k ss d n ns x) t → EqualsL k ss (EndL d n ns) (x ∷ t)
equals_back k ss d n ns x t h =
    pick (is_blank x) h
    (λ e g. let o = g.is in record { gap = x ∷ o.gap; blanks = (e, o.blanks); rest = o.rest; is = put x o.is; then = o.then })
    (λ _ g. only x 61 g (λ e g. record { gap = []; blanks = tt; rest = t; is = put' e refl; then = g.is }))

attr_back : (m : Mode) (b : List ℕ) (k : ℕ) (ss : List (List ℕ)) (d : ℕ) (n : List ℕ) (ns : List (List ℕ)) (x : ℕ) (t : List ℕ)
    → LS (cond (grows m x) (at (attr (goes_to m x) (b ++ (x ∷ [])) k ss d n ns)) (cond (may_stop m) (cond (member b ss) dead (equals_step k (b ∷ ss) d n ns x)) dead)) t → AttrL m b k ss (EndL d n ns) (x ∷ t)
attr_back m b k ss d n ns x t h =
    pick (grows m x) h
    (λ e g. let o = g.is in record { letters = x ∷ o.letters; are = (e, o.are); fresh = rw append_assoc at o.fresh; rest = o.rest; is = put x o.is; then = rw append_assoc at o.then })
    (λ _ g. pick (may_stop m) g (λ y g. pick (member b ss) g (λ _ g. no g)
    (λ f g. record { letters = []; are = y; fresh = rw append-nil (member_fresh b ss f); rest = x ∷ t; is = refl; then = rw append-nil (equals_back k (b ∷ ss) d n ns x t g) })) (λ _ g. no g))

quote_back : (k : ℕ) (ss : List (List ℕ)) (d : ℕ) (n : List ℕ) (ns : List (List ℕ)) (x : ℕ) (t : List ℕ) → LS (next (quote k ss d n ns) x) t → QuoteL k ss (EndL d n ns) (x ∷ t)
unfolding next
quote_back k ss d n ns x t h =
    pick (is_blank x) h
    (λ e g. let o = g.is in record { gap = x ∷ o.gap; blanks = (e, o.blanks); quote = o.quote; rest = o.rest; is = put x o.is; then = o.then })
    (λ _ g. pick (eqb x 39) g
    (λ e g. record { gap = []; blanks = tt; quote = single_quote; rest = t; is = put' (eqb-true x 39 e) refl; then = g.is })
    (λ _ g. only x 34 g (λ e g. record { gap = []; blanks = tt; quote = double; rest = t; is = put' e refl; then = g.is })))

-- a piece by its bytes, in front of what follows
front : (x : ℕ) (l u : List ℕ) (s : List ℕ) → s ≡ x ∷ l → (t : List ℕ) → t ≡ l ++ u → x ∷ t ≡ s ++ u
front x l u s e t f = put x f ∙ ap (λ (m : List ℕ). m ++ u) (sym e)

part_back : (p : Part) (P : List ℕ → Type 0) (x : ℕ) (t : List ℕ) (r : Read) → go_on p x ≡ r → ReadL r P P t → PartL p P (x ∷ t)
part_back p P x t bad e h = absurd h
part_back p P x t all e h = record { bytes = x ∷ []; ok = ap (takes []) e; rest = t; is = refl; then = h }
part_back p P x t (more q) e h = record { bytes = x ∷ h.bytes; ok = ap (takes h.bytes) e ∙ h.ok; rest = h.rest; is = put x h.is; then = h.then }

-- values
mark_low : (q : Quote) → mark q < 128
mark_low single_quote = omega arith
mark_low double = omega arith

value_next_lem : (r : Read) (q : Quote) (k : ℕ) (ss : List (List ℕ)) (d : ℕ) (n : List ℕ) (ns : List (List ℕ)) (t : List ℕ) → LS (value_next r q k ss d n ns) t → ReadL r (ValueL q k ss (EndL d n ns)) (ValueL q k ss (EndL d n ns)) t
value_next_lem bad q k ss d n ns t h = no h
value_next_lem all q k ss d n ns t h = h.is
value_next_lem (more p) q k ss d n ns t h = h.is

value_lead : (q : Quote) (k : ℕ) (ss : List (List ℕ)) (E : List ℕ → Type 0) (x : ℕ) (t : List ℕ) → (x ≡ mark q → ⊥) → (r : Read) → lead x ≡ r → ReadL r (ValueL q k ss E) (ValueL q k ss E) t → ValueL q k ss E (x ∷ t)
value_lead q k ss E x t ne bad e h = absurd h
value_lead q k ss E x t ne all e h =
    let o = short x e in
    record { value = char x ∷ h.value; good = ((o.good, (λ f. ne (cc))), h.good); rest = h.rest; is = front x [] (spells_on h.value (mark q ∷ h.rest)) (encode x) o.is t h.is; then = h.then }
value_lead q k ss E x t ne (more p) e h =
    let o = found x p h.bytes e h.ok in
    let v = h.then in
    record { value = o.piece ∷ v.value; good = ((o.good, plain_not o.piece (mark q) (mark_low q) o.plain), v.good); rest = v.rest; is = front x h.bytes (spells_on v.value (mark q ∷ v.rest)) (spell o.piece) o.is t (cc (h.is, v.is)); then = v.then }

value_back : (q : Quote) (k : ℕ) (ss : List (List ℕ)) (d : ℕ) (n : List ℕ) (ns : List (List ℕ)) (x : ℕ) (t : List ℕ) → LS (next (value q k ss d n ns) x) t → ValueL q k ss (EndL d n ns) (x ∷ t)
unfolding next
value_back q k ss d n ns x t h =
    pick (eqb x (mark q)) h
    (λ e g. record { value = []; good = tt; rest = t; is = put' (eqb-true x (mark q) e) refl; then = g.is })
    (λ e g. value_lead q k ss (EndL d n ns) x t (eqb-false x (mark q) e) (lead x) refl (value_next_lem (lead x) q k ss d n ns t g))

-- content
content_next_lem : (c : Read) (r d : ℕ) (n : List ℕ) (ns : List (List ℕ)) (t : List ℕ) → LS (content_next c r d n ns) t → ReadL c (ContentL d r n (Rest (suc d) ns)) (ContentL d 0 n (Rest (suc d) ns)) t
content_next_lem bad r d n ns t h = no h
content_next_lem all r d n ns t h = h.is
content_next_lem (more p) r d n ns t h = h.is

content_lead : (r d : ℕ) (n : List ℕ) (R : List ℕ → Type 0) (x : ℕ) (t : List ℕ) → (eqb x 62 && leb 2 r) ≡ false → (c : Read) → lead x ≡ c → ReadL c (ContentL d (cond (eqb x 93) (suc r) 0) n R) (ContentL d 0 n R) t → ContentL d r n R (x ∷ t)
content_lead r d n R x t cut bad e h = absurd h
content_lead r d n R x t cut all e h =
    let o = short x e in
    record { tree = piece (char x) h.tree; good = (o.good, cut, h.good); gap = h.gap; blanks = h.blanks; rest = h.rest; is = front x [] (on h.tree (end_on n h.gap h.rest)) (encode x) o.is t h.is; then = h.then }
content_lead r d n R x t cut (more p) e h =
    let o = found x p h.bytes e h.ok in
    let v = h.then in
    record { tree = piece o.piece v.tree; good = (o.good, plain_cuts r o.piece o.plain, subst (λ (m : ℕ). GoodAfter d m v.tree) (sym (plain_brackets r o.piece o.plain)) v.good); gap = v.gap; blanks = v.blanks; rest = v.rest; is = front x h.bytes (on v.tree (end_on n v.gap v.rest)) (spell o.piece) o.is t (cc (h.is, v.is)); then = v.then }

-- an element, and then what stands after it
pub data ElementL (d : ℕ) (R : List ℕ → Type 0) (t : List ℕ) : Type 0 where
  e_empty : (g : Tag) → GoodTag g → (u : List ℕ) → t ≡ 60 ∷ tag_on g (47 ∷ 62 ∷ u) → R u → ElementL d R t
  e_full : (g : Tag) → GoodTag g → (i : Markup) → GoodAfter d 0 i → (b : List ℕ) → All is_blank b → (u : List ℕ) → t ≡ 60 ∷ tag_on g (62 ∷ on i (end_on g.name b u)) → R u → ElementL d R t

pub element : (d : ℕ) (ns : List (List ℕ)) (x : ℕ) (t : List ℕ) → is_name_start x ≡ true → NameL d (x ∷ []) ns t → ElementL d (Rest (suc d) ns) (60 ∷ x ∷ t)
element d ns x t e o = go o.then.then
  where
    ta : TailL 4 [] (EndL d (x ∷ o.letters) ns) o.rest
    ta = o.then

    g : Tag
    g = record { name = x ∷ o.letters; attributes = ta.attributes; gap = ta.gap }

    good : GoodTag g
    good = record { name = (e, o.are); attributes = ta.good; gap = ta.blanks }

    go : EndL d (x ∷ o.letters) ns ta.rest → ElementL d (Rest (suc d) ns) (60 ∷ x ∷ t)
    go (opens u eu c) = e_full g good c.tree c.good c.gap c.blanks c.rest (cc (o.is, ta.is, eu, c.is)) c.then
    go (shuts u eu r) = e_empty g good u (cc (o.is, ta.is, eu)) r

element_in : (d r : ℕ) (n : List ℕ) (R : List ℕ → Type 0) (t : List ℕ) → ElementL d (ContentL (suc d) 0 n R) t → ContentL (suc d) r n R t
element_in d r n R t (e_empty g good u et c) = record { tree = empty_tag g c.tree; good = (good, c.good); gap = c.gap; blanks = c.blanks; rest = c.rest; is = cc (et, c.is); then = c.then }
element_in d r n R t (e_full g good i gi b bs u et c) = record { tree = full g i b c.tree; good = (good, gi, bs, c.good); gap = c.gap; blanks = c.blanks; rest = c.rest; is = cc (et, c.is); then = c.then }

less_in : (r d : ℕ) (n : List ℕ) (ns : List (List ℕ)) (t : List ℕ) → LessL d n ns t → ContentL d r n (Rest (suc d) ns) (60 ∷ t)
less_in r d n ns t (l_el d' ek x e u et o) = rw (ek, et) (element_in d' r n (Rest (suc (suc d')) ns) (60 ∷ x ∷ u) (element d' (n ∷ ns) x u e o))
less_in r d n ns t (l_close u et o) = record { tree = no_more; good = tt; gap = o.gap; blanks = o.blanks; rest = o.rest; is = cc (et, o.is); then = o.then }

content_back : (r d : ℕ) (n : List ℕ) (ns : List (List ℕ)) (x : ℕ) (t : List ℕ) → LS (next (content r d n ns) x) t → ContentL d r n (Rest (suc d) ns) (x ∷ t)
unfolding next
content_back r d n ns x t h =
    pick (eqb x 60) h (λ e g. rw (eqb-true x 60 e) (less_in r d n ns t g.is))
    (λ _ g. pick (eqb x 62 && leb 2 r) g (λ _ g. no g)
    (λ e g. content_lead r d n (Rest (suc d) ns) x t e (lead x) refl (content_next_lem (lead x) (cond (eqb x 93) (suc r) 0) d n ns t g)))

push_back : (d : ℕ) (n : List ℕ) (ns : List (List ℕ)) (x : ℕ) (t : List ℕ) → is_name_start x ≡ true → LS (push d n ns x) t → LessL d n ns (x ∷ t)
push_back zero n ns x t e h = no h
push_back (suc d) n ns x t e h = l_el d refl x e t refl h.is

less_back : (d : ℕ) (n : List ℕ) (ns : List (List ℕ)) (x : ℕ) (t : List ℕ) → LS (next (less d n ns) x) t → LessL d n ns (x ∷ t)
unfolding next
less_back d n ns x t h =
    pick (is_name_start x) h (λ e g. push_back d n ns x t e g)
    (λ _ g. only x 47 g (λ e g. l_close t (put' e refl) g.is))

close_back : (q : List ℕ) (d : ℕ) (ns : List (List ℕ)) (x : ℕ) (t : List ℕ) → LS (close_step q d ns x) t → CloseL q d ns (x ∷ t)
close_back [] d ns x t h =
    pick (is_blank x) h
    (λ e g. let o = g.is in record { gap = x ∷ o.gap; blanks = (e, o.blanks); rest = o.rest; is = put x o.is; then = o.then })
    (λ _ g. only x 62 g (λ e g. record { gap = []; blanks = tt; rest = t; is = put' e refl; then = after_out d ns t g.is }))
close_back (y ∷ q) d ns x t h =
    only x y h (λ e g. let o = g.is in record { gap = o.gap; blanks = o.blanks; rest = o.rest; is = put' e o.is; then = o.then })

-- around the root
before_back : (x : ℕ) (t : List ℕ) → LS (next before x) t → BeforeL (x ∷ t)
unfolding next
before_back x t h =
    pick (is_blank x) h
    (λ e g. let o = g.is in record { gap = x ∷ o.gap; blanks = (e, o.blanks); rest = o.rest; is = put x o.is; then = o.then })
    (λ _ g. only x 60 g (λ e g. record { gap = []; blanks = tt; rest = t; is = put' e refl; then = g.is }))

first_in : (t : List ℕ) → FirstL t → StartL (60 ∷ t)
first_in t (f_root o) = record { declared = false; rest = 60 ∷ t; is = refl; then = record { gap = []; blanks = tt; rest = t; is = refl; then = o } }
first_in t (f_declare u et o) = record { declared = true; rest = u; is = put 60 et; then = o }

start_back : (x : ℕ) (t : List ℕ) → LS (next start x) t → StartL (x ∷ t)
unfolding next
start_back x t h =
    pick (is_blank x) h
    (λ e g. let o = g.is in record { declared = false; rest = x ∷ t; is = refl; then = record { gap = x ∷ o.gap; blanks = (e, o.blanks); rest = o.rest; is = put x o.is; then = o.then } })
    (λ _ g. only x 60 g (λ e g. rw e (first_in t g.is)))

first_back : (x : ℕ) (t : List ℕ) → LS (next first x) t → FirstL (x ∷ t)
unfolding next
first_back x t h =
    pick (is_name_start x) h (λ e g. f_root (record { head = x; starts = e; rest = t; is = refl; then = g.is }))
    (λ _ g. only x 63 g (λ e g. f_declare g.is.0 (put' e g.is.1) g.is.2))

root_back : (x : ℕ) (t : List ℕ) → LS (next root x) t → RootL (x ∷ t)
unfolding next
root_back x t h = pick (is_name_start x) h (λ e g. record { head = x; starts = e; rest = t; is = refl; then = g.is }) (λ _ g. no g)

declare_out : (q : List ℕ) (t : List ℕ) → L (declare_next q) t → (u : List ℕ) × (t ≡ q ++ u) × BeforeL u
declare_out [] t h = (t, refl, h)
declare_out (y ∷ q) t h = h

declare_back : (y : ℕ) (q : List ℕ) (x : ℕ) (t : List ℕ) → LS (next (declare y q) x) t → L (declare y q) (x ∷ t)
unfolding next
declare_back y q x t h = only x y h (λ e g. let o = declare_out q t g.is in (o.0, put' e o.1, o.2))

-- a byte can be put back
pub back : (s : At) (x : ℕ) (t : List ℕ) → LS (next s x) t → L s (x ∷ t)
unfolding next
back done x t h = pick (is_blank x) h (λ e g. (e, g.is)) (λ _ g. no g)
back start x t h = start_back x t h
back first x t h = first_back x t h
back before x t h = before_back x t h
back root x t h = root_back x t h
back (declare y q) x t h = declare_back y q x t h
back (name d n ns) x t h = name_back d n ns x t h
back (tail k ss d n ns) x t h = tail_back k ss d n ns x t h
back (gap k ss d n ns) x t h = gap_back k ss d n ns x t h
back (attr m b k ss d n ns) x t h = attr_back m b k ss d n ns x t h
back (equals k ss d n ns) x t h = equals_back k ss d n ns x t h
back (quote k ss d n ns) x t h = quote_back k ss d n ns x t h
back (value q k ss d n ns) x t h = value_back q k ss d n ns x t h
back (within p q k ss d n ns) x t h = part_back p (ValueL q k ss (EndL d n ns)) x t (go_on p x) refl (value_next_lem (go_on p x) q k ss d n ns t h)
back (slash d ns) x t h = only x 62 h (λ e g. (t, put' e refl, after_out (suc d) ns t g.is))
back (content r d n ns) x t h = content_back r d n ns x t h
back (part p d n ns) x t h = part_back p (ContentL d 0 n (Rest (suc d) ns)) x t (go_on p x) refl (content_next_lem (go_on p x) 0 d n ns t h)
back (less d n ns) x t h = less_back d n ns x t h
back (close q d ns) x t h = close_back q d ns x t h

-- every state takes something
rest_live : (d : ℕ) (ns : List (List ℕ)) → (u : List ℕ) × Rest d ns u
rest_live d [] = ([], tt)
rest_live d (n ∷ ns) = let w = rest_live (suc d) ns in (end_on n [] w.0, record { tree = no_more; good = tt; gap = []; blanks = tt; rest = w.0; is = refl; then = w.1 })

content_live : (r d : ℕ) (n : List ℕ) (ns : List (List ℕ)) → (u : List ℕ) × ContentL d r n (Rest (suc d) ns) u
content_live r d n ns = let w = rest_live (suc d) ns in (end_on n [] w.0, record { tree = no_more; good = tt; gap = []; blanks = tt; rest = w.0; is = refl; then = w.1 })

end_live : (d : ℕ) (n : List ℕ) (ns : List (List ℕ)) → (u : List ℕ) × EndL d n ns u
end_live d n ns = let w = rest_live (suc d) ns in (47 ∷ 62 ∷ w.0, shuts w.0 refl w.1)

tail_live : (k : ℕ) (ss : List (List ℕ)) (d : ℕ) (n : List ℕ) (ns : List (List ℕ)) → (u : List ℕ) × TailL k ss (EndL d n ns) u
tail_live k ss d n ns = let w = end_live d n ns in (w.0, record { attributes = []; good = tt; gap = []; blanks = tt; rest = w.0; is = refl; then = w.1 })

value_live : (q : Quote) (k : ℕ) (ss : List (List ℕ)) (d : ℕ) (n : List ℕ) (ns : List (List ℕ)) → (u : List ℕ) × ValueL q k ss (EndL d n ns) u
value_live q k ss d n ns = let w = tail_live k ss d n ns in (mark q ∷ w.0, record { value = []; good = tt; rest = w.0; is = refl; then = w.1 })

quote_live : (k : ℕ) (ss : List (List ℕ)) (d : ℕ) (n : List ℕ) (ns : List (List ℕ)) → (u : List ℕ) × QuoteL k ss (EndL d n ns) u
quote_live k ss d n ns = let w = value_live double k ss d n ns in (34 ∷ w.0, record { gap = []; blanks = tt; quote = double; rest = w.0; is = refl; then = w.1 })

equals_live : (k : ℕ) (ss : List (List ℕ)) (d : ℕ) (n : List ℕ) (ns : List (List ℕ)) → (u : List ℕ) × EqualsL k ss (EndL d n ns) u
equals_live k ss d n ns = let w = quote_live k ss d n ns in (61 ∷ w.0, record { gap = []; blanks = tt; rest = w.0; is = refl; then = w.1 })

-- letters that end a name in each mode
many_back : (k : ℕ) → Goes late (many k)
unfolding is_name_part
many_back zero = refl
many_back (suc k) = (refl, many_back k)

many_goes : (m : Mode) (k : ℕ) → Goes m (many (suc k))
unfolding is_name_part is_name_start
many_goes early zero = (refl, refl)
many_goes early (suc k) = (refl, many_goes early k)
many_goes colon k = (refl, many_back k)
many_goes late k = (refl, many_back k)

attr_live : (m : Mode) (b : List ℕ) (k : ℕ) (ss : List (List ℕ)) (d : ℕ) (n : List ℕ) (ns : List (List ℕ)) → (u : List ℕ) × AttrL m b k ss (EndL d n ns) u
attr_live m b k ss d n ns =
    let l = many (suc (size ss)) in
    let w = equals_live k ((b ++ l) ∷ ss) d n ns in
    (l ++ w.0, record { letters = l; are = many_goes m (size ss); fresh = grown b ss; rest = w.0; is = refl; then = w.1 })

name_live : (d : ℕ) (n : List ℕ) (ns : List (List ℕ)) → (u : List ℕ) × NameL d n ns u
name_live d n ns = let w = tail_live 4 [] d (n ++ []) ns in (w.0, record { letters = []; are = tt; rest = w.0; is = refl; then = w.1 })

root_live : (u : List ℕ) × RootL u
unfolding is_name_start
root_live = let w = name_live 15 (97 ∷ []) [] in (97 ∷ w.0, record { head = 97; starts = refl; rest = w.0; is = refl; then = w.1 })

before_live : (u : List ℕ) × BeforeL u
before_live = let w = root_live in (60 ∷ w.0, record { gap = []; blanks = tt; rest = w.0; is = refl; then = w.1 })

-- the rest of each unfinished piece
ending : Part → List ℕ
ending one = 128 ∷ []
ending two = 128 ∷ 128 ∷ []
ending three = 128 ∷ 128 ∷ 128 ∷ []
ending e0 = 160 ∷ 128 ∷ []
ending ed = 128 ∷ 128 ∷ []
ending ef = 128 ∷ 128 ∷ []
ending efbf = 128 ∷ []
ending f0 = 144 ∷ 128 ∷ 128 ∷ []
ending f4 = 128 ∷ 128 ∷ 128 ∷ []
ending ampersand = ascii "lt;"
ending ampersand_a = ascii "mp;"
ending (rest y q) = y ∷ q

word_ends : (q : List ℕ) → takes q (to_word q) ≡ true
word_ends [] = refl
word_ends (y ∷ q) = rw (eq-eqb y y refl) (word_ends q)

ends : (p : Part) → takes (ending p) (more p) ≡ true
unfolding ending
ends one = refl
ends two = refl
ends three = refl
ends e0 = refl
ends ed = refl
ends ef = refl
ends efbf = refl
ends f0 = refl
ends f4 = refl
ends ampersand = refl
ends ampersand_a = refl
ends (rest y q) = word_ends (y ∷ q)

part_live : (p : Part) {P : List ℕ → Type 0} → (u : List ℕ) × P u → (u : List ℕ) × PartL p P u
part_live p w = (ending p ++ w.0, record { bytes = ending p; ok = ends p; rest = w.0; is = refl; then = w.1 })

pub live : (s : At) → (t : List ℕ) × L s t
live done = ([], tt)
live start = let w = before_live in (w.0, record { declared = false; rest = w.0; is = refl; then = w.1 })
live first = let w = root_live in (w.0, f_root w.1)
live before = before_live
live root = root_live
live (declare y q) = let w = before_live in (y ∷ (q ++ w.0), (w.0, refl, w.1))
live (name d n ns) = name_live d n ns
live (tail k ss d n ns) = tail_live k ss d n ns
live (gap k ss d n ns) = let w = end_live d n ns in (w.0, g_end [] tt w.0 refl w.1)
live (attr m b k ss d n ns) = attr_live m b k ss d n ns
live (equals k ss d n ns) = equals_live k ss d n ns
live (quote k ss d n ns) = quote_live k ss d n ns
live (value q k ss d n ns) = value_live q k ss d n ns
live (within p q k ss d n ns) = part_live p (value_live q k ss d n ns)
live (slash d ns) = let w = rest_live (suc d) ns in (62 ∷ w.0, (w.0, refl, w.1))
live (content r d n ns) = content_live r d n ns
live (part p d n ns) = part_live p (content_live 0 d n ns)
live (less d n ns) = let w = rest_live (suc d) ns in (47 ∷ (n ++ (62 ∷ w.0)), l_close (n ++ (62 ∷ w.0)) refl (record { gap = []; blanks = tt; rest = w.0; is = refl; then = w.1 }))
live (close q d ns) = let w = rest_live d ns in (q ++ (62 ∷ w.0), record { gap = []; blanks = tt; rest = w.0; is = refl; then = w.1 })
