-- The tree that is written for a content is good house XML. Assumes nothing.
use mathlib.Core.Path.{◌≡◌, refl, sym, ◌∙◌, ap, ap₂, subst}
use mathlib.Core.Bool.{Bool, true, false, cond, ◌&&◌, true≢false}
use mathlib.Core.Logic.{◌≢◌, inl, inr}
use mathlib.Core.List.{List, [], ◌∷◌, ◌++◌}
use Prim.Native.Nat.{ℕ, zero, suc, ◌+◌, ◌≤◌, ◌<◌}
use native.Mathlib.Omega.{arith}
use native.Mathlib.Decide.{ℕ_discrete, dec_lt}
use lib.Dec.{eqb}
use lib.ListN.{length}
use borrow.Author.Tests.{eq-eqb, ne_eqb}
use Rattle.text.specs.Bytes.{ascii, is_unmarked, is_capital, is_name_start, is_name_part, is_blank}
use Rattle.text.specs.Lists.{Each}
use Rattle.text.proofs.Classes as classes
use Rattle.text_characters.proofs.Resolving.{XmlChar, xml_char_yes}
use Rattle.text_characters.specs.Pieces.{less, ampersand, greater, bracket, quotation, Piece, char, entity, amp, lt, gt, spell, spells, resolved_all, GoodPiece, Spells}
use Rattle.text_characters.proofs.Unmarked.{unmarked}
use Rattle.list.specs.Listing.{Leaf, Kind, group, choice, leaf, Listing, row_at, Child}
use Rattle.list.specs.tables.Sound.{level}
use Rattle.list.specs.WellFormed.{WellFormed, LeafOk, KindOk}
use Rattle.list.proofs.rows.Levels.{level_root, level_child, level_bound}
use Rattle.list.specs.Content.{Content, end, value, node, rows, items, Good, Meets, ValueOf}
use Rattle.list.specs.Changed.{Gone}
use Rattle.list.proofs.Retired.{each_first, each_last}
use Rattle.value.specs.Rules.{InThousandths}
use Rattle.value.specs.Value.{Value, IsValue, Spelt}
use Rattle.value.proofs.classes.Classes.{each_all}
use Rattle.xml.proofs.Cuts.{is_char, begins, following, is_cut, no_cut}
use Rattle.xml.specs.House.{IsName, IsAttrName, double, GoodValue, GoodAttr, GoodTag, Markup as Tags, no_more as over, piece, empty_tag, full, render, GoodMarkup as Fine, GoodTree}
use Rattle.value.specs.script.Script.{script_of, currency_of}
use Rattle.value.specs.script.Raw.{piece_of, raw_of}
use Rattle.file_letter.proofs.tree.Trees.{plainly, root_in, tree_of}
use Rattle.file_letter.specs.Letter.{text_in, attr_of, tag_of, coin_of, words_in, tree_in}
use Rattle.value.proofs.script.Scripts.{script_spelt}
use Rattle.image.specs.Kinds.{values}
use Rattle.image.specs.Image.{Item}
use Rattle.file_letter.specs.Stale.{NoneOf, Withdrawn}
use Rattle.file_letter.proofs.tree.Chars.{script_inked, script_chars}
use Rattle.file_letter.proofs.tree.Has.{one_piece, rooted}

-- ---- texts: each character is a good piece, and no `>` stands as it is

good_piece : (c : ℕ) → XmlChar c → GoodPiece (piece_of c)
good_piece c x = go (ℕ_discrete c 38) (ℕ_discrete c 60) (ℕ_discrete c 62)
  where
    go : Dec (c ≡ 38) → Dec (c ≡ 60) → Dec (c ≡ 62) → GoodPiece (piece_of c)
    go (yes e) b d = subst (λ (z : Bool). GoodPiece (cond z (entity amp) (cond (eqb c 60) (entity lt) (cond (eqb c 62) (entity gt) (char c))))) (sym (eq-eqb c 38 e)) tt
    go (no n) (yes e) d = rw (ne_eqb c 38 n, eq-eqb c 60 e) tt
    go (no n) (no m) (yes e) = rw (ne_eqb c 38 n, ne_eqb c 60 m, eq-eqb c 62 e) tt
    go (no n) (no m) (no k) = rw (ne_eqb c 38 n, ne_eqb c 60 m, ne_eqb c 62 k) (xml_char_yes c x, m, n)

no_greater : (cs : List ℕ) → begins greater (text_in cs) ≡ false
no_greater [] = refl
no_greater (c ∷ cs) = go (ℕ_discrete c 38) (ℕ_discrete c 60) (ℕ_discrete c 62)
  where
    go : Dec (c ≡ 38) → Dec (c ≡ 60) → Dec (c ≡ 62) → is_char 62 (piece_of c) ≡ false
    go (yes e) b d = rw (eq-eqb c 38 e)
    go (no n) (yes e) d = rw (ne_eqb c 38 n, eq-eqb c 60 e)
    go (no n) (no m) (yes e) = rw (ne_eqb c 38 n, ne_eqb c 60 m, eq-eqb c 62 e)
    go (no n) (no m) (no k) = ap (λ (z : Bool). is_char 62 (cond z (entity amp) (cond (eqb c 60) (entity lt) (cond (eqb c 62) (entity gt) (char c))))) (ne_eqb c 38 n)
        ∙ ap (λ (z : Bool). is_char 62 (cond z (entity lt) (cond (eqb c 62) (entity gt) (char c)))) (ne_eqb c 60 m) ∙ ap (λ (z : Bool). is_char 62 (cond z (entity gt) (char c))) (ne_eqb c 62 k) ∙ ne_eqb c 62 k

and_no : (a b : Bool) → (a && (b && false)) ≡ false
and_no true true = refl
and_no true false = refl
and_no false b = refl

behind_text : (cs : List ℕ) → begins greater (following (text_in cs)) ≡ false
behind_text [] = refl
behind_text (c ∷ cs) = no_greater cs

uncut : (c : ℕ) (cs : List ℕ) → is_cut (piece (piece_of c) (text_in cs)) ≡ false
uncut c cs = ap (λ (z : Bool). begins bracket (piece (piece_of c) (text_in cs)) && (begins bracket (text_in cs) && z)) (behind_text cs) ∙ and_no (is_char bracket (piece_of c)) (begins bracket (text_in cs))

good_text : (cs : List ℕ) (d : ℕ) → Each XmlChar cs → Fine d (text_in cs)
good_text [] d h = tt
good_text (c ∷ cs) d h = (good_piece c h.0, no_cut (piece (piece_of c) (text_in cs)) (uncut c cs), good_text cs d h.1)

-- so the bytes of a text as it is written spell its characters, `&`, `<` and `>` by entities, every other as it stands
pieces_of : List ℕ → List Piece
pieces_of [] = []
pieces_of (c ∷ cs) = piece_of c ∷ pieces_of cs

good_pieces : (cs : List ℕ) → Each XmlChar cs → Each GoodPiece (pieces_of cs)
unfolding pieces_of
good_pieces [] h = tt
good_pieces (c ∷ cs) h = (good_piece c h.0, good_pieces cs h.1)

rendered : (cs : List ℕ) → render (text_in cs) ≡ spells (pieces_of cs)
unfolding pieces_of
rendered [] = refl
rendered (c ∷ cs) = ap (λ (u : List ℕ). spell (piece_of c) ++ u) (rendered cs)

-- which are the bytes that are written for them
pub text_raw_lem : (cs : List ℕ) → render (text_in cs) ≡ raw_of cs
text_raw_lem [] = refl
text_raw_lem (c ∷ cs) = ap (λ (u : List ℕ). spell (piece_of c) ++ u) (text_raw_lem cs)

resolves : (cs : List ℕ) → cs ≡ resolved_all (pieces_of cs)
unfolding pieces_of
resolves [] = refl
resolves (c ∷ cs) = ap₂ ◌∷◌ (sym (one_piece c)) (resolves cs)

pub text_spells : (cs : List ℕ) → Each XmlChar cs → Spells (render (text_in cs)) cs
text_spells cs h = record { pieces = pieces_of cs; good = good_pieces cs h; is = rendered cs; chars = resolves cs }

-- every value of a type that is no finer than the present rule is spelt by some raw text
pub every_raw : (f : Leaf) (v : Value) → LeafOk f → IsValue f v → InThousandths v → Spells (render (text_in (script_of f v))) (script_of f v) × Spelt f (currency_of v) (script_of f v) v
every_raw f v ok h q = (text_spells (script_of f v) (script_chars f v ok h), script_spelt f v h q)

-- ---- attributes

abbrev Quiet : ℕ → Type 0
Quiet c = XmlChar c × (c ≢ less) × (c ≢ ampersand) × (c ≢ quotation)

quiet_value : (cs : List ℕ) → Each Quiet cs → GoodValue double (plainly cs)
quiet_value [] h = tt
quiet_value (c ∷ cs) h = (((xml_char_yes c h.0.0, h.0.1, h.0.2), (λ e. h.0.3 (cc e))), quiet_value cs h.1)

blank_32 : is_blank 32 ≡ true
unfolding is_blank
blank_32 = refl

good_attr : (n v : List ℕ) → IsName n → Each Quiet v → GoodAttr (attr_of n v)
good_attr n v i q = record { gap = (blank_32, tt); name = IsAttrName.unprefixed i; before = tt; after = tt; value = quiet_value v q }

good_tag : (n : List ℕ) → IsName n → GoodTag (tag_of n [])
good_tag n i = record { name = i; attributes = tt; gap = tt }

good_tag_one : (n m v : List ℕ) → IsName n → IsName m → Each Quiet v → GoodTag (tag_of n (attr_of m v ∷ []))
good_tag_one n m v i j q = record { name = i; attributes = (good_attr m v j q, tt, tt); gap = tt }

-- ---- what is written between quotes: the namespace and currencies

unmarked_quiet : (x : ℕ) → is_unmarked x ≡ true → Quiet x
unmarked_quiet x e = go (dec_lt x 33) (dec_lt 126 x) (ℕ_discrete x 60) (ℕ_discrete x 38) (ℕ_discrete x 34)
  where
    go : Dec (x < 33) → Dec (126 < x) → Dec (x ≡ 60) → Dec (x ≡ 38) → Dec (x ≡ 34) → Quiet x
    go (yes h) b c d f = absurd (true≢false (sym e ∙ sym (classes.no unmarked (omega arith))))
    go (no h) (yes b) c d f = absurd (true≢false (sym e ∙ sym (classes.no unmarked (omega arith))))
    go (no h) (no b) (yes c) d f = absurd (true≢false (sym e ∙ sym (classes.no unmarked (omega arith))))
    go (no h) (no b) (no c) (yes d) f = absurd (true≢false (sym e ∙ sym (classes.no unmarked (omega arith))))
    go (no h) (no b) (no c) (no d) (yes f) = absurd (true≢false (sym e ∙ sym (classes.no unmarked (omega arith))))
    go (no h) (no b) (no c) (no d) (no f) = (XmlChar.low (omega arith) (omega arith), c, d, f)

capital_quiet : (x : ℕ) → is_capital x ≡ true → Quiet x
capital_quiet x e =
    let r = classes.is_in classes.capital x e in
    (XmlChar.low (omega arith) (omega arith), (λ q. omega arith), (λ q. omega arith), (λ q. omega arith))

name_ccy : IsName (ascii "Ccy")
unfolding is_name_start is_name_part
name_ccy = (refl, (refl, (refl, tt)))

name_xmlns : IsName (ascii "xmlns")
unfolding is_name_start is_name_part
name_xmlns = (refl, (refl, (refl, (refl, (refl, tt)))))

coined : (f : Leaf) (v : Value) (n : List ℕ) → IsValue f v → IsName n → GoodTag (tag_of n (coin_of v))
coined f v n (IsValue.reference r) i = good_tag n i
coined f v n (IsValue.writing r) i = good_tag n i
coined f v n (IsValue.account r) i = good_tag n i
coined f v n (IsValue.currency r) i = good_tag n i
coined f v n (IsValue.listed a b) i = good_tag n i
coined f v n IsValue.either i = good_tag n i
coined f v n (IsValue.count h) i = good_tag n i
coined f v n (IsValue.money {w = w} c b) i = good_tag_one n (ascii "Ccy") w i name_ccy (each_all is_capital Quiet capital_quiet w c.capitals)
coined f v n (IsValue.dated r) i = good_tag n i
coined f v n (IsValue.timed p) i = good_tag n i

-- ---- elements

module _ (l : Listing) (wf : WellFormed l) where
  texts : (k : Kind) (v : Value) → KindOk k → ValueOf IsValue l k v → Each XmlChar (words_in k v)
  texts group v ok h = absurd h
  texts choice v ok h = absurd h
  texts (leaf f) v ok h = script_chars f v ok h

  tags : (k : Kind) (v : Value) (n : List ℕ) → ValueOf IsValue l k v → IsName n → GoodTag (tag_of n (coin_of v))
  tags group v n h i = absurd h
  tags choice v n h i = absurd h
  tags (leaf f) v n h i = coined f v n h i

  -- a row that is not gone has a name
  named : (p r : ℕ) → Child l p r → (Gone l r → ⊥) → IsName (row_at l r).name
  named p r c h = elim (wf.names p r c) [
    | inl e ↦ absurd (h e)
    | inr n ↦ n
  ]

  good_in : (c : Content Value) (p d : ℕ) → level l p + d ≡ 16 → Each (Child l p) (rows c) → NoneOf (Withdrawn l) (items c) → Good IsValue l c → Fine d (tree_in l [] c)
  good_in end p d e a q g = tt
  good_in (value r v k) p zero e a q g = absurd (omega (arith, level_bound l wf p r a.0, level_child l wf p r a.0))
  good_in (value r v k) p (suc d) e a q g = (
    tags (row_at l r).kind v (row_at l r).name g.0 (named p r a.0 q.0),
    good_text (words_in (row_at l r).kind v) d (texts (row_at l r).kind v (wf.kinds p r a.0) g.0),
    tt,
    good_in k p (suc d) e a.1 q.1 g.1,
  )
  good_in (node r c k) p zero e a q g = absurd (omega (arith, level_bound l wf p r a.0, level_child l wf p r a.0))
  good_in (node r c k) p (suc d) e a q g = (
    good_tag (row_at l r).name (named p r a.0 q.0),
    good_in c r d (omega (arith, level_child l wf p r a.0)) g.0.1.theirs (each_first (λ (i : Item values). Withdrawn l i → ⊥) (items c) (items k) q.1) g.1,
    tt,
    good_in k p (suc d) e a.1 (each_last (λ (i : Item values). Withdrawn l i → ⊥) (items c) (items k) q.1) g.2,
  )

  root_child : Child l 0 1
  root_child = record { first = omega arith; last = wf.root.0; parent = wf.root.2 }

  root_in_lem : (kids : Content Value) → NoneOf (Withdrawn l) (items (node 1 kids end)) → Good IsValue l (node 1 kids end) → Fine 16 (root_in l (node 1 kids end))
  root_in_lem kids q g = (
    good_tag_one (row_at l 1).name (ascii "xmlns") l.space wf.root_name name_xmlns (each_all is_unmarked Quiet unmarked_quiet l.space wf.space),
    good_in kids 1 15 (omega (arith, level_child l wf 0 1 root_child, level_root l)) g.0.1.theirs (each_first (λ (i : Item values). Withdrawn l i → ⊥) (items kids) [] q.1) g.1,
    tt,
    tt,
  )

  -- the tree that is written for a content is good, where no row of it is gone
  pub letter_good : (c : Content Value) → Meets IsValue l c → NoneOf (Withdrawn l) (items c) → GoodTree (tree_of l c)
  letter_good c m q =
      let w = rooted l wf c m in
      let k = subst (λ (x : Content Value). NoneOf (Withdrawn l) (items x)) w.is q in
      subst (λ (x : Content Value). GoodTree (tree_of l x)) (sym w.is) (record { before = tt; one = refl; root = root_in_lem w.kids k (subst (Good IsValue l) w.is m.good); after = tt })

-- ---- no element is written empty: none is `<a/>`, and none is `<a></a>`

abbrev pub Filled : Tags → Type 0
Filled over = Unit {0}
Filled (piece p k) = Filled k
Filled (empty_tag t k) = ⊥
Filled (full t i g k) = (i ≢ over) × Filled i × Filled k

is_over : Tags → Bool
is_over over = true
is_over (piece p k) = false
is_over (empty_tag t k) = false
is_over (full t i g k) = false

text_more : (cs : List ℕ) → 1 ≤ length cs → text_in cs ≢ over
unfolding is_over
text_more [] h e = omega arith
text_more (c ∷ cs) h e = true≢false (sym (ap is_over e))

text_filled : (cs : List ℕ) → Filled (text_in cs)
text_filled [] = tt
text_filled (c ∷ cs) = text_filled cs

module _ (l : Listing) (wf : WellFormed l) where
  kids_more : (c : Content Value) → 0 < length (rows c) → tree_in l [] c ≢ over
  unfolding is_over
  kids_more end h e = omega arith
  kids_more (value r v k) h e = true≢false (sym (ap is_over e))
  kids_more (node r c k) h e = true≢false (sym (ap is_over e))

  words_some : (k : Kind) (v : Value) → KindOk k → ValueOf IsValue l k v → 1 ≤ length (words_in k v)
  words_some group v ok h = absurd h
  words_some choice v ok h = absurd h
  words_some (leaf f) v ok h = (script_inked f v ok h).some

  filled_in : (c : Content Value) (p : ℕ) → Each (Child l p) (rows c) → Good IsValue l c → Filled (tree_in l [] c)
  filled_in end p a g = tt
  filled_in (value r v k) p a g = (
    text_more (words_in (row_at l r).kind v) (words_some (row_at l r).kind v (wf.kinds p r a.0) g.0),
    text_filled (words_in (row_at l r).kind v),
    filled_in k p a.1 g.1,
  )
  filled_in (node r c k) p a g = (kids_more c g.0.1.nonempty, filled_in c r g.0.1.theirs g.1, filled_in k p a.1 g.2)

  pub no_empty_tag : (c : Content Value) → Meets IsValue l c → Filled (tree_of l c).root
  no_empty_tag c m =
      let w = rooted l wf c m in
      let g : Good IsValue l (node 1 w.kids end) = subst (Good IsValue l) w.is m.good in
      subst (λ (x : Content Value). Filled (tree_of l x).root) (sym w.is) (kids_more w.kids g.0.1.nonempty, filled_in w.kids 1 g.0.1.theirs g.1, tt)
