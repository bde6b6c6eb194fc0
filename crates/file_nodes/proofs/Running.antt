-- A run over the nodes of a list is what is left of a message. Assumes nothing.
use mathlib.Core.Path.{◌≡◌, refl, sym, ◌∙◌, ap, subst}
use mathlib.Core.Bool.{true, false, true≢false}
use mathlib.Core.List.{List, [], ◌∷◌, ◌++◌, append_assoc, append-nil}
use mathlib.Core.Option.{Option, none, some}
use Prim.Native.Nat.{ℕ, suc, ◌<◌}
use Rattle.text.specs.Bytes.{ascii, is_blank, is_name_start, is_name_part}
use Rattle.text_characters.specs.Pieces.{less, greater, solidus}
use Rattle.list.specs.Listing.{Leaf, ref, iban, ccy, bool, num, amt, date, dtm, txt, enum, Listing, row_at, Child, is_group}
use Rattle.list.specs.Listing as list
use Rattle.list.specs.WellFormed.{WellFormed}
use Rattle.xml.specs.House.{IsName, unprefixed, Quote, mark, Attr, Tag, tag, GoodTag, GoodMarkup}
use Rattle.xml.specs.Message.{attrs_of}
use Rattle.file_walk.specs.Types.{Spelling, LeafAttrs, priced, unpriced}
use Rattle.value.specs.types.Code.{Ccy}
use Rattle.value_leaf.specs.Took.{TookAs, Uncut}
use Rattle.file_walk.specs.First.{currency_given}
use Rattle.image.specs.mirror.Follow.{parent_of}
use Rattle.file.specs.Instance.{Kinds}
use Rattle.file_nodes.specs.Run.{Sort, Node, Head, Run, blank, else, ends, closes, opens, tells}
use Rattle.file_nodes.specs.Fitting.{coined, given, front, opening, closing, Enters, Fit, NodesFit}
use Rattle.file_nodes.proofs.Rooms.{room, deeper}
use Rattle.file_nodes.proofs.Texting.{text_good, pieced, pieced_is, pieced_chars, pieced_good, capitals_unmarked, attr_bytes}
use Rattle.file_nodes.proofs.Laning.{shut_tag, Left, Above, above, root, blanked, climb, opened, told, textly}
use Rattle.file_nodes.proofs.Laning as laning

-- the tags of a leaf
abbrev plainly : List ℕ → Tag
plainly n = record { name = n; attributes = []; gap = [] }

abbrev coin : Quote → List ℕ → Attr
coin q w = record { gap = 32 ∷ []; name = ascii "Ccy"; before = []; after = []; quote = q; value = pieced w }

abbrev coinly : Quote → List ℕ → List ℕ → Tag
coinly q w n = record { name = n; attributes = coin q w ∷ []; gap = [] }

abbrev tagly : Option Quote → List ℕ → List ℕ → Tag
tagly none w n = plainly n
tagly (some q) w n = coinly q w n

tagly_name : (h : Option Quote) (w n : List ℕ) → n ≡ (tagly h w n).name
tagly_name none w n = refl
tagly_name (some q) w n = refl

tagly_good : (h : Option Quote) (x w n : List ℕ) → Head h x w → IsName n → GoodTag (tagly h w n)
unfolding is_blank is_name_start is_name_part
tagly_good none x w n e i = record { name = i; attributes = tt; gap = tt }
tagly_good (some q) x w n e i = record {
  name = i;
  attributes = (record { gap = (refl, tt); name = unprefixed (refl, (refl, (refl, tt))); before = tt; after = tt; value = pieced_good q w (capitals_unmarked w e.1.capitals) }, tt, tt);
  gap = tt;
}

tagly_currency : (h : Option Quote) (x w n : List ℕ) → Head h x w → currency_given (attrs_of (tagly h w n).attributes) ≡ w
tagly_currency none x w n e = sym e.1
tagly_currency (some q) x w n e = pieced_chars w

-- the whole tag, in the bytes of the node and what comes after them
tagly_is : (h : Option Quote) (x w n t : List ℕ) → Head h x w → (less ∷ (n ++ front h)) ++ (x ++ t) ≡ less ∷ (tag (tagly h w n) ++ (greater ∷ t))
tagly_is none x w n t e =
    ap (λ (z : List ℕ). (less ∷ (n ++ (greater ∷ []))) ++ (z ++ t)) e.0
    ∙ ap (λ (z : List ℕ). less ∷ z) (append_assoc n (greater ∷ []) t ∙ ap (λ (z : List ℕ). z ++ (greater ∷ t)) (sym (append-nil n)))
tagly_is (some q) x w n t e =
    ap (λ (z : List ℕ). (less ∷ (n ++ front (some q))) ++ (z ++ t)) e.0
    ∙ attr_bytes n (ascii " Ccy=") w (mark q) t
    ∙ ap (λ (z : List ℕ). less ∷ ((n ++ (((ascii " Ccy=" ++ (mark q ∷ (z ++ (mark q ∷ [])))) ++ []) ++ [])) ++ (greater ∷ t))) (sym (pieced_is w (capitals_unmarked w e.1.capitals)))

no_coin : (k : Kinds) (f : Leaf) → coined f ≡ false → LeafAttrs k.types f []
no_coin k f e = unpriced (λ z. true≢false (sym (ap coined z) ∙ e)) refl

coined_amt : (f : Leaf) → coined f ≡ true → f ≡ amt
coined_amt amt e = refl
coined_amt ref e = absurd (true≢false (sym e))
coined_amt iban e = absurd (true≢false (sym e))
coined_amt ccy e = absurd (true≢false (sym e))
coined_amt bool e = absurd (true≢false (sym e))
coined_amt num e = absurd (true≢false (sym e))
coined_amt date e = absurd (true≢false (sym e))
coined_amt dtm e = absurd (true≢false (sym e))
coined_amt (txt j) e = absurd (true≢false (sym e))
coined_amt (enum ws) e = absurd (true≢false (sym e))

-- three capitals are a currency
abbrev pub Money : Kinds → Type 0
Money k = (w : List ℕ) → Ccy w → (v : k.types.A) × k.types.Spelt ccy [] w v

one_coin : (k : Kinds) (f : Leaf) (q : Quote) (w n : List ℕ) → Money k → coined f ≡ true → Ccy w → LeafAttrs k.types f (attrs_of (coinly q w n).attributes)
one_coin k f q w n m e c = priced (coined_amt f e) w (m w c).0 (m w c).1 (ap (λ (z : List ℕ). (ascii "Ccy", z) ∷ []) (pieced_chars w))

tagly_attrs : (k : Kinds) (f : Leaf) (h : Option Quote) (x w n : List ℕ) → Money k → coined f ≡ given h → Head h x w → LeafAttrs k.types f (attrs_of (tagly h w n).attributes)
tagly_attrs k f none x w n m c e = no_coin k f c
tagly_attrs k f (some q) x w n m c e = one_coin k f q w n m c e.1

module _ (k : Kinds) (y : Spelling k.types) (money : Money k) (l : Listing) (wf : WellFormed l) (May : ℕ → ℕ → ℕ → Type 0) (at : ℕ → Node) (nodes : NodesFit l May at) where
  abbrev Lefts : ℕ → ℕ → List ℕ → List ℕ → Type 0
  Lefts p q t m = Left k l (room l) p q t m

  closing_is : (p : ℕ) (u : List ℕ) → closing l p ++ u ≡ shut_tag k l p u
  closing_is p u = ap (λ (z : List ℕ). less ∷ solidus ∷ z) (append_assoc (row_at l p).name (greater ∷ []) u)

  closed : (p : ℕ) (g t u : List ℕ) → g ≡ closing l p → t ≡ g ++ u → t ≡ shut_tag k l p u
  closed p g t u e i = i ∙ ap (λ (z : List ℕ). z ++ u) e ∙ closing_is p u

  entered : (p q r : ℕ) (m t u g : List ℕ) → 1 < r → Enters l p q r → is_group (row_at l r).kind ≡ true → g ≡ opening l r (greater ∷ []) → t ≡ g ++ u → Lefts r 0 u m → Lefts p q t (r ∷ m)
  entered p q r m t u g h f c d e i =
      let a = subst (λ (z : ℕ). Above k l (room l) z r i.rest i.few) f.fits.child.parent (above k l (room l) h i.up) in
      opened k l (room l) (λ p r c d. deeper l wf p r c) p q r m [] t u f.fits f.name h c tt i
      a.tree a.content a.stands a.rest a.few a.is a.up a.size
      (e ∙ ap (λ (z : List ℕ). z ++ u) d ∙ ap (λ (z : List ℕ). less ∷ z) (append_assoc (row_at l r).name (greater ∷ []) u))

  taken : (p q r : ℕ) (f : Leaf) (h : Option Quote) (m t u g x w raw vs j : List ℕ) → (row_at l r).kind ≡ list.leaf f → Enters l p q r → coined f ≡ given h → g ≡ opening l r (front h) → j ≡ closing l r
      → t ≡ g ++ (x ++ (raw ++ (j ++ u))) → Head h x w → TookAs k.types.Spelt k.bytes f w raw vs → Lefts p r u m → Lefts p q t (r ∷ (vs ++ m))
  taken p q r f h m t u g x w raw vs j kind fits coin eg ej e hd o i =
      let n : List ℕ = (row_at l r).name in
      let v = o.value in
      let good : (d : ℕ) → GoodMarkup d (textly o.spells.pieces) = text_good o.spells.pieces o.spells.good (subst Uncut o.spells.is o.uncut) in
      let is : t ≡ less ∷ (tag (tagly h w n) ++ (greater ∷ (raw ++ shut_tag k l r u))) =
      e ∙ ap (λ (z : List ℕ). z ++ (x ++ (raw ++ (j ++ u)))) eg ∙ ap (λ (z : List ℕ). opening l r (front h) ++ (x ++ (raw ++ z))) (ap (λ (z : List ℕ). z ++ u) ej ∙ closing_is r u)
      ∙ tagly_is h x w n (raw ++ shut_tag k l r u) hd in
      let d : (p r : ℕ) → Child l p r → (d : ℕ) × (room l p ≡ suc d) = λ p r c. (room l r, deeper l wf p r c) in
      subst (λ (z : List ℕ). Lefts p q t (r ∷ (z ++ m))) (sym o.is)
      (told k l (room l) d p q r m [] t u raw (tagly h w n) f o.chars v fits.fits kind (tagly_name h w n) (tagly_good h x w n hd fits.name)
      (tagly_attrs k f h x w n money coin hd) o.spells good (subst (λ (z : List ℕ). k.types.Spelt f z o.chars v) (sym (tagly_currency h x w n hd)) o.spelt)
      (y.is f w o.chars v o.spelt) tt i is)

  pub left : {n : ℕ} {t bs : List ℕ} → Run k at n t bs → (p q : ℕ) → May n p q → Lefts p q t bs
  left {n} {t} {bs} (blank b u w e run) p q m = blanked k l (room l) p q bs b t u w e (left run p q m)
  left {n} (else z never h run) p q m = left run p q (nodes.handed n p q m h)
  left {n} {t} {bs} (ends u s e w z) p q m =
      let f = subst (λ (o : Sort). Fit l May o (at n) p q) s (nodes.fit n p q m) in
      laning.shut k l (room l) p q bs [] t u f.1 tt (closed p (at n).tag t u f.2 e) (root f.0 w z)
  left {n} {t} {bs} (closes u s e run) p q m =
      let f = subst (λ (o : Sort). Fit l May o (at n) p q) s (nodes.fit n p q m) in
      laning.shut k l (room l) p q bs [] t u f.1 tt (closed p (at n).tag t u f.2 e) (climb k l (room l) p bs u f.0 (left run (parent_of l p) p f.3))
  left {n} {t} {bs} (opens u cs s e run z) p q m =
      let f = subst (λ (o : Sort). Fit l May o (at n) p q) s (nodes.fit n p q m) in
      subst (λ (i : List ℕ). Lefts p q t i) (sym z) (entered p q (at n).row cs t u (at n).tag f.0 f.1 f.2 f.3 e (left run (at n).row 0 f.4))
  left {n} {t} {bs} (tells g h w cur raw vs u cs s e hd o run z) p q m =
      let f = subst (λ (o : Sort). Fit l May o (at n) p q) s (nodes.fit n p q m) in
      subst (λ (i : List ℕ). Lefts p q t i) (sym z)
      (taken p q (at n).row g h cs t u (at n).tag w cur raw vs (at n).close f.0 f.1 f.2 f.3 f.4 e hd o (left run p (at n).row f.5))
