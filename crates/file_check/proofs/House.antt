-- The pass that writes with document 01's types, from what the code's calls told. Assumes nothing.
use Rattle.std.specs.Prelude.{Option as Told, None, Some, Ok, is_ok, is_some}
use mathlib.Core.Path.{◌≡◌, refl, sym, ◌∙◌, ap, subst}
use mathlib.Core.Logic.{◌≢◌}
use mathlib.Core.Bool.{Bool, true, false}
use mathlib.Core.List.{List, [], ◌∷◌}
use Prim.Native.Nat.{ℕ, ◌+◌, ◌-◌, ◌≤◌, ◌<◌}
use native.Mathlib.Omega.{arith}
use lib.ListN.{length, drop}
use lib.Seq.{slice}
use Rattle.text.specs.Bytes.{is_blank}
use Rattle.text.specs.Lists.{span}
use Rattle.text.specs.Pasting.{pasted}
use Rattle.text_characters.specs.Pieces.{less, greater, solidus}
use Rattle.list.specs.tables.Table.{cell, list_of}
use Rattle.list.specs.Listing.{child}
use Rattle.list.specs.tables.Sound.{Sound}
use Rattle.xml.specs.House.{HouseXml}
use Rattle.xml_tags.specs.declared.token.Token.{Token}
use Rattle.xml_tags.specs.Marks.{but, head_is, behind}
use Rattle.xml_tags.specs.mirror.Tokens.{open_at}
use Rattle.file_walk.specs.declared.step.Here.{Here}
use Rattle.xml_tags.specs.declared.skim.Tag.{Tag}
use Rattle.xml_tags.specs.mirror.Skimmed.{tag_of}
use Rattle.list.specs.tables.Numbers.{is_group_in}
use Rattle.file_walk.specs.mirror.Begin.{Rooted, begin_in}
use Rattle.file.specs.Instance.{house_kinds}
use Rattle.file.proofs.answers.House.{spelling}
use Rattle.file_check.specs.declared.fill.Spot.{Spot}
use Rattle.file_measure.specs.Pass.{Shuts}
use Rattle.image_head.specs.Head.{HeadPut}
use Rattle.file_check.specs.Fill.{spot_at, Comes, Fillable, FilledIn}
use Rattle.file_measure.proofs.Coin.{coins}
use Rattle.file_measure.proofs.End.{filled_of}
use Rattle.file_measure.proofs.House.{house_computed}
use Rattle.file_check.proofs.Going.{Writing, begins, first_spot, tag_in, place_low, same_room, spot_ends, out_less, spot_out, comes, row_low, in_less, spot_in, close_in, leaf_less, spot_some, spot_past}

-- where the pass stands, whatever says that the tables are sound and the text is house XML
abbrev pub WritingOn : List ℕ → List ℕ → List ℕ → List ℕ → ℕ → List ℕ → Spot → ℕ → Type 0
WritingOn t pool s d₁ a₁ d here at = (sd : Sound t pool) (x : HouseXml s) → Writing house_computed t pool s sd x d₁ a₁ d here at

pub fill_first : (t pool s : List ℕ) → (n : ℕ) → Fillable house_kinds t pool s n → (first : Here) → Ok first ≡ begin_in t pool s → (here : Spot) → here ≡ spot_at 1 None first.at
    → (d₀ : List ℕ) (a₁ : ℕ) (d₁ : List ℕ) → HeadPut n d₀ a₁ d₁ → WritingOn t pool s d₁ a₁ d₁ here a₁
fill_first t pool s n pre first e here h d₀ a₁ d₁ p sd x =
    subst (λ (u : Spot). Writing house_computed t pool s sd x d₁ a₁ d₁ u a₁) (sym h) (first_spot house_computed t pool s sd x d₁ a₁ coins (pre.none x) d₀ (p (list_of t pool) pre.kind) first e)

-- the root's tag is met
pub fill_begins : (t pool s : List ℕ) (n : ℕ) → Fillable house_kinds t pool s n → (tried : Rooted) → tried ≡ begin_in t pool s → is_ok tried ≡ true
fill_begins t pool s n pre tried e = begins house_computed t pool s pre.ready.sound pre.ready.xml [] 0 coins (pre.none pre.ready.xml) tried e

-- what a turn has been told when it stands before a tag: the buffer began as d₁ with the head up to a₁, and is d now
pub record AtTag : Type 0 where
  pub t : List ℕ
  pub pool : List ℕ
  pub s : List ℕ
  pub byte : ℕ
  pub pre : Fillable house_kinds t pool s byte
  pub d₁ : List ℕ
  pub a₁ : ℕ
  pub d : List ℕ
  pub here : Spot
  pub at : ℕ
  pub stands : WritingOn t pool s d₁ a₁ d here at
  pub o : ℕ
  pub blanks : o ≡ here.at + span is_blank (drop here.at s)

module _ (turn : AtTag) where
  open turn use {t, pool, s, byte, pre, d₁, a₁, d, here, at, stands, o, blanks}

  abbrev sd : Sound t pool
  sd = pre.ready.sound

  abbrev x : HouseXml s
  x = pre.ready.xml

  pub name_in : o < length s
  name_in = tag_in house_computed t pool s sd x d₁ a₁ coins (pre.none x) d here at (stands sd x) o blanks

  pub fill_low : at ≤ 1000000000000
  fill_low = place_low house_computed t pool s sd x d₁ a₁ coins (pre.none x) d here at (stands sd x) o blanks pre.ready.small

  pub fill_room : (d₀ : List ℕ) → HeadPut byte d₀ a₁ d₁ → length d ≡ length d₀
  fill_room d₀ p = same_room house_computed t pool s sd x d₁ a₁ coins (pre.none x) d here at (stands sd x) o blanks ∙ (p (list_of t pool) pre.kind).long

  -- a closing tag
  module _ (c : Bool) (closes : c ≡ head_is solidus (drop (o + 1) s)) (y : c ≡ true) where
    pub fill_ends : here.row ≡ 1 → (d₀ : List ℕ) → HeadPut byte d₀ a₁ d₁ → (d' : List ℕ) → d' ≡ pasted d at (0 ∷ [])
        → FilledIn house_kinds (list_of t pool) s d₀ d'
    fill_ends r d₀ p d' f q m h =
        filled_of house_kinds (list_of t pool) spelling sd.well s q m d₀ (Ok (at + 1)) d'
        (spot_ends house_computed t pool s sd m.xml d₁ a₁ coins (pre.none m.xml) d here at (stands sd m.xml) o blanks (sym closes ∙ y) r spelling d₀ (p (list_of t pool) pre.kind) d' f) h

    module _ (r : here.row ≢ 1) (p : ℕ) (f : p ≡ cell t here.row 0) (z : ℕ) (g : z ≡ behind greater (o + 1) (drop (o + 1) s)) (here' : Spot) (h : here' ≡ spot_at p (Some here.row) z) where
      pub fill_out_less : length s - here'.at < length s - here.at
      fill_out_less =
          let n = out_less house_computed t pool s sd x d₁ a₁ coins (pre.none x) d here at (stands sd x) o blanks (sym closes ∙ y) r in
          omega (arith, n, g, ap (λ (u : Spot). u.at) h)

      pub fill_out : WritingOn t pool s d₁ a₁ d here' at
      fill_out sd x =
          subst (λ (u : Spot). Writing house_computed t pool s sd x d₁ a₁ d u at) (sym (h ∙ ap (λ (n : ℕ). spot_at n (Some here.row) z) f ∙ ap (λ (n : ℕ). spot_at (cell t here.row 0) (Some here.row) n) g))
          (spot_out house_computed t pool s sd x d₁ a₁ coins (pre.none x) d here at (stands sd x) o blanks (sym closes ∙ y) r)

  -- an opening tag
  module _ (c : Bool) (closes : c ≡ head_is solidus (drop (o + 1) s)) (y : c ≡ false) (tag : Tag) (f : tag ≡ tag_of (open_at o (drop o s))) where
    pub fill_comes : Comes t pool here.row here.last (slice (o + 1) tag.stop s)
    fill_comes =
        subst (λ (u : Tag). Comes t pool here.row here.last (slice (o + 1) u.stop s)) (sym f)
        (comes house_computed t pool s sd x d₁ a₁ coins (pre.none x) d here at (stands sd x) o blanks (sym closes ∙ y) (open_at o (drop o s)) refl)

-- what a turn has been told when the tag opens an element of row r, and whether that is a group
pub record AtOpening : Type 0 where
  pub turn : AtTag
  pub c : Bool
  pub closes : c ≡ head_is solidus (drop (turn.o + 1) turn.s)
  pub opens : c ≡ false
  pub tag : Tag
  pub reads : tag ≡ tag_of (open_at turn.o (drop turn.o turn.s))
  pub r : ℕ
  pub names : r ≡ child (list_of turn.t turn.pool) turn.here.row (slice (turn.o + 1) tag.stop turn.s)
  pub v : ℕ
  pub kind : v ≡ cell turn.t r 2
  pub g : Bool
  pub group : g ≡ is_group_in v

module _ (opening : AtOpening) where
  open opening use {turn, c, closes, opens, tag, reads, r, names, v, kind, g, group}
  open turn use {t, pool, s, byte, pre, d₁, a₁, d, here, at, stands, o, blanks}

  abbrev sound : Sound t pool
  sound = pre.ready.sound

  abbrev house : HouseXml s
  house = pre.ready.xml

  abbrev token : Token
  token = open_at o (drop o s)

  end_is : tag.end ≡ token.end
  end_is = ap (λ (u : Tag). u.end) reads

  row_is : r ≡ child (list_of t pool) here.row (slice (o + 1) token.stop s)
  row_is = names ∙ ap (λ (u : Tag). child (list_of t pool) here.row (slice (o + 1) u.stop s)) reads

  kind_is : is_group_in (cell t r 2) ≡ g
  kind_is = ap is_group_in (sym kind) ∙ sym group

  pub fill_row : r ≤ 255
  fill_row = row_low house_computed t pool s sound house d₁ a₁ coins (pre.none house) d here at (stands sound house) o blanks (sym closes ∙ opens) token refl r row_is

  -- of a group
  module _ (j : g ≡ true) (here' : Spot) (h : here' ≡ spot_at r None tag.end) where
    pub fill_in_less : length s - here'.at < length s - here.at
    fill_in_less =
        let n = in_less house_computed t pool s sound house d₁ a₁ coins (pre.none house) d here at (stands sound house) o blanks (sym closes ∙ opens) token refl r row_is (kind_is ∙ j) in
        omega (arith, n, end_is, ap (λ (u : Spot). u.at) h)

    pub fill_in : (n : ℕ) → n ≡ r → (d' : List ℕ) → d' ≡ pasted d at (n ∷ []) → WritingOn t pool s d₁ a₁ d' here' (at + 1)
    fill_in n m d' p sd x =
        subst (λ (u : Spot). Writing house_computed t pool s sd x d₁ a₁ d' u (at + 1)) (sym (h ∙ ap (λ (n : ℕ). spot_at r None n) end_is))
        (spot_in house_computed t pool s sd x d₁ a₁ coins (pre.none x) d here at (stands sd x) o blanks (sym closes ∙ opens) token refl r row_is (kind_is ∙ j) n m d' p)

  -- of a leaf
  module _ (j : g ≡ false) where
    pub fill_ready : (r ≤ 255) × (at ≤ 1000000000000) × (is_group_in (cell t r 2) ≡ false)
    fill_ready = (fill_row, fill_low turn, kind_is ∙ j)

    module _ (z : ℕ) (l : z ≡ tag.end + span (but less) (drop tag.end s)) where
      text_is : z ≡ token.end + span (but less) (drop token.end s)
      text_is = l ∙ ap (λ (u : Tag). u.end + span (but less) (drop u.end s)) reads

      pub fill_close : z < length s
      fill_close = close_in house_computed t pool s sound house d₁ a₁ coins (pre.none house) d here at (stands sound house) o blanks (sym closes ∙ opens) token refl r row_is (kind_is ∙ j) z text_is

      pub fill_some : (r' : Told ℕ) (d' : List ℕ) → Shuts house_kinds t pool r (slice tag.value tag.quote s) (slice tag.end z s) d at r' d' → is_some r' ≡ true
      fill_some r' d' p =
          spot_some house_computed t pool s sound house d₁ a₁ coins (pre.none house) d here at (stands sound house) o blanks (sym closes ∙ opens) token refl r row_is (kind_is ∙ j) z text_is r' d'
          (subst (λ (u : Tag). Shuts house_kinds t pool r (slice u.value u.quote s) (slice u.end z s) d at r' d') reads p)

      module _ (n : ℕ) (m : n ≡ behind greater (z + 1) (drop (z + 1) s)) (here' : Spot) (h : here' ≡ spot_at here.row (Some r) n) where
        pub fill_past_less : length s - here'.at < length s - here.at
        fill_past_less =
            let u = leaf_less house_computed t pool s sound house d₁ a₁ coins (pre.none house) d here at (stands sound house) o blanks (sym closes ∙ opens) token refl r row_is (kind_is ∙ j) z text_is in
            omega (arith, u, m, ap (λ (u : Spot). u.at) h)

        pub fill_past : (a' : ℕ) (d' : List ℕ) → Shuts house_kinds t pool r (slice tag.value tag.quote s) (slice tag.end z s) d at (Some a') d' → WritingOn t pool s d₁ a₁ d' here' a'
        fill_past a' d' p sd x =
            subst (λ (u : Spot). Writing house_computed t pool s sd x d₁ a₁ d' u a') (sym (h ∙ ap (λ (i : ℕ). spot_at here.row (Some r) i) m))
            (spot_past house_computed t pool s sd x d₁ a₁ coins (pre.none x) d here at (stands sd x) o blanks (sym closes ∙ opens) token refl r row_is (kind_is ∙ j) z text_is a' d'
            (subst (λ (u : Tag). Shuts house_kinds t pool r (slice u.value u.quote s) (slice u.end z s) d at (Some a') d') reads p))
