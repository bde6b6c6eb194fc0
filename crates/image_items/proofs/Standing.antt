-- One item of an image: what the code finds at a place is what is defined, and nothing else is. Assumes nothing.
use mathlib.Core.Path.{◌≡◌, refl, sym, ◌∙◌, ap, ap₂, subst}
use mathlib.Core.Logic.{◌≢◌}
use mathlib.Core.Bool.{true, false≢true}
use mathlib.Core.List.{List, [], ◌∷◌, ◌++◌, head-eq_of_cons-eq, tail-eq_of_cons-eq, nil≢cons}
use mathlib.Core.Option.{Option, none, some}
use Prim.Native.Nat.{ℕ, ◌+◌, ◌-◌, ◌≤◌, ◌<◌}
use native.Mathlib.Omega.{arith}
use native.Mathlib.Numerals.{add-one}
use lib.ListN.{length, get_or, drop, drop_of_length-le}
use lib.Seq.{drop-cons}
use Rattle.std.specs.Prelude.{IfErr, Result, Ok, Err}
use Rattle.answer.specs.declared.Answer.{Answer}
use Rattle.answer.specs.Table.{picked, broken_image}
use Rattle.list.specs.Listing.{Leaf, Kind, group, choice, leaf, Listing, size, row_at, is_group}
use Rattle.list.specs.WellFormed.{WellFormed, KindOk}
use Rattle.list.specs.tables.Table.{cell, list_of}
use Rattle.list.specs.tables.Sound.{Sound}
use Rattle.list.proofs.rows.Rows.{size_is}
use Rattle.list_house.specs.mirror.HouseTable.{house_pool}
use Rattle.list_house.specs.mirror.Rows.{kept_rows}
use Rattle.list_house.proofs.Lists.{stored_is, stored_sound, bytes_tell, kept_well}
use Rattle.value.specs.Value.{Value, IsValue, bytes}
use Rattle.image.specs.Image.{value_bytes}
use Rattle.image.specs.Kinds.{length_bytes, values}
use Rattle.image.specs.mirror.Follow.{OfKind}
use Rattle.image.specs.mirror.Ends.{item_end}
use Rattle.image.specs.mirror.Run.{head_of}
use Rattle.image.proofs.content.Rows.{well}
use Rattle.image.proofs.types.Lawful.{lawful}
use Rattle.image.proofs.Meaning.{ending, head_is_lem}
use Rattle.image_reading.specs.Forms.{Headed, bare, leads}
use Rattle.image_reading.proofs.House.{headed_one}
use Rattle.image_items.specs.declared.item.ItemAt.{ItemAt}
use Rattle.image_items.specs.Items.{answer_of, size_of, SaysList, Stands, closes, opens, holds, HouseItem, standing, lacking}

-- ---- only one answer fits

module _ (l : Listing) (wf : WellFormed l) (run : List ℕ) (from : ℕ) where
  same_row : (x y : ℕ) (u v : List ℕ) → drop from run ≡ x ∷ u → drop from run ≡ y ∷ v → (x ≡ y) × (u ≡ v)
  same_row x y u v e f = (head-eq_of_cons-eq (sym e ∙ f), tail-eq_of_cons-eq (sym e ∙ f))

  -- no row is a group's and a leaf's
  mixed : (x y : ℕ) (f : Leaf) → x ≡ y → is_group (row_at l x).kind ≡ true → (row_at l y).kind ≡ leaf f → ⊥
  mixed x y f e g k = false≢true (subst (λ (q : Kind). is_group q ≡ true) (ap (λ (r : ℕ). (row_at l r).kind) e ∙ k) g)

  abbrev Three : ℕ → ℕ → ℕ → ℕ → ℕ → ℕ → Type 0
  Three r p n s q m = (r ≡ s) × (p ≡ q) × (n ≡ m)

  -- two leaves: one type, one value
  leaves : (r p n s q m : ℕ) (f g : Leaf) (v w : Value) (x y : List ℕ) → r ≡ s → (row_at l r).kind ≡ leaf f → (row_at l s).kind ≡ leaf g → IsValue f v → IsValue g w
      → bytes v ++ x ≡ bytes w ++ y → p ≡ from + 1 + length_bytes f → q ≡ from + 1 + length_bytes g
      → p + n ≡ from + 1 + length (bytes v) → q + m ≡ from + 1 + length (bytes w) → Three r p n s q m
  leaves r p n s q m f g v w x y e kf kg iv iw b ep eq en em =
      let k : leaf f ≡ leaf g = sym kf ∙ ap (λ (z : ℕ). (row_at l z).kind) e ∙ kg in
      let t : f ≡ g = cc in
      let o = lawful.prefix g v w x y (subst KindOk kg ((well l wf).kinds s)) (subst (λ (z : Leaf). IsValue z v) t iv) iw b in
      let h : p ≡ q = ep ∙ ap (λ (z : Leaf). from + 1 + length_bytes z) t ∙ sym eq in
      (e, h, omega (arith, h, en, em, ap (λ (z : Value). length (bytes z)) o.0))

  pub stands_one : (r p n s q m : ℕ) → Stands l run from r p n → Stands l run from s q m → Three r p n s q m
  stands_one r p n s q m (closes z u e ep en) (closes y v f eq em) = (z ∙ sym y, ep ∙ sym eq, en ∙ sym em)
  stands_one r p n s q m (closes z u e ep en) (opens a b g v f eq em) = absurd (omega (arith, a, (same_row 0 s u v e f).0))
  stands_one r p n s q m (closes z u e ep en) (holds a b t k w i v f eq em) = absurd (omega (arith, a, (same_row 0 s u (bytes w ++ v) e f).0))
  stands_one r p n s q m (opens a b g u e ep en) (closes y v f eq em) = absurd (omega (arith, a, (same_row r 0 u v e f).0))
  stands_one r p n s q m (opens a b g u e ep en) (opens c d h v f eq em) = ((same_row r s u v e f).0, ep ∙ sym eq, en ∙ sym em)
  stands_one r p n s q m (opens a b g u e ep en) (holds c d t k w i v f eq em) = absurd (mixed r s t (same_row r s u (bytes w ++ v) e f).0 g k)
  stands_one r p n s q m (holds a b t k w i u e ep en) (closes y v f eq em) = absurd (omega (arith, a, (same_row r 0 (bytes w ++ u) v e f).0))
  stands_one r p n s q m (holds a b t k w i u e ep en) (opens c d h v f eq em) = absurd (mixed s r t (sym (same_row r s (bytes w ++ u) v e f).0) h k)
  stands_one r p n s q m (holds a b t k w i u e ep en) (holds c d t' k' w' i' v f eq em) =
      let o = same_row r s (bytes w ++ u) (bytes w' ++ v) e f in
      leaves r p n s q m t t' w w' u v o.0 k k' i i' o.1 ep eq en em

-- the header says one list
says_headed : (run : List ℕ) (l : Listing) (x : SaysList run l) → Headed run l.byte (length x.head)
says_headed run l x = leads l x.among x.head x.after x.front x.at refl refl

says_one : (run : List ℕ) (l m : Listing) → SaysList run l → SaysList run m → l ≡ m
says_one run l m x y =
    bytes_tell l m x.among y.among (headed_one run l.byte m.byte (length x.head) (length y.head) (says_headed run l x) (says_headed run m y)).0

module _ (run : List ℕ) (from : ℕ) where
  pub house_item_one : (a b : Answer) (n m : ℕ) → HouseItem run from a n → HouseItem run from b m → (a ≡ b) × (n ≡ m)
  house_item_one a b n m (standing l i r p x e) (standing k j s q y f) =
      let o = stands_one l (kept_well l i.among) run from r p n s q m x (subst (λ (z : Listing). Stands z run from s q m) (says_one run k l j i) y) in
      (e ∙ ap (λ (z : ℕ). picked z p) o.0 ∙ ap (picked s) o.1 ∙ sym f, o.2)
  house_item_one a b n m (standing l i r p x e) (lacking h f k) = absurd (h l i r p n x)
  house_item_one a b n m (lacking h e k) (standing l i s q y f) = absurd (h l i s q m y)
  house_item_one a b n m (lacking h e k) (lacking i f j) = (e ∙ sym f, k ∙ sym j)

  -- so only one result keeps the promise of `item_at`: of an item the code is 0, of a refusal 17
  pub house_item_result_one : (q r : Result ItemAt Answer) → HouseItem run from (answer_of q) (size_of q) → IfErr q (λ a. a ≡ broken_image from)
      → HouseItem run from (answer_of r) (size_of r) → IfErr r (λ a. a ≡ broken_image from) → q ≡ r
  house_item_result_one q r x k y l = go q r k l (house_item_one (answer_of q) (answer_of r) (size_of q) (size_of r) x y)
    where
      go : (q r : Result ItemAt Answer) → IfErr q (λ a. a ≡ broken_image from) → IfErr r (λ a. a ≡ broken_image from) → (answer_of q ≡ answer_of r) × (size_of q ≡ size_of r) → q ≡ r
      go (Ok i) (Ok j) k l e = ap₂ (λ (a : Answer) (n : ℕ). Ok (record { row = a.row; place = a.place; size = n })) e.0 e.1
      go (Ok i) (Err b) k l e = absurd (omega (arith, ap (λ (a : Answer). a.code) (e.0 ∙ l)))
      go (Err a) (Ok j) k l e = absurd (omega (arith, ap (λ (a : Answer). a.code) (sym e.0 ∙ k)))
      go (Err a) (Err b) k l e = ap Err e.0

  -- ---- what the code finds

  -- nothing stands past the run's end
  pub past : (a : Answer) (n : ℕ) → length run ≤ from → (a ≡ broken_image from) × (n ≡ 0) → HouseItem run from a n
  past a n h e = lacking go e.0 e.1
    where
      out : (x : ℕ) (u : List ℕ) → drop from run ≡ x ∷ u → ⊥
      out x u d = nil≢cons (sym (drop_of_length-le run h) ∙ d)

      go : (l : Listing) → SaysList run l → (row place m : ℕ) → Stands l run from row place m → ⊥
      go l i r p m (closes z u d ep en) = out 0 u d
      go l i r p m (opens a b g u d ep en) = out r u d
      go l i r p m (holds a b t k w j u d ep en) = out r (bytes w ++ u) d

  -- nor anywhere in a run that begins as no image does
  pub unheaded : (kind start : ℕ) → Headed run kind start → kind ≡ 0 → (a : Answer) (n : ℕ) → (a ≡ broken_image from) × (n ≡ 0) → HouseItem run from a n
  unheaded kind start (bare h k f) z a n e = lacking (λ l i r p m x. h l i.among i.head i.after i.front i.at) e.0 e.1
  unheaded kind start (leads l i h s f at k g) z a n e = absurd (omega (arith, (kept_well l i).byte.0, k, z))

-- what is told by one list
data Told (l : Listing) (run : List ℕ) (from : ℕ) (a : Answer) (n : ℕ) : Type 0 where
  there : (row place : ℕ) → Stands l run from row place n → a ≡ picked row place → Told l run from a n
  nowhere : ((row place m : ℕ) → Stands l run from row place m → ⊥) → a ≡ broken_image from → n ≡ 0 → Told l run from a n

-- by the one that the header says
by_header : (run : List ℕ) (from : ℕ) (a : Answer) (n : ℕ) (l : Listing) → SaysList run l → Told l run from a n → HouseItem run from a n
by_header run from a n l i (there r p x e) = standing l i r p x e
by_header run from a n l i (nowhere h e k) = lacking (λ m j r p q x. h r p q (subst (λ (z : Listing). Stands z run from r p q) (says_one run m l j i) x)) e k

-- t and pool are sound tables, and x is the byte at the place
module _ (t pool : List ℕ) (so : Sound t pool) (run : List ℕ) (from x : ℕ) (h : from < length run) (ex : x ≡ get_or run from 0) where
  abbrev l : Listing
  l = list_of t pool

  here : drop from run ≡ x ∷ drop (from + 1) run
  here = drop-cons run from 0 h ∙ ap (λ (z : ℕ). get_or run from 0 ∷ drop z run) (sym (add-one from)) ∙ ap (λ (z : ℕ). z ∷ drop (from + 1) run) (sym ex)

  closing : (a : Answer) (n : ℕ) → x ≡ 0 → (a ≡ picked 0 (from + 1)) × (n ≡ 0) → Told l run from a n
  closing a n z e = there 0 (from + 1) (closes refl (drop (from + 1) run) (here ∙ ap (λ (y : ℕ). y ∷ drop (from + 1) run) z) refl e.1) e.0

  -- the row of whatever stands there is x
  its : (y : ℕ) (u : List ℕ) → drop from run ≡ y ∷ u → (x ≡ y) × (drop (from + 1) run ≡ u)
  its y u d = (head-eq_of_cons-eq (sym here ∙ d), tail-eq_of_cons-eq (sym here ∙ d))

  module _ (z : x ≢ 0) where
    strange : (a : Answer) (n : ℕ) → cell t 0 0 < x → (a ≡ broken_image from) × (n ≡ 0) → Told l run from a n
    strange a n b e = nowhere go e.0 e.1
      where
        go : (row place m : ℕ) → Stands l run from row place m → ⊥
        go r p m (closes y u d ep en) = z (its 0 u d).0
        go r p m (opens c f g u d ep en) = omega (arith, (its r u d).0, size_is t pool)
        go r p m (holds c f k i w j u d ep en) = omega (arith, (its r (bytes w ++ u) d).0, size_is t pool)

    module _ (b : x ≤ cell t 0 0) (end : ℕ) (ee : end ≡ item_end t run x (from + 1)) where
      low : 0 < x
      low = omega (arith, z)

      high : x ≤ size l
      high = omega (arith, b, size_is t pool)

      unfit : (a : Answer) (n : ℕ) → end ≡ 0 → (a ≡ broken_image from) × (n ≡ 0) → Told l run from a n
      unfit a n y e = nowhere go e.0 e.1
        where
          no : (r : ℕ) (v : Option Value) (u : List ℕ) → x ≡ r → drop (from + 1) run ≡ value_bytes values l (row_at l r).kind v ++ u → OfKind values l (row_at l r).kind v → ⊥
          no r v u q d o =
              (ending t pool so run).none x (from + 1) low high (omega arith) (omega arith) (sym ee ∙ y) v u
              (d ∙ ap (λ (s : ℕ). value_bytes values l (row_at l s).kind v ++ u) (sym q)) (subst (λ (s : ℕ). OfKind values l (row_at l s).kind v) (sym q) o)

          bare_bytes : (k : Kind) → is_group k ≡ true → value_bytes values l k none ≡ []
          bare_bytes group g = refl
          bare_bytes choice g = refl
          bare_bytes (leaf f) g = absurd (false≢true g)

          go : (row place m : ℕ) → Stands l run from row place m → ⊥
          go r p m (closes c u d ep en) = z (its 0 u d).0
          go r p m (opens c f g u d ep en) =
              no r none u (its r u d).0 ((its r u d).1 ∙ ap (λ (s : List ℕ). s ++ u) (sym (bare_bytes (row_at l r).kind g))) g
          go r p m (holds c f k i w j u d ep en) =
              no r (some w) u (its r (bytes w ++ u) d).0 ((its r (bytes w ++ u) d).1 ∙ ap (λ (s : Kind). value_bytes values l s (some w) ++ u) (sym i)) (subst (λ (s : Kind). OfKind values l s (some w)) (sym i) j)

      -- what stands there: a group's row, or a leaf's with a value of its type
      data Found : Type 0 where
        lone : is_group (row_at l x).kind ≡ true → end ≡ from + 1 → Found
        full : (f : Leaf) → (row_at l x).kind ≡ leaf f → (v : Value) → IsValue f v → drop (from + 1) run ≡ bytes v ++ drop end run → end ≡ from + 1 + length (bytes v) → Found

      found : end ≢ 0 → Found
      found y =
          let o = (ending t pool so run).some x (from + 1) low high (omega arith) (omega arith) (subst (λ (n : ℕ). 0 < n) ee (omega (arith, y))) in
          go (row_at l x).kind refl o.0 o.1 (o.2 ∙ ap (λ (n : ℕ). value_bytes values l (row_at l x).kind o.0 ++ drop n run) (sym ee)) (ee ∙ o.3)
        where
          go : (k : Kind) → (row_at l x).kind ≡ k → (v : Option Value) → OfKind values l (row_at l x).kind v
              → drop (from + 1) run ≡ value_bytes values l (row_at l x).kind v ++ drop end run → end ≡ from + 1 + length (value_bytes values l (row_at l x).kind v) → Found
          go group e none g d n = lone g (n ∙ rw e (omega arith))
          go choice e none g d n = lone g (n ∙ rw e (omega arith))
          go (leaf f) e none g d n = absurd (false≢true (subst (λ (k : Kind). is_group k ≡ true) e g))
          go group e (some v) g d n = absurd (subst (λ (k : Kind). OfKind values l k (some v)) e g)
          go choice e (some v) g d n = absurd (subst (λ (k : Kind). OfKind values l k (some v)) e g)
          go (leaf f) e (some v) g d n =
              full f e v (subst (λ (k : Kind). OfKind values l k (some v)) e g) (d ∙ ap (λ (k : Kind). value_bytes values l k (some v) ++ drop end run) e)
              (n ∙ ap (λ (k : Kind). from + 1 + length (value_bytes values l k (some v))) e)

      simple : (a : Answer) (n : ℕ) → end ≢ 0 → end ≡ from + 1 → (a ≡ picked x (from + 1)) × (n ≡ 0) → Told l run from a n
      simple a n y q e = go (found y)
        where
          go : Found → Told l run from a n
          go (lone g o) = there x (from + 1) (opens low high g (drop (from + 1) run) here refl e.1) e.0
          go (full f k v i d o) =
              let m = lawful.headed f v i in
              there x (from + 1) (holds low high f k v i (drop end run) (here ∙ ap (λ (s : List ℕ). x ∷ s) d) (omega (arith, m, q, o)) (omega (arith, q, o, e.1))) e.0

      module _ (y : end ≢ 0) (q : end ≢ from + 1) where
        -- the value's own bytes begin within the item
        fits : from + 1 + head_of t x ≤ end
        fits = go (found y)
          where
            go : Found → from + 1 + head_of t x ≤ end
            go (lone g o) = absurd (q o)
            go (full f k v i d o) = omega (arith, head_is_lem t pool so run x f low high k, lawful.headed f v i, o)

        valued : (a : Answer) (n m : ℕ) → m ≡ head_of t x → (a ≡ picked x (from + 1 + m)) × (n ≡ end - (from + 1 + m)) → Told l run from a n
        valued a n m em e = go (found y)
          where
            go : Found → Told l run from a n
            go (lone g o) = absurd (q o)
            go (full f k v i d o) =
                let hd = head_is_lem t pool so run x f low high k in
                let fit = fits in
                there x (from + 1 + m) (holds low high f k v i (drop end run) (here ∙ ap (λ (s : List ℕ). x ∷ s) d) (omega (arith, em, hd)) (omega (arith, em, fit, e.1, o))) e.0

-- an item without bytes of a value
pub bare_item : (i : ItemAt) (x p : ℕ) → (i.row ≡ x) × (i.place ≡ p) × (i.size ≡ 0) → (picked i.row i.place ≡ picked x p) × (i.size ≡ 0)
bare_item i x p e = (ap₂ picked e.0 e.1, e.2)

-- ---- over the table of the list that the header says

-- what is known where the byte at a place is read: the run begins as an image of a kind does
pub record AtByte : Type 0 where
  pub run : List ℕ
  pub from : ℕ
  pub kind : ℕ
  pub start : ℕ
  pub headed : Headed run kind start
  pub known : kind ≢ 0
  pub within : from < length run
  pub x : ℕ
  pub read : x ≡ get_or run from 0

module _ (at : AtByte) where
  open at use {run, from, kind, start, headed, known, within, x, read}

  -- the table of the kind says the list
  module _ (t : List ℕ) (et : t ≡ kept_rows kind) where
    sound : Sound t house_pool
    sound = subst (λ (z : List ℕ). Sound z house_pool) (sym et) (stored_sound kind)

    its_list : SaysList run (list_of t house_pool)
    its_list = go headed
      where
        go : Headed run kind start → SaysList run (list_of t house_pool)
        go (bare e k f) = absurd (known k)
        go (leads l i g s f e k o) =
            subst (SaysList run) (sym (ap (λ (z : List ℕ). list_of z house_pool) (et ∙ ap kept_rows k) ∙ stored_is l i)) (record { among = i; head = g; front = f; after = s; at = e })

    house : (a : Answer) (n : ℕ) → Told (list_of t house_pool) run from a n → HouseItem run from a n
    house a n o = by_header run from a n (list_of t house_pool) its_list o

    module _ (z : x ≢ 0) where
      pub house_strange : (a : Answer) (n : ℕ) → cell t 0 0 < x → (a ≡ broken_image from) × (n ≡ 0) → HouseItem run from a n
      house_strange a n b e = house a n (strange t house_pool sound run from x within read z a n b e)

      module _ (b : x ≤ cell t 0 0) (end : ℕ) (ee : end ≡ item_end t run x (from + 1)) where
        pub house_unfit : (a : Answer) (n : ℕ) → end ≡ 0 → (a ≡ broken_image from) × (n ≡ 0) → HouseItem run from a n
        house_unfit a n y e = house a n (unfit t house_pool sound run from x within read z b end ee a n y e)

        pub house_simple : (a : Answer) (n : ℕ) → end ≢ 0 → end ≡ from + 1 → (a ≡ picked x (from + 1)) × (n ≡ 0) → HouseItem run from a n
        house_simple a n y q e = house a n (simple t house_pool sound run from x within read z b end ee a n y q e)

        module _ (y : end ≢ 0) (q : end ≢ from + 1) where
          pub house_fits : from + 1 + head_of t x ≤ end
          house_fits = fits t house_pool sound run from x within read z b end ee y q

          pub house_valued : (a : Answer) (n m : ℕ) → m ≡ head_of t x → (a ≡ picked x (from + 1 + m)) × (n ≡ end - (from + 1 + m)) → HouseItem run from a n
          house_valued a n m em e = house a n (valued t house_pool sound run from x within read z b end ee y q a n m em e)

  pub house_closing : (a : Answer) (n : ℕ) → x ≡ 0 → (a ≡ picked 0 (from + 1)) × (n ≡ 0) → HouseItem run from a n
  house_closing a n z e = house (kept_rows kind) refl a n (closing (kept_rows kind) house_pool (stored_sound kind) run from x within read a n z e)
