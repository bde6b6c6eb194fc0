-- What is written, by what was read, what was found of the items and what the two passes put. Assumes nothing.
use mathlib.Core.Path.{◌≡◌, refl, sym, ◌∙◌, ap, subst}
use mathlib.Core.Logic.{◌≢◌}
use mathlib.Core.Bool.{Bool, true, false, cond}
use mathlib.Core.List.{List, [], ◌∷◌, ◌++◌, append_assoc, append-nil}
use mathlib.Core.Option.{none}
use Prim.Native.Nat.{ℕ, ◌+◌, ◌≤◌, ◌<◌}
use native.Mathlib.Omega.{arith}
use lib.ListN.{length, get_or, drop}
use lib.Seq.{drop_at}
use Rattle.answer.specs.declared.Answer.{Answer}
use Rattle.answer.specs.Table.{limit, accepted, no_room, too_large, too_fine, retired}
use Rattle.text.specs.Lists.{Each}
use Rattle.text.specs.Puts.{Puts}
use Rattle.text.proofs.Pasting.{pasted_yes}
use Rattle.list.specs.Listing.{Kind, Listing, is_group}
use Rattle.list.specs.Content.{Content, end, node, items, Good, Meets}
use Rattle.list.specs.Within.{Within}
use Rattle.list.specs.tables.Table.{list_of}
use Rattle.list.specs.tables.Sound.{Sound}
use Rattle.list.specs.tables.Laid.{laid}
use Rattle.list.proofs.Laid.{laid_list, laid_sound}
use Rattle.list.proofs.Retired.{each_last}
use Rattle.list_house.specs.Lists.{asked_of}
use Rattle.list_house.specs.mirror.HouseTable.{house_pool}
use Rattle.list_house.specs.mirror.Rows.{asked_rows}
use Rattle.list_house.proofs.Lists.{asked_of_lem, asked_sound, kept_well}
use Rattle.list_house.proofs.Retired.{stored_narrowed}
use Rattle.value.specs.Value.{Value, IsValue}
use Rattle.image.specs.Image.{Item, value_bytes, items_bytes, body}
use Rattle.image.specs.Kinds.{values}
use Rattle.image.specs.Place.{Holds}
use Rattle.image.proofs.content.Within.{bytes_within}
use Rattle.image_reading.specs.Reads.{HouseAccepts}
use Rattle.image_reading.specs.Forms.{Reading, Begun, refuses, accepts}
use Rattle.image_reading.proofs.House.{begun_reads}
use Rattle.file_letter.specs.Letter.{letter_of}
use Rattle.file_letter.specs.Writes.{asked_in, letter_in, items_in, large, short, delivered, Writes, unread, withdrawn, finer, begun}
use Rattle.file_letter.specs.Stale.{NoneOf, FirstAt, Withdrawn, Finer}
use Rattle.file_letter.proofs.tree.Has.{Rooted, rooted}
use Rattle.file_letter.proofs.Present.{meets_present}
use Rattle.file_answers.specs.Answers.{gone_by, refused_by, sized_by}
use Rattle.file_answers.proofs.Answering.{sized_refused, sized_accepted}
use Rattle.file_write.specs.mirror.Emit.{Held, Emits}
use Rattle.file_write.specs.mirror.Stale.{ItemOf, Lined, Searched, clear, found, FirstStale, lost, kept, Stale}
use Rattle.file_write.proofs.Standing.{fine_in}
use Rattle.file_write.proofs.Passing.{gone_so, gone_not}

pool_small : length house_pool ≤ 65535
unfolding house_pool
pool_small = omega arith

-- the table says the list that files of the kind k are asked to keep to
pub record Asks (t : List ℕ) (k : ℕ) : Type 0 where
  pub sound : Sound t house_pool
  pub is : list_of t house_pool ≡ asked_of k

pub laid_asks : (t : List ℕ) (k : ℕ) → t ≡ laid (asked_rows k) → Asks t k
laid_asks t k e = record {
  sound = subst (λ (z : List ℕ). Sound z house_pool) (sym e) (laid_sound (asked_rows k) house_pool (asked_sound k));
  is = ap (λ (z : List ℕ). list_of z house_pool) e ∙ laid_list (asked_rows k) house_pool ∙ asked_of_lem k;
}

-- the first item has its place by the list that this one lies within
first_within : (l m : Listing) → Within l m → (P : Item values → Type 0) (from : ℕ) (is : List (Item values)) (r p : ℕ) → FirstAt l P from is r p → FirstAt m P from is r p
first_within l m w P from is r p f = record {
  before = f.before;
  item = f.item;
  rest = f.rest;
  at = f.at;
  its = f.its;
  clean = f.clean;
  own = f.own;
  stands = f.stands ∙ ap (λ (b : List ℕ). from + length b) (bytes_within values l m w f.before);
}

-- whether the row of that item is gone is what the table says
module _ (t pool run : List ℕ) (from r : ℕ) (is : List (Item values)) (e : Each (ItemOf t pool) is) where
  abbrev l : Listing
  l = list_of t pool

  item_of : (P : Item values → Type 0) → (f : FirstAt l P from is (get_or run r 0) r) → ItemOf t pool f.item
  item_of P f = (each_last (ItemOf t pool) f.before (f.item ∷ f.rest) (subst (Each (ItemOf t pool)) f.at e)).0

  lost_so : FirstAt l (Withdrawn l) from is (get_or run r 0) r → gone_by t pool (get_or run r 0) ≡ true
  lost_so f = go (gone_by t pool f.item.0) refl
    where
      go : (b : Bool) → gone_by t pool f.item.0 ≡ b → gone_by t pool (get_or run r 0) ≡ true
      go true z = ap (gone_by t pool) f.own ∙ z
      go false z = absurd (gone_not t pool f.item.0 (item_of (Withdrawn l) f).0 (item_of (Withdrawn l) f).1 z f.its)

  kept_so : NoneOf (Withdrawn l) is → FirstAt l Finer from is (get_or run r 0) r → gone_by t pool (get_or run r 0) ≡ false
  kept_so n f = go (gone_by t pool f.item.0) refl
    where
      go : (b : Bool) → gone_by t pool f.item.0 ≡ b → gone_by t pool (get_or run r 0) ≡ false
      go true z =
          absurd ((each_last (λ (i : Item values). Withdrawn l i → ⊥) f.before (f.item ∷ f.rest) (subst (NoneOf (Withdrawn l)) f.at n)).0
          (gone_so t pool f.item.0 (item_of Finer f).0 (item_of Finer f).1 z))
      go false z = ap (gone_by t pool) f.own ∙ z

module _ (run : List ℕ) (x : Reading) (b : Begun run x) where
  -- nothing is written where nothing was read
  pub write_unread : x.answer.code ≢ 0 → (d : List ℕ) → Writes run d x.answer d
  write_unread n d = unread (begun_reads run x b) n refl

  -- the image that was read, and where its items begin
  record Opening : Type 0 where
    lim : length run ≤ limit
    long : ℕ
    image : HouseAccepts run long
    kind : x.kind ≡ image.list.byte
    from : x.from ≡ length image.head

  opening : Begun run x → x.answer.code ≡ 0 → Opening
  opening (refuses h n f g u) z = absurd (n z)
  opening (accepts lim n w e f g u) z = record { lim = lim; long = n; image = w; kind = f; from = g }

  -- over the table of the list of files of its kind
  module _ (z : x.answer.code ≡ 0) (t : List ℕ) (y : Asks t x.kind) (p : List ℕ) (ep : p ≡ house_pool) where
    o : Opening
    o = opening b z

    m : Listing
    m = o.image.list

    asks : Listing
    asks = list_of t house_pool

    c : Content Value
    c = o.image.holds.content

    same_list : asked_in o.image ≡ asks
    unfolding asks
    same_list = ap asked_of (sym o.kind) ∙ sym y.is

    narrower : Within asks m
    unfolding m
    narrower = subst (λ (k : Listing). Within k o.image.list) same_list (stored_narrowed o.image.list o.image.among).within

    root : Rooted c
    unfolding c
    root = rooted o.image.list (kept_well o.image.list o.image.among) o.image.holds.content o.image.holds.meets

    ks : List (Item values)
    ks = items root.kids

    items_are : items c ≡ (1, none) ∷ ks
    unfolding ks
    items_are = ap items root.is ∙ ap (λ (is : List (Item values)). (1, none) ∷ is) (append-nil (items root.kids))

    -- the run from the first item on, by either list
    body_here : drop x.from run ≡ body values o.image.list c ++ o.image.holds.rest
    unfolding c
    body_here = ap (drop x.from) o.image.at ∙ drop_at o.image.head o.image.after x.from (sym o.from) ∙ o.image.holds.at

    same_body : body values m c ≡ body values asks c
    same_body = ap (λ (u : List ℕ). u ++ (0 ∷ [])) (sym (bytes_within values asks m narrower (items c)))

    lined : Lined t house_pool run x.from
    unfolding asks m c ks
    lined = record {
      kids = ks;
      rest = o.image.holds.rest;
      at =
          body_here ∙ ap (λ (u : List ℕ). u ++ o.image.holds.rest) same_body
          ∙ ap (λ (is : List (Item values)). (items_bytes values asks is ++ (0 ∷ [])) ++ o.image.holds.rest) items_are
          ∙ ap (λ (k : Kind). (((1 ∷ value_bytes values asks k none) ++ items_bytes values asks ks) ++ (0 ∷ [])) ++ o.image.holds.rest) y.sound.well.root.1
          ∙ ap (λ (u : List ℕ). 1 ∷ u) (append_assoc (items_bytes values asks ks) (0 ∷ []) o.image.holds.rest);
      each =
          let g : Good IsValue m (node 1 root.kids end) = subst (Good IsValue m) root.is o.image.holds.meets.good in
          fine_in t house_pool m narrower root.kids 1 g.0.1.theirs g.1;
    }

    pub write_searched : Searched t p run x.from
    write_searched = subst (λ (q : List ℕ). Searched t q run x.from) (sym ep) (record { sound = y.sound; within = o.lim; lined = lined })

    -- each of them, the root's among them, is of a row of the table
    all_fine : Each (ItemOf t house_pool) ((1, none) ∷ ks)
    unfolding lined asks ks
    all_fine = let s = y.sound.well.root in ((omega arith, s.0, subst (λ (k : Kind). is_group k ≡ true) (sym s.1) refl), lined.each)

    -- what was found of the items
    module _ (r : ℕ) (s : Stale t p run x.from r) where
      told : FirstStale asks run x.from ((1, none) ∷ ks) r
      unfolding asks lined ks
      told = subst (λ (q : List ℕ). Stale t q run x.from r) ep s lined

      pub write_there : r ≢ 0 → r < length run
      write_there n = go told
        where
          go : FirstStale asks run x.from ((1, none) ∷ ks) r → r < length run
          go (lost h k f) = k
          go (kept c (clear e f)) = absurd (n e)
          go (kept c (found h k f)) = k

      -- by the image's own list, and over its own items
      moved : (P : Item values → Type 0) (q : ℕ) → FirstAt asks P x.from ((1, none) ∷ ks) q r → FirstAt o.image.list P (length o.image.head) (items_in o.image) q r
      unfolding m c
      moved P q f =
          subst (λ (j : ℕ). FirstAt o.image.list P j (items_in o.image) q r) o.from
          (subst (λ (is : List (Item values)). FirstAt o.image.list P x.from is q r) (sym items_are) (first_within asks m narrower P x.from ((1, none) ∷ ks) q r f))

      none_gone : NoneOf (Withdrawn asks) ((1, none) ∷ ks) → NoneOf (Withdrawn (asked_in o.image)) (items_in o.image)
      unfolding c
      none_gone n =
          subst (λ (k : Listing). NoneOf (Withdrawn k) (items_in o.image)) (sym same_list) (subst (NoneOf (Withdrawn asks)) (sym items_are) n)

      -- what the answer is, by the row
      answered : (y : ℕ) → y ≡ get_or run r 0 → (a : Answer) → a ≡ refused_by t p y r → (g : Bool) → gone_by t house_pool (get_or run r 0) ≡ g
          → a ≡ cond g (retired (get_or run r 0) r) (too_fine (get_or run r 0) r)
      unfolding refused_by
      answered y ey a q g e =
          q ∙ ap (λ (v : ℕ). cond (gone_by t p v) (retired v r) (too_fine v r)) ey
          ∙ ap (λ (h : Bool). cond h (retired (get_or run r 0) r) (too_fine (get_or run r 0) r)) (ap (λ (w : List ℕ). gone_by t w (get_or run r 0)) ep ∙ e)

      pub write_stale : r ≢ 0 → (y : ℕ) → y ≡ get_or run r 0 → (d : List ℕ) (a : Answer) → a ≡ refused_by t p y r → Writes run d a d
      unfolding asks
      write_stale n y ey d a q = go told
        where
          go : FirstStale asks run x.from ((1, none) ∷ ks) r → Writes run d a d
          go (lost h k f) =
              withdrawn o.lim o.long o.image (get_or run r 0) r
              (subst (λ (v : Listing). FirstAt o.image.list (Withdrawn v) (length o.image.head) (items_in o.image) (get_or run r 0) r) (sym same_list) (moved (Withdrawn asks) (get_or run r 0) f))
              (answered y ey a q true (lost_so t house_pool run x.from r ((1, none) ∷ ks) all_fine f)) refl
          go (kept c (clear e f)) = absurd (n e)
          go (kept c (found h k f)) =
              finer o.lim o.long o.image (none_gone c) (get_or run r 0) r (moved Finer (get_or run r 0) f)
              (answered y ey a q false (kept_so t house_pool run x.from r ((1, none) ∷ ks) all_fine c f)) refl

      -- nothing was found
      module _ (none' : r ≡ 0) where
        clear_of : NoneOf (Withdrawn (asked_in o.image)) (items_in o.image) × NoneOf Finer (items_in o.image)
        unfolding c
        clear_of = go told
          where
            go : FirstStale asks run x.from ((1, none) ∷ ks) r → NoneOf (Withdrawn (asked_in o.image)) (items_in o.image) × NoneOf Finer (items_in o.image)
            go (lost h k f) = absurd (omega arith)
            go (kept n (clear e f)) = (none_gone n, subst (NoneOf Finer) (sym items_are) f)
            go (kept n (found h k f)) = absurd (omega arith)

        -- so the content meets the list of files, and the body is one by it
        body_there : Holds values asks (drop x.from run) o.image.size
        unfolding m c
        body_there = record {
          content = c;
          meets = subst (λ (k : Listing). Meets IsValue k c) same_list (meets_present o.image.list o.image.among o.image.holds.content o.image.holds.meets clear_of.0);
          rest = o.image.holds.rest;
          at = body_here ∙ ap (λ (u : List ℕ). u ++ o.image.holds.rest) same_body;
          long = o.image.holds.long ∙ ap length same_body;
        }

        pub write_held : Held t p run x.from
        unfolding asks
        write_held = subst (λ (q : List ℕ). Held t q run x.from) (sym ep) (record { sound = y.sound; small = pool_small; within = o.lim; size = o.image.size; holds = body_there })

        file : List ℕ
        file = letter_in o.image

        -- what a pass puts is the file
        puts_file : (d : List ℕ) (q : ℕ) (d' : List ℕ) → Emits t p run x.from d q d' → Puts d 0 file q d'
        unfolding file asks body_there c
        puts_file d q d' e = subst (λ (k : Listing). Puts d 0 (letter_of k c) q d') (sym same_list) (subst (λ (u : List ℕ). Emits t u run x.from d q d') ep e o.image.size body_there)

        pub write_long : (d : List ℕ) (q : ℕ) (d' : List ℕ) → Emits t p run x.from d q d' → length d' ≡ length d
        write_long d q d' e = (puts_file d q d' e).long

        -- n bytes by the pass that measures
        module _ (d₁ : List ℕ) (n : ℕ) (d₂ : List ℕ) (e : Emits t p run x.from d₁ n d₂) (d : List ℕ) (a : Answer) (told_size : a ≡ sized_by n (length d)) where
          length_is : n ≡ length file
          length_is = let f = puts_file d₁ n d₂ e in omega (arith, f.behind)

          pub write_unfit : a.code ≢ 0 → Writes run d a d
          unfolding file
          write_unfit =
              sized_refused n (length d) a told_size (λ (b : Answer). Writes run d b d)
              (λ h. begun o.lim o.long o.image clear_of.0 clear_of.1 (large (omega (arith, length_is)) (ap too_large length_is) refl))
              (λ h k. begun o.lim o.long o.image clear_of.0 clear_of.1 (short (omega (arith, length_is)) (omega (arith, length_is)) (ap no_room length_is) refl))

          pub write_whole : a.code ≡ 0 → (q : ℕ) (d' : List ℕ) → Emits t p run x.from d q d' → Writes run d a d'
          unfolding file
          write_whole z v d' f =
              let g = sized_accepted n (length d) a told_size z in
              let k' = puts_file d v d' f in
              let zero_on : 0 + length file ≡ length file = omega arith in
              begun o.lim o.long o.image clear_of.0 clear_of.1
              (delivered (omega (arith, length_is, g.0)) (omega (arith, length_is, g.1.0)) (g.1.1 ∙ ap accepted length_is)
              (k'.is (omega (arith, length_is, g.1.0)) ∙ pasted_yes d 0 file (omega (arith, length_is, g.1.0)) ∙ ap (λ (j : ℕ). file ++ drop j d) zero_on))
