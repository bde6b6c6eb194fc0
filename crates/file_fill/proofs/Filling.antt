-- The pass that writes, turn by turn: what a run still has to come is put from here on. Assumes nothing.
use mathlib.Core.Path.{◌≡◌, refl, sym, ◌∙◌, ap, subst}
use mathlib.Core.Bool.{Bool, true, false, not, false≢true}
use mathlib.Core.Logic.{◌≢◌}
use mathlib.Core.List.{List, [], ◌∷◌, ◌++◌, append_assoc}
use mathlib.Core.Option.{Option, none, some}
use Prim.Native.Nat.{ℕ, ◌+◌, ◌*◌, ◌-◌, ◌/◌, ◌%◌, ◌≤◌, ◌<◌}
use native.Mathlib.Omega.{arith}
use native.Mathlib.Decide.{ℕ_discrete}
use lib.ListN.{length, get_or, take, drop, take-append-drop, length-append, length-drop}
use lib.Seq.{drop-drop, take_all, drop-append_seam}
use Rattle.text.specs.Bytes.{is_blank}
use Rattle.text.specs.Lists.{span}
use Rattle.text.specs.Pasting.{pasted}
use Rattle.text.specs.Puts.{Puts}
use Rattle.text.proofs.Puts.{puts_none, puts_pasted, puts_then, puts_as}
use Rattle.list.specs.Listing.{Leaf, enum}
use Rattle.xml.specs.House.{Quote}
use Rattle.value.specs.Judged.{Exactly}
use Rattle.file.specs.Instance.{Kinds, house_kinds}
use Rattle.file_nodes.specs.Run.{Sort, over, shut, group, leaf, Node, Run, blank, else, ends, closes, opens, tells}
use Rattle.file_nodes.specs.Fitting.{coined, given}
use Rattle.text.specs.Little.{Loaded}
use Rattle.file_nodes.specs.mirror.Kept.{number, after, item, Plain, Kept, In}
use Rattle.file_lane.specs.mirror.Turn.{Matches, other_in}
use Rattle.image_head.specs.Head.{head_of}
use Rattle.file_fill.specs.mirror.Fills.{info_in, kind_in, next_in, StandsAt, Meets, LeafAt, LeafAsked, LeafLaid, TurnAsked, Went, Fillable, Fills}
use Rattle.file_nodes.proofs.Inverting.{Tagged, no_blank, unblanked, passed, Met, ended, closed, opened, told, met}
use Rattle.file_lane.proofs.Going.{after_blanks}
use Rattle.file_lane.proofs.Looping.{tag_masked}
use Rattle.file_lane.proofs.Masking as masking
use Rattle.file_lane.proofs.Seeking.{info_at, other_at}
use Rattle.file_lane.proofs.Turning.{leaf_low, leaf_high, tag_apart}

-- ---- blanks

pub stand_blanks : (t s : List ℕ) (n i j : ℕ) (bs : List ℕ) → j ≡ i + span is_blank (drop i s) → StandsAt t s n i bs → StandsAt t s n j bs
stand_blanks t s n i j bs e w =
    let q : drop (span is_blank (drop i s)) (drop i s) ≡ drop j s = drop-drop (span is_blank (drop i s)) i s ∙ ap (λ (x : ℕ). drop x s) (sym e) in
    record { at = w.at; ways = w.ways; is = w.is; run = subst (λ (l : List ℕ). Run house_kinds w.at n l bs) q (unblanked house_kinds w.at w.ways.tags w.run) }

-- ---- the node whose tag stands here

-- a test that is not passed
pub unfit : {P : Type 0} (b : Bool) → Exactly b P → not b ≡ true → P → ⊥
unfit true e h p = false≢true h
unfit false e h p = false≢true (e.1 p)

-- the one that may come alone
single : (k : Kinds) (at : ℕ → Node) {n : ℕ} {t bs : List ℕ} → Run k at n t bs → span is_blank t ≡ 0 → (at n).other ≡ 0 → (u : List ℕ) × (t ≡ (at n).tag ++ u)
single k at {n} {t} {bs} (blank b u w e run) z o =
    let i : b ≡ [] = no_blank b u w (ap (span is_blank) (sym e) ∙ z) in
    let j : t ≡ u = e ∙ ap (λ (x : List ℕ). x ++ u) i in
    let r = single k at run (ap (span is_blank) (sym j) ∙ z) o in
    (r.0, j ∙ r.1)
single k at (else y not h run) z o = absurd (omega (arith, h, o))
single k at (ends u s e w y) z o = (u, e)
single k at (closes u s e run) z o = (u, e)
single k at (opens u cs s e run y) z o = (u, e)
single k at {n} (tells f h w cur raw vs u cs s e hd tk run y) z o = (w ++ (raw ++ ((at n).close ++ u)), e)

module _ (t s : List ℕ) (n i : ℕ) (bs : List ℕ) (z : span is_blank (drop i s) ≡ 0) (w : StandsAt t s n i bs) where
  abbrev at : ℕ → Node
  at = w.at

  pub alone : other_in t n ≡ 0 → Meets t s n i bs
  alone e =
      let r = single house_kinds at w.run z (sym (other_at t at n w.ways.tabled w.is) ∙ e) in
      record { stands = w; rest = r.0; tag = r.1 }

  module _ (x y : ℕ) (lx : Loaded 8 s i x) (ly : Loaded 8 s (i + 8) y) where
    pub stand_found : Matches t (11 * n) x y → Meets t s n i bs
    stand_found m = elim (ℕ_discrete (other_in t n) 0) [
      | yes e ↦ alone e
      | no e ↦
          let o = other_at t at n w.ways.tabled w.is in
          let h : length (at n).tag ≤ 16 = w.ways.short n (subst (λ (j : ℕ). 0 < j) o (omega arith)) in
          let g = masking.stands t (11 * n) (take 16 (at n).tag) s i x y (tag_masked t at w.ways.tabled n w.is) lx ly m in
          record { stands = w; rest = drop (i + length (take 16 (at n).tag)) s; tag = g ∙ ap (λ (l : List ℕ). l ++ drop (i + length (take 16 (at n).tag)) s) (take_all 16 (at n).tag h) }
    ]

    module _ (f : Matches t (11 * n) x y → ⊥) (m : ℕ) (e : m ≡ other_in t n) where
      never : (u : List ℕ) → drop i s ≡ (at n).tag ++ u → ⊥
      never u j =
          f (masking.stood t (11 * n) (take 16 (at n).tag) s i x y (drop 16 (at n).tag ++ u) (tag_masked t at w.ways.tabled n w.is) lx ly
          (j ∙ ap (λ (v : List ℕ). v ++ u) (sym (take-append-drop 16 (at n).tag)) ∙ append_assoc (take 16 (at n).tag) (drop 16 (at n).tag) u))

      is_other : m ≡ (at n).other
      is_other = e ∙ other_at t at n w.ways.tabled w.is

      onward : (n < (at n).other) × In t (at n).other
      onward = (w.ways.tabled.leads n w.is).other (passed house_kinds at w.ways.tags w.run z never).some

      pub stand_next : StandsAt t s m i bs
      stand_next = subst (λ (j : ℕ). StandsAt t s j i bs) (sym is_other)
          (record { at = at; ways = w.ways; is = onward.1; run = (passed house_kinds at w.ways.tags w.run z never).run })

      pub next_less : length t - m < length t - n
      next_less = omega (arith, is_other, onward.0, w.is.1)

-- no run goes over nothing
tag_some : (k : Kinds) (at : ℕ → Node) → Tagged at → (n : ℕ) {t : List ℕ} (u : List ℕ) → t ≡ (at n).tag ++ u → 0 < length t
tag_some k at g n {t} u e = omega (arith, ap length e ∙ length-append (at n).tag u, ap length (g n).1)

run_some : (k : Kinds) (at : ℕ → Node) → Tagged at → {n : ℕ} {t bs : List ℕ} → Run k at n t bs → 0 < length t
run_some k at g {n} {t} (blank b u w e run) = omega (arith, run_some k at g run, ap length e ∙ length-append b u)
run_some k at g (else y not h run) = run_some k at g run
run_some k at g {n} (ends u s e w y) = tag_some k at g n u e
run_some k at g {n} (closes u s e run) = tag_some k at g n u e
run_some k at g {n} (opens u cs s e run y) = tag_some k at g n u e
run_some k at g {n} (tells f h w cur raw vs u cs s e hd tk run y) = tag_some k at g n (w ++ (raw ++ ((at n).close ++ u))) e

-- ---- one turn

after_word : (s w u : List ℕ) (i j : ℕ) → drop i s ≡ w ++ u → j ≡ i + length w → drop j s ≡ u
after_word s w u i j e g = ap (λ (x : ℕ). drop x s) g ∙ sym (drop-drop (length w) i s) ∙ ap (drop (length w)) e ∙ drop-append_seam w u

module _ (t s : List ℕ) (n i : ℕ) (bs : List ℕ) (m : Meets t s n i bs) (on : kind_in t n ≢ 13) where
  abbrev st : StandsAt t s n i bs
  st = m.stands

  abbrev x : Node
  x = m.stands.at n

  kept : Kept (drop (11 * n) t) x
  kept = st.ways.tabled.kept n st.is

  info_is : get_or (drop (11 * n) t) 4 0 ≡ info_in t n
  info_is = info_at t n

  kind_is : kind_in t n ≡ number x.sort x.tag
  kind_is = ap (λ (j : ℕ). j / 256 % 256) (sym info_is) ∙ kept.sort

  item_is : info_in t n / 72057594037927936 % 256 ≡ item x.sort
  item_is = ap (λ (j : ℕ). j / 72057594037927936 % 256) (sym info_is) ∙ kept.item

  row_is : info_in t n / 1099511627776 % 256 ≡ x.row
  row_is = ap (λ (j : ℕ). j / 1099511627776 % 256) (sym info_is) ∙ kept.row

  front_is : info_in t n % 256 ≡ length (take 16 x.tag)
  front_is = ap (λ (j : ℕ). j % 256) (sym info_is) ∙ kept.long

  more_is : info_in t n / 281474976710656 % 256 ≡ length (after x.sort x)
  more_is = ap (λ (j : ℕ). j / 281474976710656 % 256) (sym info_is) ∙ kept.end_long

  next_is : next_in t n ≡ x.next
  next_is = ap (λ (j : ℕ). j / 65536 % 256) (sym info_is) ∙ kept.next

  -- the turn's tag is not the root's end, so that another comes
  next_in_lem : In t x.next
  next_in_lem = (st.ways.tabled.leads n st.is).next (omega (arith, go))
    where
      go : x.next ≢ 0
      go e = on (kind_is ∙ ap (λ (o : Sort). number o x.tag) ((st.ways.tabled.leads n st.is).over.0 e))

  some_tag : 0 < length x.tag
  some_tag = kept.some

  pub turn_within : i < length s
  turn_within = omega (arith, some_tag, length-drop i s, ap length m.tag ∙ length-append x.tag m.rest)

  goes_on : (e : ℕ) (cs u : List ℕ) → drop e s ≡ u → Run house_kinds st.at x.next u cs → StandsAt t s (next_in t n) e cs
  goes_on e cs u g r = subst (λ (j : ℕ). StandsAt t s j e cs) (sym next_is)
      (record { at = st.at; ways = st.ways; is = next_in_lem; run = subst (λ (l : List ℕ). Run house_kinds st.at x.next l cs) (sym g) r })

  -- the place after a tag that is no leaf's
  tag_long : (o : Sort) → x.sort ≡ o → after o x ≡ drop 16 x.tag → info_in t n % 256 + info_in t n / 281474976710656 % 256 ≡ length x.tag
  tag_long o e g =
      let a : length (after x.sort x) ≡ length (drop 16 x.tag) = ap length (ap (λ (y : Sort). after y x) e ∙ g) in
      omega (arith, front_is, more_is, a, sym (length-append (take 16 x.tag) (drop 16 x.tag)) ∙ ap length (take-append-drop 16 x.tag))

  here : Met house_kinds st.at st.ways.tags n m.rest bs
  here = met house_kinds st.at st.ways.tags st.run m.rest m.tag

  over_not : x.sort ≡ over → ⊥
  over_not e = on (kind_is ∙ ap (λ (o : Sort). number o x.tag) e)

  -- a tag that has an item puts one byte at least
  pub turn_room : info_in t n / 72057594037927936 % 256 ≢ 0 → (to q : ℕ) → to + length bs ≤ q → to + 1 ≤ q
  turn_room z to q h = go here
    where
      go : Met house_kinds st.at st.ways.tags n m.rest bs → to + 1 ≤ q
      go (ended o b y) = absurd (over_not o)
      go (closed o r) = absurd (z (item_is ∙ ap item o))
      go (opened o cs r y) = omega (arith, h, ap length y)
      go (told f k w cur raw vs v cs o g hd tk r y) = omega (arith, h, ap length y)

  module _ (from : ℕ) (ef : from ≡ i + info_in t n % 256) (d : List ℕ) (to : ℕ) where
    -- a closing tag puts nothing
    pub turn_shut : info_in t n / 72057594037927936 % 256 ≡ 0 → Went t s n i d to bs to (from + info_in t n / 281474976710656 % 256) d
    turn_shut z = go here
      where
        e : ℕ
        e = from + info_in t n / 281474976710656 % 256

        go : Met house_kinds st.at st.ways.tags n m.rest bs → Went t s n i d to bs to (from + info_in t n / 281474976710656 % 256) d
        go (ended o b y) = absurd (over_not o)
        go (opened o cs r y) = absurd (omega (arith, z, item_is ∙ ap item o))
        go (told f h w cur raw vs v cs o g hd tk r y) = absurd (omega (arith, z, item_is ∙ ap item o))
        go (closed o r) =
            let l = tag_long shut o refl in
            record {
              done = [];
              left = bs;
              split = refl;
              puts = puts_none d to;
              stands = goes_on (from + info_in t n / 281474976710656 % 256) bs m.rest (after_word s x.tag m.rest i (from + info_in t n / 281474976710656 % 256) m.tag (omega (arith, ef, l))) r;
              further = omega (arith, ef, l, some_tag);
            }

    module _ (item_some : info_in t n / 72057594037927936 % 256 ≢ 0) (d₁ : List ℕ) (b : ℕ) (eb : b ≡ info_in t n / 1099511627776 % 256) (p : d₁ ≡ pasted d to (b ∷ [])) where
      row_put : Puts d to (x.row ∷ []) (to + 1) d₁
      row_put = puts_as d to (b ∷ []) (x.row ∷ []) (to + 1) d₁ (ap (λ (j : ℕ). j ∷ []) (eb ∙ row_is)) (puts_pasted d to (b ∷ []) 1 d₁ refl p)

      -- a group's tag puts its row byte
      pub turn_group : kind_in t n < 2 → Went t s n i d to bs (to + 1) (from + info_in t n / 281474976710656 % 256) d₁
      turn_group z = go here
        where
          go : Met house_kinds st.at st.ways.tags n m.rest bs → Went t s n i d to bs (to + 1) (from + info_in t n / 281474976710656 % 256) d₁
          go (ended o c y) = absurd (over_not o)
          go (closed o r) = absurd (item_some (item_is ∙ ap item o))
          go (told f h w cur raw vs v cs o g hd tk r y) = absurd (omega (arith, z, leaf_low f h, kind_is ∙ ap (λ (q : Sort). number q x.tag) o))
          go (opened o cs r y) =
              let l = tag_long group o refl in
              record {
                done = x.row ∷ [];
                left = cs;
                split = y;
                puts = row_put;
                stands = goes_on (from + info_in t n / 281474976710656 % 256) cs m.rest (after_word s x.tag m.rest i (from + info_in t n / 281474976710656 % 256) m.tag (omega (arith, ef, l))) r;
                further = omega (arith, ef, l, some_tag);
              }

      -- a leaf's, and its value
      module _ (z : 2 ≤ kind_in t n) where
        record LeafHere : Type 0 where
          values : List ℕ
          end : ℕ
          left : List ℕ
          leaf_at : LeafAt t (11 * n) (kind_in t n) s from values end
          split : bs ≡ x.row ∷ (values ++ left)
          stands : StandsAt t s (next_in t n) (end + info_in t n / 281474976710656 % 256) left
          above : i < end

        leaf_here : LeafHere
        leaf_here = go here
          where
            go : Met house_kinds st.at st.ways.tags n m.rest bs → LeafHere
            go (ended o c y) = absurd (over_not o)
            go (closed o r) = absurd (item_some (item_is ∙ ap item o))
            go (opened o cs r y) =
                absurd (tag_apart x.tag (kind_in t n) (kind_is ∙ ap (λ (q : Sort). number q x.tag) o) (λ v. omega arith) (λ v. omega arith))
            go (told f h w cur raw vs v cs o g hd tk r y) =
                let c = st.ways.closes n in
                let pl : Plain (leaf f h) x.tag = subst (λ (q : Sort). Plain q x.tag) o kept.plain in
                let short : length (take 16 x.tag) ≡ length x.tag = ap length (take_all 16 x.tag pl.0) in
                let fr : drop from s ≡ m.rest = after_word s x.tag m.rest i from m.tag (omega (arith, ef, front_is, short)) in
                let is : drop from s ≡ w ++ (raw ++ (x.close ++ v)) = fr ∙ g in
                let mo : info_in t n / 281474976710656 % 256 ≡ length x.close = more_is ∙ ap (λ (q : Sort). length (after q x)) o in
                let e : ℕ = from + length w + length raw in
                let d₂ : drop (from + length w + length raw) s ≡ x.close ++ v =
                after_word s raw (x.close ++ v) (from + length w) e (after_word s w (raw ++ (x.close ++ v)) from (from + length w) is refl) refl in
                record {
                  values = vs;
                  end = e;
                  left = cs;
                  leaf_at = record {
                    leaf = f;
                    quote = h;
                    number = kind_is ∙ ap (λ (q : Sort). number q x.tag) o;
                    coin = pl.1;
                    words = λ ws q. st.ways.words n ws st.is (o ∙ worded f h ws q pl.1);
                    head = w;
                    currency = cur;
                    raw = raw;
                    rest = c.0 ++ v;
                    is = is ∙ ap (λ (l : List ℕ). w ++ (raw ++ (l ++ v))) c.1;
                    heads = hd;
                    took = tk;
                    end = refl;
                  };
                  split = y;
                  stands = goes_on (e + info_in t n / 281474976710656 % 256) cs v (after_word s x.close v e (e + info_in t n / 281474976710656 % 256) d₂ (ap (λ (j : ℕ). e + j) mo)) r;
                  above = omega (arith, ef, front_is, short, some_tag);
                }
              where
                worded : (f : Leaf) (h : Option Quote) (ws : List (List ℕ)) → f ≡ enum ws → coined f ≡ given h → leaf f h ≡ leaf (enum ws) none
                worded f none ws q c = ap (λ (y : Leaf). leaf y none) q
                worded f (some p) ws q c = absurd (false≢true (sym (ap coined q) ∙ c))

        pub leaf_asked : 11 * n + 11 ≤ length t → length s ≤ 1048576 → to + length bs ≤ length d → LeafAsked t (11 * n) (kind_in t n) s from d₁ (to + 1)
        leaf_asked a c h =
            let l = leaf_here in
            record {
              table = a;
              small = c;
              bytes = l.values;
              end = l.end;
              leaf = l.leaf_at;
              room = omega (arith, h, ap length l.split, length-append l.values l.left, row_put.long);
            }

        pub turn_leaf : (d₂ : List ℕ) (r e : ℕ) → LeafLaid t (11 * n) (kind_in t n) s from d₁ (to + 1) r e d₂ → Went t s n i d to bs r (e + info_in t n / 281474976710656 % 256) d₂
        turn_leaf d₂ r e laid =
            let l = leaf_here in
            let q = laid l.values l.end l.leaf_at in
            record {
              done = x.row ∷ l.values;
              left = l.left;
              split = l.split;
              puts = puts_then d to (x.row ∷ []) (to + 1) d₁ l.values r d₂ row_put q.1;
              stands = subst (λ (j : ℕ). StandsAt t s (next_in t n) (j + info_in t n / 281474976710656 % 256) l.left) (sym q.0) l.stands;
              further = omega (arith, q.0, l.above);
            }

-- after a turn a run goes on over some text
pub went_within : (t s : List ℕ) (n i : ℕ) (d : List ℕ) (to : ℕ) (bs : List ℕ) (r e : ℕ) (d' : List ℕ) → Went t s n i d to bs r e d' → e < length s
went_within t s n i d to bs r e d' w = let x = w.stands in omega (arith, run_some house_kinds x.at x.ways.tags x.run, length-drop e s)

-- ---- the loop

-- of the run's bytes bs what is done stands in d, after the head, and what is left comes from node n and place i on
pub record Filled (t s d₁ bs d : List ℕ) (n i to : ℕ) : Type 0 where
  pub done : List ℕ
  pub left : List ℕ
  pub split : bs ≡ done ++ left
  pub puts : Puts d₁ 7 done to d
  pub stands : StandsAt t s n i left

pub record Filling (t s : List ℕ) (from : ℕ) (d₁ d : List ℕ) (n i to : ℕ) : Type 0 where
  pub go : (bs : List ℕ) → StandsAt t s 1 from bs → Filled t s d₁ bs d n i to

pub fill_start : (t s : List ℕ) (from : ℕ) (d₁ : List ℕ) (to : ℕ) → to ≡ 7 → Filling t s from d₁ d₁ 1 from to
fill_start t s from d₁ to e =
    subst (λ (m : ℕ). Filling t s from d₁ d₁ 1 from m) (sym e) (record { go = λ bs w. record { done = []; left = bs; split = refl; puts = puts_none d₁ 7; stands = w } })

module _ (t s : List ℕ) (from kind : ℕ) (d₀ d₁ : List ℕ) (pre : Fillable t s from d₀) (hd : d₁ ≡ pasted d₀ 0 (head_of kind)) (d : List ℕ) (n i to : ℕ) (inv : Filling t s from d₁ d n i to) (j : ℕ) (ej : j ≡ i + span is_blank (drop i s)) where
  mine : Filled t s d₁ pre.bytes d n i to
  mine = inv.go pre.bytes pre.stands

  head_put : Puts d₀ 0 (head_of kind) 7 d₁
  head_put = puts_pasted d₀ 0 (head_of kind) 7 d₁ refl hd

  pub fill_bare : span is_blank (drop j s) ≡ 0
  fill_bare = after_blanks s i j ej

  my_stands : StandsAt t s n j mine.left
  my_stands = stand_blanks t s n i j mine.left ej mine.stands

  pub fill_stands : (bs : List ℕ) × StandsAt t s n j bs
  fill_stands = (mine.left, my_stands)

  -- a run goes on over some text
  pub fill_low : j ≤ 10000000
  fill_low = omega (arith, pre.small, run_some house_kinds my_stands.at my_stands.ways.tags my_stands.run, length-drop j s)

  module _ (r : ℕ) (found : (bs : List ℕ) → StandsAt t s n j bs → Meets t s r j bs) where
    my_meets : Meets t s r j mine.left
    my_meets = found mine.left my_stands

    pub fill_in : In t r
    fill_in = my_meets.stands.is

    left_room : to + length mine.left ≤ length d
    left_room = omega (arith, pre.room, mine.puts.behind, mine.puts.long, head_put.long, ap length mine.split ∙ length-append mine.done mine.left)

    pub fill_asked : kind_in t r ≢ 13 → TurnAsked t s r j d to
    fill_asked o = record { small = pre.small; on = o; bytes = mine.left; meets = my_meets; room = left_room }

    -- the root's end
    module _ (o : kind_in t r ≡ 13) (d' : List ℕ) (p : d' ≡ pasted d to (0 ∷ [])) where
      pub end_long_lem : length d' ≡ length d₀
      end_long_lem = (puts_pasted d to (0 ∷ []) 1 d' refl p).long ∙ mine.puts.long ∙ head_put.long

      last : (cs : List ℕ) (y : Meets t s r j cs) → cs ≡ 0 ∷ []
      last cs y = go (met house_kinds y.stands.at y.stands.ways.tags y.stands.run y.rest y.tag)
        where
          k : number (y.stands.at r).sort (y.stands.at r).tag ≡ 13
          k = sym (y.stands.ways.tabled.kept r y.stands.is).sort ∙ ap (λ (q : ℕ). q / 256 % 256) (info_at t r) ∙ o

          kindly : (q : Sort) → (y.stands.at r).sort ≡ q → number q (y.stands.at r).tag ≡ 13
          kindly q e = sym (ap (λ (u : Sort). number u (y.stands.at r).tag) e) ∙ k

          go : Met house_kinds y.stands.at y.stands.ways.tags r y.rest cs → cs ≡ 0 ∷ []
          go (ended o' b e) = e
          go (closed o' q) = absurd (tag_apart (y.stands.at r).tag 13 (sym (kindly shut o')) (λ v. omega arith) (λ v. omega arith))
          go (opened o' ds q e) = absurd (tag_apart (y.stands.at r).tag 13 (sym (kindly group o')) (λ v. omega arith) (λ v. omega arith))
          go (told f h w cur raw vs v ds o' g hd tk q e) = absurd (omega (arith, leaf_high f h, kindly (leaf f h) o'))

      pub fill_ends : Fills t s from kind d₀ d'
      fill_ends bs w =
          let x = inv.go bs w in
          let z = last x.left (found x.left (stand_blanks t s n i j x.left ej x.stands)) in
          let e : x.done ++ (0 ∷ []) ≡ bs = ap (λ (l : List ℕ). x.done ++ l) (sym z) ∙ sym x.split in
          let q = puts_as d₁ 7 (x.done ++ (0 ∷ [])) bs (to + 1) d' e (puts_then d₁ 7 x.done to d (0 ∷ []) (to + 1) d' x.puts (puts_pasted d to (0 ∷ []) 1 d' refl p)) in
          subst (λ (m : ℕ). Puts d₀ 0 (head_of kind ++ bs) m d') q.behind (puts_then d₀ 0 (head_of kind) 7 d₁ bs (to + 1) d' head_put q)

    module _ (o : kind_in t r ≢ 13) (d' : List ℕ) (to' e : ℕ) (went : (bs : List ℕ) → Meets t s r j bs → Went t s r j d to bs to' e d') where
      pub fill_again : Filling t s from d₁ d' (next_in t r) e to'
      fill_again = record {
        go = λ bs w.
            let x = inv.go bs w in
            let y = went x.left (found x.left (stand_blanks t s n i j x.left ej x.stands)) in
            record {
              done = x.done ++ y.done;
              left = y.left;
              split = x.split ∙ ap (λ (l : List ℕ). x.done ++ l) y.split ∙ sym (append_assoc x.done y.done y.left);
              puts = puts_then d₁ 7 x.done to d y.done to' d' x.puts y.puts;
              stands = y.stands;
            };
      }

      pub fill_less : length s - e < length s - i
      fill_less = omega (arith, (went mine.left my_meets).further, ej, turn_within t s r j mine.left my_meets o)
