-- Going over the items for the first that no file may say: those that are passed are of no row that is gone, and the first that is finer is noted. Assumes nothing.
use Rattle.std.specs.Prelude.{Option as Handed, None, Some, IfSome, is_some}
use mathlib.Core.Path.{◌≡◌, refl, sym, ◌∙◌, ap, ap₂, subst}
use mathlib.Core.Logic.{◌≢◌}
use mathlib.Core.Bool.{Bool, true, false, not, cond, true≢false}
use mathlib.Core.List.{List, [], ◌∷◌, ◌++◌, append_assoc, append-nil}
use mathlib.Core.Option.{Option, none}
use Prim.Native.Nat.{ℕ, ◌+◌, ◌%◌, ◌≤◌, ◌<◌}
use native.Mathlib.Omega.{arith}
use lib.Dec.{eqb}
use lib.Seq.{drop-drop}
use borrow.Author.Tests.{eq-eqb, ne_eqb, eqb-true}
use lib.ListN.{length, get_or, take, drop, length-append}
use Rattle.text.specs.Bytes.{is_name_start, is_name_part}
use Rattle.text.specs.Lists.{Begins}
use Rattle.text.specs.Numbers.{big_endian, number}
use Rattle.text.proofs.Numbers.{number_big}
use Rattle.list.specs.Listing.{Leaf, Kind, Listing, size, row_at}
use Rattle.list.specs.Changed.{Gone}
use Rattle.list.specs.tables.Table.{cell, name_in, list_of}
use Rattle.list.specs.tables.Sound.{Sound}
use Rattle.list.proofs.rows.Rows.{size_is, name_is}
use Rattle.value.specs.Value.{Value, moment, IsValue, bytes as valued}
use Rattle.value.specs.Rules.{InThousandths}
use Rattle.value.specs.Kind.{code}
use Rattle.value.specs.mirror.Ends.{width}
use Rattle.value.proofs.script.Meaning.{kind_number}
use Rattle.image.specs.Image.{Item, value_bytes, item_bytes, items_bytes}
use Rattle.image.specs.Kinds.{values}
use Rattle.list.specs.tables.Numbers.{is_group_in}
use Rattle.file_letter.proofs.Meeting.{finer_none, finer_not, not_finer}
use Rattle.file_letter.specs.Stale.{NoneOf, FirstAt, Withdrawn, Finer}
use Rattle.file_answers.specs.Answers.{gone_by}
use Rattle.file_write.specs.mirror.Emit.{ValueAt}
use Rattle.file_write.specs.mirror.Stale.{place_in, finer_by, noted_by, Lined, Searched, FirstFiner, clear, found, FirstStale, lost, kept, Stale}
use Rattle.file_write.proofs.Standing.{inside, rest_there, Standing, stand_in, stand_end, Ahead, ahead, group_none, group_after, Leafed, leafed, value_at_lem, end_is, leaf_after}

-- ---- what is asked of a value's bytes

micros_there : (y mo d h mi s u z : ℕ) (t : List ℕ) → u < 1000000 → number (take 4 (drop 7 (valued (moment y mo d h mi s u z) ++ t))) ≡ u
unfolding big_endian
micros_there y mo d h mi s u z t k = number_big 4 u (omega arith)

-- the test, as it goes
pub finer_other : (k : ℕ) (s : List ℕ) → k ≢ 11 → false ≡ finer_by k s
unfolding finer_by
finer_other k s n = rw (ne_eqb k 11 n) refl

pub finer_dtm : (k : ℕ) (run : List ℕ) (i n : ℕ) → k ≡ 11 → n ≡ number (take 4 (drop (i + 7) run)) → not (eqb (n % 1000) 0) ≡ finer_by k (drop i run)
unfolding finer_by
finer_dtm k run i n e f =
    ap (λ (m : ℕ). not (eqb (m % 1000) 0)) (f ∙ ap (λ (s : List ℕ). number (take 4 s)) (sym (drop-drop 7 i run))) ∙ rw e refl

-- so or not, by the test
pub record Asked (b : Bool) (v : Value) : Type 0 where
  pub so' : b ≡ true → InThousandths v → ⊥
  pub not' : b ≡ false → InThousandths v

abbrev timeless : (v : Value) → InThousandths v → Asked false v
timeless v h = record { so' = λ e. absurd (true≢false (sym e)); not' = λ e. h }

finer_asked : (f : Leaf) (v : Value) (t : List ℕ) → IsValue f v → Asked (finer_by (code f) (valued v ++ t)) v
unfolding finer_by
finer_asked f v t (IsValue.reference r) = timeless v tt
finer_asked f v t (IsValue.writing r) = timeless v tt
finer_asked f v t (IsValue.account r) = timeless v tt
finer_asked f v t (IsValue.currency r) = timeless v tt
finer_asked f v t (IsValue.listed a b) = timeless v tt
finer_asked f v t (IsValue.either) = timeless v tt
finer_asked f v t (IsValue.count h) = timeless v tt
finer_asked f v t (IsValue.money z b) = timeless v tt
finer_asked f v t (IsValue.dated r) = timeless v tt
finer_asked f v t (IsValue.timed {y = y} {mo = mo} {d = d} {h = h} {mi = mi} {s = s} {u = u} {z = z} p) =
    subst (λ (m : ℕ). Asked (not (eqb (m % 1000) 0)) (moment y mo d h mi s u z)) (sym (micros_there y mo d h mi s u z t p.fraction)) (go (eqb (u % 1000) 0) refl)
  where
    go : (b : Bool) → eqb (u % 1000) 0 ≡ b → Asked (not b) (moment y mo d h mi s u z)
    go true e = record { so' = λ q. absurd (true≢false (sym q)); not' = λ q. eqb-true (u % 1000) 0 e }
    go false e = record { so' = λ q z. true≢false (sym (eq-eqb (u % 1000) 0 z) ∙ e); not' = λ q. absurd (true≢false q) }

-- of a value that stands in the run, by its row's kind
pub finer_there : (t pool run : List ℕ) (x i : ℕ) (f : Leaf) (v : Value) → ValueAt t pool run x i f v → Asked (finer_by (cell t x 2) (drop i run)) v
finer_there t pool run x i f v a =
    subst (λ (s : List ℕ). Asked (finer_by (cell t x 2) s) v) (sym a.holds)
    (subst (λ (k : ℕ). Asked (finer_by k (valued v ++ a.behind)) v) (kind_number (cell t x 2) (cell t x 3) _ f a.kind) (finer_asked f v a.behind a.is))

-- ---- a row without a name

module _ (t pool : List ℕ) (x : ℕ) (lo : 0 < x) (hi : x ≤ size (list_of t pool)) where
  abbrev name_there : (row_at (list_of t pool) x).name ≡ name_in t pool x
  name_there = name_is t pool x lo (omega (arith, size_is t pool))

  pub gone_so : gone_by t pool x ≡ true → Gone (list_of t pool) x
  unfolding gone_by
  gone_so e = name_there ∙ none_long (name_in t pool x) (eqb-true (length (name_in t pool x)) 0 e)
    where
      none_long : (n : List ℕ) → length n ≡ 0 → n ≡ []
      none_long [] h = refl
      none_long (y ∷ n) h = absurd (omega arith)

  pub gone_not : gone_by t pool x ≡ false → Gone (list_of t pool) x → ⊥
  unfolding gone_by
  gone_not e g = true≢false (sym (eq-eqb (length (name_in t pool x)) 0 (ap length (sym name_there ∙ g))) ∙ e)

-- ---- what is noted

pub noted_before : (f k : ℕ) (run : List ℕ) (i : ℕ) → f ≢ 0 → f ≡ noted_by f k run i
unfolding noted_by
noted_before f k run i n = rw (ne_eqb f 0 n) refl

module _ (f k : ℕ) (run : List ℕ) (i : ℕ) (z : f ≡ 0) (c : Bool) (e : c ≡ finer_by k (drop (i + 1) run)) where
  noted_by_lem : noted_by f k run i ≡ cond c i 0
  unfolding noted_by
  noted_by_lem = ap (λ (x : Bool). cond x (cond (finer_by k (drop (i + 1) run)) i 0) f) (eq-eqb f 0 z) ∙ ap (λ (x : Bool). cond x i 0) (sym e)

  pub noted_here : c ≡ true → i ≡ noted_by f k run i
  noted_here q = sym (noted_by_lem ∙ ap (λ (x : Bool). cond x i 0) q)

  pub noted_nowhere : c ≡ false → 0 ≡ noted_by f k run i
  noted_nowhere q = sym (noted_by_lem ∙ ap (λ (x : Bool). cond x i 0) q)

-- where a place was noted before, it stays; where none was, it is 0
pub noted_kept : (f : Handed ℕ) (k : ℕ) (run : List ℕ) (i : ℕ) → IfSome f (λ p. 0 < p) → is_some f ≡ true → place_in f ≡ noted_by (place_in f) k run i
noted_kept None k run i h e = absurd (true≢false (sym e))
noted_kept (Some p) k run i h e = noted_before p k run i (λ z. omega (arith, h, z))

pub none_noted : (f : Handed ℕ) → is_some f ≡ false → place_in f ≡ 0
none_noted None e = refl
none_noted (Some p) e = absurd (true≢false e)

none_then : (P : Item values → Type 0) (is : List (Item values)) (j : Item values) → NoneOf P is → (P j → ⊥) → NoneOf P (is ++ (j ∷ []))
none_then P [] j h k = (k, tt)
none_then P (i ∷ is) j h k = (h.0, none_then P is j h.1 k)

module _ (l : Listing) (run : List ℕ) (from : ℕ) (is : List (Item values)) (j : Item values) where
  -- the first of some items is the first of more
  first_on : (r p : ℕ) → FirstAt l Finer from is r p → FirstAt l Finer from (is ++ (j ∷ [])) r p
  first_on r p f = record {
    before = f.before;
    item = f.item;
    rest = f.rest ++ (j ∷ []);
    at = ap (λ (u : List (Item values)). u ++ (j ∷ [])) f.at ∙ append_assoc f.before (f.item ∷ f.rest) (j ∷ []);
    its = f.its;
    clean = f.clean;
    own = f.own;
    stands = f.stands;
  }

  noted_on : (f : ℕ) → (Finer j → ⊥) → FirstFiner l run from is f → FirstFiner l run from (is ++ (j ∷ [])) f
  noted_on f n (clear e c) = clear e (none_then Finer is j c n)
  noted_on f n (found h k a) = found h k (first_on (get_or run f 0) f a)

  -- a leaf at i: noted where nothing was, and it is finer
  noted_leaf : (k f g i : ℕ) → g ≡ noted_by f k run i → 0 < i → i < length run → j.0 ≡ get_or run i 0 → i ≡ from + length (items_bytes values l is)
      → (finer_by k (drop (i + 1) run) ≡ true → Finer j) → (finer_by k (drop (i + 1) run) ≡ false → Finer j → ⊥) → FirstFiner l run from is f → FirstFiner l run from (is ++ (j ∷ [])) g
  unfolding noted_by
  noted_leaf k f g i e lo hi own stood so not' (found h m a) =
      let z : g ≡ f = e ∙ ap (λ (b : Bool). cond b (cond (finer_by k (drop (i + 1) run)) i 0) f) (ne_eqb f 0 (λ q. omega arith)) in
      subst (FirstFiner l run from (is ++ (j ∷ []))) (sym z) (found h m (first_on (get_or run f 0) f a))
  noted_leaf k f g i e lo hi own stood so not' (clear q c) = go (finer_by k (drop (i + 1) run)) refl
    where
      z : (b : Bool) → finer_by k (drop (i + 1) run) ≡ b → g ≡ cond b i 0
      z b d = e ∙ ap (λ (x : Bool). cond x (cond (finer_by k (drop (i + 1) run)) i 0) f) (eq-eqb f 0 q) ∙ ap (λ (x : Bool). cond x i 0) d

      go : (b : Bool) → finer_by k (drop (i + 1) run) ≡ b → FirstFiner l run from (is ++ (j ∷ [])) g
      go true d =
          subst (FirstFiner l run from (is ++ (j ∷ []))) (sym (z true d))
          (found lo hi (record { before = is; item = j; rest = []; at = refl; its = so d; clean = c; own = sym own; stands = stood }))
      go false d = clear (z false d) (none_then Finer is j c (not' d))

-- ---- where the pass stands

module _ (t pool : List ℕ) where
  abbrev l : Listing
  l = list_of t pool

  bytes_then : (is : List (Item values)) (j : Item values) → length (items_bytes values l (is ++ (j ∷ []))) ≡ length (items_bytes values l is) + length (item_bytes values l j)
  bytes_then [] j = omega (arith, ap length (append-nil (item_bytes values l j)))
  bytes_then (i ∷ is) j =
      omega (arith, length-append (item_bytes values l i) (items_bytes values l (is ++ (j ∷ []))), length-append (item_bytes values l i) (items_bytes values l is), bytes_then is j)

  module _ (run : List ℕ) (from : ℕ) (all : List (Item values)) where
    -- the items before i are passed, none of them of a row that is gone; f is the place of the first that is finer, or 0
    pub record Passing (f i : ℕ) : Type 0 where
      pub stands : Standing t pool run i
      pub passed : List (Item values)
      pub are : passed ++ stands.left ≡ all
      pub clean : NoneOf (Withdrawn l) passed
      pub noted : FirstFiner l run from passed f
      pub place : i ≡ from + length (items_bytes values l passed)
      pub late : from < i

  -- the same of whatever items stand in the run
  abbrev pub PassingOn : List ℕ → ℕ → ℕ → ℕ → Type 0
  PassingOn run from f i = (w : Lined t pool run from) → Passing run from ((1, none) ∷ w.kids) f i

  module _ (so : Sound t pool) (run : List ℕ) (from : ℕ) where
    -- ---- the start: the root is passed, which has a name

    pub pass_first : PassingOn run from 0 (from + 1)
    pass_first w = record {
      stands = record { left = w.kids; rest = w.rest; here = rest_there run from 1 (items_bytes values l w.kids ++ (0 ∷ w.rest)) w.at; fine = w.each };
      passed = (1, none) ∷ [];
      are = refl;
      clean = ((λ g. subst (Begins is_name_start is_name_part) g so.well.root_name), tt);
      noted = clear refl (finer_none 1, tt);
      place = omega (arith, ap (λ (k : Kind). length (value_bytes values l k none)) so.well.root.1, ap length (append-nil (item_bytes values l (1, none))));
      late = omega arith;
    }

    pub pass_start : Lined t pool run from → from < length run
    pass_start w = inside run from 1 (items_bytes values l w.kids ++ (0 ∷ w.rest)) w.at

    -- ---- a turn

    module _ (all : List (Item values)) (f i : ℕ) (w : Passing run from all f i) where
      pub pass_clear : get_or run i 0 ≡ 0 → FirstStale l run from all f
      pass_clear z =
          let e : w.passed ≡ all = sym (append-nil w.passed) ∙ ap (λ (is : List (Item values)). w.passed ++ is) (sym (stand_end t pool so run i w.stands z)) ∙ w.are in
          kept (subst (NoneOf (Withdrawn l)) e w.clean) (subst (λ (is : List (Item values)). FirstFiner l run from is f) e w.noted)

      module _ (x : ℕ) (ex : x ≡ get_or run i 0) (n : x ≢ 0) where
        abbrev h : Ahead t pool so run i w.stands x
        h = ahead t pool so run i w.stands x ex n

        onto : (w.passed ++ ((x, h.val) ∷ [])) ++ h.more ≡ all
        onto =
            append_assoc w.passed ((x, h.val) ∷ []) h.more
            ∙ ap (λ (is : List (Item values)). w.passed ++ is) (sym h.is) ∙ w.are

        pub pass_gone : gone_by t pool x ≡ true → FirstStale l run from all i
        pass_gone g =
            lost (omega (arith, w.late)) (stand_in t pool so run i w.stands) (record {
              before = w.passed;
              item = (x, h.val);
              rest = h.more;
              at = sym onto ∙ append_assoc w.passed ((x, h.val) ∷ []) h.more;
              its = gone_so t pool x h.its.0 h.its.1 g;
              clean = w.clean;
              own = sym ex;
              stands = w.place;
            })

        module _ (g : gone_by t pool x ≡ false) (b : Bool) (eb : b ≡ is_group_in (cell t x 2)) where
          cleaner : NoneOf (Withdrawn l) (w.passed ++ ((x, h.val) ∷ []))
          cleaner = none_then (Withdrawn l) w.passed (x, h.val) w.clean (gone_not t pool x h.its.0 h.its.1 g)

          pub pass_group : b ≡ true → Passing run from all f (i + 1)
          pass_group y =
              let o = group_none t pool so run i w.stands x ex n b eb y in
              record {
                stands = group_after t pool so run i w.stands x ex n b eb y;
                passed = w.passed ++ ((x, h.val) ∷ []);
                are = onto;
                clean = cleaner;
                noted = noted_on l run from w.passed (x, h.val) f (subst (λ (v : Option Value). Finer (x, v) → ⊥) (sym o.0) (finer_none x)) w.noted;
                place = omega (arith, w.place, bytes_then w.passed (x, h.val), ap length o.1);
                late = omega (arith, w.late);
              }

          module _ (y : b ≡ false) where
            abbrev its : Leafed t pool (row_at l x).kind h.val
            its = leafed t pool so run i w.stands x ex n b eb y

            asked : Asked (finer_by (cell t x 2) (drop (i + 1) run)) its.val
            asked = finer_there t pool run x (i + 1) its.type its.val (value_at_lem t pool so run i w.stands x ex n b eb y)

            module _ (e : ℕ) (ee : e ≡ i + 1 + width (cell t x 2) (drop (i + 1) run)) where
              pub pass_leaf : (g' : ℕ) → g' ≡ noted_by f (cell t x 2) run i → Passing run from all g' e
              pass_leaf g' eg =
                  let d = end_is t pool so run i w.stands x ex n b eb y e ee in
                  let v : value_bytes values l (row_at l x).kind h.val ≡ valued its.val = ap₂ (λ (k : Kind) (v : Option Value). value_bytes values l k v) its.kind its.some' in
                  record {
                    stands = leaf_after t pool so run i w.stands x ex n b eb y e ee;
                    passed = w.passed ++ ((x, h.val) ∷ []);
                    are = onto;
                    clean = cleaner;
                    noted =
                        noted_leaf l run from w.passed (x, h.val) (cell t x 2) f g' i eg (omega (arith, w.late)) (stand_in t pool so run i w.stands) ex w.place
                        (λ z. subst (λ (v : Option Value). Finer (x, v)) (sym its.some') (not_finer x its.val (asked.so' z)))
                        (λ z. subst (λ (v : Option Value). Finer (x, v) → ⊥) (sym its.some') (λ k. finer_not x its.val k (asked.not' z))) w.noted;
                    place = omega (arith, w.place, bytes_then w.passed (x, h.val), ap length v, d);
                    late = omega (arith, w.late, d);
                  }

              pub pass_less : i < e
              pass_less = omega (arith, end_is t pool so run i w.stands x ex n b eb y e ee)

-- ---- the same of whatever items stand in the run, as the loop asks for it

module _ (t pool run : List ℕ) (from : ℕ) (pre : Searched t pool run from) where
  pub stale_start : from < length run
  stale_start = pass_start t pool pre.sound run from pre.lined

  pub stale_first : PassingOn t pool run from 0 (from + 1)
  stale_first = pass_first t pool pre.sound run from

  module _ (f i : ℕ) (w : PassingOn t pool run from f i) where
    abbrev here : Passing t pool run from ((1, none) ∷ pre.lined.kids) f i
    here = w pre.lined

    pub stale_in : i < length run
    stale_in = stand_in t pool pre.sound run i here.stands

    pub stale_late : 0 < i
    stale_late = omega (arith, here.late)

    module _ (x : ℕ) (ex : x ≡ get_or run i 0) where
      pub stale_clear : x ≡ 0 → Stale t pool run from f
      stale_clear z h = pass_clear t pool pre.sound run from _ f i (w h) (sym ex ∙ z)

      module _ (nz : x ≢ 0) (g : Bool) (eg : g ≡ gone_by t pool x) where
        pub stale_gone : g ≡ true → Stale t pool run from i
        stale_gone q h = pass_gone t pool pre.sound run from _ f i (w h) x ex nz (sym eg ∙ q)

        module _ (q : g ≡ false) (k : ℕ) (ek : k ≡ cell t x 2) (b : Bool) (eb : b ≡ is_group_in k) where
          sorted : b ≡ is_group_in (cell t x 2)
          sorted = eb ∙ ap is_group_in ek

          pub stale_group : b ≡ true → PassingOn t pool run from f (i + 1)
          stale_group y h = pass_group t pool pre.sound run from _ f i (w h) x ex nz (sym eg ∙ q) b sorted y

          module _ (y : b ≡ false) (e : ℕ) (ee : e ≡ i + 1 + width k (drop (i + 1) run)) where
            ends : e ≡ i + 1 + width (cell t x 2) (drop (i + 1) run)
            ends = ee ∙ ap (λ (j : ℕ). i + 1 + width j (drop (i + 1) run)) ek

            pub stale_leaf : (f' : ℕ) → f' ≡ noted_by f k run i → PassingOn t pool run from f' e
            stale_leaf f' ef h = pass_leaf t pool pre.sound run from _ f i (w h) x ex nz (sym eg ∙ q) b sorted y e ends f' (ef ∙ ap (λ (j : ℕ). noted_by f j run i) ek)

            pub stale_less : i < e
            stale_less = pass_less t pool pre.sound run from _ f i here x ex nz (sym eg ∙ q) b sorted y e ends
