-- What the reader's and the picker's promises mean where the tables are sound: the defined answers. Assumes nothing.
use mathlib.Core.Path.{◌≡◌, refl, sym, ◌∙◌, ap, ap₂, subst}
use mathlib.Core.Bool.{true, false, cond, not, false≢true}
use mathlib.Core.List.{List, [], ◌++◌}
use mathlib.Core.Option.{Option, none, some}
use Prim.Native.Nat.{ℕ, ◌+◌, ◌≤◌, ◌<◌}
use native.Mathlib.Omega.{arith}
use lib.Dec.{leb}
use lib.ListN.{length, drop}
use Rattle.answer.specs.declared.Answer.{Answer}
use Rattle.list.specs.Listing.{Leaf, Kind, group, choice, leaf, Listing, size, row_at, is_group}
use Rattle.list.specs.WellFormed.{LeafOk, KindOk}
use Rattle.list.specs.tables.Table.{cell, kind_of, words_in, list_of}
use Rattle.list.specs.tables.Sound.{word_count, Sound}
use Rattle.list.proofs.rows.Rows.{size_is, kind_is}
use Rattle.value.specs.Value.{Value, IsValue, bytes}
use Rattle.image.specs.Image.{value_bytes}
use Rattle.image.specs.Kinds.{length_bytes, values}
use Rattle.image.specs.Place.{Holds, Tells}
use Rattle.image.specs.Count.{Taken}
use Rattle.image.specs.Pick.{Selects}
use Rattle.image.specs.Means.{ItemEnds, Told, SelectsAnswer, SelectsPart}
use Rattle.image.specs.mirror.Follow.{OfKind, ItemOk}
use Rattle.image.specs.mirror.Step.{is_leaf}
use Rattle.value.specs.mirror.Ends.{value_end}
use Rattle.value.specs.given.Stands.{Ends}
use Rattle.value.proofs.stored.Numbered.{by_kind}
use Rattle.value.proofs.stored.Meaning.{end_none, end_some, ends}
use Rattle.image.specs.mirror.Ends.{item_end}
use Rattle.image.specs.mirror.Run.{Behind, head_of, Chooses, Answered, Handed}
use Rattle.image.proofs.content.Rows.{well}
use Rattle.image.proofs.next.Lines.{lines}
use Rattle.image.proofs.types.Lawful.{lawful}
use Rattle.image.proofs.loops.Reader.{Ending, behind_tells, behind_some}
use Rattle.image.proofs.loops.Picker.{chooses_selects}

-- two bytes stand before a text, by the number of its kind
head_code : (k : ℕ) (ws : List (List ℕ)) (f : Leaf) (c : ℕ) → kind_of c k ws ≡ leaf f → cond (leb c 5) 2 0 ≡ length_bytes f
head_code k ws f c e = go c e ∙ ap headed e
  where
    headed : Kind → ℕ
    headed group = 0
    headed choice = 0
    headed (leaf f) = length_bytes f

    clash : {A : Type 0} (g : Kind) → is_group g ≡ true → g ≡ leaf f → A
    clash g h d = absurd (false≢true (sym (ap is_group d) ∙ h))

    go : (c : ℕ) → kind_of c k ws ≡ leaf f → cond (leb c 5) 2 0 ≡ headed (kind_of c k ws)
    go =
        by_kind (λ c. kind_of c k ws ≡ leaf f → cond (leb c 5) 2 0 ≡ headed (kind_of c k ws))
        (clash group refl) (clash choice refl) (λ d. refl) (λ d. refl) (λ d. refl) (λ d. refl) (λ d. refl) (λ d. refl) (λ d. refl) (λ d. refl) (λ d. refl) (λ d. refl)
        (λ c. clash group refl)

module _ (t pool : List ℕ) (so : Sound t pool) (s : List ℕ) where
  abbrev l : Listing
  l = list_of t pool

  row : (x : ℕ) → 0 < x → x ≤ size l → (row_at l x).kind ≡ kind_of (cell t x 2) (cell t x 3) (words_in t pool x)
  row x a b = kind_is t pool x a (omega (arith, size_is t pool))

  -- a group's item and a leaf's
  data Sort (x i : ℕ) : Type 0 where
    compound : is_group (row_at l x).kind ≡ true → item_end t s x i ≡ i → Sort x i
    simple : (f : Leaf) → (row_at l x).kind ≡ leaf f → item_end t s x i ≡ value_end (cell t x 2) (cell t x 3) (cell t x 15) s i → Sort x i

  sort : (x i : ℕ) → 0 < x → x ≤ size l → Sort x i
  unfolding item_end
  sort x i a b = go (row_at l x).kind refl ((lines t pool so).line x a b).leaf
    where
      go : (k : Kind) → (row_at l x).kind ≡ k → is_leaf t x ≡ not (is_group (row_at l x).kind) → Sort x i
      go group e h = let z : is_leaf t x ≡ false = h ∙ ap (λ (k : Kind). not (is_group k)) e in compound (ap is_group e) (rw z)
      go choice e h = let z : is_leaf t x ≡ false = h ∙ ap (λ (k : Kind). not (is_group k)) e in compound (ap is_group e) (rw z)
      go (leaf f) e h = let z : is_leaf t x ≡ true = h ∙ ap (λ (k : Kind). not (is_group k)) e in simple f e (rw z)

  leaf_ok_lem : (x : ℕ) (f : Leaf) → (row_at l x).kind ≡ leaf f → LeafOk f
  leaf_ok_lem x f e = subst KindOk e ((well l so.well).kinds x)

  -- the last cell of a leaf's row is how many words its type lists
  counted : (x : ℕ) (f : Leaf) → x ≤ size l → (row_at l x).kind ≡ leaf f → cell t x 15 ≡ word_count (leaf f)
  counted x f b e = (so.derived x b).words ∙ ap word_count e

  group_none : (k : Kind) → is_group k ≡ true → OfKind values l k none
  group_none k e = e

  group_bytes : (k : Kind) → is_group k ≡ true → value_bytes values l k none ≡ []
  group_bytes group e = refl
  group_bytes choice e = refl
  group_bytes (leaf f) e = absurd (false≢true e)

  leaf_value : (k : Kind) (f : Leaf) (v : Option Value) → k ≡ leaf f → OfKind values l k v → (w : Value) × IsValue f w × (value_bytes values l k v ≡ bytes w)
  leaf_value group f v e o = absurd (false≢true (sym (ap is_group e)))
  leaf_value choice f v e o = absurd (false≢true (sym (ap is_group e)))
  leaf_value (leaf g) f none e o = absurd (false≢true o)
  leaf_value (leaf g) f (some w) e o = let d : g ≡ f = cc in (w, subst (λ (y : Leaf). IsValue y w) d o, refl)

  pub ending : Ending t (item_end t s) s values l
  ending = record { none = λ x i a b c d e v u g o. absent x i b d e v u g o c (sort x i a b) a; some = λ x i a b c d e. present x i b d e (sort x i a b) a }
    where
      absent : (x i : ℕ) → x ≤ size l → i ≤ length s → item_end t s x i ≡ 0 → (v : Option Value) (u : List ℕ) → drop i s ≡ value_bytes values l (row_at l x).kind v ++ u → ItemOk values l x v → 0 < i → Sort x i → 0 < x → ⊥
      absent x i b d e v u g o c (compound h f) a = omega arith
      absent x i b d e v u g o c (simple f k h) a =
          let w = leaf_value (row_at l x).kind f v k o in
          end_none (cell t x 2) (cell t x 3) (cell t x 15) (words_in t pool x) f (leaf_ok_lem x f k) (counted x f b k) (sym (row x a b) ∙ k) s i (sym h ∙ e) w.0 u w.1 (g ∙ ap (λ (z : List ℕ). z ++ u) w.2)

      present : (x i : ℕ) → x ≤ size l → i ≤ length s → 0 < item_end t s x i → Sort x i → 0 < x
          → (v : Option Value) × ItemOk values l x v × (drop i s ≡ value_bytes values l (row_at l x).kind v ++ drop (item_end t s x i) s) × (item_end t s x i ≡ i + length (value_bytes values l (row_at l x).kind v))
      present x i b d e (compound h f) a =
          let z : value_bytes values l (row_at l x).kind none ≡ [] = group_bytes (row_at l x).kind h in
          (none, group_none (row_at l x).kind h, (rw (z, f) refl), omega (arith, f, ap length z))
      present x i b d e (simple f k h) a =
          let o = end_some (cell t x 2) (cell t x 3) (cell t x 15) (words_in t pool x) f (leaf_ok_lem x f k) (counted x f b k) (sym (row x a b) ∙ k) s i (subst (λ (z : ℕ). 0 < z) h e) in (
            some o.value,
            subst (λ (y : Kind). OfKind values l y (some o.value)) (sym k) o.is,
            o.here ∙ ap₂ (λ (y : Kind) (j : ℕ). value_bytes values l y (some o.value) ++ drop j s) (sym k) (sym h),
            h ∙ o.ends ∙ ap (λ (y : Kind). i + length (value_bytes values l y (some o.value))) (sym k),
          )

  -- a group's item ends after its row byte, a leaf's after its value
  item_ends : (x i : ℕ) → 0 < x → x ≤ size l → (is_group (row_at l x).kind ≡ true → item_end t s x i ≡ i) × ((f : Leaf) → (row_at l x).kind ≡ leaf f → Ends f s i (item_end t s x i))
  item_ends x i a b = go (sort x i a b)
    where
      go : Sort x i → (is_group (row_at l x).kind ≡ true → item_end t s x i ≡ i) × ((f : Leaf) → (row_at l x).kind ≡ leaf f → Ends f s i (item_end t s x i))
      go (compound h e) = ((λ _. e), (λ f k. absurd (false≢true (sym (ap is_group k) ∙ h))))
      go (simple g k e) = (
        (λ h. absurd (false≢true (sym (ap is_group k) ∙ h))),
        (λ f j. subst (Ends f s i) (sym e) (ends (cell t x 2) (cell t x 3) (cell t x 15) (words_in t pool x) f (leaf_ok_lem x f j) (counted x f b j) (sym (row x a b) ∙ j) s i)),
      )

  -- the reader's promise, in sound tables
  pub body_means : (from : ℕ) (a : Answer) (n : ℕ) → Behind t (item_end t s) s from a n → Tells values l (drop from s) from a × Taken values l (drop from s) a n
  body_means from a n h = behind_tells t (item_end t s) s values lawful l so.well (lines t pool so) ending from a n h

  -- some answer fits
  pub body_some : (from : ℕ) → (a : Answer) × Tells values l (drop from s) from a
  body_some from = let o = behind_some t (item_end t s) s values lawful l so.well (lines t pool so) ending from in (o.0, (body_means from o.0 o.1 o.2).0)

  pub head_is_lem : (r : ℕ) (f : Leaf) → 0 < r → r ≤ size l → (row_at l r).kind ≡ leaf f → head_of t r ≡ length_bytes f
  unfolding head_of
  head_is_lem r f a b e = head_code (cell t r 3) (words_in t pool r) f (cell t r 2) (sym (row r a b) ∙ e)

  -- the picker's promise, in sound tables
  pub pick_means : (from k : ℕ) (w : Holds values l (drop from s) k) (r n : ℕ) (a : Answer) (part : List ℕ) → Chooses t (item_end t s) s from r n a part → Selects values l from w.content r n a part
  pick_means from k w r n a part h = chooses_selects t (item_end t s) s values lawful l so.well (lines t pool so) ending head_is_lem from k w r n a part h

-- ---- the two promises of each public function: the second follows from the first

module _ (t s : List ℕ) where
  pub item_means : (x i e : ℕ) → e ≡ item_end t s x i → (e ≡ item_end t s x i) × ItemEnds t s x i e
  item_means x i e h = (h, (λ pool so a b. rw h (item_ends t pool so s x i a b)))

  pub read_means : (from : ℕ) (a : Answer) (n : ℕ) → Behind t (item_end t s) s from a n → Behind t (item_end t s) s from a n × Told t s from a n
  read_means from a n h = (h, (λ pool so. body_means t pool so s from a n h))

  pub answer_means : (from r n : ℕ) (a : Answer) → Answered t (item_end t s) s from r n a → Answered t (item_end t s) s from r n a × SelectsAnswer t s from r n a
  answer_means from r n a h = (h, (λ pool so k w. (h.part, pick_means t pool so s from k w r n a h.part h.chooses)))

  pub part_means : (from r n : ℕ) (part : List ℕ) → Handed t (item_end t s) s from r n part → Handed t (item_end t s) s from r n part × SelectsPart t s from r n part
  part_means from r n part h = (h, (λ pool so k w. (h.answer, pick_means t pool so s from k w r n h.answer part h.chooses)))
