-- Over an image that the reader accepts: from its first item on, what stands at each place is its content's next item. Assumes nothing.
use mathlib.Core.Path.{◌≡◌, refl, sym, ◌∙◌, ap, subst}
use mathlib.Core.Bool.{false≢true}
use mathlib.Core.List.{List, [], ◌∷◌, ◌++◌, append_assoc}
use mathlib.Core.Option.{Option, none, some}
use Prim.Native.Nat.{ℕ, ◌+◌, ◌-◌, ◌≤◌, ◌<◌}
use native.Mathlib.Omega.{arith}
use native.Mathlib.Nat.{add-zero}
use lib.ListN.{length, take, drop, length-drop}
use lib.Seq.{slice, slice_empty, drop_at, drop-drop, drop-append-le, take_at}
use Rattle.answer.specs.Table.{picked}
use Rattle.text.proofs.Parts.{part_take}
use Rattle.list.specs.Listing.{Leaf, Kind, group, choice, leaf, Listing, size, row_at}
use Rattle.list.specs.WellFormed.{WellFormed}
use Rattle.list.specs.Content.{items}
use Rattle.list_house.proofs.Lists.{kept_well}
use Rattle.value.specs.Value.{Value, IsValue, bytes}
use Rattle.image.specs.Image.{Item, value_bytes, item_bytes, items_bytes as bytes_of}
use Rattle.image.specs.Kinds.{length_bytes, values}
use Rattle.image.specs.mirror.Follow.{OfKind, ItemOk, Trail, Whole}
use Rattle.image.proofs.content.Rows.{next_in_lem, well}
use Rattle.image.proofs.content.Begins.{content_whole, root_group}
use Rattle.image.proofs.types.Lawful.{lawful}
use Rattle.image_reading.specs.Reads.{HouseAccepts}
use Rattle.image_reading.specs.Forms.{Headed}
use Rattle.image_reading.proofs.House.{headed_one, accepts_headed}
use Rattle.image_items.specs.Items.{SaysList, Stands, closes, opens, holds, HouseItem, standing}

module _ (l : Listing) where
  -- a part of the run holds the own bytes of an element's value; a group's holds none
  abbrev pub Own : ℕ → Option Value → List ℕ → Type 0
  Own r none part = part ≡ []
  Own r (some v) part = (type : Leaf) × ((row_at l r).kind ≡ leaf type) × (part ≡ drop (length_bytes type) (bytes v))

  -- item by item from a place on: what is told of each place is the next item's row and its value's own bytes, and the place after these is the
  -- next one's; then the closing byte
  pub data Along (run : List ℕ) : ℕ → List (Item values) → Type 0 where
    ends : {at : ℕ} → HouseItem run at (picked 0 (at + 1)) 0 → Along run at []
    goes : {at : ℕ} (r place n : ℕ) (v : Option Value) (is : List (Item values)) → HouseItem run at (picked r place) n → Own r v (slice place (place + n) run)
        → Along run (place + n) is → Along run at ((r, v) ∷ is)

  -- each is a row of the list, with a value of its type where it is a leaf's
  abbrev Rowed : List (Item values) → Type 0
  Rowed [] = Unit {0}
  Rowed (i ∷ is) = ((0 < i.0) × (i.0 ≤ size l)) × ItemOk values l i.0 i.1 × Rowed is

  trail_rowed : (is : List (Item values)) (q : ℕ) → Trail values l q is → Rowed is
  trail_rowed [] q h = tt
  trail_rowed (i ∷ is) q h = (next_in_lem l h.0, h.1, trail_rowed is i.0 h.2)

  whole_rowed : WellFormed l → (is : List (Item values)) → Whole values l is → Rowed is
  whole_rowed wf is h =
      subst Rowed (sym h.is)
      ((omega arith, omega (arith, (well l wf).rows)), root_group values lawful l wf, trail_rowed h.inside 1 h.trail)

module _ (run : List ℕ) where
  -- what follows a beginning of the rest
  after : (at k : ℕ) (x y : List ℕ) → drop at run ≡ x ++ y → length x ≡ k → drop (at + k) run ≡ y
  after at k x y e n = sym (drop-drop k at run) ∙ ap (drop k) e ∙ drop_at x y k n

  -- the last bytes of what stands there
  inner : (p h : ℕ) (x u : List ℕ) → drop p run ≡ x ++ u → h ≤ length x → slice (p + h) (p + h + (length x - h)) run ≡ drop h x
  inner p h x u d b =
      part_take (p + h) (length x - h) run
      ∙ ap (take (length x - h)) (sym (drop-drop h p run) ∙ ap (drop h) d ∙ drop-append-le h x u b)
      ∙ take_at (drop h x) u (length x - h) (length-drop h x)

  -- over the list that the header says
  module _ (l : Listing) (says : SaysList run l) where
    told : (r place n at : ℕ) → Stands l run at r place n → HouseItem run at (picked r place) n
    told r place n at x = standing l says r place x refl

    module _ (at r : ℕ) (lo : 0 < r) (hi : r ≤ size l) (u : List ℕ) (is : List (Item values)) (next : (p : ℕ) → drop p run ≡ u → Along l run p is) where
      lone : OfKind values l (row_at l r).kind none → drop at run ≡ r ∷ u → Along l run at ((r, none) ∷ is)
      lone o e =
          let z : at + 1 + 0 ≡ at + 1 = add-zero (at + 1) in
          goes r (at + 1) 0 none is (told r (at + 1) 0 at (opens lo hi o u e refl refl)) (ap (λ (n : ℕ). slice (at + 1) n run) z ∙ slice_empty (at + 1) run)
          (next (at + 1 + 0) (ap (λ (n : ℕ). drop n run) z ∙ after at 1 (r ∷ []) u e refl))

      full : (f : Leaf) → (row_at l r).kind ≡ leaf f → (v : Value) → IsValue f v → drop at run ≡ r ∷ (bytes v ++ u) → Along l run at ((r, some v) ∷ is)
      full f k v i e =
          let h : length_bytes f ≤ length (bytes v) = lawful.headed f v i in
          let p = at + 1 + length_bytes f in
          let n = length (bytes v) - length_bytes f in
          let d : drop (at + 1) run ≡ bytes v ++ u = after at 1 (r ∷ []) (bytes v ++ u) e refl in
          let s : p + n ≡ at + 1 + length (bytes v) = omega (arith, h) in
          goes r p n (some v) is (told r p n at (holds lo hi f k v i u e refl s)) (f, k, inner (at + 1) (length_bytes f) (bytes v) u d h)
          (next (p + n) (ap (λ (m : ℕ). drop m run) s ∙ after (at + 1) (length (bytes v)) (bytes v) u d refl))

      one : (k : Kind) → (row_at l r).kind ≡ k → (v : Option Value) → OfKind values l (row_at l r).kind v → drop at run ≡ r ∷ (value_bytes values l k v ++ u) → Along l run at ((r, v) ∷ is)
      one group k none o e = lone o e
      one choice k none o e = lone o e
      one (leaf f) k none o e = absurd (false≢true (subst (λ (x : Kind). OfKind values l x none) k o))
      one group k (some v) o e = absurd (subst (λ (x : Kind). OfKind values l x (some v)) k o)
      one choice k (some v) o e = absurd (subst (λ (x : Kind). OfKind values l x (some v)) k o)
      one (leaf f) k (some v) o e = full f k v (subst (λ (x : Kind). OfKind values l x (some v)) k o) e

    along : (is : List (Item values)) (at : ℕ) (rest : List ℕ) → Rowed l is → drop at run ≡ bytes_of values l is ++ (0 ∷ rest) → Along l run at is
    along [] at rest h e = ends (told 0 (at + 1) 0 at (closes refl rest e refl refl))
    along (i ∷ is) at rest h e =
        let u : List ℕ = bytes_of values l is ++ (0 ∷ rest) in
        one at i.0 h.0.0 h.0.1 u is (λ p d. along is p rest h.2 d) (row_at l i.0).kind refl i.1 h.1
        (e ∙ append_assoc (item_bytes values l i) (bytes_of values l is) (0 ∷ rest))

-- the image that a run begins with: its items, from where they begin
module _ (run : List ℕ) (n : ℕ) (w : HouseAccepts run n) where
  its_list : SaysList run w.list
  its_list = record { among = w.among; head = w.head; front = w.front; after = w.after; at = w.at }

  pub items_begin : (kind from : ℕ) → Headed run kind from → (kind ≡ w.list.byte) × (from ≡ length w.head)
  items_begin kind from h = headed_one run kind w.list.byte from (length w.head) h (accepts_headed run n w)

  pub items_along : (kind from : ℕ) → Headed run kind from → Along w.list run from (items w.holds.content)
  items_along kind from h =
      let c = w.holds.content in
      let x = bytes_of values w.list (items c) in
      let wf = kept_well w.list w.among in
      let e = (items_begin kind from h).1 in
      along run w.list its_list (items c) from w.holds.rest (whole_rowed w.list wf (items c) (content_whole values lawful w.list wf c w.holds.meets))
      (ap (drop from) w.at ∙ drop_at w.head w.after from (sym e) ∙ w.holds.at ∙ append_assoc x (0 ∷ []) w.holds.rest)
