-- A picked part stands in the run at the place that is answered. Assumes nothing.
use mathlib.Core.Path.{◌≡◌, refl, sym, ◌∙◌, ap}
use mathlib.Core.List.{List, [], ◌∷◌, ◌++◌, append_assoc}
use mathlib.Core.Option.{some}
use Prim.Native.Nat.{ℕ, ◌+◌, ◌≤◌}
use native.Mathlib.Nat.{add-zero}
use native.Mathlib.Omega.{arith}
use native.Mathlib.Decide.{dec_le}
use lib.ListN.{length, take, length-append, take-append-drop, drop_of_length-le}
use lib.Seq.{slice, slice_empty, drop_at, length-take-le, take-append_seam}
use Rattle.answer.specs.declared.Answer.{Answer}
use Rattle.text.proofs.Parts.{part_take}
use Rattle.list.specs.Listing.{Listing}
use Rattle.list.specs.Content.{items}
use Rattle.image.specs.Image.{Values, Item, value_bytes, item_bytes, items_bytes}
use Rattle.image.specs.Place.{Accepts}
use Rattle.image.specs.Pick.{Picked, Picks, refused, missing, found}

-- a part between two others
between : (x part rest : List ℕ) (p : ℕ) → length x ≡ p → slice p (p + length part) (x ++ (part ++ rest)) ≡ part
between x part rest p e =
    part_take p (length part) (x ++ (part ++ rest)) ∙ ap (take (length part)) (drop_at x (part ++ rest) p e) ∙ take-append_seam part rest

there_none : (p : ℕ) (s part : List ℕ) → part ≡ [] → part ≡ slice p (p + length part) s
there_none p s part e = e ∙ sym (ap (λ (u : List ℕ). slice p (p + length u) s) e ∙ ap (λ (n : ℕ). slice p n s) (add-zero p) ∙ slice_empty p s)

module _ (vs : Values) (ls : List Listing) (run : List ℕ) where
  module _ (k : ℕ) (w : Accepts vs ls run k) (r n place : ℕ) (part : List ℕ) (g : Picked vs w.list (length w.head) w.holds.content r n place part) where
    abbrev value : List ℕ
    value = vs.bytes g.type g.value

    abbrev cut : ℕ
    cut = vs.head g.type

    abbrev before : List ℕ
    before = items_bytes vs w.list g.before

    abbrev behind : List ℕ
    behind = items_bytes vs w.list g.after

    bytes_append : (a b : List (Item vs)) → items_bytes vs w.list (a ++ b) ≡ items_bytes vs w.list a ++ items_bytes vs w.list b
    bytes_append [] b = refl
    bytes_append (i ∷ a) b =
        ap (λ (z : List ℕ). item_bytes vs w.list i ++ z) (bytes_append a b) ∙ sym (append_assoc (item_bytes vs w.list i) (items_bytes vs w.list a) (items_bytes vs w.list b))

    items_are : items_bytes vs w.list (items w.holds.content) ≡ before ++ (r ∷ (value ++ behind))
    items_are =
        ap (items_bytes vs w.list) g.at ∙ bytes_append g.before ((r, some g.value) ∷ g.after)
        ∙ ap (λ z. before ++ (r ∷ (value_bytes vs w.list z (some g.value) ++ behind))) g.kind

    abbrev rest : List ℕ
    rest = behind ++ ((0 ∷ []) ++ w.holds.rest)

    -- the run: what stands before the value, the value, the rest
    parts : (h x v y z u : List ℕ) → h ++ (((x ++ (r ∷ (v ++ y))) ++ z) ++ u) ≡ (h ++ (x ++ (r ∷ []))) ++ (v ++ (y ++ (z ++ u)))
    parts h x v y z u =
        ap (λ (q : List ℕ). h ++ q)
        (append_assoc (x ++ (r ∷ (v ++ y))) z u
        ∙ append_assoc x (r ∷ (v ++ y)) (z ++ u)
        ∙ ap (λ (q : List ℕ). x ++ (r ∷ q)) (append_assoc v y (z ++ u))
        ∙ sym (append_assoc x (r ∷ []) (v ++ (y ++ (z ++ u)))))
        ∙ sym (append_assoc h (x ++ (r ∷ [])) (v ++ (y ++ (z ++ u))))

    run_is : run ≡ (w.head ++ (before ++ (r ∷ []))) ++ (value ++ rest)
    run_is =
        w.at ∙ ap (λ (z : List ℕ). w.head ++ z) (w.holds.at ∙ ap (λ (z : List ℕ). (z ++ (0 ∷ [])) ++ w.holds.rest) items_are)
        ∙ parts w.head before value behind (0 ∷ []) w.holds.rest

    picked_there : part ≡ slice place (place + length part) run
    picked_there = go (dec_le cut (length value))
      where
        go : Dec (cut ≤ length value) → part ≡ slice place (place + length part) run
        go (no h) = let o : length value ≤ cut = omega arith in there_none place run part (g.holds ∙ drop_of_length-le value o)
        go (yes h) =
            let x = w.head ++ (before ++ (r ∷ [])) in
            let y : List ℕ = take cut value in
            let e : run ≡ (x ++ y) ++ (part ++ rest) =
            run_is ∙ ap (λ (z : List ℕ). x ++ (z ++ rest)) (sym (take-append-drop cut value) ∙ ap (λ (z : List ℕ). y ++ z) (sym g.holds))
            ∙ ap (λ (z : List ℕ). x ++ z) (append_assoc y part rest) ∙ sym (append_assoc x y (part ++ rest)) in
            let n : length (x ++ y) ≡ place =
            omega (arith, length-append x y, length-append w.head (before ++ (r ∷ [])), length-append before (r ∷ []), length-take-le cut value h, g.starts) in
            sym (ap (slice place (place + length part)) e ∙ between (x ++ y) part rest place n)

  pub picks_there : (r n : ℕ) (a : Answer) (part : List ℕ) → Picks vs ls run r n a part → part ≡ slice a.place (a.place + length part) run
  picks_there r n a part (refused h z e) = there_none a.place run part e
  picks_there r n a part (missing h k w m e q) = there_none a.place run part q
  picks_there r n a part (found h k w place p e) =
      picked_there k w r n place part p ∙ ap (λ (z : Answer). slice z.place (z.place + length part) run) (sym e)
