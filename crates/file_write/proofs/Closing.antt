-- The closing tags, one turn of the loop after the other. Assumes nothing.
use mathlib.Core.Path.{◌≡◌, refl, sym, ◌∙◌, ap}
use mathlib.Core.Logic.{◌≢◌}
use mathlib.Core.List.{List, [], ◌∷◌, ◌++◌, append_assoc, append-nil}
use Prim.Native.Nat.{ℕ, ◌+◌, ◌-◌, ◌*◌, ◌≤◌, ◌<◌}
use native.Mathlib.Omega.{arith}
use lib.ListN.{length, length-append}
use Rattle.list.specs.Listing.{Listing, row_at}
use Rattle.list.specs.tables.Table.{cell, name_in, list_of}
use Rattle.list.proofs.rows.Rows.{size_is, parent_is}
use Rattle.file_letter.specs.mirror.Tell.{shuts, closes}
use Rattle.file_letter.proofs.tree.Telling.{same_group, no_group_lem, one_up}
use Rattle.text.specs.Puts.{Puts}
use Rattle.file_write.specs.mirror.Tags.{shut_in, Opened}
use Rattle.text.proofs.Puts.{puts_none, puts_then, puts_as}
use Rattle.file_write.proofs.Putting.{part_most}
use Rattle.file_write.proofs.Tagging.{shut_is}

module _ (t pool : List ℕ) where
  abbrev l : Listing
  l = list_of t pool

  module _ (d₀ : List ℕ) (from p at : ℕ) where
    -- g is still open; what is put so far, with the closing tags from g on, is all
    pub record Shutting (d : List ℕ) (g end : ℕ) : Type 0 where
      pub less : g ≤ from
      pub done : List ℕ
      pub put : Puts d₀ at done end d
      pub whole : done ++ closes l 17 g p ≡ closes l 17 from p
      pub low : end ≤ at + 70000 * (from - g)

    pub close_first : Shutting d₀ from at
    close_first = record { less = omega arith; done = []; put = puts_none d₀ at; whole = refl; low = omega arith }

    module _ (o : Opened t pool from at) (d : List ℕ) (g end : ℕ) (w : Shutting d g end) where
      pub close_low : end ≤ 90000000000000
      close_low = omega (arith, w.low, w.less, o.within, o.low, o.sound.well.bytes)

      ends : closes l 17 g p ≡ [] → Puts d₀ at (closes l 17 from p) end d
      ends e = puts_as d₀ at w.done (closes l 17 from p) end d (sym (append-nil w.done) ∙ ap (λ (u : List ℕ). w.done ++ u) (sym e) ∙ w.whole) w.put

      pub close_there : g ≡ p → Puts d₀ at (closes l 17 from p) end d
      close_there e = ends (ap (λ (x : ℕ). closes l 17 x p) e ∙ same_group l o.sound.well p)

      pub close_out : g ≡ 0 → Puts d₀ at (closes l 17 from p) end d
      close_out e = ends (ap (λ (x : ℕ). closes l 17 x p) e ∙ no_group_lem l o.sound.well p)

      module _ (n : g ≢ p) (z : g ≢ 0) (q : ℕ) (e : q ≡ cell t g 0) where
        first : 0 < g
        first = omega arith

        last : g ≤ cell t 0 0
        last = omega (arith, w.less, o.within, size_is t pool)

        parent : (row_at l g).parent ≡ q
        parent = parent_is t pool g first last ∙ sym e

        pub close_less : q < g
        close_less = o.sound.well.before q g (record { first = first; last = omega (arith, last, size_is t pool); parent = parent })

        pub close_again : (end' : ℕ) (d' : List ℕ) → Puts d end (shut_in t pool g) end' d' → Shutting d' q end'
        close_again end' d' x =
            let m = part_most (cell t g 4) (cell t g 5) pool in
            let k : length (shut_in t pool g) ≡ 3 + length (name_in t pool g) = omega (arith, length-append (name_in t pool g) (62 ∷ [])) in
            let u : closes l 17 g p ≡ shuts l g ++ closes l 17 q p = one_up l o.sound.well g q p n z parent (omega (arith, close_less, last, size_is t pool)) in
            record {
              less = omega (arith, close_less, w.less);
              done = w.done ++ shut_in t pool g;
              put = puts_then d₀ at w.done end d (shut_in t pool g) end' d' w.put x;
              whole = append_assoc w.done (shut_in t pool g) (closes l 17 q p)
                  ∙ ap (λ (s : List ℕ). w.done ++ (s ++ closes l 17 q p)) (shut_is t pool g first (omega (arith, last, size_is t pool))) ∙ ap (λ (s : List ℕ). w.done ++ s) (sym u) ∙ w.whole;
              low = omega (arith, x.behind, w.low, w.less, close_less, o.small);
            }
