-- The walk over a whole text at once, and over an element without content. Assumes nothing.
use Rattle.std.specs.Prelude.{Err}
use mathlib.Core.Path.{◌≡◌, refl, ◌∙◌, ap}
use mathlib.Core.Bool.{Bool, true, false, cond, ◌&&◌, not}
use mathlib.Core.List.{List, [], ◌∷◌, ◌++◌, append_assoc, append-nil}
use Prim.Native.Nat.{ℕ, ◌+◌, ◌<◌}
use native.Mathlib.Omega.{arith}
use lib.Dec.{ltb}
use lib.ListN.{length, length-append}
use borrow.Author.Tests.{lt-ltb, le-ltb}
use Rattle.answer.specs.Table as table
use Rattle.text.specs.Bytes.{is_blank}
use Rattle.text_characters.specs.Pieces.{Piece, spell, spells, resolved, resolved_all}
use Rattle.text_characters.proofs.Resolving.{piece_some}
use Rattle.list.specs.Listing.{Kind, group, choice, leaf, Listing, is_group}
use Rattle.xml.specs.Message.{Attrs}
use Rattle.xml_tags.specs.Story.{Event, chars, ink_of}
use Rattle.file_walk.specs.declared.level.Level.{Level}
use Rattle.file_walk.specs.First.{refuse, or_else, kind_of}
use Rattle.file_walk.specs.mirror.Machine.{Speller, at, fresh, close_test, run, emits}

module _ (T : Speller) (l : Listing) (lv : Level) (below : List Level) (ats : Attrs) where
  -- in a leaf the characters are collected
  pub leaf_chars : (ps : List Piece) (o : ℕ) (cs : List ℕ) (more : List Event) → is_group (kind_of l lv.row) ≡ false
      → run T l (at lv below ats cs) (chars o ps more) ≡ run T l (at lv below ats (cs ++ resolved_all ps)) more
  unfolding run
  leaf_chars [] o cs more g = rw (append-nil cs)
  leaf_chars (p ∷ ps) o cs more g =
      rw g (leaf_chars ps (o + length (spell p)) (cs ++ (resolved p ∷ [])) more g
      ∙ ap (λ ds. run T l (at lv below ats ds) more) (append_assoc cs (resolved p ∷ []) (resolved_all ps)))

  pub leaf_hands : (ps : List Piece) (o : ℕ) (cs : List ℕ) (more : List Event) → is_group (kind_of l lv.row) ≡ false
      → emits T l (at lv below ats cs) (chars o ps more) ≡ emits T l (at lv below ats (cs ++ resolved_all ps)) more
  unfolding emits
  leaf_hands [] o cs more g = rw (append-nil cs)
  leaf_hands (p ∷ ps) o cs more g =
      rw g (leaf_hands ps (o + length (spell p)) (cs ++ (resolved p ∷ [])) more g
      ∙ ap (λ ds. emits T l (at lv below ats ds) more) (append_assoc cs (resolved p ∷ []) (resolved_all ps)))

  -- in a group the first that is no blank is found
  pub group_chars : (ps : List Piece) (o : ℕ) (cs : List ℕ) (more : List Event) → is_group (kind_of l lv.row) ≡ true
      → run T l (at lv below ats cs) (chars o ps more)
      ≡ cond (ltb (ink_of o ps) (o + length (spells ps))) (Err (table.text_in_group lv.row (ink_of o ps))) (run T l (at lv below ats cs) more)
  unfolding run
  group_chars [] o cs more g = rw (le-ltb o (o + 0) (omega arith))
  group_chars (p ∷ ps) o cs more g = go (is_blank (resolved p)) refl (group_chars ps (o + length (spell p)) cs more g)
    where
      go : (b : Bool) → is_blank (resolved p) ≡ b
          → run T l (at lv below ats cs) (chars (o + length (spell p)) ps more)
          ≡ cond (ltb (ink_of (o + length (spell p)) ps) (o + length (spell p) + length (spells ps))) (Err (table.text_in_group lv.row (ink_of (o + length (spell p)) ps))) (run T l (at lv below ats cs) more)
          → or_else (refuse (is_group (kind_of l lv.row) && not (is_blank (resolved p))) (table.text_in_group lv.row o)) (run T l (at lv below ats (cond (is_group (kind_of l lv.row)) cs (cs ++ (resolved p ∷ [])))) (chars (o + length (spell p)) ps more))
          ≡ cond (ltb (cond (is_blank (resolved p)) (ink_of (o + length (spell p)) ps) o) (o + length (spell p ++ spells ps))) (Err (table.text_in_group lv.row (cond (is_blank (resolved p)) (ink_of (o + length (spell p)) ps) o))) (run T l (at lv below ats cs) more)
      go true e ih =
          let z : o + length (spell p ++ spells ps) ≡ o + length (spell p) + length (spells ps) = omega (arith, length-append (spell p) (spells ps)) in
          rw (g, e, z) ih
      go false e ih =
          let z : o < o + length (spell p ++ spells ps) = omega (arith, length-append (spell p) (spells ps), piece_some p) in
          rw (g, e, lt-ltb o (o + length (spell p ++ spells ps)) z)

  pub group_hands : (ps : List Piece) (o : ℕ) (cs : List ℕ) (more : List Event) → is_group (kind_of l lv.row) ≡ true
      → emits T l (at lv below ats cs) (chars o ps more) ≡ emits T l (at lv below ats cs) more
  unfolding emits
  group_hands [] o cs more g = refl
  group_hands (p ∷ ps) o cs more g = rw g (group_hands ps (o + length (spell p)) cs more g)

-- an element that closes at once has no child or no character
pub closes_empty : (T : Speller) (l : Listing) (k : Kind) (r o : ℕ) (ats : Attrs) → close_test T l k (fresh l r o) ats [] ≡ Err (table.empty r o)
unfolding fresh
closes_empty T l group r o ats = refl
closes_empty T l choice r o ats = refl
closes_empty T l (leaf f) r o ats = refl
