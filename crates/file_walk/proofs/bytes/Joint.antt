-- One step over bytes and tables does what the walk over events does, in sound tables. Assumes nothing.
use Rattle.std.specs.Prelude.{Ok, Err}
use mathlib.Core.Path.{◌≡◌, refl, sym, ◌∙◌, ap, ap₂, subst}
use mathlib.Core.Logic.{◌⊎◌, inl, inr}
use mathlib.Core.Bool.{Bool, true, false, cond, not}
use mathlib.Core.List.{List, [], ◌∷◌, ◌++◌}
use Prim.Native.Nat.{ℕ, zero, suc, ◌+◌, ◌≤◌, ◌<◌}
use native.Mathlib.Omega.{arith}
use native.Mathlib.Decide.{ℕ_discrete}
use lib.Dec.{eqb, ltb}
use lib.ListN.{length, length-append}
use borrow.Author.Tests.{eq-eqb, ne_eqb, lt-ltb, le-ltb}
use Rattle.answer.specs.Table as table
use Rattle.text_characters.specs.Pieces.{Piece, spell, spells, resolved_all}
use Rattle.text_characters.proofs.Resolving.{piece_some}
use Rattle.list.specs.Listing.{Kind, group, choice, leaf, Listing, Child, child, is_group}
use Rattle.list.specs.tables.Table.{cell, list_of}
use Rattle.list.specs.tables.Sound.{Sound}
use Rattle.list.specs.mirror.Lookup.{child_along}
use Rattle.list.proofs.rows.Along.{child_along_lem}
use Rattle.list.proofs.rows.Child.{child_found}
use Rattle.list.proofs.rows.Rows.{size_is}
use Rattle.list.proofs.sound.Tests.{by_cases}
use Rattle.xml.specs.Message.{Attrs}
use Rattle.xml_tags.specs.declared.token.Token.{Token}
use Rattle.xml_tags.specs.mirror.Tokens.{ink_in}
use Rattle.xml_tags.specs.Story.{Event, leave, chars, ink_of, Text, token_in, Tagged}
use Rattle.xml_tags.proofs.Slices.{slice_end}
use Rattle.xml_tags.proofs.Texts.{ink_is}
use Rattle.file_walk.specs.declared.level.Level.{Level}
use Rattle.file_walk.specs.Types.{Judge}
use Rattle.file_walk.specs.First.{Found, refuse, or_else, is_empty, currency_given, kind_of}
use Rattle.file_walk.specs.mirror.Machine.{Speller, verdict_of, judge_of, at, pop, open_test, close_test, run}
use Rattle.list.specs.tables.Numbers.{is_group_in}
use Rattle.file_walk.specs.mirror.Tables.{opening_in, group_end_in}
use Rattle.file_walk.specs.mirror.Stride.{ink_before, end_in, row_in, own_in}
use Rattle.file_walk.proofs.violation.Answers.{or_right, or_assoc}
use Rattle.file_walk.proofs.bytes.Sound.{Placed, group_in, opening_in_lem, group_end_in_lem}
use Rattle.file_walk.proofs.calls.Whole.{leaf_chars, group_chars}
use Rattle.file_walk.proofs.bytes.Own.{Coins, own_is}

-- a text has characters exactly where it has bytes
text_empty : (ps : List Piece) → is_empty (resolved_all ps) ≡ eqb (length (spells ps)) 0
text_empty [] = refl
text_empty (p ∷ ps) = sym (ne_eqb (length (spell p ++ spells ps)) 0 (omega (arith, piece_some p, length-append (spell p) (spells ps))))

-- what is left to say of a leaf when it has a character: 12
abbrev pub judged : Judge → Kind → ℕ → ℕ → Attrs → List ℕ → Found
judged j group r o ats cs = Ok tt
judged j choice r o ats cs = Ok tt
judged j (leaf k) r o ats cs = refuse (not (j.value k (currency_given ats) cs)) (table.bad_value r o)

-- the characters that are kept of a text
abbrev pub kept : Bool → List Piece → List ℕ
kept true ps = []
kept false ps = resolved_all ps

module _ (T : Speller) (t pool s : List ℕ) (sd : Sound t pool) where
  abbrev pub l : Listing
  l = list_of t pool

  module _ (lv : Level) (pl : Placed t pool sd lv) where
    is_group_lem : is_group_in (cell t lv.row 2) ≡ is_group (kind_of l lv.row)
    is_group_lem = group_in t pool sd lv.row pl.low pl.high

    module _ (below : List Level) (ats : Attrs) (a b : ℕ) (ps : List Piece) (lo : a ≤ b) (hi : b ≤ length s) (x : Text s a b ps) where
      text_length : b ≡ a + length (spells ps)
      text_length = slice_end a b s lo hi ∙ ap (λ (z : List ℕ). a + length z) x.is

      -- a text: 10 where a group has ink, else what follows
      pub text_run : (more : List Event)
          → run T l (at lv below ats []) (chars a ps more)
          ≡ cond (ltb (ink_before t s lv.row a b) b) (Err (table.text_in_group lv.row (ink_before t s lv.row a b))) (run T l (at lv below ats (kept (is_group (kind_of l lv.row)) ps)) more)
      unfolding ink_before
      text_run more = by_cases (is_group (kind_of l lv.row))
          (λ g. let i : ink_in s a b ≡ ink_of a ps = ink_is s a b ps lo hi x in
          group_chars T l lv below ats ps a [] more g
          ∙ ap (λ n. cond (ltb (ink_of a ps) n) (Err (table.text_in_group lv.row (ink_of a ps))) (run T l (at lv below ats []) more)) (sym text_length)
          ∙ sym (rw (is_group_lem, g, i)))
          (λ g. leaf_chars T l lv below ats ps a [] more g ∙ sym (rw (is_group_lem, g, le-ltb b b (omega arith))))

      no_text : is_empty (resolved_all ps) ≡ eqb b a
      no_text = text_empty ps ∙ elim (ℕ_discrete b a) [
        | yes e ↦ eq-eqb (length (spells ps)) 0 (omega (arith, text_length)) ∙ sym (eq-eqb b a e)
        | no e ↦ ne_eqb (length (spells ps)) 0 (omega (arith, text_length)) ∙ sym (ne_eqb b a e)
      ]

      -- the tests of a closing tag: those over the tables, then 12
      close_test_lem : (k : Kind) → close_test T l k lv ats (kept (is_group k) ps)
          ≡ or_else (cond (is_group k) (group_end_in t lv) (refuse (eqb b a) (table.empty lv.row lv.place))) (judged (judge_of T) k lv.row lv.place ats (resolved_all ps))
      close_test_lem group = sym (or_right (group_end_in t lv) ∙ group_end_in_lem t pool sd T lv pl)
      close_test_lem choice = sym (or_right (group_end_in t lv) ∙ group_end_in_lem t pool sd T lv pl)
      close_test_lem (leaf f) =
          ap₂ or_else (ap (λ z. refuse z (table.empty lv.row lv.place)) no_text) (or_right (judged (judge_of T) (leaf f) lv.row lv.place ats (resolved_all ps)))

      -- a closing tag, and what follows
      pub close_run : (more : List Event)
          → run T l (at lv below ats (kept (is_group (kind_of l lv.row)) ps)) (leave ∷ more)
          ≡ or_else (end_in t (is_group_in (cell t lv.row 2)) lv a b) (or_else (judged (judge_of T) (kind_of l lv.row) lv.row lv.place ats (resolved_all ps)) (run T l (pop below) more))
      unfolding run end_in
      close_run more =
          let q = kind_of l lv.row in
          let j = judged (judge_of T) q lv.row lv.place ats (resolved_all ps) in
          let f : Bool → Found = λ z. cond z (group_end_in t lv) (refuse (eqb b a) (table.empty lv.row lv.place)) in
          ap (λ z. or_else z (run T l (pop below) more)) (close_test_lem q ∙ ap (λ z. or_else (f z) j) (sym is_group_lem)) ∙ or_assoc (f (is_group_in (cell t lv.row 2))) j (run T l (pop below) more)

    -- an opening tag: its row is the list's child of that name, and its tests are the tables'
    module _ (m : Coins (judge_of T)) (o : ℕ) (k : Token) (is : k ≡ token_in s o) (inside : k.less < length s) (n : List ℕ) (new : Attrs) (g : Tagged s k n new) where
      pub row_is : row_in t pool s lv k.less k.stop ≡ child l lv.row n
      unfolding row_in
      row_is =
          rw (lt-ltb k.less (length s) inside)
          (ap (child_along t pool lv.row lv.last) g.name ∙ child_along_lem t pool sd n lv.row lv.last pl.high pl.last)

      its : (r : ℕ) → child l lv.row n ≡ r → (r ≡ 0) ⊎ Child l lv.row r
      its zero e = inl refl
      its (suc r) e = inr (child_found l lv.row n (suc r) e (omega arith)).its

      pub open_run : open_test T l lv (child l lv.row n) new k.less
          ≡ opening_in t lv (child l lv.row n) (own_in t s (child l lv.row n) k.attributes k.first) k.less
      open_run =
          let r = child l lv.row n in
          sym (opening_in_lem t pool sd T lv r (own_in t s r k.attributes k.first) new k.less pl (its r refl)
          (λ h. own_is (verdict_of T) t pool s r h (subst (λ z. r ≤ z) (size_is t pool) (child_found l lv.row n r refl h).its.last) m k n new g))
