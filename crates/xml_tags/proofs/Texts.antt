-- A text's characters one by one with their places, and its first character that is no blank. Assumes nothing.
use mathlib.Core.Path.{◌≡◌, refl, sym, ◌∙◌, ap, ap₂, subst}
use mathlib.Core.Bool.{Bool, true, false, cond, true≢false}
use mathlib.Core.List.{List, [], ◌∷◌, ◌++◌, append_assoc}
use Prim.Native.Nat.{ℕ, suc, ◌+◌, ◌≤◌, ◌<◌, min}
use native.Mathlib.Nat.{min-eq_left, min-eq_right}
use native.Mathlib.Omega.{arith}
use native.Mathlib.Decide.{dec_lt}
use lib.ListN.{length, drop, length-append}
use lib.Seq.{slice}
use Rattle.text.specs.Bytes.{is_blank}
use Rattle.text.specs.Lists.{Each, span}
use Rattle.text_characters.specs.Utf8.{encode}
use Rattle.text_characters.specs.Pieces.{Entity, amp, lt, gt, quot, apos, word, Piece, char, entity, spell, spells, resolved, resolved_all, GoodPiece, Spells}
use Rattle.text_characters.specs.Chars.{char_of, NextChar}
use Rattle.text_characters.specs.mirror.Resolving.{char_at}
use Rattle.text_characters.specs.declared.utf8.Char.{Char}
use Rattle.text.proofs.Classes as classes
use Rattle.text_characters.proofs.Resolving.{Head, head_of_lem, complete, next_of, next_one, piece_some}
use Rattle.xml.proofs.Basics.{by_blank}
use Rattle.xml_tags.specs.mirror.Tokens.{ink_in}
use Rattle.xml_tags.specs.Story.{chars, ink_of, Text, Reads, over, next}
use Rattle.text.proofs.Spans.{span_append}
use Rattle.xml_tags.proofs.Passing.{stops}
use Rattle.xml_tags.proofs.Slices.{drop_is, slice_drop, slice_end}

-- ---- the characters

pub text_spells : (s : List ℕ) (a b : ℕ) (ps : List Piece) → Text s a b ps → Spells (slice a b s) (resolved_all ps)
text_spells s a b ps t = record { pieces = ps; good = t.good; is = t.is; chars = refl }

-- where a piece stands, `next_char` answers with its length and its character
pub char_is : (p : Piece) (l w : List ℕ) (c : Char) → GoodPiece p → l ≡ spell p ++ w → NextChar l c
    → c ≡ char_of (length (spell p)) (resolved p)
char_is p l w c g e n = next_one l c n ∙ ap char_at e ∙ complete p w g

reads_from : (s : List ℕ) (ps : List Piece) (a b : ℕ) (w : List ℕ) → Each GoodPiece ps → drop a s ≡ spells ps ++ w
    → b ≡ a + length (spells ps) → Reads s a b (chars a ps [])
reads_from s [] a b w g e h = subst (λ (n : ℕ). Reads s a n []) (let z : a ≡ b = omega arith in z) over
reads_from s (p ∷ ps) a b w g e h =
    let d = e ∙ append_assoc (spell p) (spells ps) w in
    next {c = char_of (length (spell p)) (resolved p)} (next_of (drop a s) _ (sym (ap char_at d ∙ complete p (spells ps ++ w) g.0))) (piece_some p)
    (reads_from s ps (a + length (spell p)) b w g.1 (drop_is a (a + length (spell p)) s (spell p) (spells ps ++ w) d refl) (omega (arith, length-append (spell p) (spells ps))))

-- read one by one, a text gives its characters with their places
pub text_reads : (s : List ℕ) (a b : ℕ) (ps : List Piece) → a ≤ b → b ≤ length s → Text s a b ps → Reads s a b (chars a ps [])
text_reads s a b ps h k t =
    reads_from s ps a b (drop b s) t.good (slice_drop a b s h k ∙ ap (λ (l : List ℕ). l ++ drop b s) t.is) (slice_end a b s h k ∙ ap (λ (l : List ℕ). a + length l) t.is)

-- ---- the first ink

-- a blank is spelt by itself
blank_spell : (p : Piece) → is_blank (resolved p) ≡ true → spell p ≡ resolved p ∷ []
unfolding is_blank encode
blank_spell (char c) e = by_blank (λ (x : ℕ). encode x ≡ x ∷ []) c e refl refl refl refl
blank_spell (entity amp) e = absurd (true≢false (sym e))
blank_spell (entity lt) e = absurd (true≢false (sym e))
blank_spell (entity gt) e = absurd (true≢false (sym e))
blank_spell (entity quot) e = absurd (true≢false (sym e))
blank_spell (entity apos) e = absurd (true≢false (sym e))

-- and nothing else begins with a blank
word_ink : (e : Entity) (t : List ℕ) → span is_blank (word e ++ t) ≡ 0
unfolding is_blank
word_ink amp t = stops is_blank 38 _ refl
word_ink lt t = stops is_blank 38 _ refl
word_ink gt t = stops is_blank 38 _ refl
word_ink quot t = stops is_blank 38 _ refl
word_ink apos t = stops is_blank 38 _ refl

ink_spell : (p : Piece) (t : List ℕ) → is_blank (resolved p) ≡ false → span is_blank (spell p ++ t) ≡ 0
ink_spell (char c) t e =
    let h = head_of_lem c in
    ap (λ (l : List ℕ). span is_blank (l ++ t)) h.is ∙ stops is_blank h.first (h.more ++ t) (go h (dec_lt c 0x80))
  where
    go : (h : Head c (encode c)) → Dec (c < 0x80) → is_blank h.first ≡ false
    go h (yes k) = ap is_blank (h.ascii k) ∙ e
    go h (no k) = let b : 0x80 ≤ h.first = h.beyond (omega arith) in sym (classes.no classes.blank (omega arith))
ink_spell (entity n) t e = word_ink n t

ink_from_lem : (ps : List Piece) (o : ℕ) (w : List ℕ) → min (o + span is_blank (spells ps ++ w)) (o + length (spells ps)) ≡ ink_of o ps
ink_from_lem [] o w = let h : o + 0 ≤ o + span is_blank w = omega arith in min-eq_right h ∙ omega arith
ink_from_lem (p ∷ ps) o w = go (is_blank (resolved p)) refl (ink_from_lem ps)
  where
    go : (b : Bool) → is_blank (resolved p) ≡ b
        → ((n : ℕ) (u : List ℕ) → min (n + span is_blank (spells ps ++ u)) (n + length (spells ps)) ≡ ink_of n ps)
        → min (o + span is_blank ((spell p ++ spells ps) ++ w)) (o + length (spell p ++ spells ps)) ≡ cond b (ink_of (o + length (spell p)) ps) o
    go true e ih =
        let x = resolved p in
        let n = span_append is_blank (x ∷ []) (spells ps ++ w) (e, tt) in
        let f : o + span is_blank (x ∷ (spells ps ++ w)) ≡ o + 1 + span is_blank (spells ps ++ w) = omega (arith, n) in
        let m : o + suc (length (spells ps)) ≡ o + 1 + length (spells ps) = omega arith in
        subst (λ (l : List ℕ). min (o + span is_blank ((l ++ spells ps) ++ w)) (o + length (l ++ spells ps)) ≡ ink_of (o + length l) ps) (sym (blank_spell p e))
        (ap₂ min f m ∙ ih (o + 1) w)
    go false e ih =
        let z : span is_blank ((spell p ++ spells ps) ++ w) ≡ 0 = ap (span is_blank) (append_assoc (spell p) (spells ps) w) ∙ ink_spell p (spells ps ++ w) e in
        let h : o + span is_blank ((spell p ++ spells ps) ++ w) ≤ o + length (spell p ++ spells ps) = omega arith in
        min-eq_left h ∙ omega arith

pub ink_is : (s : List ℕ) (a b : ℕ) (ps : List Piece) → a ≤ b → b ≤ length s → Text s a b ps → ink_in s a b ≡ ink_of a ps
ink_is s a b ps h k t =
    ap (λ (n : ℕ). min (a + span is_blank (drop a s)) n) (slice_end a b s h k ∙ ap (λ (l : List ℕ). a + length l) t.is)
    ∙ ap (λ (l : List ℕ). min (a + span is_blank l) (a + length (spells ps))) (slice_drop a b s h k ∙ ap (λ (l : List ℕ). l ++ drop b s) t.is)
    ∙ ink_from_lem ps a (drop b s)
