-- How many bytes the characters of a raw text have, counted as they are read. Assumes nothing.
use mathlib.Core.Path.{◌≡◌, sym, ◌∙◌, ap, subst}
use mathlib.Core.Bool.{Bool}
use mathlib.Core.List.{List, [], ◌∷◌}
use mathlib.Core.Logic.{◌≢◌}
use Prim.Native.Nat.{ℕ, ◌+◌, ◌≤◌, ◌<◌}
use native.Mathlib.Omega.{arith}
use native.Mathlib.Decide.{dec_lt}
use lib.ListN.{length, drop, drop_of_length-le, length-append}
use lib.Seq.{drop-drop}
use borrow.Author.Tests.{lt-ltb, le-ltb}
use Rattle.text_characters.specs.Utf8.{encode, encode_all}
use Rattle.text_characters.specs.Pieces.{Piece, char, entity, amp, lt, gt, quot, apos, spell, resolved, Spells}
use Rattle.text_characters.specs.Passing.{Passes}
use Rattle.text_characters.specs.Chars.{NextChar}
use Rattle.text_characters.specs.declared.utf8.Char.{Char}
use Rattle.text_characters.proofs.Spelling as spelling
use Rattle.value.specs.mirror.Texts.{Spelled, spelled, width_of}
use Rattle.std.specs.Prelude.{Some}
use Rattle.value.specs.declared.judged.Judged.TheVariants as J
use Rattle.text_characters.proofs.Decoding.{encode1}

pub width_one : (len code : ℕ) → code < 128 → width_of len code ≡ 1
unfolding width_of
width_one len code h = rw (lt-ltb code 128 h)

pub width_len : (len code : ℕ) → 128 ≤ code → width_of len code ≡ len
unfolding width_of
width_len len code h = rw (le-ltb code 128 h)

-- an entity stands for a character of one byte, a character for itself
piece_width : (p : Piece) → length (encode (resolved p)) ≡ width_of (length (spell p)) (resolved p)
piece_width (char c) = go (dec_lt c 128)
  where
    go : Dec (c < 128) → length (encode c) ≡ width_of (length (encode c)) c
    go (yes h) = ap length (encode1 c h) ∙ sym (width_one (length (encode c)) c h)
    go (no h) = sym (width_len (length (encode c)) c (omega arith))
piece_width (entity amp) = ap length (encode1 38 (omega arith)) ∙ sym (width_one 5 38 (omega arith))
piece_width (entity lt) = ap length (encode1 60 (omega arith)) ∙ sym (width_one 4 60 (omega arith))
piece_width (entity gt) = ap length (encode1 62 (omega arith)) ∙ sym (width_one 4 62 (omega arith))
piece_width (entity quot) = ap length (encode1 34 (omega arith)) ∙ sym (width_one 6 34 (omega arith))
piece_width (entity apos) = ap length (encode1 39 (omega arith)) ∙ sym (width_one 6 39 (omega arith))

pub next_width : (l : List ℕ) (r : Char) → NextChar l r → 0 < r.len → length (encode r.code) ≡ width_of r.len r.code
next_width l r f h =
    let b = spelling.next_begins l r f h in
    subst (λ (x : Char). length (encode x.code) ≡ width_of x.len x.code) (sym b.found) (piece_width b.sign)

pub width_least : (len code : ℕ) → 0 < len → width_of len code ≤ len
width_least len code h = go (dec_lt code 128)
  where
    go : Dec (code < 128) → width_of len code ≤ len
    go (yes k) = omega (arith, width_one len code k)
    go (no k) = omega (arith, width_len len code (omega arith))

-- size bytes up to the place i
pub record Sized (s : List ℕ) (i size : ℕ) : Type 0 where
  pub most : size ≤ i
  pub count : (cs ds : List ℕ) → Spells s cs → Spells (drop i s) ds → length (encode_all cs) ≡ size + length (encode_all ds)

pub sized_start : (s : List ℕ) → Sized s 0 0
sized_start s = record { most = omega arith; count = λ cs ds v w. omega (arith, ap (λ (l : List ℕ). length (encode_all l)) (spelling.one_text s cs ds v w)) }

pub sized_more : (s : List ℕ) (i size : ℕ) → Sized s i size → (r : Char) → NextChar (drop i s) r → r.len ≢ 0 → (m : ℕ) → m ≡ width_of r.len r.code → Sized s (i + r.len) (size + m)
sized_more s i size w r f z m e =
    record {
      most = omega (arith, w.most, width_least r.len r.code (omega arith));
      count = λ cs ds v u.
          let b = spelling.next_begins (drop i s) r f (omega arith) in
          let x = w.count cs (r.code ∷ ds) v (spelling.spells_more (drop i s) ds r b (subst (λ (l : List ℕ). Spells l ds) (sym (drop-drop r.len i s)) u)) in
          omega (arith, x, next_width (drop i s) r f (omega arith), length-append (encode r.code) (encode_all ds));
    }

pub sized_end : (s : List ℕ) (i size : ℕ) → Sized s i size → length s ≤ i → (cs : List ℕ) → Spells s cs → length (encode_all cs) ≡ size
sized_end s i size w h cs v = omega (arith, w.count cs [] v (subst (λ (l : List ℕ). Spells l []) (sym (drop_of_length-le s h)) spelling.spells_none))

pub text_of : (g : List ℕ → Bool) (s : List ℕ) (n : ℕ) → ((cs : List ℕ) → Spells s cs → length (encode_all cs) ≡ n) → Passes g s → Spelled g s (Some (J.Text n))
text_of g s n f p = spelled p (ap (λ (n : ℕ). Some (J.Text n)) (sym (f p.chars p.spells)))
