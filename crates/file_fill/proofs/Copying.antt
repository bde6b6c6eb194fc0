-- The text of a leaf that is known to be good: runs that stand for themselves, and entities. Assumes nothing.
use mathlib.Core.Path.{◌≡◌, refl, sym, ◌∙◌, ap, ap₂, subst}
use mathlib.Core.Bool.{true, not}
use mathlib.Core.List.{List, [], ◌∷◌, ◌++◌, append_assoc}
use mathlib.Core.Logic.{◌≢◌}
use Prim.Native.Nat.{ℕ, ◌+◌, ◌-◌, ◌/◌, ◌%◌, ◌≤◌, ◌<◌}
use native.Mathlib.Omega.{arith}
use lib.Dec.{eqb}
use lib.ListN.{length, get_or, take, drop, length-append, length-drop, length-take}
use lib.Seq.{slice, drop-drop, get_or-drop, take-append-add, drop-append-add, drop-append_seam}
use borrow.Author.Tests.{ne_eqb}
use Rattle.text.specs.Lists.{Each, All, span}
use Rattle.text.specs.Numbers.{big_endian}
use Rattle.text.specs.Pasting.{pasted}
use Rattle.text.specs.Puts.{Puts}
use Rattle.text.proofs.Classes.{and_is}
use Rattle.text.proofs.Parts.{part_take}
use Rattle.text.proofs.Pasting.{pasted_before, length_pasted}
use Rattle.text.proofs.Puts.{puts_none, puts_pasted, puts_then, puts_as}
use Rattle.text.proofs.Spans.{span_append, span_le}
use Rattle.text_characters.specs.Utf8.{encode, encode_all}
use Rattle.text_characters.specs.Pieces.{less, ampersand, Entity, amp, lt, gt, quot, apos, word, stands, Piece, char, entity, spells, resolved_all, GoodPiece, Spells}
use Rattle.text_characters.specs.Chars.{char_of, begun, NextEntity}
use Rattle.text_characters.specs.declared.utf8.Char.{Char}
use Rattle.text_characters.proofs.Decoding as decoding
use Rattle.text_characters.proofs.Resolving.{stands_one, entity_one}
use Rattle.xml.proofs.Basics.{all_append}
use Rattle.value.specs.Value.{text, bytes}
use Rattle.value.proofs.given.Putting.{text_long}
use Rattle.value_leaf.specs.Leafed.{is_inside}
use Rattle.value_levels.proofs.Levels.{all_map}
use Rattle.value_levels.specs.mirror.Runs.{is_plain}
use Rattle.file_fill.specs.mirror.Copying.{RawAt, TextAsked, TextLaid}

-- ---- bytes that stand for themselves

plain_yes : (x : ℕ) → x ≢ less → x ≢ ampersand → is_plain x ≡ true
unfolding is_plain
plain_yes x a b = rw (ne_eqb x less a, ne_eqb x ampersand b)

plain_char : (c : ℕ) → c ≢ less → c ≢ ampersand → All is_plain (encode c)
plain_char c a b =
    decoding.by_length (All is_plain) c (λ k. (plain_yes c a b, tt))
    (λ j k. (plain_yes (0xC0 + c / 64) (λ z. omega arith) (λ z. omega arith), (plain_yes (0x80 + c % 64) (λ z. omega arith) (λ z. omega arith), tt)))
    (λ j k. (plain_yes (0xE0 + c / 4096) (λ z. omega arith) (λ z. omega arith), (plain_yes (0x80 + c / 64 % 64) (λ z. omega arith) (λ z. omega arith), (plain_yes (0x80 + c % 64) (λ z. omega arith) (λ z. omega arith), tt))))
    (λ k. (plain_yes (0xF0 + c / 262144) (λ z. omega arith) (λ z. omega arith), (plain_yes (0x80 + c / 4096 % 64) (λ z. omega arith) (λ z. omega arith), (plain_yes (0x80 + c / 64 % 64) (λ z. omega arith) (λ z. omega arith), (plain_yes (0x80 + c % 64) (λ z. omega arith) (λ z. omega arith), tt)))))

-- ---- a raw text has no `<`

plain_inside : (x : ℕ) → is_plain x ≡ true → is_inside x ≡ true
unfolding is_plain is_inside
plain_inside x e = (and_is (not (eqb x less)) (not (eqb x ampersand)) e).0

word_inside : (x : Entity) → All is_inside (word x)
unfolding is_inside
word_inside amp = (refl, (refl, (refl, (refl, (refl, tt)))))
word_inside lt = (refl, (refl, (refl, (refl, tt))))
word_inside gt = (refl, (refl, (refl, (refl, tt))))
word_inside quot = (refl, (refl, (refl, (refl, (refl, (refl, tt))))))
word_inside apos = (refl, (refl, (refl, (refl, (refl, (refl, tt))))))

inside_all : (ps : List Piece) → Each GoodPiece ps → All is_inside (spells ps)
inside_all [] g = tt
inside_all (char c ∷ ps) g = all_append is_inside (encode c) (spells ps) (all_map is_plain is_inside plain_inside (encode c) (plain_char c g.0.1 g.0.2)) (inside_all ps g.1)
inside_all (entity x ∷ ps) g = all_append is_inside (word x) (spells ps) (word_inside x) (inside_all ps g.1)

pub inside_raw : (raw cs : List ℕ) → Spells raw cs → All is_inside raw
inside_raw raw cs w = subst (All is_inside) (sym w.is) (inside_all w.pieces w.good)

-- ---- where a run stops: at the text's end, or at an entity

word_stop : (x : Entity) (t : List ℕ) → span is_plain (word x ++ t) ≡ 0
unfolding span is_plain
word_stop amp t = refl
word_stop lt t = refl
word_stop gt t = refl
word_stop quot t = refl
word_stop apos t = refl

word_first : (x : Entity) → (v : List ℕ) × (word x ≡ ampersand ∷ v)
word_first amp = (_, refl)
word_first lt = (_, refl)
word_first gt = (_, refl)
word_first quot = (_, refl)
word_first apos = (_, refl)

data Halt (t : List ℕ) (ps : List Piece) (rest : List ℕ) : Type 0 where
  over : span is_plain t ≡ length (spells ps) → drop (span is_plain t) t ≡ less ∷ rest → take (span is_plain t) t ≡ encode_all (resolved_all ps) → Halt t ps rest
  meets : (before : List ℕ) (x : Entity) (qs : List Piece) → Each GoodPiece qs → resolved_all ps ≡ before ++ (stands x ∷ resolved_all qs) → take (span is_plain t) t ≡ encode_all before
      → drop (span is_plain t) t ≡ word x ++ (spells qs ++ (less ∷ rest)) → span is_plain t + length (word x ++ spells qs) ≡ length (spells ps) → Halt t ps rest

halt_none : (rest : List ℕ) → Halt (less ∷ rest) [] rest
unfolding span is_plain
halt_none rest = over refl refl refl

halt : (ps : List Piece) → Each GoodPiece ps → (rest : List ℕ) → Halt (spells ps ++ (less ∷ rest)) ps rest
halt [] g rest = halt_none rest
halt (entity x ∷ ps) g rest =
    let t : List ℕ = (word x ++ spells ps) ++ (less ∷ rest) in
    let e : t ≡ word x ++ (spells ps ++ (less ∷ rest)) = append_assoc (word x) (spells ps) (less ∷ rest) in
    let z : span is_plain t ≡ 0 = ap (span is_plain) e ∙ word_stop x (spells ps ++ (less ∷ rest)) in
    meets [] x ps g.1 refl (ap (λ (n : ℕ). take n t) z) (ap (λ (n : ℕ). drop n t) z ∙ e) (omega (arith, z))
halt (char c ∷ ps) g rest = go (halt ps g.1 rest)
  where
    t' : List ℕ
    t' = spells ps ++ (less ∷ rest)

    t : List ℕ
    t = (encode c ++ spells ps) ++ (less ∷ rest)

    e : (encode c ++ spells ps) ++ (less ∷ rest) ≡ encode c ++ (spells ps ++ (less ∷ rest))
    e = append_assoc (encode c) (spells ps) (less ∷ rest)

    a : span is_plain ((encode c ++ spells ps) ++ (less ∷ rest)) ≡ length (encode c) + span is_plain (spells ps ++ (less ∷ rest))
    a = ap (span is_plain) e ∙ span_append is_plain (encode c) (spells ps ++ (less ∷ rest)) (plain_char c g.0.1 g.0.2)

    taken : take (span is_plain ((encode c ++ spells ps) ++ (less ∷ rest))) ((encode c ++ spells ps) ++ (less ∷ rest)) ≡ encode c ++ take (span is_plain (spells ps ++ (less ∷ rest))) (spells ps ++ (less ∷ rest))
    taken = ap₂ take a e ∙ take-append-add (encode c) (spells ps ++ (less ∷ rest)) (span is_plain (spells ps ++ (less ∷ rest)))

    dropped : drop (span is_plain ((encode c ++ spells ps) ++ (less ∷ rest))) ((encode c ++ spells ps) ++ (less ∷ rest)) ≡ drop (span is_plain (spells ps ++ (less ∷ rest))) (spells ps ++ (less ∷ rest))
    dropped = ap₂ drop a e ∙ drop-append-add (encode c) (spells ps ++ (less ∷ rest)) (span is_plain (spells ps ++ (less ∷ rest)))

    go : Halt (spells ps ++ (less ∷ rest)) ps rest → Halt ((encode c ++ spells ps) ++ (less ∷ rest)) (char c ∷ ps) rest
    go (over p q r) = over (omega (arith, a, p, length-append (encode c) (spells ps))) (dropped ∙ q) (taken ∙ ap (λ (l : List ℕ). encode c ++ l) r)
    go (meets b x qs h r k d l) =
        meets (c ∷ b) x qs h (ap (λ (l : List ℕ). c ∷ l) r) (taken ∙ ap (λ (l : List ℕ). encode c ++ l) k) (dropped ∙ d) (omega (arith, a, l, length-append (encode c) (spells ps)))

-- the same in a file, from a place on
first_at : (s : List ℕ) (k x : ℕ) (u : List ℕ) → drop k s ≡ x ∷ u → get_or s k 0 ≡ x
first_at s k x u e = let z : k ≡ k + 0 = omega arith in ap (λ (n : ℕ). get_or s n 0) z ∙ sym (get_or-drop k s 0 0) ∙ ap (λ (l : List ℕ). get_or l 0 0) e

pub data Stop (s : List ℕ) (i : ℕ) (cs : List ℕ) (e k : ℕ) : Type 0 where
  ends : get_or s k 0 ≡ less → k ≡ e → slice i k s ≡ encode_all cs → Stop s i cs e k
  meets : (before : List ℕ) (x : Entity) (behind u : List ℕ) → get_or s k 0 ≡ ampersand → slice i k s ≡ encode_all before → cs ≡ before ++ (stands x ∷ behind) → drop k s ≡ word x ++ u
      → RawAt s (k + length (word x)) behind e → Stop s i cs e k

module _ (s : List ℕ) (i : ℕ) (cs : List ℕ) (e : ℕ) (w : RawAt s i cs e) (k : ℕ) (g : k ≡ i + span is_plain (drop i s)) where
  abbrev ps : List Piece
  ps = w.spells.pieces

  abbrev n : ℕ
  n = span is_plain (drop i s)

  is : drop i s ≡ spells ps ++ (less ∷ w.rest)
  is = w.is ∙ ap (λ (l : List ℕ). l ++ (less ∷ w.rest)) w.spells.is

  raw_long : length w.raw ≡ length (spells ps)
  raw_long = ap length w.spells.is

  here : Halt (drop i s) ps w.rest
  here = subst (λ (t : List ℕ). Halt t ps w.rest) (sym is) (halt ps w.spells.good w.rest)

  at_k : drop k s ≡ drop n (drop i s)
  at_k = ap (λ (x : ℕ). drop x s) g ∙ sym (drop-drop n i s)

  part : slice i k s ≡ take n (drop i s)
  part = ap (λ (x : ℕ). slice i x s) g ∙ part_take i n s

  pub stop_within : k < length s
  stop_within = go here
    where
      first : (x : ℕ) (u : List ℕ) → drop k s ≡ x ∷ u → k < length s
      first x u q = omega (arith, ap length q, length-drop k s)

      go : Halt (drop i s) ps w.rest → k < length s
      go (over p q r) = first less w.rest (at_k ∙ q)
      go (meets b x qs h r t d l) = let f = word_first x in first ampersand (f.0 ++ (spells qs ++ (less ∷ w.rest))) (at_k ∙ d ∙ ap (λ (y : List ℕ). y ++ (spells qs ++ (less ∷ w.rest))) f.1)

  pub stop : Stop s i cs e k
  stop = go here
    where
      go : Halt (drop i s) ps w.rest → Stop s i cs e k
      go (over p q r) = ends (first_at s k less w.rest (at_k ∙ q)) (omega (arith, g, p, w.end, raw_long)) (part ∙ r ∙ sym (ap encode_all w.spells.chars))
      go (meets b x qs h r t d l) =
          let f = word_first x in
          let v : List ℕ = spells qs ++ (less ∷ w.rest) in
          let m : drop k s ≡ word x ++ v = at_k ∙ d in
          meets b x (resolved_all qs) v (first_at s k ampersand (f.0 ++ v) (m ∙ ap (λ (y : List ℕ). y ++ v) f.1)) (part ∙ t) (w.spells.chars ∙ r) m
          (record {
            raw = spells qs;
            rest = w.rest;
            is = sym (drop-drop (length (word x)) k s) ∙ ap (drop (length (word x))) m ∙ drop-append_seam (word x) v;
            spells = record { pieces = qs; good = h; is = refl; chars = refl };
            end = omega (arith, g, l, w.end, raw_long, length-append (word x) (spells qs));
          })

-- the character of an entity
entity_is : (s : List ℕ) (k : ℕ) (x : Entity) (u : List ℕ) (c : Char) → drop k s ≡ word x ++ u → NextEntity (drop k s) c → c ≡ char_of (length (word x)) (stands x)
entity_is s k x u c e nx =
    entity_one (drop k s) c (char_of (length (word x)) (stands x)) nx (begun (record { sign = x; good = tt; rest = u; is = e; found = refl }))

word_some : (x : Entity) → 0 < length (word x)
word_some x = let f = word_first x in omega (arith, ap length f.1)

encode_append : (a b : List ℕ) → encode_all (a ++ b) ≡ encode_all a ++ encode_all b
encode_append [] b = refl
encode_append (c ∷ a) b = ap (λ (l : List ℕ). encode c ++ l) (encode_append a b) ∙ sym (append_assoc (encode c) (encode_all a) (encode_all b))

-- ---- the loop that puts a text

-- of the text that spells cs, up to f, what is done stands in d up to o, and what is left begins at `from`
pub record Goes (s d₀ : List ℕ) (to : ℕ) (cs : List ℕ) (f : ℕ) (d : List ℕ) (from o : ℕ) : Type 0 where
  pub done : List ℕ
  pub left : List ℕ
  pub split : encode_all cs ≡ done ++ encode_all left
  pub puts : Puts d₀ (to + 2) done o d
  pub text : RawAt s from left f

pub record Going (s d₀ : List ℕ) (at to : ℕ) (d : List ℕ) (from o : ℕ) : Type 0 where
  pub go : (cs : List ℕ) (f : ℕ) → RawAt s at cs f → Goes s d₀ to cs f d from o

pub going_start : (s d : List ℕ) (at to : ℕ) → Going s d at to d at (to + 2)
going_start s d at to = record { go = λ cs f w. record { done = []; left = cs; split = refl; puts = puts_none d (to + 2); text = w } }

module _ (s d₀ : List ℕ) (at to : ℕ) (pre : TextAsked s at d₀ to) (d : List ℕ) (from o : ℕ) (inv : Going s d₀ at to d from o) (k : ℕ) (g : k ≡ from + span is_plain (drop from s)) where
  mine : Goes s d₀ to pre.chars pre.end d from o
  mine = inv.go pre.chars pre.end pre.text

  pub run_within : k < length s
  run_within = stop_within s from mine.left pre.end mine.text k g

  part_count : length (slice from k s) ≡ k - from
  part_count =
      let n : ℕ = span is_plain (drop from s) in
      ap length (ap (λ (x : ℕ). slice from x s) g ∙ part_take from n s) ∙ length-take n (drop from s) ∙ omega (arith, g, span_le is_plain (drop from s))

  left_room : o + length (encode_all mine.left) ≤ length d
  left_room = omega (arith, pre.room, mine.puts.behind, mine.puts.long, ap length mine.split ∙ length-append mine.done (encode_all mine.left))

  -- what was copied is a part of what is left
  run_room : o + (k - from) ≤ length d
  run_room = go (stop s from mine.left pre.end mine.text k g)
    where
      go : Stop s from mine.left pre.end k → o + (k - from) ≤ length d
      go (ends a b e) = omega (arith, left_room, part_count, ap length e)
      go (meets b x h u a e r m t) = omega (arith, left_room, part_count, ap length e, ap length (ap encode_all r ∙ encode_append b (stands x ∷ h)) ∙ length-append (encode_all b) (encode_all (stands x ∷ h)))

  pub run_fits : o + (k - from) ≤ length d₀
  run_fits = omega (arith, run_room, mine.puts.long)

  pub run_above : to + 2 ≤ o
  run_above = omega (arith, mine.puts.behind)

  module _ (d₁ : List ℕ) (p : d₁ ≡ pasted d o (slice from k s)) where
    copied : (bs : List ℕ) → slice from k s ≡ bs → Puts d o bs (o + (k - from)) d₁
    copied bs e = puts_as d o (slice from k s) bs (o + (k - from)) d₁ e (puts_pasted d o (slice from k s) (k - from) d₁ (sym part_count) p)

    pub run_long : length d₁ ≡ length d₀
    run_long = ap length p ∙ length_pasted d o (slice from k s) ∙ mine.puts.long

    -- the text's end
    module _ (z : get_or s k 0 ≡ 60) (d₂ : List ℕ) (n : ℕ) (en : n ≡ (o + (k - from) - to - 2) % 65536) (q : d₂ ≡ pasted d₁ to (big_endian 2 n)) where
      pub end_long_lem : length d₂ ≡ length d₀
      end_long_lem = ap length q ∙ length_pasted d₁ to (big_endian 2 n) ∙ run_long

      two_bytes : (m : ℕ) → n ≡ m % 65536 → big_endian 2 n ≡ big_endian 2 m
      unfolding big_endian
      two_bytes m e =
          let a : n / 256 % 256 ≡ m / 256 % 256 = omega (arith, e) in
          let b : n % 256 ≡ m % 256 = omega (arith, e) in
          ap₂ (λ (x y : ℕ). x ∷ y ∷ []) a b

      before : (m : ℕ) (E : List ℕ) → to + (2 + length E) ≤ length d₀ → pasted (pasted d₀ (to + 2) E) to (big_endian 2 m) ≡ pasted d₀ to (big_endian 2 m ++ E)
      unfolding big_endian
      before m E h = pasted_before d₀ to (big_endian 2 m) E (omega (arith, h))

      pub text_laid : TextLaid s at d₀ to (o + (k - from)) k d₂
      text_laid cs f w = go (inv.go cs f w)
        where
          go : Goes s d₀ to cs f d from o → (k ≡ f) × Puts d₀ to (bytes (text cs)) (o + (k - from)) d₂
          go x = close (stop s from x.left f x.text k g)
            where
              close : Stop s from x.left f k → (k ≡ f) × Puts d₀ to (bytes (text cs)) (o + (k - from)) d₂
              close (meets b y h u a e r m t) = absurd (omega (arith, a, z))
              close (ends a b e) =
                  let c : Puts d₀ (to + 2) (encode_all cs) (o + (k - from)) d₁ =
                  puts_as d₀ (to + 2) (x.done ++ encode_all x.left) (encode_all cs) (o + (k - from)) d₁ (sym x.split)
                  (puts_then d₀ (to + 2) x.done o d (encode_all x.left) (o + (k - from)) d₁ x.puts (copied (encode_all x.left) e)) in
                  let l : ℕ = length (encode_all cs) in
                  let m : n ≡ l % 65536 = omega (arith, en, c.behind) in
                  let y = text_long l cs refl in (
                    b,
                    record {
                      behind = omega (arith, c.behind, y);
                      long = end_long_lem;
                      is = λ h.
                          q ∙ ap₂ (λ (u v : List ℕ). pasted u to v) (c.is (omega (arith, h, y))) (two_bytes l m) ∙ before l (encode_all cs) (omega (arith, h, y));
                    },
                  )

    -- an entity
    module _ (z : get_or s k 0 ≢ 60) (c : Char) (nx : NextEntity (drop k s) c) where
      record Entered : Type 0 where
        which : Entity
        found : c ≡ char_of (length (word which)) (stands which)

      entered : Entered
      entered = go (stop s from mine.left pre.end mine.text k g)
        where
          go : Stop s from mine.left pre.end k → Entered
          go (ends a b e) = absurd (z a)
          go (meets b x h u a e r m t) = record { which = x; found = entity_is s k x u c m nx }

      pub len_some : 0 < c.len
      len_some = subst (λ (y : ℕ). 0 < y) (sym (ap (λ (y : Char). y.len) entered.found)) (word_some entered.which)

      more_room : o + (k - from) + 1 ≤ length d
      more_room = go (stop s from mine.left pre.end mine.text k g)
        where
          go : Stop s from mine.left pre.end k → o + (k - from) + 1 ≤ length d
          go (ends a b e) = absurd (z a)
          go (meets b x h u a e r m t) =
              omega (
                arith,
                left_room,
                part_count,
                ap length e,
                ap length (ap encode_all r ∙ encode_append b (stands x ∷ h)) ∙ length-append (encode_all b) (encode_all (stands x ∷ h)),
                length-append (encode (stands x)) (encode_all h),
                ap length (stands_one x),
              )

      pub more_fits : o + (k - from) + 1 ≤ length d₀
      more_fits = omega (arith, more_room, mine.puts.long)

      pub len_within : k + c.len ≤ length s
      len_within = go (stop s from mine.left pre.end mine.text k g)
        where
          go : Stop s from mine.left pre.end k → k + c.len ≤ length s
          go (ends a b e) = absurd (z a)
          go (meets b x h u a e r m t) =
              let v = ap (λ (y : Char). y.len) (entity_is s k x u c m nx) in
              omega (arith, v, ap length m, length-drop k s, length-append (word x) u, word_some x)

      pub going_again : (d₂ : List ℕ) → d₂ ≡ pasted d₁ (o + (k - from)) (c.code ∷ []) → Going s d₀ at to d₂ (k + c.len) (o + (k - from) + 1)
      going_again d₂ q = record { go = λ cs f w. go cs f (inv.go cs f w) }
        where
          go : (cs : List ℕ) (f : ℕ) → Goes s d₀ to cs f d from o → Goes s d₀ to cs f d₂ (k + c.len) (o + (k - from) + 1)
          go cs f x = close (stop s from x.left f x.text k g)
            where
              close : Stop s from x.left f k → Goes s d₀ to cs f d₂ (k + c.len) (o + (k - from) + 1)
              close (ends a b e) = absurd (z a)
              close (meets b y h u a e r m t) =
                  let v = entity_is s k y u c m nx in
                  let vc : c.code ≡ stands y = ap (λ (i : Char). i.code) v in
                  let vl : c.len ≡ length (word y) = ap (λ (i : Char). i.len) v in
                  let one : Puts d₁ (o + (k - from)) (c.code ∷ []) (o + (k - from) + 1) d₂ = puts_pasted d₁ (o + (k - from)) (c.code ∷ []) 1 d₂ refl q in
                  record {
                    done = (x.done ++ encode_all b) ++ (c.code ∷ []);
                    left = h;
                    split = x.split ∙ ap (λ (l : List ℕ). x.done ++ l) (ap encode_all r ∙ encode_append b (stands y ∷ h)
                        ∙ ap (λ (l : List ℕ). encode_all b ++ (l ++ encode_all h)) (stands_one y ∙ ap (λ (i : ℕ). i ∷ []) (sym vc)))
                        ∙ sym (append_assoc x.done (encode_all b) ((c.code ∷ []) ++ encode_all h))
                        ∙ sym (append_assoc (x.done ++ encode_all b) (c.code ∷ []) (encode_all h));
                    puts = puts_then d₀ (to + 2) (x.done ++ encode_all b) (o + (k - from)) d₁ (c.code ∷ []) (o + (k - from) + 1) d₂
                        (puts_then d₀ (to + 2) x.done o d (encode_all b) (o + (k - from)) d₁ x.puts (copied (encode_all b) e)) one;
                    text = subst (λ (i : ℕ). RawAt s i h f) (ap (λ (i : ℕ). k + i) (sym vl)) t;
                  }
