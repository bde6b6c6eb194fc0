-- TXTk and REF, read by runs of bytes that stand for themselves. Assumes nothing.
use mathlib.Core.Path.{◌≡◌, refl, sym, ◌∙◌, ap, ap₂, subst}
use mathlib.Core.Bool.{Bool, true, false, ◌&&◌, not, true≢false}
use mathlib.Core.Logic.{◌≢◌, inl}
use mathlib.Core.List.{List, [], ◌∷◌, ◌++◌, append_assoc, append-nil, head-eq_of_cons-eq, nil≢cons}
use Prim.Native.Nat.{ℕ, suc, ◌+◌, ◌-◌, ◌/◌, ◌%◌, ◌≤◌, ◌<◌}
use native.Mathlib.Omega.{arith}
use lib.Dec.{eqb}
use lib.ListN.{length, get_or, drop, length-append, length-drop}
use lib.Seq.{drop-cons, drop-drop}
use borrow.Author.Tests.{ne_eqb, eqb-false, not-true, lt-ltb}
use Rattle.text.specs.Bytes.{in_range}
use Rattle.text.specs.Lists.{Each, All, Any}
use Rattle.text.proofs.Classes.{and_is, in_range_is}
use Rattle.text_characters.specs.Utf8.{encode, encode_all}
use Rattle.text_characters.specs.Chars.{char_of, begun, none, NextChar, EntityLen}
use Rattle.text_characters.specs.Pieces.{less, greater, ampersand, Entity, amp, lt, gt, quot, apos, stands, Piece, char, entity, GoodPiece, spell, spells, resolved, resolved_all, Spells}
use Rattle.text_characters.specs.declared.utf8.Char.{Char}
use Rattle.text_characters.proofs.Decoding.{encode1, encode2, by_length}
use Rattle.text_characters.proofs.Chars as chars
use Rattle.text_characters.proofs.Resolving.{XmlChar, xml_char_yes, piece_some, entity_next}
use Rattle.text_characters.proofs.Spelling.{Begins, next_begins}
use Rattle.list.specs.Listing.{txt, ref}
use Rattle.value.specs.types.Text.{is_txt, is_ref, Chars, Ref}
use Rattle.value.specs.Value.{text, IsValue}
use Rattle.value.specs.mirror.Tests.{not_space}
use Rattle.value.specs.mirror.Texts.{is_ascii_txt, quiet_txt, quiet_ref, text_from, width_of}
use Rattle.value.proofs.classes.Classes.{each_all, each_append}
use Rattle.value.proofs.classes.Ink.{ink_not}
use Rattle.value.proofs.classes.Computed.{besides, ref_low, ref_own, slash_ref, quiet_is, ascii_is, quiet_txt_lem}
use Rattle.value.proofs.classes.References.{ref_to}
use Rattle.value.proofs.raw.Encoding.{encoded_most}
use Rattle.value.proofs.raw.Sizes.{width_one, next_width, width_least}
use Rattle.value.proofs.types.Values.{text_bytes_lem}
use Rattle.value_leaf.specs.Leafed.{found_of, Leafed}
use Rattle.value_leaf.specs.declared.found.Found.{Found}
use Rattle.value_levels.specs.mirror.Levels.{reaches, Leveled, Ran}
use Rattle.value_lane_texts.specs.mirror.Going.{Sofar, Going, is_second, Umlaut, Slashed}
use Rattle.value_leaf.specs.mirror.Calm.{Calm}
use Rattle.value_levels.proofs.Levels.{level_txt, level_ref, all_map, run_of, run_is, run_long, run_all}
use Rattle.value_leaf.proofs.Weighing.{weighs_of, leafed_of}

-- ---- texts, one after the other

pieces_append : (a b : List Piece) → Each GoodPiece a → Each GoodPiece b → Each GoodPiece (a ++ b)
pieces_append [] b h g = g
pieces_append (x ∷ a) b h g = (h.0, pieces_append a b h.1 g)

all_append : (p : ℕ → Bool) (a b : List ℕ) → All p a → All p b → All p (a ++ b)
all_append p [] b h g = g
all_append p (x ∷ a) b h g = (h.0, all_append p a b h.1 g)

spells_append : (a b : List Piece) → spells (a ++ b) ≡ spells a ++ spells b
spells_append [] b = refl
spells_append (p ∷ a) b = ap (λ (z : List ℕ). spell p ++ z) (spells_append a b) ∙ sym (append_assoc (spell p) (spells a) (spells b))

resolved_append : (a b : List Piece) → resolved_all (a ++ b) ≡ resolved_all a ++ resolved_all b
resolved_append [] b = refl
resolved_append (p ∷ a) b = ap (λ (z : List ℕ). resolved p ∷ z) (resolved_append a b)

encoded_append : (a b : List ℕ) → encode_all (a ++ b) ≡ encode_all a ++ encode_all b
encoded_append [] b = refl
encoded_append (x ∷ a) b = ap (λ (z : List ℕ). encode x ++ z) (encoded_append a b) ∙ sym (append_assoc (encode x) (encode_all a) (encode_all b))

sofar_none : Sofar [] 0 0
sofar_none = record { chars = []; spells = record { pieces = []; good = tt; is = refl; chars = refl }; class = tt; gone = refl; tails = refl; calm = tt }

sofar_append : (a b : List ℕ) (g h t u : ℕ) → Sofar a g t → Sofar b h u → Sofar (a ++ b) (g + h) (t + u)
sofar_append a b g h t u x y =
    let e = length-append a b in
    let f = ap length (encoded_append x.chars y.chars) ∙ length-append (encode_all x.chars) (encode_all y.chars) in
    let c = length-append x.chars y.chars in
    record {
      chars = x.chars ++ y.chars;
      spells = record {
        pieces = x.spells.pieces ++ y.spells.pieces;
        good = pieces_append x.spells.pieces y.spells.pieces x.spells.good y.spells.good;
        is = ap₂ (λ (i j : List ℕ). i ++ j) x.spells.is y.spells.is ∙ sym (spells_append x.spells.pieces y.spells.pieces);
        chars = ap₂ (λ (i j : List ℕ). i ++ j) x.spells.chars y.spells.chars ∙ sym (resolved_append x.spells.pieces y.spells.pieces);
      };
      class = all_append is_txt x.chars y.chars x.class y.class;
      gone = omega (arith, e, f, x.gone, y.gone);
      tails = omega (arith, f, c, x.tails, y.tails);
      calm = each_append Calm a b x.calm y.calm;
    }

-- ---- bytes that are characters as they stand

abbrev Plain : ℕ → Type 0
Plain c = (32 ≤ c) × (c < 128) × (c ≢ 60) × (c ≢ 38) × (c ≢ 62)

pieced : List ℕ → List Piece
pieced [] = []
pieced (c ∷ cs) = char c ∷ pieced cs

pieced_good : (s : List ℕ) → Each Plain s → Each GoodPiece (pieced s)
unfolding pieced
pieced_good [] h = tt
pieced_good (c ∷ s) h = ((xml_char_yes c (XmlChar.low h.0.0 (omega (arith, h.0.1))), h.0.2, h.0.3), pieced_good s h.1)

pieced_spells : (s : List ℕ) → Each Plain s → s ≡ spells (pieced s)
unfolding pieced
pieced_spells [] h = refl
pieced_spells (c ∷ s) h = ap (λ (z : List ℕ). c ∷ z) (pieced_spells s h.1) ∙ ap (λ (z : List ℕ). z ++ spells (pieced s)) (sym (encode1 c h.0.1))

pieced_chars : (s : List ℕ) → s ≡ resolved_all (pieced s)
unfolding pieced
pieced_chars [] = refl
pieced_chars (c ∷ s) = ap (λ (z : List ℕ). c ∷ z) (pieced_chars s)

plain_own : (s : List ℕ) → Each Plain s → Spells s s
plain_own s h = record { pieces = pieced s; good = pieced_good s h; is = pieced_spells s h; chars = pieced_chars s }

plain_encoded : (s : List ℕ) → Each Plain s → encode_all s ≡ s
plain_encoded [] h = refl
plain_encoded (c ∷ s) h = ap (λ (z : List ℕ). z ++ encode_all s) (encode1 c h.0.1) ∙ ap (λ (z : List ℕ). c ∷ z) (plain_encoded s h.1)

plain_calm : (s : List ℕ) → Each Plain s → Each Calm s
plain_calm [] h = tt
plain_calm (c ∷ s) h = ((h.0.2, h.0.4), plain_calm s h.1)

-- ---- a run of a text

quiet_plain : (c : ℕ) → quiet_txt c ≡ true → c ≢ 62 → Plain c
quiet_plain c h n = let w = quiet_txt_lem c h in (w.1.low, (ascii_is c w.0).0, w.1.less, w.1.ampersand, n)

sofar_run : (s : List ℕ) → All (reaches 1) s → Sofar s 0 0
sofar_run s h =
    let p : Each Plain s = each_all (reaches 1) Plain (λ x e. let w = level_txt x e in quiet_plain x w.0 w.1) s h in
    let e = ap length (plain_encoded s p) in
    record {
      chars = s;
      spells = plain_own s p;
      class = all_map (reaches 1) is_txt (λ x z. (ascii_is x (quiet_txt_lem x (level_txt x z).0).0).1) s h;
      gone = omega (arith, e);
      tails = omega (arith, e);
      calm = plain_calm s p;
    }

-- ---- one character: an entity, or one beyond ASCII

high_calm : (x : ℕ) → 64 ≤ x → Calm x
high_calm x h = ((λ e. omega arith), (λ e. omega arith))

char_calm : (c x : ℕ) (u v : List ℕ) → encode c ++ u ≡ x ∷ v → Calm x → Each Calm (encode c)
char_calm c x u v =
    by_length (λ (l : List ℕ). l ++ u ≡ x ∷ v → Calm x → Each Calm l) c
    (λ h e k. (subst Calm (sym (head-eq_of_cons-eq e)) k, tt))
    (λ h k e y. (high_calm (0xC0 + c / 64) (omega arith), (high_calm (0x80 + c % 64) (omega arith), tt)))
    (λ h k e y. (high_calm (0xE0 + c / 4096) (omega arith), (high_calm (0x80 + c / 64 % 64) (omega arith), (high_calm (0x80 + c % 64) (omega arith), tt))))
    (λ h e y. (high_calm (0xF0 + c / 262144) (omega arith), (high_calm (0x80 + c / 4096 % 64) (omega arith), (high_calm (0x80 + c / 64 % 64) (omega arith), (high_calm (0x80 + c % 64) (omega arith), tt)))))

piece_calm : (p : Piece) (x : ℕ) (u v : List ℕ) → spell p ++ u ≡ x ∷ v → Calm x → Each Calm (spell p)
piece_calm (char c) x u v e k = char_calm c x u v e k
piece_calm (entity amp) x u v e k = omega arith
piece_calm (entity lt) x u v e k = omega arith
piece_calm (entity gt) x u v e k = omega arith
piece_calm (entity quot) x u v e k = omega arith
piece_calm (entity apos) x u v e k = omega arith

sofar_sign : (p : Piece) (g t : ℕ) → GoodPiece p → is_txt (resolved p) ≡ true → length (spell p) ≡ length (encode (resolved p)) + g → length (encode (resolved p)) ≡ 1 + t → Each Calm (spell p) → Sofar (spell p) g t
sofar_sign p g t h c e f k =
    let n = ap length (append-nil (encode (resolved p))) in
    record {
      chars = resolved p ∷ [];
      spells = record { pieces = p ∷ []; good = (h, tt); is = sym (append-nil (spell p)); chars = refl };
      class = (c, tt);
      gone = omega (arith, n, e);
      tails = omega (arith, n, f);
      calm = k;
    }

-- ---- a loop that has come to i

pub going_start : (s : List ℕ) (at : ℕ) → Going s at at 0 0
going_start s at = record { raw = []; is = refl; long = omega arith; sofar = sofar_none }

going_more : (s : List ℕ) (at i j g g' t t' h u : ℕ) (b : List ℕ) → Going s at i g t → drop i s ≡ b ++ drop j s → i + length b ≡ j → Sofar b h u → g' ≡ g + h → t' ≡ t + u → Going s at j g' t'
going_more s at i j g g' t t' h u b w e l x p q =
    record {
      raw = w.raw ++ b;
      is = w.is ∙ ap (λ (z : List ℕ). w.raw ++ z) e ∙ sym (append_assoc w.raw b (drop j s));
      long = omega (arith, w.long, l, length-append w.raw b);
      sofar = rw (p, q) (sofar_append w.raw b g h t u w.sofar x);
    }

pub going_run : (s : List ℕ) (at i j g t : ℕ) → Going s at i g t → Ran 1 s i j → Going s at j g t
going_run s at i j g t w e =
    going_more s at i j g g t t 0 0 (run_of 1 s i j e) w (run_is 1 s i j e) (run_long 1 s i j e) (sofar_run (run_of 1 s i j e) (run_all 1 s i j e)) (omega arith) (omega arith)

-- a character that stops a run
module _ (s : List ℕ) (at i g t : ℕ) (h : i < length s) (c : Char) (n : NextChar (drop i s) c) (z : 0 < c.len) (m : ℕ) (q : m ≡ width_of c.len c.code) where
  here : Begins (drop i s) c
  here = next_begins (drop i s) c n z

  len_is : c.len ≡ length (spell here.sign)
  len_is = chars.begun_len GoodPiece spell resolved (drop i s) c here

  code_is : c.code ≡ resolved here.sign
  code_is = chars.begun_code GoodPiece spell resolved (drop i s) c here

  wide : length (encode (resolved here.sign)) ≡ m
  wide = ap (λ (x : ℕ). length (encode x)) (sym code_is) ∙ next_width (drop i s) c n z ∙ sym q

  sign_width : (0 < m) × (m ≤ c.len)
  sign_width = (omega (arith, wide, Rattle.text_characters.proofs.Decoding.encode_some (resolved here.sign)), omega (arith, q, width_least c.len c.code z))

  sign_room : i + c.len ≤ length s
  sign_room = omega (arith, chars.begun_within GoodPiece spell resolved (drop i s) c here, length-drop i s)

  going_sign : (g' t' : ℕ) → g' ≡ g + (c.len - m) → t' ≡ t + (m - 1) → Going s at i g t → get_or s i 0 ≢ less → get_or s i 0 ≢ greater → is_txt c.code ≡ true → Going s at (i + c.len) g' t'
  going_sign g' t' p r w a b k =
      let rest : drop c.len (drop i s) ≡ here.rest = chars.rest_is GoodPiece spell resolved (drop i s) c here in
      let e : drop i s ≡ spell here.sign ++ drop (i + c.len) s = here.is ∙ ap (λ (x : List ℕ). spell here.sign ++ x) (sym rest ∙ drop-drop c.len i s) in
      let f : spell here.sign ++ drop (i + c.len) s ≡ get_or s i 0 ∷ drop (suc i) s = sym e ∙ drop-cons s i 0 h in
      let v = sign_width in
      let l = len_is in
      let d = wide in
      going_more s at i (i + c.len) g g' t t' (c.len - m) (m - 1) (spell here.sign) w e (omega (arith, l))
      (sofar_sign here.sign (c.len - m) (m - 1) here.good (ap is_txt (sym code_is) ∙ k) (omega (arith, v, l, d)) (omega (arith, v, d)) (piece_calm here.sign (get_or s i 0) (drop (i + c.len) s) (drop (suc i) s) f (a, b)))
      p r

-- what a loop was told at such a character, of whose bytes m are the value's
pub record AtSign : Type 0 where
  pub table : List ℕ
  pub s : List ℕ
  pub at : ℕ
  pub i : ℕ
  pub g : ℕ
  pub t : ℕ
  pub c : Char
  pub m : ℕ
  pub most : at + g + t ≤ i
  pub going : Leveled table → Going s at i g t
  pub within : i < length s
  pub next : NextChar (drop i s) c
  pub some : c.len ≢ 0
  pub width : m ≡ width_of c.len c.code
  pub left : get_or s i 0 ≢ 60
  pub right : get_or s i 0 ≢ 62
  pub class : is_txt c.code ≡ true

module _ (x : AtSign) where
  pub at_room : x.i + x.c.len ≤ length x.s
  at_room = sign_room x.s x.at x.i x.g x.t x.within x.c x.next (omega (arith, x.some)) x.m x.width

  pub at_more : (g t : ℕ) → g ≡ x.g + (x.c.len - x.m) → t ≡ x.t + (x.m - 1) → Leveled x.table → Going x.s x.at (x.i + x.c.len) g t
  at_more g t p q l =
      going_sign x.s x.at x.i x.g x.t x.within x.c x.next (omega (arith, x.some)) x.m x.width
      g t p q (x.going l) x.left x.right x.class

-- a character that no `&` begins has all its bytes in the value
piece_whole : (p : Piece) (x : ℕ) (u v : List ℕ) → spell p ++ u ≡ x ∷ v → x ≢ ampersand → length (spell p) ≡ length (encode (resolved p))
piece_whole (char c) x u v e n = refl
piece_whole (entity amp) x u v e n = absurd (n (sym (head-eq_of_cons-eq e)))
piece_whole (entity lt) x u v e n = absurd (n (sym (head-eq_of_cons-eq e)))
piece_whole (entity gt) x u v e n = absurd (n (sym (head-eq_of_cons-eq e)))
piece_whole (entity quot) x u v e n = absurd (n (sym (head-eq_of_cons-eq e)))
piece_whole (entity apos) x u v e n = absurd (n (sym (head-eq_of_cons-eq e)))

pub next_whole : (s : List ℕ) (i : ℕ) (c : Char) → i < length s → get_or s i 0 ≢ ampersand → NextChar (drop i s) c → c.len ≢ 0 → c.len ≡ width_of c.len c.code
next_whole s i c h a n z =
    let b : Begins (drop i s) c = next_begins (drop i s) c n (omega (arith, z)) in
    chars.begun_len GoodPiece spell resolved (drop i s) c b
    ∙ piece_whole b.sign (get_or s i 0) b.rest (drop (suc i) s) (sym b.is ∙ drop-cons s i 0 h) a
    ∙ ap (λ (x : ℕ). length (encode x)) (sym (chars.begun_code GoodPiece spell resolved (drop i s) c b))
    ∙ next_width (drop i s) c n (omega (arith, z))

-- a character of a text has bytes
zero_no : is_txt 0 ≡ true → ⊥
unfolding is_txt
zero_no e = true≢false (sym e)

pub next_some : (l : List ℕ) (c : Char) → NextChar l c → is_txt c.code ≡ true → c.len ≢ 0
next_some l c (begun b) k z = omega (arith, z, chars.begun_len GoodPiece spell resolved l c b, piece_some b.sign)
next_some l c (none e never) k z = zero_no (ap (λ (r : Char). is_txt r.code) (sym e) ∙ k)

-- an entity stands for a character of a text, of one byte
pub entity_txt : (e : Entity) → is_ascii_txt (stands e) ≡ true
unfolding is_ascii_txt is_txt
entity_txt amp = refl
entity_txt lt = refl
entity_txt gt = refl
entity_txt quot = refl
entity_txt apos = refl

-- the same, told of an entity of n bytes
abbrev pub at_entity : (table s : List ℕ) (at i g t n : ℕ) → at + g + t ≤ i → (Leveled table → Going s at i g t) → i < length s → get_or s i 0 ≡ ampersand → EntityLen (drop i s) n → n ≢ 0 → AtSign
at_entity table s at i g t n most going within first l z =
    let e = entity_next (drop i s) n l z in
    let w = ascii_is (stands e.0) (entity_txt e.0) in
    record {
      table = table;
      s = s;
      at = at;
      i = i;
      g = g;
      t = t;
      c = char_of n (stands e.0);
      m = 1;
      most = most;
      going = going;
      within = within;
      next = e.1;
      some = z;
      width = sym (width_one n (stands e.0) w.0);
      left = λ p. omega (arith, first, p);
      right = λ p. omega (arith, first, p);
      class = w.1;
    }

-- 0xC3 and a second byte
second_is : (y : ℕ) → is_second y ≡ true → (is_txt (y + 64) ≡ true) × (0x80 ≤ y) × (y ≤ 0xBF)
unfolding is_second
second_is y e =
    let w = and_is (is_txt (y + 64)) (in_range 0x80 0xBF y) e in
    let r = in_range_is 0x80 0xBF y w.1 in
    (w.0, r.0, r.1)

second_encoded : (y : ℕ) → 0x80 ≤ y → y ≤ 0xBF → encode (y + 64) ≡ 0xC3 ∷ y ∷ []
second_encoded y a b =
    let p : 0xC0 + (y + 64) / 64 ≡ 0xC3 = omega arith in
    let q : 0x80 + (y + 64) % 64 ≡ y = omega arith in
    encode2 (y + 64) (omega arith) (omega arith) ∙ ap₂ (λ (u v : ℕ). u ∷ v ∷ []) p q

sofar_second : (y : ℕ) → is_second y ≡ true → Sofar (0xC3 ∷ y ∷ []) 0 1
sofar_second y e =
    let w = second_is y e in
    let c = second_encoded y w.1 w.2 in
    let n : length (encode (y + 64)) ≡ 2 = ap length c in
    let k : Each Calm (encode (y + 64)) = subst (Each Calm) (sym c) (high_calm 0xC3 (omega arith), (high_calm y (omega (arith, w.1)), tt)) in
    subst (λ (l : List ℕ). Sofar l 0 1) c
    (sofar_sign (char (y + 64)) 0 1 (xml_char_yes (y + 64) (XmlChar.low (omega (arith, w.1)) (omega (arith, w.2))), (λ z. omega (arith, w.1, z)), (λ z. omega (arith, w.1, z))) w.0 (omega arith) (omega (arith, n)) k)

pub going_umlaut : (s : List ℕ) (at i g t : ℕ) → Going s at i g t → Umlaut s i → Going s at (i + 2) g (t + 1)
going_umlaut s at i g t w u =
    let room = u.room in
    let y : ℕ = get_or s (i + 1) 0 in
    let p : suc i ≡ i + 1 = omega arith in
    let q : suc (i + 1) ≡ i + 2 = omega arith in
    let d : drop (i + 1) s ≡ y ∷ drop (i + 2) s = drop-cons s (i + 1) 0 room ∙ ap (λ (n : ℕ). y ∷ drop n s) q in
    let e : drop i s ≡ 0xC3 ∷ y ∷ drop (i + 2) s = drop-cons s i 0 (omega (arith, room)) ∙ ap₂ (λ (a : ℕ) (b : List ℕ). a ∷ b) u.first (ap (λ (n : ℕ). drop n s) p ∙ d) in
    going_more s at i (i + 2) g g t (t + 1) 0 1 (0xC3 ∷ y ∷ []) w e refl (sofar_second y u.second) (omega arith) refl

-- what is counted is no more than was read
pub going_most : (s : List ℕ) (at i g t : ℕ) → Going s at i g t → (at ≤ i) × (g + t ≤ i - at) × (g ≤ i - at) × (t ≤ i - at - g)
going_most s at i g t w =
    let x = w.sofar in
    let a = x.gone in
    let b = x.tails in
    let c = w.long in
    (omega arith, omega arith, omega arith, omega arith)

-- ---- a whole text

entity_ink : (e : Entity) → stands e ≢ 32
entity_ink amp z = omega arith
entity_ink lt z = omega arith
entity_ink gt z = omega arith
entity_ink quot z = omega arith
entity_ink apos z = omega arith

piece_ink : (p : Piece) (u v : List ℕ) (x : ℕ) → spell p ++ u ≡ x ∷ v → x ≢ 32 → resolved p ≢ 32
piece_ink (char c) u v x e n z =
    n (sym (head-eq_of_cons-eq (sym (ap (λ (i : List ℕ). i ++ u) (encode1 32 (omega arith))) ∙ ap (λ (i : ℕ). encode i ++ u) (sym z) ∙ e)))
piece_ink (entity w) u v x e n z = entity_ink w z

-- the first byte is no space: there is ink
pieces_ink : (ps : List Piece) (x : ℕ) (v : List ℕ) → spells ps ≡ x ∷ v → x ≢ 32 → Any not_space (resolved_all ps)
pieces_ink [] x v e n = absurd (nil≢cons e)
pieces_ink (p ∷ ps) x v e n = inl (ap not (ne_eqb (resolved p) 32 (piece_ink p (spells ps) v x e n)))

-- the first byte of what stands there
first_is : (s raw u : List ℕ) (at : ℕ) → at < length s → drop at s ≡ raw ++ u → 0 < length raw → (v : List ℕ) × (raw ≡ get_or s at 0 ∷ v)
first_is s [] u at h e z = absurd (omega arith)
first_is s (x ∷ v) u at h e z = (v, ap (λ (y : ℕ). y ∷ v) (head-eq_of_cons-eq (sym e ∙ drop-cons s at 0 h)))

inked_of : (s : List ℕ) (at i g t : ℕ) (w : Going s at i g t) → at < length s → 0 < length w.raw → get_or s at 0 ≢ 32 → Any not_space w.sofar.chars
inked_of s at i g t w h z ink = go (first_is s w.raw (drop i s) at h w.is z)
  where
    go : (v : List ℕ) × (w.raw ≡ get_or s at 0 ∷ v) → Any not_space w.sofar.chars
    go v =
        subst (Any not_space) (sym w.sofar.spells.chars)
        (pieces_ink w.sofar.spells.pieces (get_or s at 0) v.0 (sym w.sofar.spells.is ∙ v.1) ink)

pub text_ends : (k : ℕ) (s : List ℕ) (at i g t n : ℕ) (r : Found) → Going s at i g t → i < length s → get_or s i 0 ≡ 60 → n ≡ i - at - g → n ≢ 0 → n ≤ 65535 → n - t ≤ k
    → get_or s at 0 ≢ 32 → r ≡ found_of i (n + 2) → Leafed 3 k s at r
text_ends k s at i g t n r w h q e z l m ink o =
    let x = w.sofar in
    let cs = x.chars in
    let a : length (encode_all cs) ≡ n = omega (arith, x.gone, w.long, e) in
    let inked : Any not_space cs = inked_of s at i g t w (omega (arith, w.long, h)) (omega (arith, x.gone, a, z)) ink in
    let good : Chars is_txt k cs = record { some = omega (arith, a, z, encoded_most cs); most = omega (arith, a, x.tails, m); class = x.class; ink = ink_not cs inked } in
    leafed_of s at i w.raw w.is w.long 3 k (n + 2) r x.calm h q
    (weighs_of (txt k) 3 k w.raw cs (n + 2) refl (λ y. omega arith) refl x.calm x.spells
    (λ u cu. record { value = text cs; spelt = record { is = IsValue.writing good; wording = refl }; counted = omega (arith, a, l); long = omega (arith, a, text_bytes_lem cs) }))
    o

-- ---- a reference

ref_plain : (c : ℕ) → is_ref c ≡ true → Plain c
unfolding is_ref
ref_plain c h =
    let w = ref_own c h in
    (w.low, ref_low c h, w.less, w.ampersand, eqb-false c 62 (not-true (eqb c 62) (besides is_ref (λ (y : ℕ). not (eqb y 62)) 128 refl c (ref_low c h) h)))

-- a step of the test, where there was ink
step : (n : ℕ) (slash : Bool) (c : ℕ) (cs : List ℕ) → n < 35 → is_ref c ≡ true → (slash && eqb c 47) ≡ false
    → text_from true 35 n true slash (c ∷ cs) ≡ text_from true 35 (n + 1) true (eqb c 47) cs
unfolding text_from
step n slash c cs h e f = let q : suc n ≡ n + 1 = omega arith in rw (lt-ltb n 35 h, e, f, q)

and_no : (b : Bool) → (b && false) ≡ false
and_no true = refl
and_no false = refl

quiet_step : (n : ℕ) (slash : Bool) (c : ℕ) (cs : List ℕ) → n < 35 → quiet_ref c ≡ true → text_from true 35 n true slash (c ∷ cs) ≡ text_from true 35 (n + 1) true false cs
quiet_step n slash c cs h e =
    let w = quiet_is c e in
    let z : eqb c 47 ≡ false = ne_eqb c 47 w.1 in
    step n slash c cs h w.0 (ap (λ (b : Bool). slash && b) z ∙ and_no slash) ∙ ap (λ (b : Bool). text_from true 35 (n + 1) true b cs) z

-- over a run of quiet bytes
passed : (n : ℕ) (slash : Bool) (b cs : List ℕ) → 0 < length b → n + length b ≤ 35 → All quiet_ref b
    → text_from true 35 n true slash (b ++ cs) ≡ text_from true 35 (n + length b) true false cs
passed n slash [] cs z h a = absurd (omega arith)
passed n slash (c ∷ []) cs z h a = quiet_step n slash c cs (omega arith) a.0
passed n slash (c ∷ d ∷ b) cs z h a =
    let q : n + 1 + length (d ∷ b) ≡ n + length (c ∷ d ∷ b) = omega arith in
    quiet_step n slash c (d ∷ b ++ cs) (omega arith) a.0 ∙ passed (n + 1) false (d ∷ b) cs (omega arith) (omega arith) a.1 ∙ ap (λ (m : ℕ). text_from true 35 m true false cs) q

-- the first run
pub slashed_start : (s : List ℕ) (at i : ℕ) → Ran 2 s at i → i ≢ at → Slashed s at i
slashed_start s at i e z =
    let raw : List ℕ = run_of 2 s at i e in
    let long = run_long 2 s at i e in
    let a : All quiet_ref raw = all_map (reaches 2) quiet_ref level_ref raw (run_all 2 s at i e) in
    let some : 0 < length raw = omega (arith, long, e.from, z) in
    let q : 0 + length raw ≡ length raw = omega arith in
    record {
      raw = raw;
      is = run_is 2 s at i e;
      long = long;
      some = some;
      class = all_map quiet_ref is_ref (λ x y. (quiet_is x y).0) raw a;
      goes = λ cs h. passed 0 true raw cs some (omega (arith, h)) a ∙ ap (λ (n : ℕ). text_from true 35 n true false cs) q;
    }

-- a slash and one more
pub slashed_more : (s : List ℕ) (at i j : ℕ) → Slashed s at i → i < length s → get_or s i 0 ≡ 47 → Ran 2 s (i + 1) j → j ≢ i + 1 → Slashed s at j
slashed_more s at i j w h x e z =
    let b : List ℕ = run_of 2 s (i + 1) j e in
    let more = run_long 2 s (i + 1) j e in
    let a : All quiet_ref b = all_map (reaches 2) quiet_ref level_ref b (run_all 2 s (i + 1) j e) in
    let some : 0 < length b = omega (arith, more, e.from, z) in
    let n : length (w.raw ++ (47 ∷ b)) ≡ length w.raw + 1 + length b = omega (arith, length-append w.raw (47 ∷ b)) in
    let p : suc i ≡ i + 1 = omega arith in
    let d : drop i s ≡ 47 ∷ (b ++ drop j s) = drop-cons s i 0 h ∙ ap₂ (λ (u : ℕ) (v : List ℕ). u ∷ v) x (ap (λ (m : ℕ). drop m s) p ∙ run_is 2 s (i + 1) j e) in
    record {
      raw = w.raw ++ (47 ∷ b);
      is = w.is ∙ ap (λ (l : List ℕ). w.raw ++ l) d ∙ sym (append_assoc w.raw (47 ∷ b) (drop j s));
      long = omega (arith, n, w.long, more);
      some = omega (arith, n);
      class = all_append is_ref w.raw (47 ∷ b) w.class (sym slash_ref, all_map quiet_ref is_ref (λ u v. (quiet_is u v).0) b a);
      goes = λ cs m. ap (text_from true 35 0 true true) (append_assoc w.raw (47 ∷ b) cs) ∙ w.goes (47 ∷ (b ++ cs)) (omega (arith, n, m))
          ∙ step (length w.raw) false 47 (b ++ cs) (omega (arith, n, m, some)) (sym slash_ref) refl
          ∙ passed (length w.raw + 1) true b cs some (omega (arith, n, m)) a
          ∙ ap (λ (l : ℕ). text_from true 35 l true false cs) (sym n);
    }

-- ink in the first byte is ink from the start
inked_from : (x : ℕ) (v : List ℕ) → x ≢ 32 → text_from true 35 0 false true (x ∷ v) ≡ text_from true 35 0 true true (x ∷ v)
unfolding text_from
inked_from x v n = let q : not_space x ≡ true = ap not (ne_eqb x 32 n) in rw q

ref_is : (raw : List ℕ) (x : ℕ) (v : List ℕ) → raw ≡ x ∷ v → x ≢ 32 → text_from true 35 0 true true raw ≡ true → Ref raw
ref_is raw x v e n h =
    ref_to raw (ap (text_from true 35 0 false true) e ∙ inked_from x v n ∙ ap (text_from true 35 0 true true) (sym e) ∙ h)

ended : (raw : List ℕ) → length raw ≤ 35 → ((cs : List ℕ) → length raw ≤ 35 → text_from true 35 0 true true (raw ++ cs) ≡ text_from true 35 (length raw) true false cs)
    → text_from true 35 0 true true raw ≡ true
unfolding text_from
ended raw l g = ap (text_from true 35 0 true true) (sym (append-nil raw)) ∙ g [] l

pub ref_ends : (k : ℕ) (s : List ℕ) (at i n : ℕ) (r : Found) → Slashed s at i → i < length s → get_or s i 0 ≡ 60 → n ≡ i - at → n ≤ 35
    → get_or s at 0 ≢ 32 → r ≡ found_of i (n + 2) → Leafed 2 k s at r
ref_ends k s at i n r w h q d l ink o =
    let raw : List ℕ = w.raw in
    let long = w.long in
    let p : Each Plain raw = each_all is_ref Plain ref_plain raw w.class in
    let v = first_is s raw (drop i s) at (omega (arith, long, h)) w.is w.some in
    let good : Ref raw = ref_is raw (get_or s at 0) v.0 v.1 ink (ended raw (omega (arith, long, d, l)) w.goes) in
    let b = ap length (plain_encoded raw p) in
    leafed_of s at i raw w.is long 2 k (n + 2) r (plain_calm raw p) h q
    (weighs_of ref 2 k raw raw (n + 2) refl (λ y. omega arith) tt (plain_calm raw p) (plain_own raw p)
    (λ u cu. record { value = text raw; spelt = record { is = IsValue.reference good; wording = refl }; counted = omega (arith, b, long, d, l); long = omega (arith, b, long, d, text_bytes_lem raw) }))
    o
