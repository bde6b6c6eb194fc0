-- What one turn of the lane meets, from what the code's calls told. Assumes nothing.
use Rattle.std.specs.Prelude.{Some}
use mathlib.Core.Path.{◌≡◌, refl, sym, ◌∙◌, ap, ap₂, subst}
use mathlib.Core.Logic.{◌≢◌, inl, inr, ⊎_elim}
use mathlib.Core.Bool.{Bool, true, false, cond, ◌||◌, false≢true, true≢false}
use mathlib.Core.List.{List, [], ◌∷◌, ◌++◌, append_assoc, append-nil, head-eq_of_cons-eq, tail-eq_of_cons-eq, nil≢cons}
use mathlib.Core.Option.{Option, none, some}
use Prim.Native.Nat.{ℕ, zero, suc, ◌+◌, ◌/◌, ◌%◌, ◌^◌, ◌≤◌, ◌<◌}
use native.Mathlib.Omega.{arith}
use native.Mathlib.Decide.{ℕ_discrete}
use lib.Dec.{eqb, leb}
use lib.ListN.{length, get_or, take, drop, take-append-drop, length-drop}
use lib.Seq.{slice, drop-cons, drop-drop, get_or-drop, take_all, take-take}
use borrow.Author.Tests.{eqb-true, leb-true}
use Rattle.text.specs.Bytes.{is_blank, is_capital}
use Rattle.text.specs.Lists.{Each, All, span}
use Rattle.text.proofs.Classes.{or_is, capital, is_in}
use Rattle.text.proofs.Spans.{span_le, span_all}
use Rattle.text_characters.specs.Pieces.{greater, bracket}
use Rattle.text_characters.proofs.Unmarked.{unmarked_own}
use Rattle.list.specs.Listing.{Leaf, ref, iban, ccy, bool, num, amt, date, dtm, txt, enum}
use Rattle.xml.specs.House.{Quote, single_quote, double, mark}
use Rattle.value.specs.types.Code.{Ccy}
use Rattle.value.specs.Kind.{code, Given}
use Rattle.value.specs.Value.{place}
use Rattle.value.specs.parts.Form.{WordAt, Form}
use Rattle.value.proofs.types.Numbered.{code_low, code_high}
use Rattle.value.proofs.types.Shaped.{shaped_spelt}
use Rattle.value_leaf.specs.declared.found.Found.{Found}
use Rattle.value_leaf.specs.Took.{Uncut}
use Rattle.value_leaf.specs.Leafed.{is_inside, Weighs, Leafed}
use Rattle.file_lane.proofs.Few.{weighs_few}
use Rattle.value_leaf.proofs.Taking.{Weighed, weighed_coin, weighed_plain, told_size}
use Rattle.file_nodes.specs.Run.{Sort, over, shut, group, leaf, Node}
use Rattle.file_nodes.specs.Fitting.{coined, given}
use Rattle.text.specs.Little.{little, Loaded}
use Rattle.file_nodes.specs.mirror.Kept.{Inked, Masked, leaf_number, tag_number, number, after, most_of, most, item, Word, Words, Plain, Kept}
use Rattle.file_lane.specs.mirror.Turn.{Matches, Ends, Closed, Listed, Coined, Texted, Texts, Told, Tells, Stood, Turned, Turns, Goes}
use Rattle.file_nodes.proofs.Texting.{capitals_unmarked}
use Rattle.file_lane.proofs.Chunks.{begins_with, front_digits}
use Rattle.file_lane.proofs.Masking.{masked_at, stands}

-- ---- the rest of a tag

pub closed_is : (t s : List ℕ) (k info end x y : ℕ) → Loaded 8 s end x → Loaded 8 s (end + 8) y → Matches t (k + 5) x y → Closed t k info s end (end + info / 281474976710656 % 256)
closed_is t s k info end x y lx ly m = record { is = λ w e. stands t (k + 5) w s end x y e.masked lx ly m ∙ ap (λ (n : ℕ). w ++ drop (end + n) s) (sym e.long) }

-- ---- the text of a leaf

part : (s : List ℕ) (at e : ℕ) → at ≤ e → drop at s ≡ slice at e s ++ drop e s
part s zero e h = sym (take-append-drop e s)
part s (suc at) zero h = absurd (omega arith)
part [] (suc at) (suc e) h = refl
part (x ∷ s) (suc at) (suc e) h = part s at e (omega arith)

module _ (s : List ℕ) (at kind k : ℕ) (r : Found) (l : Leafed kind k s at r) where
  pub leaf_near : r.end ≤ at + length s
  leaf_near = omega (arith, l.ends, span_le is_inside (drop at s), length-drop at s)

  module _ (m : ℕ) (h : r.size ≡ Some m) where
    is_size : (l.bytes ≡ m) × (0 < l.bytes)
    is_size = told_size kind k s at m r l h

    pub leaf_few : m ≤ 65537
    leaf_few = omega (arith, is_size, weighs_few kind k (slice at r.end s) l.bytes l.weighs)

    weighed : (f : Leaf) (cur : List ℕ) → code f ≡ kind → kind ≢ 6 → Given f k 0 → (kind ≡ 9 → Ccy cur) → Weighed f cur (slice at r.end s) m
    weighed f cur e o g c =
        let w : Weighs kind k (slice at r.end s) m = subst (Weighs kind k (slice at r.end s)) is_size.0 l.weighs in
        let some : 0 < m = omega (arith, is_size) in
        elim (ℕ_discrete kind 9) [
          | yes z ↦ weighed_coin f kind k (slice at r.end s) m e o g w some cur (c z)
          | no z ↦ weighed_plain f kind k (slice at r.end s) m e o g w some z cur
        ]

pub texts_is : (t s : List ℕ) (k info kind at i n : ℕ) (r : Found) → Leafed kind (info / 4294967296 % 256) s at r → (m : ℕ) → r.size ≡ Some m → Closed t k info s r.end i → n ≡ 1 + m
    → Texts t k info kind s at i n
texts_is t s k info kind at i n r l m h z e f cur w c o g y ends =
    let x = weighed s at kind (info / 4294967296 % 256) r l m h f cur c o g y in
    record {
      raw = slice at r.end s;
      bytes = x.bytes;
      is = part s at r.end (omega (arith, l.ends)) ∙ ap (λ (d : List ℕ). slice at r.end s ++ d) (z.is w ends);
      took = x.took;
      size = e ∙ omega (arith, x.long);
    }

-- ---- words

pub listed_is : (t s : List ℕ) (k at x a b : ℕ) → a ≡ get_or t (k + 9) 0 → b ≡ get_or t (k + 10) 0 → Loaded 4 s at x
    → (((eqb x (a % 4294967296) || eqb x (a / 4294967296)) || eqb x (b % 4294967296)) || eqb x (b / 4294967296)) ≡ true → Listed t k s at
listed_is t s k at x a b ea eb l e =
    let p = eqb x (a % 4294967296) in
    let q = eqb x (a / 4294967296) in
    let r = eqb x (b % 4294967296) in
    let v = eqb x (b / 4294967296) in
    record {
      number = x;
      loaded = l;
      is = ⊎_elim
          (λ h. inl (⊎_elim
          (λ g. inl (⊎_elim
          (λ z. inl (eqb-true x (a % 4294967296) z ∙ ap (λ (i : ℕ). i % 4294967296) ea))
          (λ z. inr (eqb-true x (a / 4294967296) z ∙ ap (λ (i : ℕ). i / 4294967296) ea))
          (or_is p q g)))
          (λ z. inr (eqb-true x (b % 4294967296) z ∙ ap (λ (i : ℕ). i % 4294967296) eb))
          (or_is (p || q) r h)))
          (λ z. inr (eqb-true x (b / 4294967296) z ∙ ap (λ (i : ℕ). i / 4294967296) eb))
          (or_is ((p || q) || r) v e);
    }

capital_inked : (x : ℕ) → is_capital x ≡ true → Inked x
capital_inked x h = let r = is_in capital x h in (omega (arith, r.0), omega (arith, r.1))

capitals_inked : (w : List ℕ) → All is_capital w → Each Inked w
capitals_inked [] h = tt
capitals_inked (x ∷ w) h = (capital_inked x h.0, capitals_inked w h.1)

-- one of a class stands in the middle
middle : (p : ℕ → Bool) (s a : List ℕ) (x : ℕ) (u : List ℕ) → All p s → s ≡ a ++ (x ∷ u) → p x ≡ true
middle p [] [] x u h e = absurd (nil≢cons e)
middle p [] (y ∷ a) x u h e = absurd (nil≢cons e)
middle p (y ∷ s) [] x u h e = subst (λ (z : ℕ). p z ≡ true) (head-eq_of_cons-eq e) h.0
middle p (y ∷ s) (z ∷ a) x u h e = middle p s a x u h.1 (tail-eq_of_cons-eq e)

no_bracket : is_capital bracket ≡ true → ⊥
unfolding is_capital
no_bracket e = false≢true e

capitals_uncut : (w : List ℕ) → All is_capital w → Uncut w
capitals_uncut w h = record { nowhere = λ a b e. no_bracket (middle is_capital w a bracket (bracket ∷ greater ∷ b) h e) }

-- a word at a place
word_stands : (ws : List (List ℕ)) (s : List ℕ) (at n : ℕ) → Loaded 4 s at n → (o : Word ws n) → drop at s ≡ get_or ws o.place [] ++ drop (at + 4) s
word_stands ws s at n l o =
    let w : List ℕ = get_or ws o.place [] in
    let i = capitals_inked w o.capitals in
    let e : little (take 4 (drop at s)) % 256 ^ length w ≡ little w =
    ap (λ (z : ℕ). z % 256 ^ length w) (sym l.is ∙ o.is) ∙ ap (λ (z : List ℕ). little z % 256 ^ length w) (sym (append-nil w)) ∙ front_digits w [] i in
    let g : take (length w) (take 4 (drop at s)) ≡ w = begins_with w (take 4 (drop at s)) i l.bytes e in
    let f : take 4 (take 4 (drop at s)) ≡ w = ap (λ (j : ℕ). take j (take 4 (drop at s))) (sym o.four) ∙ g in
    let h : take 4 (drop at s) ≡ w = sym (take-take 4 4 (drop at s) (omega arith)) ∙ f in
    sym (take-append-drop 4 (drop at s)) ∙ ap (λ (z : List ℕ). z ++ drop 4 (drop at s)) h ∙ ap (λ (z : List ℕ). w ++ z) (drop-drop 4 at s)

module _ (ws : List (List ℕ)) (cur w s : List ℕ) (at i n : ℕ) where
  word_told : (x : ℕ) → Loaded 4 s at x → Word ws x → drop (at + 4) s ≡ w ++ drop i s → n ≡ 2 → Texted (enum ws) cur w s at i n
  word_told x l o e z =
      let u : List ℕ = get_or ws o.place [] in
      let a : WordAt ws (suc o.place) u = record { before = o.place; from = refl; within = o.within; is = refl } in
      record {
        raw = u;
        bytes = suc o.place ∷ [];
        is = word_stands ws s at x l o ∙ ap (λ (d : List ℕ). u ++ d) e;
        took = record {
          chars = u;
          value = place (suc o.place);
          spells = unmarked_own u (capitals_unmarked u o.capitals);
          uncut = capitals_uncut u o.capitals;
          spelt = shaped_spelt (enum ws) cur u (place (suc o.place)) (record { left = u; lost = refl; form = Form.listed a });
          is = refl;
        };
        size = z;
      }

-- ---- a currency

pub coined_is : (q : ℕ) (s : List ℕ) (at : ℕ) → at + 5 ≤ length s → get_or s (at + 3) 0 ≡ q → get_or s (at + 4) 0 ≡ 62
    → is_capital (get_or s at 0) ≡ true → is_capital (get_or s (at + 1) 0) ≡ true → is_capital (get_or s (at + 2) 0) ≡ true → Coined q s at
coined_is q s at h eq eg a b c =
    let step : (i : ℕ) → at + i < length s → drop (at + i) s ≡ get_or s (at + i) 0 ∷ drop (at + suc i) s =
    λ i g. drop-cons s (at + i) 0 g ∙ ap (λ (n : ℕ). get_or s (at + i) 0 ∷ drop n s) (next i) in
    let y : suc at ≡ at + 1 = omega arith in
    let z : drop at s ≡ get_or s at 0 ∷ drop (at + 1) s = drop-cons s at 0 (omega arith) ∙ ap (λ (n : ℕ). get_or s at 0 ∷ drop n s) y in
    record {
      currency = get_or s at 0 ∷ get_or s (at + 1) 0 ∷ get_or s (at + 2) 0 ∷ [];
      ccy = record { three = refl; capitals = (a, (b, (c, tt))) };
      is =
          z ∙ ap (λ (d : List ℕ). get_or s at 0 ∷ d) (step 1 (omega arith) ∙ ap (λ (d : List ℕ). get_or s (at + 1) 0 ∷ d) (step 2 (omega arith)
          ∙ ap (λ (d : List ℕ). get_or s (at + 2) 0 ∷ d) (step 3 (omega arith) ∙ ap (λ (d : List ℕ). get_or s (at + 3) 0 ∷ d) (step 4 (omega arith))
          ∙ ap₂ (λ (x y : ℕ). x ∷ y ∷ drop (at + 5) s) eq eg)));
    }
  where
    next : (i : ℕ) → suc (at + i) ≡ at + suc i
    next i = omega arith

-- ---- which leaf a number is

-- of an amount, by its quote
abbrev pub coin_number : Quote → ℕ
coin_number double = 9
coin_number single_quote = 12

pub coin_high : (q : Quote) → 9 ≤ coin_number q
coin_high double = omega arith
coin_high single_quote = omega arith

coin_other : (q : Quote) → coin_number q ≢ 9 → coin_number q ≢ 12 → ⊥
coin_other double a b = a refl
coin_other single_quote a b = b refl

coin_one : (p q : Quote) → coin_number p ≡ coin_number q → p ≡ q
coin_one double double e = refl
coin_one double single_quote e = absurd (omega arith)
coin_one single_quote double e = absurd (omega arith)
coin_one single_quote single_quote e = refl

pub coin_apart : (n : ℕ) (q : Quote) → n ≡ coin_number q → n ≢ 9 → n ≢ 12 → ⊥
coin_apart n q e a b = coin_other q (λ z. a (e ∙ z)) (λ z. b (e ∙ z))

pub data Numbered (n : ℕ) (f : Leaf) (h : Option Quote) : Type 0 where
  word : (ws : List (List ℕ)) → n ≡ 6 → f ≡ enum ws → h ≡ none → Numbered n f h
  coin : (q : Quote) → n ≡ coin_number q → f ≡ amt → h ≡ some q → Numbered n f h
  plainly : n ≢ 6 → n ≢ 9 → n ≢ 12 → code f ≡ n → h ≡ none → Numbered n f h

abbrev other : (f : Leaf) → code f ≢ 6 → code f ≢ 9 → code f ≢ 12 → Numbered (code f) f none
other f a b c = plainly a b c refl refl

pub numbered : (f : Leaf) (h : Option Quote) → coined f ≡ given h → Numbered (leaf_number f h) f h
numbered amt none e = absurd (true≢false e)
numbered amt (some double) e = coin double refl refl refl
numbered amt (some single_quote) e = coin single_quote refl refl refl
numbered ref none e = other ref (λ z. omega arith) (λ z. omega arith) (λ z. omega arith)
numbered iban none e = other iban (λ z. omega arith) (λ z. omega arith) (λ z. omega arith)
numbered ccy none e = other ccy (λ z. omega arith) (λ z. omega arith) (λ z. omega arith)
numbered bool none e = other bool (λ z. omega arith) (λ z. omega arith) (λ z. omega arith)
numbered num none e = other num (λ z. omega arith) (λ z. omega arith) (λ z. omega arith)
numbered date none e = other date (λ z. omega arith) (λ z. omega arith) (λ z. omega arith)
numbered dtm none e = other dtm (λ z. omega arith) (λ z. omega arith) (λ z. omega arith)
numbered (txt k) none e = other (txt k) (λ z. omega arith) (λ z. omega arith) (λ z. omega arith)
numbered (enum ws) none e = word ws refl refl refl
numbered ref (some q) e = absurd (true≢false (sym e))
numbered iban (some q) e = absurd (true≢false (sym e))
numbered ccy (some q) e = absurd (true≢false (sym e))
numbered bool (some q) e = absurd (true≢false (sym e))
numbered num (some q) e = absurd (true≢false (sym e))
numbered date (some q) e = absurd (true≢false (sym e))
numbered dtm (some q) e = absurd (true≢false (sym e))
numbered (txt k) (some q) e = absurd (true≢false (sym e))
numbered (enum ws) (some q) e = absurd (true≢false (sym e))

given_of : (f : Leaf) (k : ℕ) → code f ≢ 6 → k ≡ most_of f → Given f k 0
given_of ref k o e = tt
given_of iban k o e = tt
given_of ccy k o e = tt
given_of bool k o e = tt
given_of num k o e = tt
given_of amt k o e = tt
given_of date k o e = tt
given_of dtm k o e = tt
given_of (txt m) k o e = e
given_of (enum ws) k o e = absurd (o refl)

-- ---- a leaf of a node

module _ (t s : List ℕ) (k info kind at : ℕ) (ei : info ≡ get_or t (k + 4) 0) (ek : kind ≡ info / 256 % 256) where
  module _ (x : Node) (f : Leaf) (h : Option Quote) (is : x.sort ≡ leaf f h) (kept : Kept (drop k t) x) where
    info_is : get_or (drop k t) 4 0 ≡ info
    info_is = get_or-drop k t 4 0 ∙ sym ei

    kind_is : kind ≡ leaf_number f h
    kind_is = ek ∙ ap (λ (i : ℕ). i / 256 % 256) (sym info_is) ∙ kept.sort ∙ ap (λ (o : Sort). number o x.tag) is

    which : Numbered kind f h
    which = subst (λ (n : ℕ). Numbered n f h) (sym kind_is) (numbered f h (subst (λ (o : Sort). Plain o x.tag) is kept.plain).1)

    most_is : info / 4294967296 % 256 ≡ most_of f
    most_is = ap (λ (i : ℕ). i / 4294967296 % 256) (sym info_is) ∙ kept.most ∙ ap most is

    ends_are : Ends t k info x.close
    ends_are = record {
      masked = masked_at t k 5 x.close (subst (λ (o : Sort). Masked (drop k t) 5 (after o x)) is kept.end);
      long = ap (λ (i : ℕ). i / 281474976710656 % 256) (sym info_is) ∙ kept.end_long ∙ ap (λ (o : Sort). length (after o x)) is;
    }

    words_are : Words (leaf f h) (drop k t)
    words_are = subst (λ (o : Sort). Words o (drop k t)) is kept.words

  -- one of the four words
  word_of : (ws : List (List ℕ)) → Words (leaf (enum ws) none) (drop k t) → (l : Listed t k s at) → Word ws l.number
  word_of ws w l = ⊎_elim
      (λ a. ⊎_elim
      (λ b. ⊎_elim
      (λ e. subst (Word ws) (sym (e ∙ ap (λ (i : ℕ). i % 4294967296) (nine))) w.0)
      (λ e. subst (Word ws) (sym (e ∙ ap (λ (i : ℕ). i / 4294967296) (nine))) w.1)
      b)
      (λ e. subst (Word ws) (sym (e ∙ ap (λ (i : ℕ). i % 4294967296) (ten))) w.2)
      a)
      (λ e. subst (Word ws) (sym (e ∙ ap (λ (i : ℕ). i / 4294967296) (ten))) w.3)
      l.is
    where
      nine : get_or t (k + 9) 0 ≡ get_or (drop k t) 9 0
      nine = sym (get_or-drop k t 9 0)

      ten : get_or t (k + 10) 0 ≡ get_or (drop k t) 10 0
      ten = sym (get_or-drop k t 10 0)

  module _ (w : List ℕ) (i n : ℕ) where
    -- of a leaf f, as its node has it
    like : (f g : Leaf) (h j : Option Quote) → f ≡ g → h ≡ j → Told g j w s at i n → Told f h w s at i n
    like f g h j e z o = subst (λ (y : Leaf). Told y h w s at i n) (sym e) (subst (λ (y : Option Quote). Told g y w s at i n) (sym z) o)

    bare : (f : Leaf) → Texted f [] w s at i n → Told f none w s at i n
    bare f o = record { rest = []; currency = []; head = (refl, refl); from = at; is = refl; text = o }

    beside : (q : Quote) (c : Coined (mark q) s at) → Texted amt c.currency w s (at + 5) i n → Told amt (some q) w s at i n
    beside q c o = record {
      rest = c.currency ++ (mark q ∷ greater ∷ []);
      currency = c.currency;
      head = (refl, c.ccy);
      from = at + 5;
      is = c.is ∙ sym (append_assoc c.currency (mark q ∷ greater ∷ []) (drop (at + 5) s));
      text = o;
    }

  pub tells_word : (i n : ℕ) → kind ≡ 6 → Listed t k s at → Closed t k info s (at + 4) i → n ≡ 2 → Tells t k s at i n
  tells_word i n e l c z x f h is kept = go (which x f h is kept)
    where
      go : Numbered kind f h → Told f h x.close s at i n
      go (word ws a b d) =
          let w : Words (leaf (enum ws) none) (drop k t) = subst (λ (y : Option Quote). Words (leaf (enum ws) y) (drop k t)) d (subst (λ (y : Leaf). Words (leaf y h) (drop k t)) b (words_are x f h is kept)) in
          like x.close i n f (enum ws) h none b d
          (bare x.close i n (enum ws) (word_told ws [] x.close s at i n l.number l.loaded (word_of ws w l) (c.is x.close (ends_are x f h is kept)) z))
      go (coin q a b d) = absurd (omega (arith, coin_high q, a, e))
      go (plainly a b c d y) = absurd (a e)

  pub tells_coin : (q : Quote) (i n : ℕ) → kind ≡ coin_number q → Coined (mark q) s at → Texts t k info 9 s (at + 5) i n → Tells t k s at i n
  tells_coin q i n e c o x f h is kept = go (which x f h is kept)
    where
      go : Numbered kind f h → Told f h x.close s at i n
      go (word ws a b d) = absurd (omega (arith, coin_high q, a, e))
      go (coin p a b d) =
          like x.close i n f amt h (some q) b (d ∙ ap some (coin_one p q (sym a ∙ e)))
          (beside x.close i n q c (o amt c.currency x.close refl (λ z. omega arith) tt (λ z. c.ccy) (ends_are x f h is kept)))
      go (plainly a b d y z) = absurd (coin_apart kind q e b d)

  pub tells_plain : (i n : ℕ) → kind ≢ 6 → kind ≢ 9 → kind ≢ 12 → Texts t k info kind s at i n → Tells t k s at i n
  tells_plain i n a b c o x f h is kept = go (which x f h is kept)
    where
      go : Numbered kind f h → Told f h x.close s at i n
      go (word ws d y z) = absurd (a d)
      go (coin q d y z) = absurd (coin_apart kind q d b c)
      go (plainly d y z e j) =
          like x.close i n f f h none refl j
          (bare x.close i n f (o f [] x.close e d (given_of f (info / 4294967296 % 256) (λ v. d (sym e ∙ v)) (most_is x f h is kept)) (λ v. absurd (y v)) (ends_are x f h is kept)))

-- ---- any tag

tag_short : (w : List ℕ) → tag_number w ≡ 0 → length w ≤ 16
tag_short w e = go (leb (length w) 16) refl
  where
    go : (b : Bool) → leb (length w) 16 ≡ b → length w ≤ 16
    go true i = leb-true (length w) 16 i
    go false i = absurd (omega (arith, sym (ap (λ (b : Bool). cond b 0 1) i) ∙ e))

pub tag_apart : (w : List ℕ) (n : ℕ) → n ≡ tag_number w → n ≢ 0 → n ≢ 1 → ⊥
tag_apart w n e a b = go (leb (length w) 16) refl
  where
    go : (c : Bool) → leb (length w) 16 ≡ c → ⊥
    go true i = a (e ∙ ap (λ (c : Bool). cond c 0 1) i)
    go false i = b (e ∙ ap (λ (c : Bool). cond c 0 1) i)

pub leaf_low : (f : Leaf) (h : Option Quote) → 2 ≤ leaf_number f h
leaf_low f none = code_low f
leaf_low f (some double) = code_low f
leaf_low f (some single_quote) = omega arith

pub leaf_high : (f : Leaf) (h : Option Quote) → leaf_number f h ≤ 12
leaf_high f none = omega (arith, code_high f)
leaf_high f (some double) = omega (arith, code_high f)
leaf_high f (some single_quote) = omega arith

module _ (t s : List ℕ) (k info kind at from : ℕ) (ei : info ≡ get_or t (k + 4) 0) (ek : kind ≡ info / 256 % 256) (ef : from ≡ at + info % 256) where
  module _ (x : Node) (kept : Kept (drop k t) x) (stood : Stood x s at) where
    its_info : get_or (drop k t) 4 0 ≡ info
    its_info = get_or-drop k t 4 0 ∙ sym ei

    its_kind : kind ≡ number x.sort x.tag
    its_kind = ek ∙ ap (λ (i : ℕ). i / 256 % 256) (sym its_info) ∙ kept.sort

    its_item : info / 72057594037927936 % 256 ≡ item x.sort
    its_item = ap (λ (i : ℕ). i / 72057594037927936 % 256) (sym its_info) ∙ kept.item

    -- the first sixteen bytes
    its_front : drop at s ≡ take 16 x.tag ++ drop from s
    its_front = stood ∙ ap (λ (i : ℕ). take 16 x.tag ++ drop (at + i) s) (sym (ap (λ (i : ℕ). i % 256) (sym its_info) ∙ kept.long)) ∙ ap (λ (i : ℕ). take 16 x.tag ++ drop i s) (sym ef)

    its_ends : Ends t k info (after x.sort x)
    its_ends = record { masked = masked_at t k 5 (after x.sort x) kept.end; long = ap (λ (i : ℕ). i / 281474976710656 % 256) (sym its_info) ∙ kept.end_long }

    -- a tag of at most sixteen bytes
    its_tag : length x.tag ≤ 16 → drop at s ≡ x.tag ++ drop from s
    its_tag h = its_front ∙ ap (λ (w : List ℕ). w ++ drop from s) (take_all 16 x.tag h)

    -- a longer one
    its_long : (i : ℕ) → drop from s ≡ drop 16 x.tag ++ drop i s → drop at s ≡ x.tag ++ drop i s
    its_long i e =
        its_front ∙ ap (λ (w : List ℕ). take 16 x.tag ++ w) e ∙ sym (append_assoc (take 16 x.tag) (drop 16 x.tag) (drop i s))
        ∙ ap (λ (w : List ℕ). w ++ drop i s) (take-append-drop 16 x.tag)

  pub turns_short : (n : ℕ) → kind ≡ 0 → n ≡ info / 72057594037927936 % 256 → Turns t k s at from n
  turns_short n e z x kept stood = go x.sort refl
    where
      go : (o : Sort) → x.sort ≡ o → Turned o x s at from n
      go over i = absurd (omega (arith, e, its_kind x kept stood ∙ ap (λ (y : Sort). number y x.tag) i))
      go shut i = (its_tag x kept stood (tag_short x.tag (sym (ap (λ (y : Sort). number y x.tag) i) ∙ sym (its_kind x kept stood) ∙ e)), z ∙ its_item x kept stood ∙ ap item i)
      go group i = (its_tag x kept stood (tag_short x.tag (sym (ap (λ (y : Sort). number y x.tag) i) ∙ sym (its_kind x kept stood) ∙ e)), z ∙ its_item x kept stood ∙ ap item i)
      go (leaf f h) i = absurd (omega (arith, e, leaf_low f h, its_kind x kept stood ∙ ap (λ (y : Sort). number y x.tag) i))

  pub turns_long : (i n : ℕ) → kind ≡ 1 → Closed t k info s from i → n ≡ info / 72057594037927936 % 256 → Turns t k s at i n
  turns_long i n e c z x kept stood = go x.sort refl
    where
      rest : (o : Sort) → x.sort ≡ o → drop from s ≡ after o x ++ drop i s
      rest o j = c.is (after x.sort x) (its_ends x kept stood) ∙ ap (λ (y : Sort). after y x ++ drop i s) j

      go : (o : Sort) → x.sort ≡ o → Turned o x s at i n
      go over j = absurd (omega (arith, e, its_kind x kept stood ∙ ap (λ (y : Sort). number y x.tag) j))
      go shut j = (its_long x kept stood i (rest shut j), z ∙ its_item x kept stood ∙ ap item j)
      go group j = (its_long x kept stood i (rest group j), z ∙ its_item x kept stood ∙ ap item j)
      go (leaf f h) j = absurd (omega (arith, e, leaf_low f h, its_kind x kept stood ∙ ap (λ (y : Sort). number y x.tag) j))

  pub turns_over : (m : ℕ) → kind ≡ 13 → m ≡ from + span is_blank (drop from s) → (m < length s → ⊥) → Turns t k s at from 1
  turns_over m e b h x kept stood = go x.sort refl
    where
      blank : All is_blank (drop from s)
      blank =
          subst (All is_blank) (take_all (span is_blank (drop from s)) (drop from s) (omega (arith, b, h, length-drop from s))) (span_all is_blank (drop from s))

      go : (o : Sort) → x.sort ≡ o → Turned o x s at from 1
      go over j = (its_tag x kept stood (subst (λ (y : Sort). Plain y x.tag) j kept.plain), blank, refl)
      go shut j = absurd (tag_apart x.tag kind (its_kind x kept stood ∙ ap (λ (y : Sort). number y x.tag) j) (λ z. omega arith) (λ z. omega arith))
      go group j = absurd (tag_apart x.tag kind (its_kind x kept stood ∙ ap (λ (y : Sort). number y x.tag) j) (λ z. omega arith) (λ z. omega arith))
      go (leaf f h) j = absurd (omega (arith, e, leaf_high f h, its_kind x kept stood ∙ ap (λ (y : Sort). number y x.tag) j))

  pub turns_told : (i n : ℕ) → kind ≢ 0 → kind ≢ 1 → kind ≢ 13 → Tells t k s from i n → Turns t k s at i n
  turns_told i n a b c o x kept stood = go x.sort refl
    where
      go : (y : Sort) → x.sort ≡ y → Turned y x s at i n
      go over j = absurd (c (its_kind x kept stood ∙ ap (λ (y : Sort). number y x.tag) j))
      go shut j = absurd (tag_apart x.tag kind (its_kind x kept stood ∙ ap (λ (y : Sort). number y x.tag) j) a b)
      go group j = absurd (tag_apart x.tag kind (its_kind x kept stood ∙ ap (λ (y : Sort). number y x.tag) j) a b)
      go (leaf f h) j = (from, its_tag x kept stood (subst (λ (y : Sort). Plain y x.tag) j kept.plain).0, o x f h j kept)

-- ---- up to what is compared last

module _ (t s : List ℕ) (k info kind at : ℕ) (ei : info ≡ get_or t (k + 4) 0) (ek : kind ≡ info / 256 % 256) where
  abbrev from : ℕ
  from = at + info % 256

  pub goes_long : kind ≡ 1 → Goes t k info s at from (info / 72057594037927936 % 256)
  goes_long e i n c z = turns_long t s k info kind at from ei ek refl i n e c z

  pub goes_word : kind ≡ 6 → Listed t k s from → Goes t k info s at (from + 4) 2
  goes_word e l i n c z = turns_told t s k info kind at from ei ek refl i n (λ y. omega arith) (λ y. omega arith) (λ y. omega arith) (tells_word t s k info kind from ei ek i n e l c z)

  -- a leaf's text, after its currency where it has one
  pub goes_text : (sort jump : ℕ) (r : Found) → kind ≢ 0 → kind ≢ 1 → kind ≢ 6 → kind ≢ 13 → (kind ≡ 9 → Coined 34 s from) × (kind ≡ 12 → Coined 39 s from)
      → (kind ≡ 12 → sort ≡ 9) × (kind ≢ 12 → sort ≡ kind) → (kind ≡ 9 → jump ≡ 5) × (kind ≡ 12 → jump ≡ 5) × (kind ≢ 9 → kind ≢ 12 → jump ≡ 0)
      → Leafed sort (info / 4294967296 % 256) s (from + jump) r → (m : ℕ) → r.size ≡ Some m → Goes t k info s at r.end (1 + m)
  goes_text sort jump r a b c d money es ej l m h i n z e = turns_told t s k info kind at from ei ek refl i n a b d tells
    where
      texts : (o j : ℕ) → sort ≡ o → jump ≡ j → Texts t k info o s (from + j) i n
      texts o j p q = texts_is t s k info o (from + j) i n r (subst (λ (y : ℕ). Leafed o (info / 4294967296 % 256) s (from + y) r) q (subst (λ (y : ℕ). Leafed y (info / 4294967296 % 256) s (from + jump) r) p l)) m h z e

      none_more : (o : ℕ) → from + 0 ≡ o → Texts t k info kind s (from + 0) i n → Texts t k info kind s o i n
      none_more o p y = subst (λ (m : ℕ). Texts t k info kind s m i n) p y

      tells : Tells t k s from i n
      tells = elim (ℕ_discrete kind 9) [
        | yes p ↦ tells_coin t s k info kind from ei ek double i n p (money.0 p) (texts 9 5 (es.1 (λ y. omega arith) ∙ p) (ej.0 p))
        | no p ↦
            elim (ℕ_discrete kind 12) [
              | yes q ↦ tells_coin t s k info kind from ei ek single_quote i n q (money.1 q) (texts 9 5 (es.0 q) (ej.1 q))
              | no q ↦ tells_plain t s k info kind from ei ek i n c p q (none_more from (omega arith) (texts kind 0 (es.1 q) (ej.2 p q)))
            ]
      ]
