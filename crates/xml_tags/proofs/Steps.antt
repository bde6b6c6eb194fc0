-- The mirrors at a place of any text s, from what the code's calls told. Assumes nothing.
use mathlib.Core.Path.{◌≡◌, refl, sym, ◌∙◌, ap, subst}
use mathlib.Core.Bool.{Bool, true, false}
use mathlib.Core.List.{List, ◌∷◌}
use Prim.Native.Nat.{ℕ, ◌+◌, ◌-◌, ◌≤◌, ◌<◌}
use native.Mathlib.Numerals.{add-one}
use native.Mathlib.Omega.{arith}
use lib.Dec.{eqb}
use lib.ListN.{length, get_or, drop, length-drop, drop_of_length-le}
use lib.Seq.{drop-drop, drop-cons}
use borrow.Author.Tests.{eqb-true, eq-eqb, ne_eqb}
use Rattle.text.specs.Bytes.{is_blank}
use Rattle.text.specs.Lists.{span}
use Rattle.text_characters.specs.Pieces.{less, greater}
use Rattle.text.proofs.Spans.{span_stop}
use Rattle.xml_tags.specs.declared.attribute.Attribute.{Attribute}
use Rattle.xml_tags.specs.declared.attribute.Passed.{Passed}
use Rattle.xml_tags.specs.declared.token.Kind.TheVariants.{Open, Empty, Close, End}
use Rattle.xml_tags.specs.Marks.{but, one, head_is, behind}
use Rattle.xml_tags.specs.mirror.Passing.{no_quote, in_name}
use Rattle.xml_tags.specs.mirror.Attributes.{nowhere, value_at, quote_at, named_at, attribute_at, is_none, counted, passed_at}
use Rattle.xml_tags.specs.mirror.Tokens.{bare, shut_at, tail_at, tag_at, open_at, token_at, root_from, is_declared, start_of}
use Rattle.xml_tags.proofs.Passing.{but_by, wider_at, pass_at, past_go, head_at, head_in}
use Rattle.xml_tags.proofs.Attributes.{attribute_lies, some_end, passed_none, passed_some, passed_between}

greater_ends : in_name 62 ≡ false
unfolding in_name is_blank
greater_ends = refl

module _ (s : List ℕ) where
  -- a later place, reached from an earlier one
  drop_to : (o e : ℕ) → o ≤ e → drop (e - o) (drop o s) ≡ drop e s
  drop_to o e h = let n : o + (e - o) ≡ e = omega arith in rw (drop-drop (e - o) o s, n)

  -- a byte, and what stands after it
  drop_byte : (i : ℕ) → i < length s → drop i s ≡ get_or s i 0 ∷ drop (i + 1) s
  drop_byte i h = rw (add-one i, drop-cons s i 0 h)

  -- ---- an attribute

  module _ (at name stop : ℕ) (n : name ≡ at + span is_blank (drop at s)) (p : stop ≡ name + span in_name (drop name s)) where
    pub attribute_nowhere : stop ≡ name → nowhere name ≡ attribute_at at (drop at s)
    unfolding attribute_at named_at
    attribute_nowhere e =
        let z : span in_name (drop name s) ≡ 0 = omega arith in
        sym (pass_at is_blank named_at s at name n ∙ rw z refl)

    pub attribute_valued : (mark : ℕ) → (stop ≡ name → ⊥) → mark ≡ stop + span no_quote (drop stop s)
        → value_at name stop mark (drop mark s) ≡ attribute_at at (drop at s)
    unfolding attribute_at named_at
    attribute_valued mark e q =
        let z = ne_eqb (span in_name (drop name s)) 0 (λ w. e (omega arith)) in
        sym
        (pass_at is_blank named_at s at name n
        ∙ rw z (pass_at in_name (quote_at name) s name stop p)
        ∙ pass_at no_quote (value_at name stop) s stop mark q)

  pub value_nowhere : (a b mark : ℕ) → length s ≤ mark
      → record { name = a; stop = b; value = mark; quote = mark; end = mark } ≡ value_at a b mark (drop mark s)
  unfolding value_at
  value_nowhere a b mark h = rw (drop_of_length-le s h)

  pub value_found : (a b mark quote end : ℕ) → mark < length s
      → quote ≡ mark + 1 + span (but (get_or s mark 0)) (drop (mark + 1) s) → end ≡ quote + one (drop quote s)
      → record { name = a; stop = b; value = mark + 1; quote = quote; end = end } ≡ value_at a b mark (drop mark s)
  unfolding value_at
  value_found a b mark quote end h q e = rw (drop_byte mark h, drop-drop, ← q, ← e)

  -- ---- attributes

  pub record Further (i : ℕ) (a : Attribute) : Type 0 where
    pub on : i < a.end
    pub within : a.end ≤ length s
    pub counts : passed_at i (drop i s) ≡ counted (passed_at a.end (drop a.end s))

  further : (i : ℕ) → is_none (attribute_at i (drop i s)) ≡ false → Further i (attribute_at i (drop i s))
  further i e =
      let m = some_end i (drop i s) e in
      let n = (attribute_lies i (drop i s)).end in
      record {
        on = m;
        within = omega (arith, length-drop i s);
        counts =
            passed_some i (drop i s) e
            ∙ ap (λ (l : List ℕ). counted (passed_at (attribute_at i (drop i s)).end l)) (drop_to i (attribute_at i (drop i s)).end (omega arith));
      }

  module _ (i : ℕ) (a : Attribute) (e : a ≡ attribute_at i (drop i s)) where
    pub one_more : (a.stop ≡ a.name → ⊥) → Further i a
    one_more n = subst (λ (z : Attribute). Further i z) (sym e) (further i (ap is_none (sym e) ∙ ne_eqb a.stop a.name n))

    pub no_more : a.stop ≡ a.name → passed_at i (drop i s) ≡ record { count = 0; end = a.name }
    no_more n =
        passed_none i (drop i s) (ap is_none (sym e) ∙ eq-eqb a.stop a.name n)
        ∙ ap (λ (z : Attribute). record { count = 0; end = z.name }) (sym e)

  -- a loop that has come to i: what was counted, and what is still to come
  pub record Counted (at count i : ℕ) : Type 0 where
    pub within : count ≤ length s
    pub behind : count ≤ i
    pub is : record { count = count + (passed_at i (drop i s)).count; end = (passed_at i (drop i s)).end } ≡ passed_at at (drop at s)

  pub begin : (at : ℕ) → Counted at 0 at
  begin at =
      record { within = omega arith; behind = omega arith; is = ap (λ (n : ℕ). record { count = n; end = (passed_at at (drop at s)).end }) (omega arith) }

  module _ (at count i : ℕ) (a : Attribute) (w : Counted at count i) (e : a ≡ attribute_at i (drop i s)) where
    pub again : (a.stop ≡ a.name → ⊥) → Counted at (count + 1) a.end
    again n =
        let f = one_more i a e n in
        let p = passed_at a.end (drop a.end s) in
        record {
          within = omega (arith, w.behind, f.on, f.within);
          behind = omega (arith, w.behind, f.on);
          is =
              ap (λ (m : ℕ). record { count = m; end = p.end }) (omega arith)
              ∙ ap (λ (z : Passed). record { count = count + z.count; end = z.end }) (sym f.counts)
              ∙ w.is;
        }

    pub stopped : a.stop ≡ a.name → record { count = count; end = a.name } ≡ passed_at at (drop at s)
    stopped n =
        ap (λ (m : ℕ). record { count = m; end = a.name }) (omega arith)
        ∙ ap (λ (z : Passed). record { count = count + z.count; end = z.end }) (sym (no_more i a e n))
        ∙ w.is

  -- ---- tags

  module _ (o e n : ℕ) (a : Attribute) (at end : ℕ) where
    pub shut_empty : head_is 47 (drop at s) ≡ true → end ≡ at + 1 + one (drop (at + 1) s)
        → record { kind = Empty; less = o; stop = e; attributes = n; first = a; end = end } ≡ shut_at o e n a at (drop at s)
    unfolding shut_at
    shut_empty h q = rw (h, drop-drop 1 at s, ← q)

    pub shut_open : head_is 47 (drop at s) ≡ false → end ≡ at + one (drop at s)
        → record { kind = Open; less = o; stop = e; attributes = n; first = a; end = end } ≡ shut_at o e n a at (drop at s)
    unfolding shut_at
    shut_open h q = rw (h, ← q)

  module _ (o stop : ℕ) (a : Attribute) (e : a ≡ attribute_at stop (drop stop s)) where
    pub tail_none : a.stop ≡ a.name → shut_at o stop 0 a a.name (drop a.name s) ≡ tail_at o stop (drop stop s)
    unfolding tail_at
    tail_none n =
        sym
        (rw (no_more stop a e n, ← e) (ap (shut_at o stop 0 a a.name) (drop_to stop a.name (subst (λ (z : Attribute). stop ≤ z.name) (sym e) (attribute_lies stop (drop stop s)).gap))))

    -- no more attributes than bytes
    pub tail_fits : (m : Passed) → (a.stop ≡ a.name → ⊥) → m ≡ passed_at a.end (drop a.end s) → m.count + 1 ≤ length s
    tail_fits m n q =
        let f = one_more stop a e n in
        let b = passed_between a.end (drop a.end s) in
        let c : (passed_at a.end (drop a.end s)).count + 1 ≤ length s = omega (arith, f.on, f.within, b.low, b.high, length-drop a.end s) in
        subst (λ (z : Passed). z.count + 1 ≤ length s) (sym q) c

    pub tail_some : (m : Passed) → (a.stop ≡ a.name → ⊥) → m ≡ passed_at a.end (drop a.end s)
        → shut_at o stop (m.count + 1) a m.end (drop m.end s) ≡ tail_at o stop (drop stop s)
    unfolding tail_at
    tail_some m n q =
        let f = one_more stop a e n in
        let h : a.end + m.count ≤ m.end = subst (λ (z : Passed). a.end + z.count ≤ z.end) (sym q) (passed_between a.end (drop a.end s)).low in
        sym
        (rw (f.counts, ← e, ← q) (ap (shut_at o stop (m.count + 1) a m.end) (drop_to stop m.end (omega (arith, f.on)))))

  greater_there : (i : ℕ) → head_is 62 (drop i s) ≡ true → get_or s i 0 ≡ 62
  greater_there i h = eqb-true (get_or s i 0) 62 (head_at 62 s i (head_in 62 s i h) ∙ h)

  -- a test that `>` fails goes no further from there
  greater_stays : (p : ℕ → Bool) (i : ℕ) → head_is 62 (drop i s) ≡ true → p 62 ≡ false → i ≡ i + span p (drop i s)
  greater_stays p i h f =
      let z = span_stop p s i (head_in 62 s i h) (ap p (greater_there i h) ∙ f) in
      omega (arith, z)

  -- after the name stands `>`
  pub tail_greater : (o stop : ℕ) (a : Attribute) → head_is 62 (drop stop s) ≡ true → a ≡ nowhere stop
      → record { kind = Open; less = o; stop = stop; attributes = 0; first = a; end = stop + 1 } ≡ tail_at o stop (drop stop s)
  unfolding is_blank
  tail_greater o stop a h e =
      let i = head_in 62 s stop h in
      let n = attribute_nowhere stop stop stop (greater_stays is_blank stop h refl) (greater_stays in_name stop h greater_ends) refl in
      shut_open o stop 0 a stop (stop + 1) (sym (head_at 47 s stop i) ∙ ap (λ (z : ℕ). eqb z 47) (greater_there stop h)) (past_go s stop i)
      ∙ ap (λ (x : Attribute). shut_at o stop 0 x stop (drop stop s)) e
      ∙ tail_none o stop (nowhere stop) n refl

  module _ (at o : ℕ) (h : o ≡ at + span (but less) (drop at s)) where
    pub next_end : length s ≤ o → bare End o o ≡ token_at at (drop at s)
    unfolding token_at tag_at
    next_end g = sym (pass_at (but less) tag_at s at o h ∙ ap (tag_at o) (drop_of_length-le s g))

    module _ (g : o < length s) where
      pub next_close : (q end : ℕ) → head_is 47 (drop (o + 1) s) ≡ true → q ≡ o + 1 + span (but greater) (drop (o + 1) s)
          → end ≡ q + one (drop q s)
          → bare Close o end ≡ token_at at (drop at s)
      unfolding token_at tag_at behind
      next_close q end b e f =
          sym
          (pass_at (but less) tag_at s at o h
          ∙ ap (tag_at o) (drop_byte o g)
          ∙ rw b (ap (bare Close o) (pass_at (but greater) (λ z l. z + one l) s (o + 1) q e ∙ sym f)))

      module _ (stop : ℕ) (b : head_is 47 (drop (o + 1) s) ≡ false) (e : stop ≡ o + 1 + span in_name (drop (o + 1) s)) where
        pub next_open : tail_at o stop (drop stop s) ≡ token_at at (drop at s)
        unfolding token_at tag_at
        next_open =
            sym
            (pass_at (but less) tag_at s at o h
            ∙ ap (tag_at o) (drop_byte o g)
            ∙ rw b (pass_at in_name (tail_at o) s (o + 1) stop e))

        -- after the name stands `>`
        pub next_plain : (a : Attribute) → head_is 62 (drop stop s) ≡ true → a ≡ nowhere stop
            → record { kind = Open; less = o; stop = stop; attributes = 0; first = a; end = stop + 1 } ≡ token_at at (drop at s)
        next_plain a f k = tail_greater o stop a f k ∙ next_open

  -- an opening tag
  pub open_end : (o : ℕ) → length s ≤ o → bare End o o ≡ open_at o (drop o s)
  unfolding open_at
  open_end o g = sym (ap (open_at o) (drop_of_length-le s g))

  pub open_tail : (o stop : ℕ) → o < length s → stop ≡ o + 1 + span in_name (drop (o + 1) s) → tail_at o stop (drop stop s) ≡ open_at o (drop o s)
  unfolding open_at
  open_tail o stop g e = sym (ap (open_at o) (drop_byte o g) ∙ pass_at in_name (tail_at o) s (o + 1) stop e)

  -- a token from any place of the blanks before it
  pub token_later : (at m : ℕ) → m ≡ at + span is_blank (drop at s) → token_at m (drop m s) ≡ token_at at (drop at s)
  unfolding token_at is_blank
  token_later at m e =
      let r = m + span (but less) (drop m s) in
      pass_at (but less) tag_at s m r refl
      ∙ sym (pass_at (but less) tag_at s at r (wider_at is_blank (but less) (but_by is_blank less refl) s at m r e refl))

  -- ---- where the root begins

  pub declared_yes : head_is 60 (drop 0 s) ≡ true → head_is 63 (drop 1 s) ≡ is_declared s
  declared_yes e = rw e

  pub declared_no : head_is 60 (drop 0 s) ≡ false → false ≡ is_declared s
  declared_no e = rw e

  pub start_declared : (q e r : ℕ) → is_declared s ≡ true → q ≡ 0 + span (but greater) (drop 0 s) → e ≡ q + one (drop q s)
      → r ≡ e + span is_blank (drop e s) → r ≡ start_of s
  unfolding start_of root_from
  start_declared q e r d g h k =
      k
      ∙ sym (rw d (pass_at (but greater) (λ o m. root_from (o + one m) (drop (one m) m)) s 0 q g ∙ rw (drop-drop (one (drop q s)) q s, ← h)))

  pub start_plain : (r : ℕ) → is_declared s ≡ false → r ≡ 0 + span is_blank (drop 0 s) → r ≡ start_of s
  unfolding start_of root_from
  start_plain r d k = k ∙ rw d refl
