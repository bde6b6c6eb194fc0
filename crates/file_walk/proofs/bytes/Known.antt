-- A step that refuses nothing: what it met, by the bytes after the place where it began. Assumes nothing.
use Rattle.std.specs.Prelude.{Ok, Err, is_ok}
use mathlib.Core.Path.{◌≡◌, refl, sym, ◌∙◌, ap, subst}
use mathlib.Core.Logic.{◌≢◌, ◌⊎◌, inl, inr}
use mathlib.Core.Bool.{Bool, true, false, cond, true≢false, false≢true}
use mathlib.Core.List.{List, [], ◌∷◌}
use Prim.Native.Nat.{ℕ, ◌+◌, ◌-◌, ◌≤◌, ◌<◌}
use native.Mathlib.Nat.{min-eq_left}
use native.Mathlib.Decide.{dec_lt}
use native.Mathlib.Omega.{arith}
use lib.Dec.{eqb, ltb}
use lib.ListN.{length, get_or, drop, drop_of_length-le}
use lib.Seq.{drop-cons}
use native.Mathlib.Numerals.{add-one}
use borrow.Author.Tests.{eqb-true, eqb-false, lt-ltb}
use Rattle.answer.specs.Table as table
use Rattle.text.specs.Bytes.{is_blank}
use Rattle.text.specs.Lists.{span}
use Rattle.text_characters.specs.Pieces.{less, greater, solidus}
use Rattle.list.specs.tables.Table.{cell}
use Rattle.xml_tags.specs.declared.attribute.Attribute.{Attribute}
use Rattle.xml_tags.specs.declared.token.Kind.{Kind}
use Rattle.xml_tags.specs.declared.token.Kind.TheVariants.{Open, Empty, Close, End}
use Rattle.xml_tags.specs.declared.token.Token.{Token}
use Rattle.xml_tags.specs.Marks.{but, pass, one, head_is, behind}
use Rattle.xml_tags.specs.mirror.Passing.{in_name}
use Rattle.xml_tags.specs.mirror.Tokens.{bare, shut_at, tail_at, tag_at, open_at, token_at}
use Rattle.xml_tags.specs.Story.{token_in}
use Rattle.xml_tags.proofs.Passing.{pass_at, pass_any}
use Rattle.xml_tags.proofs.Tokens.{token_ahead}
use Rattle.xml_tags.proofs.Steps.{token_later}
use Rattle.file_walk.specs.First.{Found}
use Rattle.file_walk.specs.declared.step.Here.{Here}
use Rattle.file_walk.specs.declared.level.Level.{Level}
use Rattle.file_walk.specs.declared.step.Turn.TheVariants.{Opened, Closed, Ended}
use Rattle.list.specs.tables.Numbers.{is_group_in}
use Rattle.file_walk.specs.mirror.Tables.{opening_in}
use Rattle.file_walk.specs.mirror.Stride.{own_in, ink_before, end_in, Stepped, outer, closed_by, closed_in, row_in, inner, entered_by, entered_in, met_in, ink_ahead, step_by, step_in}

-- ---- a token, by the bytes

abbrev rank : Kind → ℕ
rank Open = 0
rank Empty = 1
rank Close = 2
rank End = 3

unlike : (k a b : Kind) → k ≡ a → k ≡ b → rank a ≢ rank b → ⊥
unlike k a b e f n = n (ap rank (sym e ∙ f))

-- a tag of an element's beginning has its `<` at o
record Begins (o : ℕ) (k : Token) : Type 0 where
  less : k.less ≡ o
  kind : k.kind ≢ Close

shut_begins : (o e n : ℕ) (a : Attribute) (z : ℕ) (l : List ℕ) → Begins o (shut_at o e n a z l)
unfolding shut_at
shut_begins o e n a z l = go (head_is solidus l)
  where
    go : (b : Bool) → Begins o (cond b (record { kind = Empty; less = o; stop = e; attributes = n; first = a; end = z + 1 + one (drop 1 l) }) (record { kind = Open; less = o; stop = e; attributes = n; first = a; end = z + one l }))
    go true = record { less = refl; kind = λ f. unlike Empty Empty Close refl f (λ e. absurd (omega (arith, e))) }
    go false = record { less = refl; kind = λ f. unlike Open Open Close refl f (λ e. absurd (omega (arith, e))) }

open_begins : (o : ℕ) (x : ℕ) (l : List ℕ) → Begins o (open_at o (x ∷ l))
unfolding open_at tail_at
open_begins o x l = pass_any in_name (tail_at o) (Begins o) (o + 1) l (λ n h. shut_begins o (o + 1 + n) _ _ _ _)

tag_less : (o : ℕ) (l : List ℕ) → (tag_at o l).less ≡ o
unfolding tag_at open_at
tag_less o [] = refl
tag_less o (x ∷ l) = go (head_is solidus l)
  where
    go : (b : Bool) → (cond b (bare Close o (behind greater (o + 1) l)) (pass in_name (tail_at o) (o + 1) l)).less ≡ o
    go true = refl
    go false = (open_begins o x l).less

end_there : (m : ℕ) (l : List ℕ) → l ≡ [] → (tag_at m l).kind ≡ End
unfolding tag_at
end_there m l e = ap (λ (z : List ℕ). (tag_at m z).kind) e

module _ (s : List ℕ) (at : ℕ) where
  abbrev k : Token
  k = token_in s at

  -- the text ends at the first `<`, where the tag is
  pub less_is : at + span (but less) (drop at s) ≡ k.less
  unfolding token_at
  less_is =
      let m = at + span (but less) (drop at s) in
      sym (ap (λ (x : Token). x.less) (pass_at (but less) tag_at s at m refl) ∙ tag_less m (drop m s))

  module _ (m : ℕ) (e : m ≡ k.less) where
    tag_there : k ≡ tag_at m (drop m s)
    unfolding token_at
    tag_there = pass_at (but less) tag_at s at m (e ∙ sym less_is)

    byte_there : m < length s → drop m s ≡ get_or s m 0 ∷ drop (m + 1) s
    byte_there h = rw (add-one m, drop-cons s m 0 h)

    pub inside : k.kind ≢ End → m < length s
    inside n = elim (dec_lt m (length s)) [
      | yes h ↦ h
      | no h ↦ absurd (n (ap (λ (x : Token). x.kind) tag_there ∙ end_there m (drop m s) (drop_of_length-le s (let z : length s ≤ m = omega arith in z))))
    ]

    pub is_close : m < length s → head_is solidus (drop (m + 1) s) ≡ true → k ≡ bare Close m (behind greater (m + 1) (drop (m + 1) s))
    unfolding tag_at
    is_close h b = tag_there ∙ ap (tag_at m) (byte_there h) ∙ rw b

    pub is_open : m < length s → head_is solidus (drop (m + 1) s) ≡ false → k ≡ open_at m (drop m s)
    unfolding tag_at open_at
    is_open h b = tag_there ∙ ap (tag_at m) (byte_there h) ∙ rw b (sym (ap (open_at m) (byte_there h)))

    pub not_close : m < length s → head_is solidus (drop (m + 1) s) ≡ false → k.kind ≢ Close
    not_close h b = subst (λ (x : Token). x.kind ≢ Close) (sym (is_open h b)) (subst (λ (l : List ℕ). (open_at m l).kind ≢ Close) (sym (byte_there h)) (open_begins m (get_or s m 0) (drop (m + 1) s)).kind)

    -- a closing tag's end
    pub close_end : k.kind ≡ Close → k.end ≡ behind greater (m + 1) (drop (m + 1) s)
    close_end c = go (head_is solidus (drop (m + 1) s)) refl
      where
        h : m < length s
        h = inside (λ f. unlike k.kind Close End c f (λ e. absurd (omega (arith, e))))

        go : (b : Bool) → head_is solidus (drop (m + 1) s) ≡ b → k.end ≡ behind greater (m + 1) (drop (m + 1) s)
        go true b = ap (λ (x : Token). x.end) (is_close h b)
        go false b = absurd (not_close h b c)

  -- in a group without ink the tag stands after the blanks
  pub blanks_less : (t : List ℕ) (row : ℕ) → is_group_in (cell t row 2) ≡ true → ltb (ink_before t s row at k.less) k.less ≡ false → at + span is_blank (drop at s) ≡ k.less
  unfolding ink_before
  blanks_less t row g h =
      let m = at + span is_blank (drop at s) in
      let low : m ≤ k.less = subst (λ (x : Token). m ≤ x.less) (token_later s at m refl) (token_ahead m (drop m s)).text in
      elim (dec_lt m k.less) [
        | yes i ↦ absurd (true≢false (sym (lt-ltb m k.less i) ∙ sym (ap (λ (n : ℕ). ltb n k.less) (rw g (min-eq_left low))) ∙ h))
        | no i ↦ omega arith
      ]

-- ---- a step that refuses nothing

-- of two turns by a test
one_way : (b : Bool) (x y : Stepped) {c : Stepped} → is_ok x ≡ false → c ≡ cond b x y → is_ok c ≡ true → (b ≡ false) × (c ≡ y)
one_way true x y e f n = absurd (false≢true (sym e ∙ sym (ap is_ok f) ∙ n))
one_way false x y e f n = (refl, f)

module _ (t pool s : List ℕ) (st : List Level) (here : Here) where
  abbrev token : Token
  token = token_in s here.at

  abbrev row : ℕ
  row = row_in t pool s here.level token.less token.stop

  -- an opening tag, the root's closing tag, another's
  pub data Went (x : Stepped) : Type 0 where
    entered : token.kind ≡ Open → x ≡ Ok (Opened (inner t here row token.less token.end token.first)) → Went x
    ended : token.kind ≡ Close → here.depth ≡ 0 → x ≡ Ok (Ended token.less) → Went x
    left : token.kind ≡ Close → here.depth ≢ 0 → x ≡ Ok (Closed (outer st (here.depth - 1) token.end) token.less) → Went x

  enters : token.kind ≡ Open → (f : Found) → is_ok (entered_by t here row token.less token.end token.first f) ≡ true → Went (entered_by t here row token.less token.end token.first f)
  enters k (Err a) n = absurd (false≢true n)
  enters k (Ok tt) n = go (ltb 15 here.depth) n
    where
      go : (b : Bool) → is_ok (cond b (Err (table.not_house_xml token.less)) (Ok (Opened (inner t here row token.less token.end token.first)))) ≡ true
          → Went (cond b (Err (table.not_house_xml token.less)) (Ok (Opened (inner t here row token.less token.end token.first))))
      go true n = absurd (false≢true n)
      go false n = entered k refl

  leaves : token.kind ≡ Close → (f : Found) → is_ok (closed_by st here token.less token.end f) ≡ true → Went (closed_by st here token.less token.end f)
  leaves k (Err a) n = absurd (false≢true n)
  leaves k (Ok tt) n = go (eqb here.depth 0) (ltb 16 here.depth) refl n
    where
      go : (b c : Bool) → eqb here.depth 0 ≡ b → is_ok (cond b (Ok (Ended token.less)) (cond c (Err (table.not_house_xml token.less)) (Ok (Closed (outer st (here.depth - 1) token.end) token.less)))) ≡ true
          → Went (cond b (Ok (Ended token.less)) (cond c (Err (table.not_house_xml token.less)) (Ok (Closed (outer st (here.depth - 1) token.end) token.less))))
      go true c e n = ended k (eqb-true here.depth 0 e) refl
      go false true e n = absurd (false≢true n)
      go false false e n = left k (eqb-false here.depth 0 e) refl

  stays : (q : Kind) → token.kind ≡ q → is_ok (met_in t pool s st here q token) ≡ true → Went (met_in t pool s st here q token)
  unfolding entered_in closed_in
  stays Open e n = enters e (opening_in t here.level row (own_in t s row token.attributes token.first) token.less) n
  stays Close e n = leaves e (end_in t (is_group_in (cell t here.level.row 2)) here.level here.at token.less) n
  stays Empty e n = absurd (false≢true n)
  stays End e n = absurd (false≢true n)

  pub known : is_ok (step_in t pool s st here) ≡ true → (ltb (ink_before t s here.level.row here.at token.less) token.less ≡ false) × Went (step_in t pool s st here)
  unfolding step_by
  known n =
      let ink = ink_ahead t pool s st here token in
      let w = one_way (ltb ink token.less) (Err (table.text_in_group here.level.row ink)) (met_in t pool s st here token.kind token) refl refl n in
      (w.0, subst Went (sym w.1) (stays token.kind refl (ap is_ok (sym w.1) ∙ n)))

  -- ---- by the byte after the `<`

  goes : (q : Kind) → token.kind ≡ q → rank q ≢ 3 → token.kind ≢ End
  goes q e n = λ f. unlike token.kind q End e f n

  module _ (x : Stepped) (w : Went x) where
    pub there : token.less < length s
    there = inside s here.at token.less refl (elim w [
      | entered k e ↦ goes Open k (λ z. absurd (omega (arith, z)))
      | ended k d e ↦ goes Close k (λ z. absurd (omega (arith, z)))
      | left k d e ↦ goes Close k (λ z. absurd (omega (arith, z)))
    ])

    module _ (m : ℕ) (is : m ≡ token.less) where
      there_is : m < length s
      there_is = subst (λ (n : ℕ). n < length s) (sym is) there

      -- the end of the root or of another element
      pub by_close_lem : head_is solidus (drop (m + 1) s) ≡ true → (token.kind ≡ Close) × ((x ≡ Ok (Ended token.less)) ⊎ ((to : Here) × (to.at ≡ token.end) × (x ≡ Ok (Closed to token.less))))
      by_close_lem b = elim w [
        | entered k e ↦ absurd (unlike token.kind Open Close k (ap (λ (z : Token). z.kind) (is_close s here.at m is there_is b)) (λ z. absurd (omega (arith, z))))
        | ended k d e ↦ (k, inl e)
        | left k d e ↦ (k, inr (outer st (here.depth - 1) token.end, refl, e))
      ]

      pub by_open_lem : head_is solidus (drop (m + 1) s) ≡ false → x ≡ Ok (Opened (inner t here row token.less token.end token.first))
      by_open_lem b = elim w [
        | entered k e ↦ e
        | ended k d e ↦ absurd (not_close s here.at m is there_is b k)
        | left k d e ↦ absurd (not_close s here.at m is there_is b k)
      ]
