-- One step over bytes and tables, from what the code's calls told. Assumes nothing.
use Rattle.std.specs.Prelude.{Ok, Err}
use mathlib.Core.Path.{◌≡◌, refl, sym, ◌∙◌, ap, ap₂, subst}
use mathlib.Core.Bool.{Bool, true, false, cond}
use mathlib.Core.List.{List}
use Prim.Native.Nat.{ℕ, ◌+◌, ◌-◌, ◌≤◌, ◌<◌, min}
use native.Mathlib.Nat.{min-eq_left}
use lib.Dec.{ltb}
use lib.ListN.{drop}
use lib.Seq.{slice}
use borrow.Author.Tests.{eq-eqb, ne_eqb, lt-ltb, le-ltb}
use Rattle.answer.specs.declared.Answer.{Answer}
use Rattle.answer.specs.Table as table
use Rattle.text.specs.Bytes.{ascii, is_blank}
use Rattle.text.specs.Lists.{span}
use Rattle.list.specs.tables.Table.{cell}
use Rattle.value.specs.types.Code.{Ccy}
use Rattle.value.specs.Judged.{Exactly}
use Rattle.value.specs.mirror.Judges.{is_currency}
use Rattle.value.proofs.types.Ones.{exactly_one}
use Rattle.value.proofs.stored.texts.Codes.{currency_exactly}
use Rattle.xml_tags.specs.declared.attribute.Attribute.{Attribute}
use Rattle.xml_tags.specs.declared.token.Kind.{Kind}
use Rattle.xml_tags.specs.declared.token.Kind.TheVariants.{Open, Empty, Close, End}
use Rattle.xml_tags.specs.declared.token.Token.{Token}
use Rattle.xml_tags.specs.Story.{token_in}
use Rattle.xml_tags.specs.mirror.Tokens.{ink_in}
use Rattle.xml_tags.proofs.Tokens.{token_ahead}
use Rattle.xml_tags.proofs.Steps.{token_later}
use Rattle.file_walk.specs.declared.level.Level.{Level}
use Rattle.file_walk.specs.First.{Found}
use Rattle.file_walk.specs.declared.step.Here.{Here}
use Rattle.file_walk.specs.declared.step.Turn.TheVariants.{Opened, Closed, Ended}
use Rattle.list.specs.tables.Numbers.{is_group_in}
use Rattle.file_walk.specs.mirror.Tables.{fresh_in, advance_in, opening_in, pushed}
use Rattle.file_walk.specs.mirror.Stride.{named, own_in, ink_before, text_from, ink_from, end_in, Stepped, outer, closed_by, closed_in, row_in, entered_by, entered_in, below_by, below_in, vacant_by, vacant_in, inner, met_in, left_in, ink_ahead, step_by, stack_by, step_in, stack_in}

-- ---- attributes

-- three capitals, as `value` tests them
pub coin_told : {u cs : List ℕ} {r : Bool} → u ≡ cs → Exactly r (Ccy u) → r ≡ is_currency cs
coin_told {u} {cs} {r} e h = exactly_one r (is_currency cs) (subst (λ (w : List ℕ). Exactly r (Ccy w)) e h) (currency_exactly cs)

-- of an amount with one attribute, of this name
pub own_value : (t s : List ℕ) (r count : ℕ) (a : Attribute) (k : ℕ) → k ≡ cell t r 2 → k ≡ 9 → count ≡ 1 → (x : Bool) → x ≡ named (ascii "Ccy") s a.name a.stop
    → (y : Bool) → x ≡ true → y ≡ is_currency (slice a.value a.quote s) → y ≡ own_in t s r count a
unfolding own_in
own_value t s r count a k e h f x g y i j = rw (eq-eqb (cell t r 2) 9 (sym e ∙ h), eq-eqb count 1 f, sym g ∙ i) j

-- ---- a text

pub group_is : (t : List ℕ) (row k : ℕ) (g : Bool) → k ≡ cell t row 2 → g ≡ is_group_in k → g ≡ is_group_in (cell t row 2)
group_is t row k g e f = f ∙ ap is_group_in e

-- a text that is looked at from after its blanks: the tag after it, and its first ink
module _ (s : List ℕ) (g : Bool) (at o : ℕ) (k : Token) (e : o ≡ text_from s g at) (is : k ≡ token_in s o) where
  pub token_from : k ≡ token_in s at
  unfolding text_from
  token_from = is ∙ go g e
    where
      go : (b : Bool) → o ≡ cond b (at + span is_blank (drop at s)) at → token_in s o ≡ token_in s at
      go true h = token_later s at o h
      go false h = ap (token_in s) h

  pub ink_from_lem : (t : List ℕ) (row i : ℕ) → g ≡ is_group_in (cell t row 2) → i ≡ ink_from g o k.less → i ≡ ink_before t s row at k.less
  unfolding text_from ink_from ink_before
  ink_from_lem t row i j f = f ∙ go g e ∙ ap (λ (b : Bool). cond b (ink_in s at k.less) k.less) j
    where
      on : o ≤ k.less
      on = subst (λ (z : Token). o ≤ z.less) (sym is) (token_ahead o (drop o s)).text

      go : (b : Bool) → o ≡ cond b (at + span is_blank (drop at s)) at → cond b o k.less ≡ cond b (ink_in s at k.less) k.less
      go true h = sym (min-eq_left on) ∙ ap (λ (z : ℕ). min z k.less) h
      go false h = refl

-- ---- a closing tag

module _ (t : List ℕ) (g : Bool) (st : List Level) (here : Here) (less end : ℕ) (v : Found) (e : v ≡ end_in t g here.level here.at less) where
  pub closed_refused : (a : Answer) → v ≡ Err a → Err a ≡ closed_in t g st here less end
  unfolding closed_in
  closed_refused a h = ap (closed_by st here less end) (sym h ∙ e)

  module _ (h : v ≡ Ok tt) where
    well : closed_by st here less end (Ok tt) ≡ closed_in t g st here less end
    unfolding closed_in
    well = ap (closed_by st here less end) (sym h ∙ e)

    pub closed_root : here.depth ≡ 0 → Ok (Ended less) ≡ closed_in t g st here less end
    closed_root f = rw (eq-eqb here.depth 0 f) at well

    module _ (f : here.depth ≡ 0 → ⊥) where
      pub closed_outer : (o : Here) → here.depth ≤ 16 → o ≡ outer st (here.depth - 1) end → Ok (Closed o less) ≡ closed_in t g st here less end
      closed_outer o i j = ap (λ (z : Here). Ok (Closed z less)) j ∙ rw (ne_eqb here.depth 0 f, le-ltb 16 here.depth i) at well

-- ---- an opening tag

module _ (t : List ℕ) (here : Here) (r : ℕ) (ok : Bool) (less : ℕ) (v : Found) (e : v ≡ opening_in t here.level r ok less) where
  pub vacant_refused : (b : Answer) → v ≡ Err b → b ≡ vacant_in t here r ok less
  unfolding vacant_in
  vacant_refused b h = ap (vacant_by r less) (sym h ∙ e)

  pub vacant_on : (b : Answer) → v ≡ Ok tt → b ≡ table.empty r less → b ≡ vacant_in t here r ok less
  unfolding vacant_in
  vacant_on b h g = g ∙ ap (vacant_by r less) (sym h ∙ e)

  module _ (st : List Level) (end : ℕ) (a : Attribute) where
    abbrev Enters : Stepped → List Level → Type 0
    Enters x below = (x ≡ entered_in t here r ok less end a) × (below ≡ below_in t st here r ok less)

    -- by what was found
    entered : (w : Found) → v ≡ w → Enters (entered_by t here r less end a w) (below_by t st here r w)
    unfolding entered_in below_in
    entered w h = (ap (entered_by t here r less end a) (sym h ∙ e), ap (below_by t st here r) (sym h ∙ e))

    pub entered_refused : (b : Answer) → v ≡ Err b → Enters (Err b) st
    entered_refused b h = entered (Err b) h

    module _ (h : v ≡ Ok tt) where
      goes_in : here.depth ≤ 15 → Enters (Ok (Opened (inner t here r less end a))) (pushed st here.depth (advance_in t here.level r))
      goes_in g = rw (le-ltb 15 here.depth g) at (entered (Ok tt) h)

      pub entered_on : (lv around : Level) (below : List Level) → here.depth ≤ 15 → lv ≡ fresh_in t r less → around ≡ advance_in t here.level r → below ≡ pushed st here.depth around
          → Enters (Ok (Opened (record { level = lv; depth = here.depth + 1; at = end; value = a.value; quote = a.quote }))) below
      entered_on lv around below g f i j =
          let w = goes_in g in (
            ap (λ (x : Level). Ok (Opened (record { level = x; depth = here.depth + 1; at = end; value = a.value; quote = a.quote }))) f ∙ w.0,
            j ∙ ap (pushed st here.depth) i ∙ w.1,
          )

-- ---- one step

module _ (t pool s : List ℕ) (st : List Level) (here : Here) (k : Token) (i : ℕ) (e : i ≡ ink_ahead t pool s st here k) where
  pub by_ink : (a : Answer) → i < k.less → a ≡ table.text_in_group here.level.row i → (Err a ≡ step_by t pool s st here k) × (st ≡ stack_by t pool s st here k)
  unfolding step_by stack_by
  by_ink a h g =
      let z : ltb (ink_ahead t pool s st here k) k.less ≡ true = ap (λ n. ltb n k.less) (sym e) ∙ lt-ltb i k.less h in
      (rw z (ap Err (g ∙ ap (table.text_in_group here.level.row) e)), rw z)

  pub by_kind : (kind : Kind) → k.less ≤ i → k.kind ≡ kind → (x : Stepped) (below : List Level) → x ≡ met_in t pool s st here kind k → below ≡ left_in t pool s st here kind k
      → (x ≡ step_by t pool s st here k) × (below ≡ stack_by t pool s st here k)
  unfolding step_by stack_by
  by_kind kind h f x below g j =
      let z : ltb (ink_ahead t pool s st here k) k.less ≡ false = ap (λ n. ltb n k.less) (sym e) ∙ le-ltb i k.less h in
      (rw z (g ∙ ap (λ y. met_in t pool s st here y k) (sym f)), rw z (j ∙ ap (λ y. left_in t pool s st here y k) (sym f)))

-- the token is the one after here
module _ (t pool s : List ℕ) (st : List Level) (here : Here) (k : Token) (is : k ≡ token_in s here.at) (i : ℕ) (e : i ≡ ink_before t s here.level.row here.at k.less) where
  abbrev pub Steps : Stepped → List Level → Type 0
  Steps x below = (x ≡ step_in t pool s st here) × (below ≡ stack_in t pool s st here)

  told : (x : Stepped) (below : List Level) → (x ≡ step_by t pool s st here k) × (below ≡ stack_by t pool s st here k) → Steps x below
  told x below w = (w.0 ∙ ap (step_by t pool s st here) is, w.1 ∙ ap (stack_by t pool s st here) is)

  pub step_ink : (a : Answer) → i < k.less → a ≡ table.text_in_group here.level.row i → Steps (Err a) st
  step_ink a h g = told (Err a) st (by_ink t pool s st here k i e a h g)

  module _ (h : k.less ≤ i) where
    pub step_close : (x : Stepped) (g : Bool) → k.kind ≡ Close → g ≡ is_group_in (cell t here.level.row 2) → x ≡ closed_in t g st here k.less k.end → Steps x st
    step_close x g f j c = told x st (by_kind t pool s st here k i e Close h f x st (c ∙ ap (λ (b : Bool). closed_in t b st here k.less k.end) j) refl)

    pub step_end : (a : Answer) → k.kind ≡ End → a ≡ table.not_house_xml k.less → Steps (Err a) st
    step_end a f g = told (Err a) st (by_kind t pool s st here k i e End h f (Err a) st (ap Err g) refl)

    module _ (r : ℕ) (ok : Bool) (row : r ≡ row_in t pool s here.level k.less k.stop) (own : ok ≡ own_in t s r k.attributes k.first) where
      own_row : ok ≡ own_in t s (row_in t pool s here.level k.less k.stop) k.attributes k.first
      own_row = own ∙ ap (λ q. own_in t s q k.attributes k.first) row

      pub step_open : (x : Stepped) (below : List Level) → k.kind ≡ Open → x ≡ entered_in t here r ok k.less k.end k.first → below ≡ below_in t st here r ok k.less → Steps x below
      step_open x below f g j = told x below (by_kind t pool s st here k i e Open h f x below
          (g ∙ ap₂ (λ q b. entered_in t here q b k.less k.end k.first) row own_row) (j ∙ ap₂ (λ q b. below_in t st here q b k.less) row own_row))

      pub step_empty : (a : Answer) → k.kind ≡ Empty → a ≡ vacant_in t here r ok k.less → Steps (Err a) st
      step_empty a f g = told (Err a) st (by_kind t pool s st here k i e Empty h f (Err a) st (ap Err (g ∙ ap₂ (λ q b. vacant_in t here q b k.less) row own_row)) refl)
