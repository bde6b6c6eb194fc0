-- A mirror: one step of the walk over bytes and tables, a text and the tag after it. Assumes nothing.
use Rattle.std.specs.Prelude.{Bool, cond, ◌&&◌, List, ℕ, ◌+◌, ◌-◌, eqb, ltb, length, drop, Result, Ok, Err}
use Rattle.std.proofs.Math.Seq.{slice}
use Rattle.answer.specs.declared.Answer.{Answer}
use Rattle.answer.specs.Table as table
use Rattle.text.specs.Bytes.{ascii, is_blank}
use Rattle.text.specs.Lists.{same, span}
use Rattle.list.specs.tables.Columns.{KIND, AMT}
use Rattle.list.specs.tables.Table.{cell}
use Rattle.value.specs.mirror.Judges.{is_currency}
use Rattle.list.specs.mirror.Lookup.{child_along}
use Rattle.xml_tags.specs.declared.attribute.Attribute.{Attribute}
use Rattle.xml_tags.specs.declared.token.Kind.{Kind}
use Rattle.xml_tags.specs.declared.token.Kind.TheVariants.{Open, Empty, Close, End}
use Rattle.xml_tags.specs.declared.token.Token.{Token}
use Rattle.xml_tags.specs.Story.{token_in}
use Rattle.xml_tags.specs.mirror.Tokens.{ink_in}
use Rattle.file_walk.specs.declared.level.Level.{Level}
use Rattle.file_walk.specs.declared.step.Here.{Here}
use Rattle.file_walk.specs.declared.step.Turn.{Turn}
use Rattle.file_walk.specs.declared.step.Turn.TheVariants.{Opened, Closed, Ended}
use Rattle.file_walk.specs.First.{Found, refuse}
use Rattle.list.specs.tables.Numbers.{is_group_in}
use Rattle.file_walk.specs.mirror.Tables.{fresh_in, advance_in, opening_in, group_end_in, level_at, pushed}

-- ---- attributes

-- s from a to b is this word
unfoldable pub named : List ℕ → List ℕ → ℕ → ℕ → Bool
named w s a b = same w (slice a b s)

unfoldable pub own_in : List ℕ → List ℕ → ℕ → ℕ → Attribute → Bool
own_in t s r count a =
    cond (eqb (cell t r KIND) AMT)
    (eqb count 1 && (named (ascii "Ccy") s a.name a.stop && is_currency (slice a.value a.quote s)))
    (eqb count 0)

-- ---- a text

unfoldable pub ink_before : List ℕ → List ℕ → ℕ → ℕ → ℕ → ℕ
ink_before t s row at less = cond (is_group_in (cell t row KIND)) (ink_in s at less) less

-- the same in two steps, g saying whether it is a group: from where a text is looked at, after its blanks in a group, and the first ink
-- from there
unfoldable pub text_from : List ℕ → Bool → ℕ → ℕ
text_from s g at = cond g (at + span is_blank (drop at s)) at

unfoldable pub ink_from : Bool → ℕ → ℕ → ℕ
ink_from g o less = cond g o less

-- ---- a closing tag

unfoldable pub end_in : List ℕ → Bool → Level → ℕ → ℕ → Found
end_in t g lv at less = cond g (group_end_in t lv) (refuse (eqb less at) (table.empty lv.row lv.place))

-- a step: what it met, or the first violation
abbrev pub Stepped : Type 0
Stepped = Result Turn Answer

abbrev pub outer : List Level → ℕ → ℕ → Here
outer a n end = record { level = level_at a n; depth = n; at = end; value = 0; quote = 0 }

-- by what its tests found; more levels than there are is no house XML
abbrev pub closed_by : List Level → Here → ℕ → ℕ → Found → Stepped
closed_by a here less end (Err v) = Err v
closed_by a here less end (Ok tt) =
    cond (eqb here.depth 0) (Ok (Ended less)) (cond (ltb 16 here.depth) (Err (table.not_house_xml less)) (Ok (Closed (outer a (here.depth - 1) end) less)))

unfoldable pub closed_in : List ℕ → Bool → List Level → Here → ℕ → ℕ → Stepped
closed_in t g a here less end = closed_by a here less end (end_in t g here.level here.at less)

-- ---- an opening tag

-- the last of 16 levels, counted from 0
abbrev pub deepest : ℕ
deepest = 15

unfoldable pub row_in : List ℕ → List ℕ → List ℕ → Level → ℕ → ℕ → ℕ
row_in t pool s lv less stop = cond (ltb less (length s)) (child_along t pool lv.row lv.last (slice (less + 1) stop s)) 0

abbrev pub inner : List ℕ → Here → ℕ → ℕ → ℕ → Attribute → Here
inner t here r less end a = record { level = fresh_in t r less; depth = here.depth + 1; at = end; value = a.value; quote = a.quote }

-- by what the tests of an opening tag found: what an element that goes on leads to, and the stack after it; an element without content
abbrev pub entered_by : List ℕ → Here → ℕ → ℕ → ℕ → Attribute → Found → Stepped
entered_by t here r less end a (Err v) = Err v
entered_by t here r less end a (Ok tt) = cond (ltb deepest here.depth) (Err (table.not_house_xml less)) (Ok (Opened (inner t here r less end a)))

abbrev pub below_by : List ℕ → List Level → Here → ℕ → Found → List Level
below_by t st here r (Err v) = st
below_by t st here r (Ok tt) = cond (ltb deepest here.depth) st (pushed st here.depth (advance_in t here.level r))

abbrev pub vacant_by : ℕ → ℕ → Found → Answer
vacant_by r less (Err v) = v
vacant_by r less (Ok tt) = table.empty r less

unfoldable pub entered_in : List ℕ → Here → ℕ → Bool → ℕ → ℕ → Attribute → Stepped
entered_in t here r ok less end a = entered_by t here r less end a (opening_in t here.level r ok less)

unfoldable pub below_in : List ℕ → List Level → Here → ℕ → Bool → ℕ → List Level
below_in t st here r ok less = below_by t st here r (opening_in t here.level r ok less)

unfoldable pub vacant_in : List ℕ → Here → ℕ → Bool → ℕ → Answer
vacant_in t here r ok less = vacant_by r less (opening_in t here.level r ok less)

-- ---- one step

module _ (t pool s : List ℕ) (st : List Level) (here : Here) where
  -- by what stands after the text; where the bytes end, they are no house XML
  abbrev pub met_in : Kind → Token → Stepped
  met_in Close k = closed_in t (is_group_in (cell t here.level.row KIND)) st here k.less k.end
  met_in End k = Err (table.not_house_xml k.less)
  met_in Open k =
      entered_in t here (row_in t pool s here.level k.less k.stop) (own_in t s (row_in t pool s here.level k.less k.stop) k.attributes k.first)
      k.less k.end k.first
  met_in Empty k =
      Err (vacant_in t here (row_in t pool s here.level k.less k.stop) (own_in t s (row_in t pool s here.level k.less k.stop) k.attributes k.first) k.less)

  abbrev pub left_in : Kind → Token → List Level
  left_in Close k = st
  left_in End k = st
  left_in Open k =
      below_in t st here (row_in t pool s here.level k.less k.stop) (own_in t s (row_in t pool s here.level k.less k.stop) k.attributes k.first) k.less
  left_in Empty k = st

  -- the first ink before a token
  abbrev pub ink_ahead : Token → ℕ
  ink_ahead k = ink_before t s here.level.row here.at k.less

  unfoldable pub step_by : Token → Stepped
  step_by k = cond (ltb (ink_ahead k) k.less) (Err (table.text_in_group here.level.row (ink_ahead k))) (met_in k.kind k)

  unfoldable pub stack_by : Token → List Level
  stack_by k = cond (ltb (ink_ahead k) k.less) st (left_in k.kind k)

  -- by the token after here
  abbrev pub step_in : Stepped
  step_in = step_by (token_in s here.at)

  abbrev pub stack_in : List Level
  stack_in = stack_by (token_in s here.at)
