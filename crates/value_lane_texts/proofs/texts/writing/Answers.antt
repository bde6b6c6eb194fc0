-- `texts::writing` meets its contract: what was read from `at` to `i` is so many characters of a text. Assumes nothing.
use mathlib.Core.Path.{refl, sym, ◌∙◌}
use native.Mathlib.Omega.{arith}
use borrow.Author.Tests.{not-false}
use Rattle.value_lane_texts.proofs.Runs.{going_start, going_run, going_umlaut, AtSign, at_room, at_more, at_entity, next_some, next_whole}
use Rattle.std.proofs.Common.{◌≡◌, ◌≢◌, ◌+◌, ◌<◌, ◌≤◌, true, List, ℕ, length, get_or, drop}
use Rattle.text_characters.specs.Chars.{NextChar}
use Rattle.text_characters.specs.Pieces.{ampersand, less, greater}
use Rattle.text_characters.specs.declared.utf8.Char.{Char}
use Rattle.value.specs.types.Text.{is_txt}
use Rattle.value_levels.specs.mirror.Levels.{Leveled}
use Rattle.value_lane_texts.specs.mirror.Going.{Going}
use Rattle.value_lane_texts.proofs.texts.writing.Goals as goal

-- what a turn has been told of a character that stops a run and is no mark
abbrev sign_by : {table s : List ℕ} {at i g t : ℕ} {c : Char} → at + g + t ≤ i → (Leveled table → Going s at i g t) → i < length s → NextChar (drop i s) c → is_txt c.code ≡ true
    → get_or s i 0 ≢ ampersand → get_or s i 0 ≢ less → get_or s i 0 ≢ greater → AtSign
sign_by {table} {s} {at} {i} {g} {t} {c} most going within next class first left right =
    let some = next_some _ _ next class in
    record { table = table; s = s; at = at; i = i; g = g; t = t; c = c; m = c.len; most = most; going = going; within = within; next = next; some = some; width = next_whole _ _ _ within first next some; left = left; right = right; class = class }

pub loop-i-init : goal.loop-i-init
loop-i-init c = (omega (arith, c.long_run-i.ensures.0), λ l. going_run _ _ _ _ _ _ (going_start _ _) (c.long_run-i.ensures.1 l))

pub closed-requires : goal.closed-requires
closed-requires c = (c.loop-i.invariant.0, c.loop-i-test.true, c.if-b-eq60.true)

pub returns-then-b-eq60 : goal.returns-then-b-eq60
returns-then-b-eq60 c = λ l. c.closed.ensures (c.loop-i.invariant.1 l)

pub returns-then-b-eq62 : goal.returns-then-b-eq62
returns-then-b-eq62 c = λ l. c.slow.ensures

pub overflow_add-tails : goal.overflow_add-tails
overflow_add-tails c = omega (arith, c.loop-i.invariant.0, (c.is_umlaut.ensures c.if-is_umlaut.true).room)

pub overflow_add-i : goal.overflow_add-i
overflow_add-i c = omega (arith, (c.is_umlaut.ensures c.if-is_umlaut.true).room)

pub loop-i-smaller-then-is_umlaut : goal.loop-i-smaller-then-is_umlaut
loop-i-smaller-then-is_umlaut c = omega (arith, c.run-i.ensures.0, c.loop-i-test.true)

pub loop-i-preserved-then-is_umlaut : goal.loop-i-preserved-then-is_umlaut
loop-i-preserved-then-is_umlaut c = (
  omega (arith, c.loop-i.invariant.0, c.run-i.ensures.0),
  λ l. going_run _ _ _ _ _ _ (going_umlaut _ _ _ _ _ (c.loop-i.invariant.1 l) (c.is_umlaut.ensures c.if-is_umlaut.true)) (c.run-i.ensures.1 l),
)

pub returns-then-len-eq0 : goal.returns-then-len-eq0
returns-then-len-eq0 c = λ l. c.slow-then-len-eq0.ensures

pub overflow_sub-gone : goal.overflow_sub-gone
overflow_sub-gone c = omega (arith, c.if-len-eq0.false)

pub overflow_add-gone : goal.overflow_add-gone
overflow_add-gone c =
    let told : AtSign = at_entity _ _ _ _ _ _ _ c.loop-i.invariant.0 c.loop-i.invariant.1 c.loop-i-test.true c.if-b-eq38.true c.entity_len-len.ensures c.if-len-eq0.false in
    omega (arith, told.most, at_room told)

pub overflow_add-i-then-b-eq38 : goal.overflow_add-i-then-b-eq38
overflow_add-i-then-b-eq38 c =
    let told : AtSign = at_entity _ _ _ _ _ _ _ c.loop-i.invariant.0 c.loop-i.invariant.1 c.loop-i-test.true c.if-b-eq38.true c.entity_len-len.ensures c.if-len-eq0.false in
    omega (arith, at_room told)

pub loop-i-smaller-then-b-eq38 : goal.loop-i-smaller-then-b-eq38
loop-i-smaller-then-b-eq38 c =
    let told : AtSign = at_entity _ _ _ _ _ _ _ c.loop-i.invariant.0 c.loop-i.invariant.1 c.loop-i-test.true c.if-b-eq38.true c.entity_len-len.ensures c.if-len-eq0.false in
    omega (arith, c.run-i-then-b-eq38.ensures.0, told.some, told.within)

pub loop-i-preserved-then-b-eq38 : goal.loop-i-preserved-then-b-eq38
loop-i-preserved-then-b-eq38 c =
    let told : AtSign = at_entity _ _ _ _ _ _ _ c.loop-i.invariant.0 c.loop-i.invariant.1 c.loop-i-test.true c.if-b-eq38.true c.entity_len-len.ensures c.if-len-eq0.false in
    (omega (arith, told.most, told.some, c.run-i-then-b-eq38.ensures.0), λ l. going_run _ _ _ _ _ _ (at_more told _ _ refl (omega arith) l) (c.run-i-then-b-eq38.ensures.1 l))

pub returns-then-not-is_txt : goal.returns-then-not-is_txt
returns-then-not-is_txt c = λ l. c.slow-then-not-is_txt.ensures

pub overflow_sub-tails : goal.overflow_sub-tails
overflow_sub-tails c =
    let told = sign_by c.loop-i.invariant.0 c.loop-i.invariant.1 c.loop-i-test.true c.next_char-c.ensures (sym c.is_txt.ensures ∙ not-false _ c.if-not-is_txt.false-raw) c.if-b-eq38.false c.if-b-eq60.false c.if-b-eq62.false in
    omega (arith, told.some)

pub overflow_add-tails-in-loop-i : goal.overflow_add-tails-in-loop-i
overflow_add-tails-in-loop-i c =
    let told = sign_by c.loop-i.invariant.0 c.loop-i.invariant.1 c.loop-i-test.true c.next_char-c.ensures (sym c.is_txt.ensures ∙ not-false _ c.if-not-is_txt.false-raw) c.if-b-eq38.false c.if-b-eq60.false c.if-b-eq62.false in
    omega (arith, told.most, at_room told)

pub overflow_add-i-in-loop-i : goal.overflow_add-i-in-loop-i
overflow_add-i-in-loop-i c =
    let told = sign_by c.loop-i.invariant.0 c.loop-i.invariant.1 c.loop-i-test.true c.next_char-c.ensures (sym c.is_txt.ensures ∙ not-false _ c.if-not-is_txt.false-raw) c.if-b-eq38.false c.if-b-eq60.false c.if-b-eq62.false in
    omega (arith, at_room told)

pub loop-i-smaller : goal.loop-i-smaller
loop-i-smaller c =
    let told = sign_by c.loop-i.invariant.0 c.loop-i.invariant.1 c.loop-i-test.true c.next_char-c.ensures (sym c.is_txt.ensures ∙ not-false _ c.if-not-is_txt.false-raw) c.if-b-eq38.false c.if-b-eq60.false c.if-b-eq62.false in
    omega (arith, c.run-i-in-loop-i.ensures.0, told.some, told.within)

pub loop-i-preserved : goal.loop-i-preserved
loop-i-preserved c =
    let told = sign_by c.loop-i.invariant.0 c.loop-i.invariant.1 c.loop-i-test.true c.next_char-c.ensures (sym c.is_txt.ensures ∙ not-false _ c.if-not-is_txt.false-raw) c.if-b-eq38.false c.if-b-eq60.false c.if-b-eq62.false in
    (omega (arith, told.most, told.some, c.run-i-in-loop-i.ensures.0), λ l. going_run _ _ _ _ _ _ (at_more told _ _ (omega arith) refl l) (c.run-i-in-loop-i.ensures.1 l))

pub returns : goal.returns
returns c = λ l. c.slow-2.ensures
