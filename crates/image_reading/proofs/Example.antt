-- On document 01's image, as it was printed and as it is written now, the reader and the picker answer as docs/IMAGE.md says. Assumes nothing.
use mathlib.Core.Path.{◌≡◌, refl, sym, ◌∙◌, ap}
use mathlib.Core.Bool.{true}
use mathlib.Core.List.{List, [], ◌∷◌}
use mathlib.Core.Option.{Option, none, some}
use Prim.Native.Nat.{ℕ, zero, suc, ◌+◌, ◌≤◌, ◌<◌}
use native.Mathlib.Omega.{arith}
use lib.ListN.{length, get_or, take}
use lib.Seq.{slice}
use Rattle.answer.specs.declared.Answer.{Answer}
use Rattle.answer.specs.Table.{accepted, broken_image, picked}
use Rattle.text.specs.Bytes.{ascii, is_capital}
use Rattle.text.specs.Numbers.{number_from}
use Rattle.text_characters.specs.mirror.Decoding.{decoded}
use Rattle.list.specs.tables.Numbers.{is_group_in}
use Rattle.list.specs.tables.Table.{cell, list_of}
use Rattle.list_house.specs.mirror.HouseTable.{stored_house_rows, house_pool}
use Rattle.list_house.specs.mirror.Rows.{kept_rows}
use Rattle.list_house.proofs.HouseSound.{stored_house_sound}
use Rattle.list_house.proofs.Lists.{stored_is}
use Rattle.value.specs.types.Text.{is_ref, is_txt}
use Rattle.value.specs.mirror.Tests.{is_byte, every, some as any, apart as slashes}
use Rattle.value.specs.mirror.Chars.{chars_from}
use Rattle.value.specs.mirror.Judges.{is_reference, text_from, is_writing, is_currency, is_place, is_amount, is_real, is_day, is_moment}
use Rattle.value.specs.mirror.Ends.{head, width, is_value, begins, value_end}
use Rattle.image.specs.mirror.Step.{is_leaf, again, owed, before, mated, in_order, beside, inside, climbs, follows, rests, ended}
use Rattle.image.specs.mirror.Ends.{item_end}
use Rattle.image.specs.mirror.Run.{Turn, stop, next, Comes, halts, moves, steps, closing, head_of, turn, Behind, rooted, hunt, leaves, found}
use Rattle.image.specs.Example.{printed_body, printed, written}
use Rattle.image_reading.specs.Reads.{HouseReads, HouseCounts, HousePicks}
use Rattle.image_reading.specs.Forms.{Reading, Begun, Fronts}
use Rattle.image_reading.specs.mirror.Front.{version_of}
use Rattle.image_reading.proofs.Heads.{good_kind}
use Rattle.image_reading.proofs.House.{Says, starts_former, starts_current, front_starts, begins_with, begins_not, begun_reads, begun_counts, begun_picks}

-- at most k turns, computed
abbrev on : {A : Type 0} → (ℕ → ℕ → Option A) → Turn A → Option A
on f (stop a) = some a
on f (next x j) = f x j

turns : {A : Type 0} → (ℕ → ℕ → Turn A) → ℕ → ℕ → ℕ → Option A
turns f zero q i = none
turns f (suc k) q i = on (turns f k) (f q i)

-- where they come to a result, it is the one that comes
turns_come : {A : Type 0} (f : ℕ → ℕ → Turn A) (k q i : ℕ) (a : A) → turns f k q i ≡ some a → Comes f a q i
unfolding turns
turns_come f zero q i a e = let z : ◌≡◌ {A = ℕ} 0 1 = cc in absurd (omega arith)
turns_come {A} f (suc k) q i a e = go (f q i) refl e (λ x j. turns_come f k x j a)
  where
    go : (t : Turn A) → f q i ≡ t → on (turns f k) t ≡ some a → ((x j : ℕ) → turns f k x j ≡ some a → Comes f a x j) → Comes f a q i
    go (stop b) d e h = let z : b ≡ a = cc in halts (d ∙ ap stop z)
    go (next x j) d e h = moves x j d (h x j e)

-- how many of them go on
abbrev further : {A : Type 0} → (ℕ → ℕ → ℕ) → Turn A → ℕ
further f (stop a) = 0
further f (next x j) = suc (f x j)

paces : {A : Type 0} → (ℕ → ℕ → Turn A) → ℕ → ℕ → ℕ → ℕ
paces f zero q i = 0
paces f (suc k) q i = further (paces f k) (f q i)

paces_steps : {A : Type 0} (f : ℕ → ℕ → Turn A) (k q i : ℕ) (a : A) → turns f k q i ≡ some a → (g : Comes f a q i) → steps g ≡ paces f k q i
unfolding turns paces
paces_steps f zero q i a e g = let z : ◌≡◌ {A = ℕ} 0 1 = cc in absurd (omega arith)
paces_steps f (suc k) q i a e (halts d) = sym (ap (further (paces f k)) d)
paces_steps f (suc k) q i a e (moves x j d g) = ap suc (paces_steps f k x j a (sym (ap (on (turns f k)) d) ∙ e) g) ∙ sym (ap (further (paces f k)) d)

-- the reader over the example, and over all of it but its last byte: from after the root's item
abbrev Read : List ℕ → ℕ → Answer → ℕ → Type 0
Read s i a n = (turns (turn stored_house_rows (item_end stored_house_rows s) s) 30 1 i ≡ some a) × (paces (turn stored_house_rows (item_end stored_house_rows s) s) 30 1 i ≡ n)

printed_turns : Read printed 6 (accepted 67) 18 × Read (take 66 printed) 6 (broken_image 66) 18
unfolding printed_body printed turn hunt head_of follows ended is_leaf is_group_in again owed before mated in_order beside inside climbs rests cell stored_house_rows item_end value_end begins is_value width head is_reference text_from is_writing is_currency is_place is_amount is_real is_day is_moment chars_from is_byte every any slashes turns paces number_from is_ref is_txt decoded is_capital
printed_turns = ((refl, refl), (refl, refl))

written_turns : Read written 7 (accepted 68) 18 × Read (take 67 written) 7 (broken_image 67) 18
unfolding printed_body written turn hunt head_of follows ended is_leaf is_group_in again owed before mated in_order beside inside climbs rests cell stored_house_rows item_end value_end begins is_value width head is_reference text_from is_writing is_currency is_place is_amount is_real is_day is_moment chars_from is_byte every any slashes turns paces number_from is_ref is_txt decoded is_capital
written_turns = ((refl, refl), (refl, refl))

-- the picker, over items from a place on: where the value of the n-th leaf of row r stands, and its part
record Found (s : List ℕ) (from r n p : ℕ) (a : Answer) (part : List ℕ) : Type 0 where
  leafy : is_leaf stored_house_rows r ≡ true
  hunts : turns (hunt stored_house_rows (item_end stored_house_rows s) s r) 30 n from ≡ some p
  some' : 0 < p
  says : a ≡ picked r (p + head_of stored_house_rows r)
  holds : part ≡ slice (p + head_of stored_house_rows r) (item_end stored_house_rows s r p) s

-- MsgId's two bytes, the balance's amount
abbrev identified : List ℕ
identified = 0x4D ∷ 0x31 ∷ []

abbrev balance : List ℕ
balance = 0x45 ∷ 0x55 ∷ 0x52 ∷ 0x00 ∷ 0x00 ∷ 0x00 ∷ 0x00 ∷ 0x00 ∷ 0x00 ∷ 0x00 ∷ 0x00 ∷ 0x05 ∷ []

printed_found : Found printed 5 4 0 9 (picked 4 11) identified × Found printed 5 19 0 46 (picked 19 46) balance
unfolding printed_body printed turn hunt head_of follows ended is_leaf is_group_in again owed before mated in_order beside inside climbs rests cell stored_house_rows item_end value_end begins is_value width head is_reference text_from is_writing is_currency is_place is_amount is_real is_day is_moment chars_from is_byte every any slashes turns paces number_from is_ref is_txt decoded is_capital
printed_found = (
  record { leafy = refl; hunts = refl; some' = omega arith; says = refl; holds = refl },
  record { leafy = refl; hunts = refl; some' = omega arith; says = refl; holds = refl },
)

written_found : Found written 6 4 0 10 (picked 4 12) identified × Found written 6 19 0 47 (picked 19 47) balance
unfolding printed_body written turn hunt head_of follows ended is_leaf is_group_in again owed before mated in_order beside inside climbs rests cell stored_house_rows item_end value_end begins is_value width head is_reference text_from is_writing is_currency is_place is_amount is_real is_day is_moment chars_from is_byte every any slashes turns paces number_from is_ref is_txt decoded is_capital
written_found = (
  record { leafy = refl; hunts = refl; some' = omega arith; says = refl; holds = refl },
  record { leafy = refl; hunts = refl; some' = omega arith; says = refl; holds = refl },
)

-- how it begins: n bytes, of version v, and an item of the root at a place
record Shaped (s : List ℕ) (n v from : ℕ) : Type 0 where
  long : length s ≡ n
  named : take 3 s ≡ ascii "KTO"
  versioned : version_of s ≡ v
  root : get_or s from 0 ≡ 1

printed_shaped : Shaped printed 67 1 5 × Shaped (take 66 printed) 66 1 5
unfolding printed_body printed
printed_shaped = (record { long = refl; named = refl; versioned = refl; root = refl }, record { long = refl; named = refl; versioned = refl; root = refl })

written_shaped : Shaped written 68 2 6 × Shaped (take 67 written) 67 2 6
unfolding printed_body written
written_shaped = (record { long = refl; named = refl; versioned = refl; root = refl }, record { long = refl; named = refl; versioned = refl; root = refl })

written_kind : (get_or written 5 0 ≡ 1) × (get_or (take 67 written) 5 0 ≡ 1)
unfolding printed_body written
written_kind = (refl, refl)

says : Says stored_house_rows 1
says = record { sound = stored_house_sound; is = λ l i b. ap (λ (k : ℕ). list_of (kept_rows k) house_pool) b ∙ stored_is l i }

abbrev begun : ℕ → ℕ → ℕ → Reading
begun n from count = record { answer = accepted n; kind = 1; from = from; count = count }

fronted_former : (s : List ℕ) (n : ℕ) → Shaped s n 1 5 → 5 < n → n ≤ 67 → Fronts s (begun 5 5 0)
fronted_former s n h l u = front_starts s (begun 5 5 0) (omega (arith, h.long)) (starts_former s (begun 5 5 0) (omega (arith, h.long), h.named) h.versioned refl refl (refl, refl))

fronted_current : (s : List ℕ) (n : ℕ) → Shaped s n 2 6 → get_or s 5 0 ≡ 1 → 6 < n → n ≤ 68 → Fronts s (begun 6 6 0)
fronted_current s n h b l u =
    front_starts s (begun 6 6 0) (omega (arith, h.long))
    (starts_current s (begun 6 6 0) (omega (arith, h.long), h.named) h.versioned 1 (good_kind s 1 (λ z. omega arith) (sym b) (omega arith)) refl refl (refl, refl))

-- read as n bytes, or broken off at a place
module _ (s : List ℕ) (n v from : ℕ) (h : Shaped s n v from) (l : from < n) (f : Fronts s (begun from from 0)) where
  ran : (a : Answer) (m : ℕ) → Read s (from + 1) a m → Behind stored_house_rows (item_end stored_house_rows s) s from a (suc m + closing a)
  ran a m e =
      let g = turns_come (turn stored_house_rows (item_end stored_house_rows s) s) 30 1 (from + 1) a e.0 in
      let k = paces_steps (turn stored_house_rows (item_end stored_house_rows s) s) 30 1 (from + 1) a e.0 g ∙ e.1 in
      rooted (omega (arith, h.long)) h.root (record { goes = g; many = ap (λ (x : ℕ). suc x + closing a) (sym k) })

  runs : (k m : ℕ) → Read s (from + 1) (accepted k) m → Begun s (begun k from (suc m + 1))
  unfolding closing
  runs k m e = begins_with s (begun from from 0) f (λ z. omega arith) stored_house_rows says (accepted k) (suc m + 1) (ran (accepted k) m e) refl

  breaks : (k m : ℕ) → Read s (from + 1) (broken_image k) m → HouseReads s (broken_image k) × HouseCounts s (broken_image k) (suc m + 0)
  unfolding closing
  breaks k m e =
      let b = (begins_not s (begun from from 0) f (λ z. omega arith) stored_house_rows says (broken_image k) (suc m + 0) (ran (broken_image k) m e) (λ z. omega arith) off (refl, refl, refl, refl)).0 in
      (begun_reads s off b, begun_counts s off b)
    where
      off : Reading
      off = record { answer = broken_image k; kind = 0; from = 0; count = suc m + 0 }

printed_runs : Begun printed (begun 67 5 20)
printed_runs = let h = printed_shaped.0 in runs printed 67 1 5 h (omega arith) (fronted_former printed 67 h (omega arith) (omega arith)) 67 18 printed_turns.0

written_runs : Begun written (begun 68 6 20)
written_runs = let h = written_shaped.0 in runs written 68 2 6 h (omega arith) (fronted_current written 68 h written_kind.0 (omega arith) (omega arith)) 68 18 written_turns.0

-- "its 67 bytes are still read", 19 items and the closing 0
pub example_reads : HouseReads printed (accepted 67)
example_reads = begun_reads printed (begun 67 5 20) printed_runs

pub example_counts : HouseCounts printed (accepted 67) 20
example_counts = begun_counts printed (begun 67 5 20) printed_runs

-- one less is no image, and all its items begin one
pub example_cut : HouseReads (take 66 printed) (broken_image 66) × HouseCounts (take 66 printed) (broken_image 66) 19
example_cut = let h = printed_shaped.1 in breaks (take 66 printed) 66 1 5 h (omega arith) (fronted_former (take 66 printed) 66 h (omega arith) (omega arith)) 66 18 printed_turns.1

-- so are the 68 bytes, "version 2 and kind byte 1"
pub example_reads_now : HouseReads written (accepted 68)
example_reads_now = begun_reads written (begun 68 6 20) written_runs

pub example_counts_now : HouseCounts written (accepted 68) 20
example_counts_now = begun_counts written (begun 68 6 20) written_runs

pub example_cut_now : HouseReads (take 67 written) (broken_image 67) × HouseCounts (take 67 written) (broken_image 67) 19
example_cut_now =
    let h = written_shaped.1 in breaks (take 67 written) 67 2 6 h (omega arith) (fronted_current (take 67 written) 67 h written_kind.1 (omega arith) (omega arith)) 67 18 written_turns.1

module _ (s : List ℕ) (k from count : ℕ) (b : Begun s (begun k from count)) where
  picks : (r n p : ℕ) (a : Answer) (part : List ℕ) → Found s from r n p a part → HousePicks s r n a part
  picks r n p a part f =
      begun_picks s stored_house_rows (begun k from count) says b refl r n a part
      (found p f.some' (leaves f.leafy (turns_come (hunt stored_house_rows (item_end stored_house_rows s) s r) 30 n from p f.hunts)) f.says f.holds)

pub example_picks : HousePicks printed 4 0 (picked 4 11) identified × HousePicks printed 19 0 (picked 19 46) balance
example_picks = let p = picks printed 67 5 20 printed_runs in (p 4 0 9 (picked 4 11) _ printed_found.0, p 19 0 46 (picked 19 46) _ printed_found.1)

pub example_picks_now : HousePicks written 4 0 (picked 4 12) identified × HousePicks written 19 0 (picked 19 47) balance
example_picks_now = let p = picks written 68 6 20 written_runs in (p 4 0 10 (picked 4 12) _ written_found.0, p 19 0 47 (picked 19 47) _ written_found.1)
