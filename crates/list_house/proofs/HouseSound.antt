-- The constants say the house list, and they are sound: two computed equations. Assumes nothing.
-- Written by tools/lists/make.
use mathlib.Core.Path.{◌≡◌, refl}
use mathlib.Core.Bool.{true, ◌&&◌}
use Prim.Native.Nat.{ℕ}
use Rattle.text.specs.Lists.{same}
use Rattle.text.specs.Bytes.{is_capital, is_name_start, is_name_part, is_unmarked}
use Rattle.list.specs.Words.{first_from}
use Rattle.list.specs.Listing.{Child, row_at, next_due}
use Rattle.list.specs.WellFormed.{WellFormed}
use Rattle.list.specs.tables.Table.{cell, words, row_of, rows_from, rules_from, list_of}
use Rattle.list.specs.tables.Sound.{next_child, first_of, second_of, level_in, Sound}
use Rattle.list.specs.tables.Test.{every, begins, among, words_ok, row_tests, rule_tests, derived_tests, well, derived, sound}
use Rattle.list.specs.EachRow.{EachRow}
use Rattle.list.proofs.sound.EachRow.{each_row}
use Rattle.list.proofs.sound.Sound.{is_sound}
use Rattle.list_house.specs.House.{stored_house, stored_report, house, report}
use Rattle.list_house.specs.mirror.HouseTable.{stored_house_rows, stored_report_rows, house_rows, report_rows, house_pool}

-- ---- camt.053.001.08 as images keep to it

pub stored_house_is : list_of stored_house_rows house_pool ≡ stored_house
unfolding stored_house stored_house_rows house_pool cell words row_of rows_from rules_from list_of
stored_house_is = refl

stored_house_test : (well stored_house && derived stored_house stored_house_rows) ≡ true
unfolding stored_house stored_house_rows cell same is_capital is_unmarked is_name_start is_name_part first_from row_at next_due next_child first_of second_of level_in every begins among words_ok row_tests rule_tests derived_tests well derived
stored_house_test = refl

stored_house_passes : sound stored_house_rows house_pool ≡ true
unfolding sound
stored_house_passes = rw stored_house_is stored_house_test

pub stored_house_sound : Sound stored_house_rows house_pool
stored_house_sound = is_sound stored_house_rows house_pool stored_house_passes

pub stored_house_well : WellFormed stored_house
stored_house_well = rw stored_house_is at stored_house_sound.well

-- and so every row keeps to the rules
pub stored_house_row : (p r : ℕ) → Child stored_house p r → EachRow stored_house p r
stored_house_row p r c = each_row stored_house stored_house_well p r c

-- ---- camt.052.001.08 as images keep to it

pub stored_report_is : list_of stored_report_rows house_pool ≡ stored_report
unfolding stored_report stored_report_rows house_pool cell words row_of rows_from rules_from list_of
stored_report_is = refl

stored_report_test : (well stored_report && derived stored_report stored_report_rows) ≡ true
unfolding stored_report stored_report_rows cell same is_capital is_unmarked is_name_start is_name_part first_from row_at next_due next_child first_of second_of level_in every begins among words_ok row_tests rule_tests derived_tests well derived
stored_report_test = refl

stored_report_passes : sound stored_report_rows house_pool ≡ true
unfolding sound
stored_report_passes = rw stored_report_is stored_report_test

pub stored_report_sound : Sound stored_report_rows house_pool
stored_report_sound = is_sound stored_report_rows house_pool stored_report_passes

pub stored_report_well : WellFormed stored_report
stored_report_well = rw stored_report_is at stored_report_sound.well

-- and so every row keeps to the rules
pub stored_report_row : (p r : ℕ) → Child stored_report p r → EachRow stored_report p r
stored_report_row p r c = each_row stored_report stored_report_well p r c

-- ---- camt.053.001.08 as files are asked

pub house_is : list_of house_rows house_pool ≡ house
unfolding house house_rows house_pool cell words row_of rows_from rules_from list_of
house_is = refl

house_test : (well house && derived house house_rows) ≡ true
unfolding house house_rows cell same is_capital is_unmarked is_name_start is_name_part first_from row_at next_due next_child first_of second_of level_in every begins among words_ok row_tests rule_tests derived_tests well derived
house_test = refl

house_passes : sound house_rows house_pool ≡ true
unfolding sound
house_passes = rw house_is house_test

pub house_sound : Sound house_rows house_pool
house_sound = is_sound house_rows house_pool house_passes

pub house_well : WellFormed house
house_well = rw house_is at house_sound.well

-- and so every row keeps to the rules
pub house_row : (p r : ℕ) → Child house p r → EachRow house p r
house_row p r c = each_row house house_well p r c

-- ---- camt.052.001.08 as files are asked

pub report_is : list_of report_rows house_pool ≡ report
unfolding report report_rows house_pool cell words row_of rows_from rules_from list_of
report_is = refl

report_test : (well report && derived report report_rows) ≡ true
unfolding report report_rows cell same is_capital is_unmarked is_name_start is_name_part first_from row_at next_due next_child first_of second_of level_in every begins among words_ok row_tests rule_tests derived_tests well derived
report_test = refl

report_passes : sound report_rows house_pool ≡ true
unfolding sound
report_passes = rw report_is report_test

pub report_sound : Sound report_rows house_pool
report_sound = is_sound report_rows house_pool report_passes

pub report_well : WellFormed report
report_well = rw report_is at report_sound.well

-- and so every row keeps to the rules
pub report_row : (p r : ℕ) → Child report p r → EachRow report p r
report_row p r c = each_row report report_well p r c
