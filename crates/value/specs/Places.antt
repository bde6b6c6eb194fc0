-- Where the parts of a value stand, in its bytes and in its text, and how many bytes it has: what follows from `bytes` and the texts of days and
-- moments, by names for the code and its mirrors. Assumes nothing.
use Rattle.std.specs.Prelude.{ℕ, ◌+◌}

-- "NUM: 64 bits"; "AMT: three currency letters, scale byte, coefficient in 64 bits"; "DATE: 16-bit year, month, day"; "DTM: DATE, hour, minute,
-- second, 32-bit microseconds, 16-bit offset"
abbrev pub number_size : ℕ
number_size = 8

abbrev pub stored_scale : ℕ
stored_scale = 3

abbrev pub stored_coefficient : ℕ
stored_coefficient = 4

abbrev pub amount_size : ℕ
amount_size = 12

abbrev pub stored_month : ℕ
stored_month = 2

abbrev pub stored_day : ℕ
stored_day = 3

abbrev pub date_size : ℕ
date_size = 4

abbrev pub stored_hour : ℕ
stored_hour = 4

abbrev pub stored_minute : ℕ
stored_minute = 5

abbrev pub stored_second : ℕ
stored_second = 6

abbrev pub clock_size : ℕ
clock_size = 3

abbrev pub stored_micros : ℕ
stored_micros = 7

abbrev pub stored_offset : ℕ
stored_offset = 11

abbrev pub moment_size : ℕ
moment_size = 13

-- "16-bit byte length": no longer text has one; and a value of such a length with it, the longest that there is
abbrev pub longest_text : ℕ
longest_text = 65535

abbrev pub longest_value : ℕ
longest_value = 2 + longest_text

-- what is written for such a text at most, each byte as `&amp;`, which has four more; for a BOOL, `false`
abbrev pub longest_raw : ℕ
longest_raw = 327675

abbrev pub most_more : ℕ
most_more = 4

abbrev pub longest_truth : ℕ
longest_truth = 5

-- "`YYYY-MM-DD`", `T`, "`hh:mm:ss`", then the fraction; in a zone's "sign `hh:mm`" the minutes
abbrev pub written_month : ℕ
written_month = 5

abbrev pub written_day : ℕ
written_day = 8

abbrev pub written_clock : ℕ
written_clock = 10

abbrev pub written_hour : ℕ
written_hour = 11

abbrev pub written_minute : ℕ
written_minute = 14

abbrev pub written_second : ℕ
written_second = 17

abbrev pub written_fraction : ℕ
written_fraction = 19

abbrev pub zone_minutes : ℕ
zone_minutes = 4

-- after a year or an hour two more parts with a sign before each; a point with at most six digits, and the place after three of them; the zone's
-- bytes; those of the longest moment
abbrev pub two_signed : ℕ
two_signed = 6

abbrev pub fraction_size : ℕ
fraction_size = 7

abbrev pub written_zone : ℕ
written_zone = 23

abbrev pub zone_size : ℕ
zone_size = 6

abbrev pub longest_moment : ℕ
longest_moment = 32
