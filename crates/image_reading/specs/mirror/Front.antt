-- A mirror: how the reader finds where the items begin. Assumes nothing.
use Rattle.std.specs.Prelude.{◌≡◌, ◌≢◌, ◌⊎◌, Bool, true, false, List, ℕ, ◌+◌, ◌*◌, ◌≤◌, ◌<◌, length, get_or, take, Option, None, Some}
use Rattle.answer.specs.Table.{limit, accepted}
use Rattle.text.specs.Bytes.{ascii}
use Rattle.image_reading.specs.Reads.{HouseReads, HouseCounts}
use Rattle.image_reading.specs.Forms.{Headed, Reading}

-- five bytes or more, of which the first three are `KTO`
abbrev pub Kto : List ℕ → Type 0
Kto s = (5 ≤ length s) × (take 3 s ≡ ascii "KTO")

pub record Named (s : List ℕ) (b : Bool) : Type 0 where
  pub yes' : b ≡ true → Kto s
  pub no' : b ≡ false → (length s < 5) ⊎ (take 3 s ≢ ascii "KTO")

-- the version, in 16 bits after the name
abbrev pub version_of : List ℕ → ℕ
version_of s = 256 * get_or s 3 0 + get_or s 4 0

-- the byte after it, of a list; or none, where it is missing or no list's
abbrev pub KindByte : List ℕ → Option ℕ → Type 0
KindByte s (Some k) = (k ≢ 0) × (k ≤ 2) × (k ≡ get_or s 5 0)
KindByte s None = (get_or s 5 0 ≡ 0) ⊎ (2 < get_or s 5 0)

-- how a run of any length begins; where as an image does, the answer so far is the header's length; where as none, what a reader answers and counts
pub record Starts (run : List ℕ) (r : Reading) : Type 0 where
  pub head : Headed run r.kind r.from
  pub so : r.kind ≢ 0 → (r.answer ≡ accepted r.from) × (r.count ≡ 0)
  pub why : r.kind ≡ 0 → (r.answer.code ≢ 0) × (length run ≤ limit → HouseReads run r.answer) × HouseCounts run r.answer r.count
