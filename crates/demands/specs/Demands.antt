-- The three demands on the unit, each as one statement. Read this first: `demand1`, `demand2` and `demand3` of proofs/Demands prove them. Assumes nothing.
--
-- What the statements speak of, and where it is defined, in the documents' words:
--   Answer, accepted, too_long ..   an answer, and each line of the table "Numbers handed back"          answer/specs/Table
--   asked, asked_of b, stored       the lists, one for each kind: those of files, those of images        list_house/specs/Lists
--   Withdrawn l i                  an item of a row that no file of the list has any more               file_letter/specs/Stale
--   Checks s d a d'                what `check` answers to a file s and a buffer d, and leaves there     file/specs/Checks
--   Finds s a                      what it answers to every buffer that is as long as the file           file/specs/Checks
--   Filed s l c                    a good file with its list and its content                             file/specs/Checks
--   Chosen m l                     "The namespace chooses the list"                                      file/specs/Checks
--   Whole s, message_in w           a file within the limit, of UTF-8, of house XML; its message          file/specs/File
--   image_of .. l c                 the image of a content of a list, of version 2                        file/specs/File, image/specs/Image
--   First .. l m f                 what is found first in a message in document order, 4 to 13           file_walk/specs/First
--   Meets IsValue l c              a content that meets the list, its types and its rules                list/specs/Content
--   Front l h                      how an image begins, of version 1 or 2                                image/specs/Place
--   HouseReads, HousePicks         what `read` answers; what `pick` answers and `picked` hands back      image_reading/specs/Reads
--   Next h a h'                    what `next` of the reader that holds its run answers, and its place   image_hold/specs/Held
-- These are what the public calls promise: `unit::check`, `unit::read`, `unit::pick`, `unit::picked`, `file_lane::measure`, `image_hold::next`.
use Rattle.std.specs.Prelude.{◌≡◌, ◌⊎◌, ◌↔◌, List, [], ◌∷◌, ◌++◌, ℕ, ◌≤◌, ◌<◌, length, take, drop, Ok, Err}
use Rattle.answer.specs.declared.Answer.{Answer}
use Rattle.answer.specs.Table as table
use Rattle.answer.specs.Table.{accepted, limit, too_long, not_utf8, not_house_xml, no_room, no_header, wrong_version, broken_image, no_such_leaf}
use Rattle.text_characters.specs.Utf8.{Utf8}
use Rattle.list.specs.Listing.{Leaf, Listing}
use Rattle.list.specs.Content.{Content, items, Meets}
use Rattle.list.specs.Within.{Among}
use Rattle.list_house.specs.Lists.{asked, asked_of, stored}
use Rattle.xml.specs.House.{HouseXml, Viable}
use Rattle.xml.specs.Message.{Inside, message_of}
use Rattle.value.specs.Value.{Value, IsValue}
use Rattle.value.specs.parts.Former.{present}
use Rattle.value.specs.Spelled.{Spelled, SpelledByEither}
use Rattle.file_walk.specs.Types.{Judge, Decides}
use Rattle.file_walk.specs.First.{Found, First, first_violation}
use Rattle.file_walk.specs.Denotes.{Has}
use Rattle.image.specs.Image.{body}
use Rattle.image.specs.Kinds.{values}
use Rattle.image.specs.Place.{Front}
use Rattle.image_reading.specs.Reads.{HouseReads, HousePicks}
use Rattle.image_hold.specs.Held.{Next}
use Rattle.image_hold.specs.declared.held.Held.{Held}
use Rattle.file.specs.Instance.{house_types, house_kinds}
use Rattle.file.specs.File.{Whole, message_in, image_of}
use Rattle.file.specs.Checks.{Chosen, Checks, Filed, Finds}
use Rattle.file_letter.specs.Stale.{NoneOf, Withdrawn}
use Rattle.demands.specs.Causes.{inner, BadValue, BadAttributes}
use Rattle.text.specs.Lists.{LongestBeginning}

-- "the kind being part of the content": a list, and a content of it
abbrev pub Kinded : Type 0
Kinded = Listing × Content Value

-- s is a good file, and c its list and its content
abbrev pub HouseFile : List ℕ → Kinded → Type 0
HouseFile s c = Filed s c.0 c.1

-- the image of a content: "only 2 is written from now on"
abbrev pub house_image : Kinded → List ℕ
house_image c = image_of house_kinds c.0 c.1

-- ---- demand 1: "any bytes may be handed in at every public entry; each call ends with an acceptance or one numbered refusal, and a refusal changes no
-- byte of the lent buffer"

-- some result fits, and no other
pub record Only {A : Type 0} (Fits : A → Type 0) : Type 0 where
  pub result : A
  pub fits : Fits result
  pub one : (x : A) → Fits x → x ≡ result

-- a code from m to n
abbrev pub CodeFrom : ℕ → ℕ → Answer → Type 0
CodeFrom m n a = (m ≤ a.code) × (a.code ≤ n)

-- the numbered refusals of a file, of a run, of a pick
abbrev pub FileRefused : Answer → Type 0
FileRefused a = (a ≡ too_long) ⊎ ((a ≡ not_utf8 a.place) ⊎ ((a ≡ not_house_xml a.place) ⊎ (CodeFrom 4 13 a ⊎ (a ≡ no_room a.place))))

abbrev pub RunRefused : Answer → Type 0
RunRefused a = (a ≡ too_long) ⊎ ((a ≡ no_header) ⊎ ((a ≡ wrong_version) ⊎ (a ≡ broken_image a.place)))

abbrev pub PickRefused : Answer → Type 0
PickRefused a = RunRefused a ⊎ (a ≡ no_such_leaf)

pub record Demand1 : Type 0 where
  -- check, of every file and every buffer: the answer, and the buffer after the call
  pub checks : (s d : List ℕ) → Only (λ (o : Answer × List ℕ). Checks s d o.0 o.1)
  pub checked : (s d : List ℕ) (a : Answer) (d' : List ℕ) → Checks s d a d' → (length d' ≡ length d) × ((a ≡ accepted a.place) ⊎ (FileRefused a × (d' ≡ d)))
  -- of the file alone
  pub finds : (s : List ℕ) → Only (Finds s)
  -- read, of every run
  pub reads : (run : List ℕ) → Only (HouseReads run)
  pub read : (run : List ℕ) (a : Answer) → HouseReads run a → (a ≡ accepted a.place) ⊎ RunRefused a
  -- pick, of every run, row and number: the answer, and the part that is handed back
  pub picks : (run : List ℕ) (r n : ℕ) → Only (λ (o : Answer × List ℕ). HousePicks run r n o.0 o.1)
  pub picked : (run : List ℕ) (r n : ℕ) (a : Answer) (part : List ℕ) → HousePicks run r n a part → (a ≡ table.picked r a.place) ⊎ (PickRefused a × (part ≡ []))
  -- the reader that holds its run, wherever it stands: the answer, and where it stands then
  pub nexts : (h : Held) → Only (λ (o : Answer × Held). Next h o.0 o.1)

-- ---- demand 2

-- the message of the file s is walked by the list l: the one that its namespace chooses
pub record WalkedBy (s : List ℕ) (l : Listing) : Type 0 where
  pub whole : Whole s
  pub among : Among l asked
  pub chosen : Chosen (message_in whole) l

-- what stands behind each answer of check
pub record Told (s d : List ℕ) (a : Answer) (d' : List ℕ) : Type 0 where
  -- "accepted exactly when it keeps the size limit and XML rules, meets the list, its types and rules, and its image fits"
  pub exactly : (n : ℕ) → (a ≡ accepted n) ↔ ((c : Kinded) × HouseFile s c × (n ≡ length (house_image c)) × (n ≤ length d))
  -- "an accepted file gives its image"; what stood after it stays
  pub gives : (n : ℕ) → a ≡ accepted n → (c : Kinded) → HouseFile s c → d' ≡ house_image c ++ drop n d
  -- "otherwise the answer is the first violation in order": the size, UTF-8, house XML, the walk over the message
  pub long : (a ≡ too_long) ↔ (limit < length s)
  pub bytes : (n : ℕ) → (a ≡ not_utf8 n) ↔ ((length s ≤ limit) × (Utf8 s → ⊥) × LongestBeginning Utf8 s n)
  pub markup : (n : ℕ) → (a ≡ not_house_xml n) ↔ ((length s ≤ limit) × Utf8 s × (HouseXml s → ⊥) × LongestBeginning Viable s n)
  pub walked : (b : Answer) → CodeFrom 4 13 b → (a ≡ b) ↔ ((l : Listing) × (w : WalkedBy s l) × First house_types l (message_in w.whole) (Err b))
  -- "14 last"
  pub room : (n : ℕ) → (a ≡ no_room n) ↔ ((c : Kinded) × HouseFile s c × (n ≡ length (house_image c)) × (length d < n))
  -- where it says 12, or 9: an element of that row and place, whose characters spell no value, whose attributes are not the type's
  pub value : a.code ≡ 12 → (l : Listing) × (w : WalkedBy s l) × BadValue l 1 (inner (message_in w.whole)) a.row a.place
  pub attributes : a.code ≡ 9 → (l : Listing) × (w : WalkedBy s l) × BadAttributes l 1 (inner (message_in w.whole)) a.row a.place

-- c meets its list, Is saying which values are
abbrev pub Meeting : (Leaf → Value → Type 0) → Kinded → Type 0
Meeting Is c = Meets Is c.0 c.1

-- by "former and present rules together" (document 02, sections 3 and 9): the former list of its kind, which images keep to, or the present one, which files
-- are asked; and the former date-time rule or the present one
abbrev pub Together : Kinded → Type 0
Together c = Meeting SpelledByEither c ⊎ Meeting SpelledByEither (asked_of c.0.byte, c.1)

-- x is an image of the content c, of version 1 or 2: how an image of its list begins, its items and a 0; and c meets the rules, which are a parameter
pub record Stored (Rules : Kinded → Type 0) (x : List ℕ) (c : Kinded) : Type 0 where
  pub among : Among c.0 stored
  pub meets : Rules c
  pub head : List ℕ
  pub front : Front c.0 head
  pub is : x ≡ head ++ body values c.0 c.1

-- the run begins with such an image, n bytes long
pub record BeginsStored (Rules : Kinded → Type 0) (run : List ℕ) (n : ℕ) : Type 0 where
  pub image : List ℕ
  pub content : Kinded
  pub held : Stored Rules image content
  pub rest : List ℕ
  pub at : run ≡ image ++ rest
  pub long : n ≡ length image

-- s is a message of the content c: UTF-8, house XML, without a violation. Its size is not asked, so that a file with it may be too long (D26)
pub record Message (s : List ℕ) (c : Kinded) : Type 0 where
  pub utf8 : Utf8 s
  pub xml : HouseXml s
  pub good : First house_types c.0 (message_of xml.tree) (Ok tt)
  pub has : Has house_types c.0 (message_of xml.tree) c.1

pub record Demand2 : Type 0 where
  pub told : (s d : List ℕ) (a : Answer) (d' : List ℕ) → Checks s d a d' → Told s d a d'
  -- whoever judges whether a text spells a value, as long as it is the relation's answer, finds the same first; and someone can
  pub judges : (j : Judge) → Decides house_types j → (l : Listing) (m : Inside) (f : Found) → First house_types l m f ↔ (first_violation j l m ≡ f)
  pub judge : (j : Judge) × Decides house_types j
  -- "within the size limit the image reader accepts exactly the runs that begin with the image of a content that meets the same rules": with its length
  pub reads : (run : List ℕ) (a : Answer) → HouseReads run a → (n : ℕ) → (a ≡ accepted n) ↔ ((length run ≤ limit) × BeginsStored (Meeting IsValue) run n)
  -- "the same", which "reads over the former and the new date-time rule together" (document 02, section 3): each of the ten kinds has exactly the values that
  -- some text spells by the one or the other, and so a content meets a list with the one as with the other
  pub values : (k : Leaf) (v : Value) → IsValue k v ↔ SpelledByEither k v
  pub same : (l : Listing) (c : Content Value) → Meets IsValue l c ↔ Meets SpelledByEither l c
  -- and "over former and present rules together" (section 9)
  pub together : (m : Listing) → Among m stored → (c : Content Value) → Meets IsValue m c ↔ Together (m, c)
  -- so the reader accepts exactly the images of contents that meet them
  pub spelt : (run : List ℕ) (a : Answer) → HouseReads run a → (n : ℕ) → (a ≡ accepted n) ↔ ((length run ≤ limit) × BeginsStored Together run n)
  -- of these, the contents without a row that no file has any more meet the present list of their kind
  pub narrower : (m : Listing) → Among m stored → (c : Content Value) → Meets IsValue m c → NoneOf (Withdrawn (asked_of m.byte)) (items c) → Meets IsValue (asked_of m.byte) c
  -- and those whose date-times the present rule spells are what some message has
  pub messages : (l : Listing) → Among l asked → (c : Content Value) → (Meets (Spelled present) l c × NoneOf (Withdrawn l) (items c)) ↔ ((s : List ℕ) × Message s (l, c))

-- ---- demand 3: "reads over version 2 files of either kind, the kind being part of the content"

-- x stands for the content c: as what check wrote for an accepted file of that content, within the buffer
pub record CheckWrote (x : List ℕ) (c : Kinded) : Type 0 where
  pub file : List ℕ
  pub lent : List ℕ
  pub answer : Answer
  pub left : List ℕ
  pub checks : Checks file lent answer left
  pub good : answer.code ≡ 0
  pub content : HouseFile file c
  pub is : x ≡ take answer.place left

-- as the image, of version 2, of a content that meets the rules
pub record Imaged (x : List ℕ) (c : Kinded) : Type 0 where
  pub among : Among c.0 stored
  pub meets : Meets IsValue c.0 c.1
  pub is : x ≡ house_image c

module _ (For : List ℕ → Kinded → Type 0) where
  -- the run is these images laid end to end, each with its content
  abbrev pub Laid : List ℕ → List (List ℕ × Kinded) → Type 0
  Laid run [] = run ≡ []
  Laid run (p ∷ ps) = For p.0 p.1 × ((rest : List ℕ) × (run ≡ p.0 ++ rest) × Laid rest ps)

  pub record Divides : Type 0 where
    -- an image has one content, and one kind
    pub one : (x : List ℕ) (c e : Kinded) → For x c → For x e → c ≡ e
    -- "neither image is a shorter beginning of the other"
    pub apart : (x y : List ℕ) (c e : Kinded) → For x c → For y e → (u : List ℕ) → x ++ u ≡ y → u ≡ []
    -- "so a run of images divides in one way only"
    pub divides : (run : List ℕ) (ps qs : List (List ℕ × Kinded)) → Laid run ps → Laid run qs → ps ≡ qs

  pub record Tells : Type 0 where
    -- "for any two accepted files the images are equal exactly when the contents are equal"
    pub equal : (x y : List ℕ) (c e : Kinded) → For x c → For y e → (x ≡ y) ↔ (c ≡ e)
    pub divided : Divides

pub record Demand3 : Type 0 where
  -- for files and for contents
  pub files : Tells CheckWrote
  pub contents : Tells Imaged
  -- equal contents of two kinds have two images
  pub kinds : (x y : List ℕ) (l m : Listing) (c : Content Value) → Imaged x (l, c) → Imaged y (m, c) → x ≡ y → l ≡ m
  -- and a run of images of versions 1 and 2, mixed, divides as well
  pub versions : Divides (Stored (Meeting IsValue))
