-- What the calls of `measured` told, one after the other, is what is promised of it. Assumes nothing.
use Rattle.std.specs.Prelude.{Result, Ok, Err}
use mathlib.Core.Path.{◌≡◌, refl, sym, ◌∙◌, ap, ap₂, subst}
use mathlib.Core.Logic.{◌≢◌, ◌⊎◌, inl, inr}
use mathlib.Core.Bool.{Bool, true, false, cond, not, false≢true}
use mathlib.Core.List.{List, ◌++◌}
use Prim.Native.Nat.{ℕ, ◌≤◌, ◌<◌}
use native.Mathlib.Omega.{arith}
use lib.ListN.{length, drop}
use borrow.Author.Tests.{eq-eqb, ne_eqb}
use Rattle.answer.specs.declared.Answer.{Answer}
use Rattle.answer.specs.Table.{accepted, limit, too_long, not_utf8, not_house_xml, wrong_root}
use Rattle.text_characters.specs.Utf8.{Utf8}
use Rattle.text_characters.proofs.Longest.{whole_utf8}
use Rattle.list.specs.Listing.{Listing}
use Rattle.list.specs.tables.Table.{list_of}
use Rattle.list.specs.tables.Sound.{Sound}
use Rattle.list.specs.WellFormed.{WellFormed}
use Rattle.list.specs.Within.{Among}
use Rattle.list.specs.Content.{Content, Meets}
use Rattle.list_house.specs.House.{house, report}
use Rattle.list_house.specs.Lists.{asked}
use Rattle.list_house.specs.mirror.HouseTable.{house_rows, report_rows, house_pool}
use Rattle.list_house.specs.mirror.Rows.{asked_rows}
use Rattle.list_house.proofs.HouseSound.{house_is, house_sound}
use Rattle.list_house.proofs.Lists.{each_asked, house_byte, report_byte, house_asked, report_asked, asked_is, asked_sound, asked_well}
use Rattle.xml.specs.House.{HouseXml, Viable}
use Rattle.xml.specs.Message.{Inside, nothing_inside, character, element, root_at}
use Rattle.file_walk.specs.Types.{Types, Spelling}
use Rattle.file_walk.specs.First.{Found, First, first_violation}
use Rattle.file_walk.specs.Denotes.{OneElement, Has}
use Rattle.file_walk.specs.mirror.Begin.{Rooted, begin_in, unrooted}
use Rattle.file_walk.specs.mirror.Machine.{speller_of}
use Rattle.file_walk.proofs.violation.Accept as walk
use Rattle.file_walk.proofs.bytes.Root.{one_element, rooted, keeps}
use Rattle.file.specs.Instance.{Kinds, house_types, house_kinds}
use Rattle.file.specs.File.{Whole, message_in, File, image_of}
use Rattle.file.specs.Checks.{Answers, Chosen, Finds, markup, violation, imaged}
use Rattle.file.proofs.answers.House.{spelling, image_no_longer, one_content, finds_one}
use Rattle.file.proofs.answers.One.{message_one, fine_found}
use Rattle.file.proofs.answers.Codes.{violation_code}
use Rattle.file.proofs.Chosen as chosen
use Rattle.file.proofs.Chosen.{rooted_chosen, filed_chosen, list_for, list_among, list_chosen}
use Rattle.file.proofs.answers.Early.{says_long, says_bytes}
use Rattle.value.specs.decided.Spell.{spell}
use Rattle.file_measure.specs.declared.Good.{Good}
use Rattle.file_measure.specs.Measured.{Says, Measured}
use Rattle.file_measure.specs.Measures.{Measures, answer_of}
use Rattle.file_measure.specs.Pass.{Ready}
use Rattle.file_measure.specs.mirror.Choice.{kind_by, told_of, Chooses}
use Rattle.text.specs.Lists.{LongestBeginning}

-- ---- what is told

-- a good file is accepted by every buffer that is as long as it
pub measures_finds : (s : List ℕ) (r : Result Good Answer) → Measures s r → Finds s (answer_of r)
measures_finds s (Err a) f = f.0
measures_finds s (Ok g) f = record {
  roomy = λ d i. (
    image_of house_kinds f.list f.content ++ drop (length (image_of house_kinds f.list f.content)) d,
    record {
      list = f.list;
      among = f.filed.among;
      chosen = filed_chosen s f.list f.content f.filed;
      answers = imaged f.content f.filed.file (omega (arith, i, image_no_longer s f.list f.content f.filed)) (ap accepted f.size) refl;
    },
  );
}

-- only one fits
pub measures_one : (s : List ℕ) (q r : Result Good Answer) → Measures s q → Measures s r → q ≡ r
measures_one s (Err a) (Err b) f g = ap Err (finds_one s a b f.0 g.0)
measures_one s (Err a) (Ok h) f g = absurd (f.1 (ap (λ (x : Answer). x.code) (finds_one s a (accepted h.size) f.0 (measures_finds s (Ok h) g))))
measures_one s (Ok h) (Err a) f g = absurd (g.1 (ap (λ (x : Answer). x.code) (finds_one s a (accepted h.size) g.0 (measures_finds s (Ok h) f))))
measures_one s (Ok h) (Ok i) f g = ap₂ (λ (k n : ℕ). Ok (record { kind = k; size = n })) kinds sizes
  where
    sizes : h.size ≡ i.size
    sizes = ap (λ (x : Answer). x.place) (finds_one s (accepted h.size) (accepted i.size) (measures_finds s (Ok h) f) (measures_finds s (Ok i) g))

    kinds : h.kind ≡ i.kind
    kinds = f.kind ∙ ap (λ (z : Listing). z.byte) (one_content s f.list g.list f.content g.content f.filed g.filed).0 ∙ sym g.kind

-- ---- codes 1, 2 and 3

-- a file that is not whole has no message, so that any list does
unread : (s : List ℕ) (a : Answer) → (Whole s → ⊥) → ((d : List ℕ) → Answers house_kinds house s d a d) → Finds s a
unread s a none f = record { roomy = λ d h. (d, record { list = house; among = house_asked; chosen = λ w. absurd (none w); answers = f d }) }

module _ (s : List ℕ) (a : Answer) where
  pub tells_long : limit < length s → a ≡ too_long → Measures s (Err a)
  tells_long h i = (unread s a (λ w. omega (arith, w.size)) (λ d. says_long house_kinds house s d a h i), λ z. omega (arith, z, ap (λ (x : Answer). x.code) i))

  pub tells_bytes : length s ≤ limit → (k : ℕ) → LongestBeginning Utf8 s k → k < length s → a ≡ not_utf8 k → Measures s (Err a)
  tells_bytes h k p j i =
      (unread s a (λ w. omega (arith, whole_utf8 s k p w.utf8)) (λ d. says_bytes house_kinds house s d a h k p j i), λ z. omega (arith, z, ap (λ (x : Answer). x.code) i))

  pub tells_markup : length s ≤ limit → Utf8 s → (k : ℕ) → (HouseXml s → ⊥) × LongestBeginning Viable s k → a ≡ not_house_xml k → Measures s (Err a)
  tells_markup h u k o i =
      (unread s a (λ w. o.0 w.xml) (λ d. markup h u o.0 k o.1 i refl), λ z. omega (arith, z, ap (λ (x : Answer). x.code) i))

pub is_whole : (s : List ℕ) → length s ≤ limit → Utf8 s → HouseXml s → Whole s
is_whole s h u x = record { size = h; utf8 = u; xml = x }

-- ---- a message's root, and the lists

module _ (l : Listing) (a : Among l asked) where
  root_chosen : (m : Inside) → rooted l m ≡ true → Chosen m l
  root_chosen nothing_inside e = absurd (false≢true e)
  root_chosen (character o x k) e = absurd (false≢true e)
  root_chosen (element o n ats i k) e = rooted_chosen l a o n ats i k e

-- where the root keeps to neither of two lists, both find 4 at the same place
module _ (t : Types) (l k : Listing) where
  root_alike : (m : Inside) → OneElement m → rooted l m ≡ false → rooted k m ≡ false → (f : Found) → First t l m f → First t k m f
  root_alike nothing_inside one e g f x = absurd one
  root_alike (character o c i) one e g f x = absurd one
  root_alike (element o n ats i z) one e g f x = record {
    judge = x.judge;
    decides = x.decides;
    is = chosen.unrooted k t o n ats i z (first_violation x.judge k (element o n ats i z)) g (record { judge = x.judge; decides = x.decides; is = refl })
        ∙ sym (chosen.unrooted l t o n ats i z f e x);
  }

  root_found : (m : Inside) → OneElement m → rooted l m ≡ false → First t l m (Ok tt) → ⊥
  root_found nothing_inside one e x = absurd one
  root_found (character o c i) one e x = absurd one
  root_found (element o n ats i z) one e x = fine_found (Ok tt) (wrong_root o) refl (chosen.unrooted l t o n ats i z (Ok tt) e x)

-- ---- the message

module _ (k : Kinds) (y : Spelling k.types) (l : Listing) (wf : WellFormed l) (s : List ℕ) (w : Whole s) where
  -- a message without violation is a good file's, with its content
  file_of : (c : Content k.types.A) → First k.types l (message_in w) (Ok tt) → Has k.types l (message_in w) c → File k l s c
  file_of c z h =
      let g = walk.accept k.types y l wf (message_in w) (one_element w.xml.tree.root (root_at w.xml.tree) w.xml.good.one) z in
      let e = walk.unique k.types y l wf (message_in w) g.0 c g.2 h in
      record { whole = w; has = h; meets = subst (Meets k.types.Is l) e g.1 }

module _ (s : List ℕ) (w : Whole s) where
  abbrev m : Inside
  m = message_in w

  single : OneElement m
  single = one_element w.xml.tree.root (root_at w.xml.tree) w.xml.good.one

  -- a violation, by the list that is chosen
  found_first : (l : Listing) → Among l asked → Chosen m l → (a : Answer) → First house_types l m (Err a) → Finds s a
  found_first l i c a z = record {
    roomy = λ d h. (d, record { list = l; among = i; chosen = λ x. subst (λ (p : Inside). Chosen p l) (message_one s w x) c; answers = violation w z refl });
  }

  tells_violation : (l : Listing) → Among l asked → Chosen m l → (a : Answer) → First house_types l m (Err a) → Measures s (Err a)
  tells_violation l i c a z = (found_first l i c a z, λ f. omega (arith, f, (violation_code house_types l m a z).0))

  -- by a list that its root keeps to
  tells_kept : (l : Listing) → Among l asked → rooted l m ≡ true → (n : ℕ) → n ≡ l.byte → (r : Result ℕ Answer) → Says house_kinds l m r → Measures s (told_of n r)
  tells_kept l i b n k (Err a) z = tells_violation l i (root_chosen l i m b) a z
  tells_kept l i b n k (Ok o) (z, (c, h, f)) = record {
    list = l;
    content = c;
    filed = record { among = i; file = file_of house_kinds spelling l (asked_well l i) s w c z h };
    size = f;
    kind = k;
  }

  -- by any list, where it keeps to none
  tells_none : ((l : Listing) → Among l asked → rooted l m ≡ false) → (l : Listing) → Among l asked → (n : ℕ) (r : Result ℕ Answer) → Says house_kinds l m r → Measures s (told_of n r)
  tells_none none l i n (Err a) z =
      tells_violation (list_for m) (list_among m) (list_chosen m) a (root_alike house_types l (list_for m) m single (none l i) (none (list_for m) (list_among m)) (Err a) z)
  tells_none none l i n (Ok o) (z, (c, h, f)) = absurd (root_found house_types l l m single (none l i) z)

-- ---- over the tables of a kind

-- the rows of another kind than a report's are a statement's
pub as_statement : (kind : ℕ) (t pool s : List ℕ) → kind ≢ 2 → t ≡ asked_rows kind → (x : Rooted) → x ≡ begin_in house_rows pool s → x ≡ begin_in t pool s
as_statement kind t pool s n e x f = f ∙ ap (λ (r : List ℕ). begin_in r pool s) (sym (e ∙ ap (λ (b : Bool). cond b report_rows house_rows) (ne_eqb kind 2 n)))

module _ (kind : ℕ) (t pool : List ℕ) (et : t ≡ asked_rows kind) (ep : pool ≡ house_pool) where
  tables_sound : Sound t pool
  tables_sound = subst (λ (x : List ℕ). Sound x pool) (sym et) (subst (Sound (asked_rows kind)) (sym ep) (asked_sound kind))

  -- the list that they are
  pub list_is : (l : Listing) → Among l asked → kind ≡ l.byte → list_of t pool ≡ l
  list_is l i e = ap₂ list_of et ep ∙ ap (λ (b : ℕ). list_of (asked_rows b) house_pool) e ∙ asked_is l i

  pub ready : (s : List ℕ) → Whole s → Ready t pool s
  ready s w = record { sound = tables_sound; xml = w.xml; small = w.size }

-- a report's rows are bound over a statement's
abbrev pub Bound : List ℕ → ℕ → Type 0
Bound t kind = ((kind ≡ 2) × (t ≡ report_rows)) ⊎ ((kind ≢ 2) × (t ≡ house_rows))

pub bound_rows : (t : List ℕ) (kind : ℕ) → Bound t kind → t ≡ asked_rows kind
bound_rows t kind (inl (y, e)) = e ∙ sym (ap (λ (b : Bool). cond b report_rows house_rows) (eq-eqb _ _ y))
bound_rows t kind (inr (n, e)) = e ∙ sym (ap (λ (b : Bool). cond b report_rows house_rows) (ne_eqb _ _ n))

-- in the order of a part's length, as a slice of an array asks it
pub bound_long : (t : List ℕ) (kind : ℕ) → Bound t kind → 928 ≡ length t
unfolding house_rows report_rows
bound_long t kind (inl (y, e)) = sym (ap (λ (x : List ℕ). length x) e)
bound_long t kind (inr (n, e)) = sym (ap (λ (x : List ℕ). length x) e)

pub chooses : (t t₀ pool s : List ℕ) (kind : ℕ) (tried : Rooted) → Whole s → t ≡ asked_rows kind → pool ≡ house_pool → t₀ ≡ house_rows → tried ≡ begin_in t₀ pool s → kind ≡ kind_by tried
    → Chooses t pool s kind tried
chooses t t₀ pool s kind tried w et ep e f k = record { whole = w; rows = et; names = ep; first = f ∙ ap (λ (x : List ℕ). begin_in x pool s) e; kind = k }

module _ (t pool s : List ℕ) (kind : ℕ) (tried : Rooted) (p : Chooses t pool s kind tried) where
  abbrev told : Inside
  told = message_in p.whole

  pub tables_ready : Ready t pool s
  tables_ready = ready kind t pool p.rows p.names s p.whole

  -- what the walk over them says of a file's message
  pub tells_message : (r : Result ℕ Answer) → Measured house_kinds (list_of t pool) s r → Measures s (told_of kind r)
  tells_message r q = go (rooted house told) (rooted report told) refl refl
    where
      begins : unrooted (begin_in house_rows house_pool s) ≡ not (rooted house told)
      begins =
          subst (λ (z : List ℕ). unrooted (begin_in house_rows house_pool z) ≡ not (rooted house told)) (sym p.whole.xml.is)
          (keeps (speller_of house_types spell) house_rows house_pool house_sound p.whole.xml.tree p.whole.xml.good ∙ ap (λ (l : Listing). not (rooted l told)) house_is)

      kind_is : (b : Bool) → rooted house told ≡ b → kind ≡ cond (not b) 2 1
      kind_is b h =
          p.kind ∙ ap kind_by (p.first ∙ ap (λ (x : List ℕ). begin_in house_rows x s) p.names)
          ∙ ap (λ (x : Bool). cond x 2 1) begins ∙ ap (λ (x : Bool). cond (not x) 2 1) h

      says : (l : Listing) → Among l asked → kind ≡ l.byte → Says house_kinds l told r
      says l i h = subst (λ (x : Listing). Says house_kinds x told r) (list_is kind t pool p.rows p.names l i h) (q p.whole.xml)

      go : (b c : Bool) → rooted house told ≡ b → rooted report told ≡ c → Measures s (told_of kind r)
      go true c h g = let z : kind ≡ house.byte = kind_is true h ∙ sym house_byte in tells_kept s p.whole house house_asked h kind z r (says house house_asked z)
      go false true h g = let z : kind ≡ report.byte = kind_is false h ∙ sym report_byte in tells_kept s p.whole report report_asked g kind z r (says report report_asked z)
      go false false h g =
          let z : kind ≡ report.byte = kind_is false h ∙ sym report_byte in
          tells_none s p.whole (each_asked (λ l. rooted l told ≡ false) h g) report report_asked kind r (says report report_asked z)
